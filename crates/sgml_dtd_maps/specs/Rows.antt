-- Why a declaration is refused: the first row that holds.
use Rattle.std.specs.Prelude.{Bool, false, ◌||◌, List, [], ◌∷◌, length, Option, is_some, is_none, if◌then◌else◌, nat_lt}
use Rattle.std.specs.List.{list_any}
use Rattle.sgml_text.specs.declared.reason.Reason.{Reason}
use Rattle.sgml_text.specs.Refusals.{first_row}
use Rattle.sgml_text.specs.declared.reason.Reason.TheVariants.{NameLength, LiteralLimit, MapTwice, NotShortref}
use Rattle.sgml_syntax.specs.declared.syntax.Syntax.{Syntax}
use Rattle.sgml_names.specs.Naming.{is_long, general_name}
use Rattle.sgml_shortref.specs.Maps.{number_in}
use Rattle.sgml_decl_forms.specs.declared.map.ShortrefDeclaration.{ShortrefDeclaration}
use Rattle.sgml_decl_forms.specs.declared.map.UsedMap.{UsedMap}
use Rattle.sgml_decl_forms.specs.declared.map.UsedMap.TheVariants as used
use Rattle.sgml_decl_forms.specs.declared.map.UsemapDeclaration.{UsemapDeclaration}
use Rattle.sgml_dtd_maps.specs.Written.{pairs_in}
use Rattle.sgml_dtd_maps.specs.Tables.{MapTable, targets_in}

-- the name of the map or of an entity passes NAMELEN (13.4.8)
abbrev pub map_passes_namelen : Syntax → ShortrefDeclaration → Bool
map_passes_namelen syntax d = is_long syntax d.name || list_any (λ p. is_long syntax p.1) d.pairs

-- a literal passes LITLEN (10.1.2, 13.4.8)
abbrev pub passes_litlen : Syntax → ShortrefDeclaration → Bool
passes_litlen syntax d = list_any (λ p. nat_lt syntax.quantities.litlen (length p.0)) d.pairs

-- a map of this name is declared (11.5)
abbrev pub is_declared : Syntax → MapTable → ShortrefDeclaration → Bool
is_declared syntax t d = is_some (number_in t.maps (general_name syntax d.name))

-- a literal is no short reference string, or one that stood before (11.5)
abbrev pub has_no_string : Syntax → ShortrefDeclaration → Bool
has_no_string syntax d = is_none (pairs_in syntax [] d.pairs)

abbrev pub map_rows : Syntax → MapTable → ShortrefDeclaration → List (Bool × Reason)
map_rows syntax t d =
    (map_passes_namelen syntax d, NameLength)
    ∷ (passes_litlen syntax d, LiteralLimit)
    ∷ (is_declared syntax t d, MapTwice)
    ∷ (has_no_string syntax d, NotShortref) ∷ []

-- why a map isn't declared, if it isn't
abbrev pub map_reason : Syntax → MapTable → ShortrefDeclaration → Option Reason
map_reason syntax t d = first_row (map_rows syntax t d)

abbrev pub is_long_used : Syntax → UsedMap → Bool
is_long_used syntax used.Empty = false
is_long_used syntax (used.Named name) = is_long syntax name

-- the name of the map or of an element type passes NAMELEN (13.4.8)
abbrev pub use_passes_namelen : Syntax → UsemapDeclaration → Bool
use_passes_namelen syntax d = is_long_used syntax d.map || list_any (is_long syntax) (targets_in d.targets)

-- why a use isn't declared, if it isn't
abbrev pub use_reason : Syntax → UsemapDeclaration → Option Reason
use_reason syntax d = first_row ((use_passes_namelen syntax d, NameLength) ∷ [])
