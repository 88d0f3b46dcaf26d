-- The short reference maps of a document type and their uses, in the order of their declarations (11.5, 11.6).
use Rattle.std.specs.Prelude.{ℕ, Bool, false, List, [], ◌∷◌, Option, Some, None, if◌then◌else◌, is_none, unwrap_or}
use Rattle.std.specs.List.{list_any}
use Rattle.sgml_names.specs.Lists.{has}
use Rattle.sgml_syntax.specs.declared.syntax.Syntax.{Syntax}
use Rattle.sgml_names.specs.Naming.{general_name, general_names}
use Rattle.sgml_shortref.specs.Maps.{number_in}
use Rattle.sgml_decl_forms.specs.declared.map.ShortrefDeclaration.{ShortrefDeclaration}
use Rattle.sgml_decl_forms.specs.declared.map.UsedMap.{UsedMap}
use Rattle.sgml_decl_forms.specs.declared.map.UsedMap.TheVariants as used
use Rattle.sgml_decl_forms.specs.declared.map.UsemapDeclaration.{UsemapDeclaration}
use Rattle.sgml_dtd_maps.specs.declared.uses.MapUse.{MapUse}
use Rattle.sgml_dtd_maps.specs.declared.uses.MapOf.{MapOf}
use Rattle.sgml_dtd_maps.specs.declared.uses.MapOf.TheVariants as map_of
use Rattle.sgml_dtd_maps.specs.Written.{pairs_in}

-- maps with their pairs, and uses of them
pub record MapTable : Type 0 where
  pub maps : List (List ℕ × List (ℕ × List ℕ))
  pub uses : List MapUse

-- the map that a declaration declares
abbrev pub map_in : Syntax → ShortrefDeclaration → List ℕ × List (ℕ × List ℕ)
map_in syntax d = (general_name syntax d.name, unwrap_or (pairs_in syntax [] d.pairs) [])

abbrev pub used_in : Syntax → UsedMap → UsedMap
used_in syntax used.Empty = used.Empty
used_in syntax (used.Named name) = used.Named (general_name syntax name)

abbrev pub targets_in : Option (List (List ℕ)) → List (List ℕ)
targets_in None = []
targets_in (Some names) = names

-- the use that a declaration declares, of no element type where it names none
abbrev pub use_in : Syntax → UsemapDeclaration → MapUse
use_in syntax d = record { map = used_in syntax d.map; targets = general_names syntax (targets_in d.targets) }

-- the first use that names an element type
abbrev pub first_use : List MapUse → List ℕ → Option MapUse
first_use [] name = None
first_use (u ∷ us) name = if has u.targets name then Some u else first_use us name

-- a map that isn't declared maps nothing
abbrev pub numbered_map : Option ℕ → MapOf
numbered_map None = map_of.Empty
numbered_map (Some n) = map_of.Map n

abbrev pub map_used : List (List ℕ × List (ℕ × List ℕ)) → UsedMap → MapOf
map_used maps used.Empty = map_of.Empty
map_used maps (used.Named name) = numbered_map (number_in maps name)

abbrev pub map_by : List (List ℕ × List (ℕ × List ℕ)) → Option MapUse → MapOf
map_by maps None = map_of.Parent
map_by maps (Some u) = map_used maps u.map

-- the map of an element type: that of the first use that names it (11.6)
abbrev pub map_for : MapTable → List ℕ → MapOf
map_for t name = map_by t.maps (first_use t.uses name)

abbrev pub is_undeclared : List (List ℕ × List (ℕ × List ℕ)) → UsedMap → Bool
is_undeclared maps used.Empty = false
is_undeclared maps (used.Named name) = is_none (number_in maps name)

-- a map that is used isn't declared (11.6)
abbrev pub has_unknown : MapTable → Bool
has_unknown t = list_any (λ u. is_undeclared t.maps u.map) t.uses
