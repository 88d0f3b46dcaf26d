-- Why a value is refused: the first row that holds.
use Rattle.std.specs.Prelude.{ℕ, Bool, true, false, not, ◌&&◌, List, [], ◌∷◌, ◌-◌, length, nat_lt, Option, Some, None, is_some, slice_get}
use Rattle.std.specs.List.{list_all, list_any}
use Rattle.std.specs.Option.{option_map_or}
use Rattle.std.specs.Str.{bytes_eq}
use Rattle.std.specs.Cmp.Lexicographic.{pointwise}
use Rattle.sgml_syntax.specs.declared.syntax.Syntax.{Syntax}
use Rattle.sgml_names.specs.Lists.{has}
use Rattle.sgml_entity.specs.declared.kinds.Body.{Body}
use Rattle.sgml_entity.specs.declared.kinds.Body.TheVariants as bodies
use Rattle.sgml_entity.specs.declared.kinds.Entity.{Entity}
use Rattle.sgml_entity.specs.declared.kinds.Notation.{Notation}
use Rattle.sgml_entity.specs.declared.kinds.Space.TheVariants.{General}
use Rattle.sgml_entity.specs.Entities.{Tables, number_of, notation_of, first_entity}
use Rattle.sgml_text.specs.declared.unit.Unit.{Unit as AnyUnit}
use Rattle.sgml_text.specs.SameUnits.{same_units}
use Rattle.sgml_attr.specs.declared.definition.Declared.{Declared}
use Rattle.sgml_attr.specs.declared.definition.Declared.TheVariants as declared
use Rattle.sgml_attr.specs.declared.error.AttrError.{AttrError}
use Rattle.sgml_attr.specs.declared.error.AttrError.TheVariants.{NameLength, NotationUnknown, NotAToken, NotInGroup, FixedDiffers, EntityUnknown}
use Rattle.sgml_attr.specs.Tokens.{is_name_token, is_token, kind_of, is_list, is_entity, is_count, folds, tokens}
use Rattle.sgml_text.specs.Refusals.{first_row}

-- a token passes NAMELEN (13.4.8)
abbrev pub passes_namelen : Syntax → List (List ℕ) → Bool
passes_namelen syntax ts =
    list_any (λ t. is_name_token syntax.names t && nat_lt syntax.quantities.namelen (length t)) ts

-- as many tokens as are declared, each of the declared kind
abbrev pub are_tokens : Syntax → Declared → List (List ℕ) → Bool
are_tokens syntax declared ts =
    is_count (is_list declared) (length ts) && list_all (is_token syntax.names (kind_of declared)) ts

abbrev pub is_notation : Declared → Bool
is_notation (declared.Notation names) = true
is_notation _ = false

abbrev pub is_declared_notation : List Notation → List ℕ → Bool
is_declared_notation notations t = is_some (notation_of notations t)

-- a NOTATION value is a name, but of no declared notation (11.4)
abbrev pub names_no_notation : Syntax → Declared → List Notation → List (List ℕ) → Bool
names_no_notation syntax declared notations ts =
    is_notation declared && (are_tokens syntax declared ts && not (list_all (is_declared_notation notations) ts))

-- the token is in the group, where there is one
abbrev pub is_in_group : Declared → List ℕ → Bool
is_in_group (declared.Notation names) t = has names t
is_in_group (declared.Group names) t = has names t
is_in_group _ t = true

-- CDATA, SDATA, or external data (10.5)
abbrev pub is_data : Body → Bool
is_data (bodies.Cdata text) = true
is_data (bodies.Sdata text) = true
is_data (bodies.ExternalData kind external notation) = true
is_data _ = false

abbrev pub is_data_at : List Entity → Option ℕ → Bool
is_data_at es None = false
is_data_at es (Some n) = option_map_or (λ e. is_data e.body) (slice_get es (n - first_entity)) false

-- a general entity of this name is declared, and is data
abbrev pub is_data_entity : List Entity → List ℕ → Bool
is_data_entity es name = is_data_at es (number_of es General name)

abbrev pub names_no_data : Declared → List Entity → List (List ℕ) → Bool
names_no_data declared es ts = is_entity declared && not (list_all (is_data_entity es) ts)

abbrev pub same_names : List (List ℕ) → List (List ℕ) → Bool
same_names = pointwise bytes_eq

-- the tokens aren't those of the fixed value, where there is one (11.3.4)
abbrev pub are_other : Bool → Option (List AnyUnit) → List (List ℕ) → Bool
are_other folding None ts = false
are_other folding (Some fixed) ts = not (same_names ts (tokens folding fixed))

abbrev pub is_other : Option (List AnyUnit) → List AnyUnit → Bool
is_other None units = false
is_other (Some fixed) units = not (same_units units fixed)

-- the reasons against tokens by themselves
abbrev pub token_rows : Syntax → Declared → List (List ℕ) → List (Bool × AttrError)
token_rows syntax declared ts =
    (passes_namelen syntax ts, NameLength)
    ∷ (not (are_tokens syntax declared ts), NotAToken)
    ∷ (not (list_all (is_in_group declared) ts), NotInGroup) ∷ []

-- the reasons against the tokens of a value, in their order
abbrev pub value_rows : Syntax → Declared → Tables → Option (List AnyUnit) → List (List ℕ) → List (Bool × AttrError)
value_rows syntax declared tables fixed ts =
    (passes_namelen syntax ts, NameLength)
    ∷ (names_no_notation syntax declared tables.notations ts, NotationUnknown)
    ∷ (not (are_tokens syntax declared ts), NotAToken)
    ∷ (not (list_all (is_in_group declared) ts), NotInGroup)
    ∷ (are_other (folds syntax declared) fixed ts, FixedDiffers)
    ∷ (names_no_data declared tables.entities ts, EntityUnknown) ∷ []

-- what is told of tokens
abbrev pub reason_against : Syntax → Declared → Tables → Option (List AnyUnit) → List (List ℕ) → Option AttrError
reason_against syntax declared tables fixed ts = first_row (value_rows syntax declared tables fixed ts)
