-- Entities and notations, in the order of their first declarations (10.5, 11.4).
use Rattle.std.specs.Prelude.{ℕ, Bool, true, false, ◌+◌, ◌-◌, ◌&&◌, List, [], ◌∷◌, ◌++◌, Option, Some, None, if◌then◌else◌, nat_lt, slice_get}
use Rattle.std.specs.Str.{bytes_eq}
use Rattle.sgml_entity.specs.declared.kinds.Entity.{Entity}
use Rattle.sgml_entity.specs.declared.kinds.External.{External}
use Rattle.sgml_entity.specs.declared.kinds.Notation.{Notation}
use Rattle.sgml_entity.specs.declared.kinds.Space.{Space}
use Rattle.sgml_entity.specs.declared.kinds.Space.TheVariants.{General, Parameter}

-- what is declared: the declarations that hold
pub record Tables : Type 0 where
  pub entities : List Entity
  pub notations : List Notation

-- 0 is the document and 1 the external subset
abbrev pub first_entity : ℕ
first_entity = 2

abbrev pub same_space : Space → Space → Bool
same_space General General = true
same_space Parameter Parameter = true
same_space _ _ = false

abbrev pub is_entity : Space → List ℕ → Entity → Bool
is_entity space name e = same_space space e.space && bytes_eq name e.name

-- the number of the first of these entities that has this name in this space, where they are numbered from n
abbrev pub number_from : ℕ → List Entity → Space → List ℕ → Option ℕ
number_from n [] space name = None
number_from n (e ∷ es) space name = if is_entity space name e then Some n else number_from (n + 1) es space name

-- the number of the entity of this name in this space (9.4.4.1)
abbrev pub number_of : List Entity → Space → List ℕ → Option ℕ
number_of es space name = number_from first_entity es space name

-- the entity of a number
abbrev pub entity_at : List Entity → ℕ → Option Entity
entity_at es number = if nat_lt number first_entity then None else slice_get es (number - first_entity)

-- the number of the first of these notations that has this name, where they are numbered from n
abbrev pub notation_from : ℕ → List Notation → List ℕ → Option ℕ
notation_from n [] name = None
notation_from n (o ∷ os) name = if bytes_eq name o.name then Some n else notation_from (n + 1) os name

-- the number of the notation of this name (11.4)
abbrev pub notation_of : List Notation → List ℕ → Option ℕ
notation_of os name = notation_from 0 os name

-- these notations with a new one more, where it is new
abbrev pub with_notation : List Notation → Bool → List ℕ → External → List Notation
with_notation os new name external = if new then os ++ record { name = name; external = external } ∷ [] else os

-- the external identifier of the notation of this name
abbrev pub external_of : List Notation → List ℕ → Option External
external_of [] name = None
external_of (o ∷ os) name = if bytes_eq name o.name then Some o.external else external_of os name
