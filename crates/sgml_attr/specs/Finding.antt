-- The numbers of definitions, by the names that specifications give.
use Rattle.std.specs.Prelude.{◌≡◌, ◌==◌, ◌&&◌, ◌+◌, ℕ, Bool, not, List, [], ◌∷◌, ◌++◌, map, Option, Some, None, position, is_some, if◌then◌else◌}
use Rattle.std.specs.List.{list_any}
use Rattle.std.specs.Str.{bytes_eq}
use Rattle.sgml_names.specs.Index.{found}
use Rattle.sgml_text.specs.declared.unit.Unit.{Unit as AnyUnit}
use Rattle.sgml_attr.specs.declared.definition.Declared.{Declared}
use Rattle.sgml_attr.specs.declared.definition.Declared.TheVariants as declared
use Rattle.sgml_attr.specs.declared.definition.Definition.{Definition}
use Rattle.sgml_attr.specs.declared.index.AttributeIndex.{AttributeIndex}
use Rattle.sgml_names.specs.Naming.{cased_character}
use Rattle.sgml_attr.specs.Tokens.{token_of}
use Rattle.sgml_names.specs.Lists.{with_number}
use Rattle.sgml_attr.specs.Matching.{has_member, only_position}

-- the names or name tokens of a declared group (11.3.3)
abbrev pub group_of : Declared → List (List ℕ)
group_of (declared.Notation names) = names
group_of (declared.Group names) = names
group_of _ = []

-- each definition's name with its number, from this number on
abbrev pub names_from : ℕ → List Definition → List (List ℕ × ℕ)
names_from n [] = []
names_from n (d ∷ ds) = (d.name, n) ∷ names_from (n + 1) ds

-- the names in the definitions' groups, each with the definition's number
abbrev pub members_from : ℕ → List Definition → List (List ℕ × ℕ)
members_from n [] = []
members_from n (d ∷ ds) = with_number n (group_of d.declared) ++ members_from (n + 1) ds

-- the name stands with another number, too
abbrev pub with_another : ℕ → List (List ℕ × ℕ) → List ℕ → Bool
with_another n entries name = list_any (λ e. bytes_eq name e.0 && not (e.1 == n)) entries

abbrev pub unless_another : Option ℕ → List (List ℕ × ℕ) → List ℕ → Option ℕ
unless_another None entries name = None
unless_another (Some n) entries name = if with_another n entries name then None else Some n

-- the number with which the name stands, unless it stands with several
abbrev pub only_number : List (List ℕ × ℕ) → List ℕ → Option ℕ
only_number [] name = None
only_number (e ∷ entries) name =
    if bytes_eq name e.0 then unless_another (Some e.1) entries name else only_number entries name

-- the same after the first of the entries were taken in: their names with their first numbers, and those that stood
-- with several
abbrev pub first_or_only : Option ℕ → List (List ℕ × ℕ) → List ℕ → Option ℕ
first_or_only None rest name = only_number rest name
first_or_only (Some n) rest name = unless_another (Some n) rest name

abbrev pub only_after : List (List ℕ × ℕ) → List (List ℕ × ℕ) → List (List ℕ × ℕ) → List ℕ → Option ℕ
only_after members shared rest name =
    if is_some (found shared name) then None else first_or_only (found members name) rest name

-- a name more with its number, unless it had one
abbrev pub HasFirst : List (List ℕ × ℕ) → List (List ℕ × ℕ) → List ℕ → ℕ → Type 0
HasFirst old new name n = (rest : List (List ℕ × ℕ)) (other : List ℕ) → found (new ++ rest) other ≡ found (old ++ ((name, n) ∷ rest)) other

-- entries more, of names in groups
abbrev pub HasEntries : List (List ℕ × ℕ) → List (List ℕ × ℕ) → List (List ℕ × ℕ) → List (List ℕ × ℕ) → List (List ℕ × ℕ) → Type 0
HasEntries members shared new_members new_shared entries =
    (rest : List (List ℕ × ℕ)) (other : List ℕ) → only_after new_members new_shared rest other ≡ only_after members shared (entries ++ rest) other

-- one such entry more
abbrev pub HasEntry : List (List ℕ × ℕ) → List (List ℕ × ℕ) → List (List ℕ × ℕ) → List (List ℕ × ℕ) → List ℕ × ℕ → Type 0
HasEntry members shared new_members new_shared entry =
    (rest : List (List ℕ × ℕ)) (other : List ℕ) → only_after new_members new_shared rest other ≡ only_after members shared (entry ∷ rest) other

-- the names of a definition's group more, with its number
abbrev pub HasGroup : AttributeIndex → AttributeIndex → Declared → ℕ → Type 0
HasGroup old new declared n = HasEntries old.members old.shared new.members new.shared (with_number n (group_of declared))

-- the index finds the first definition of each name, and the one in whose group a name is
pub record IsIndexOf (index : AttributeIndex) (ds : List Definition) : Type 0 where
  pub named : (name : List ℕ) → found index.names name ≡ position (λ d. bytes_eq name d.name) ds
  pub only : (name : List ℕ) → only_after index.members index.shared [] name ≡ only_position (λ d. has_member name d.declared) ds

-- the attribute that a specification names, as it is found
abbrev pub attribute_in : AttributeIndex → Bool → Option (List ℕ) → List AnyUnit → Option ℕ
attribute_in index folding (Some name) units = found index.names (map (cased_character folding) name)
attribute_in index folding None units = only_after index.members index.shared [] (token_of folding units)
