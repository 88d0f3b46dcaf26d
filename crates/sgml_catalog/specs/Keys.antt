-- What entries are found by.
use Rattle.std.specs.Prelude.{ℕ, ◌≡◌, Bool, true, false, not, ◌&&◌, ◌||◌, List, [], ◌∷◌, Option, Some, None, map}
use Rattle.std.specs.List.{list_any, position_from}
use Rattle.std.specs.Option.{option_or}
use Rattle.std.specs.Map.{lookup}
use Rattle.std.specs.Str.{bytes_eq}
use Rattle.sgml_text.specs.Characters.{upper}
use Rattle.sgml_catalog.specs.Words.{single}
use Rattle.sgml_catalog.specs.declared.entry.Entry.{Entry}
use Rattle.sgml_catalog.specs.declared.entry.Sort.{Sort}
use Rattle.sgml_catalog.specs.declared.entry.Sort.TheVariants.{System, Public, General, Parameter, Doctype, Notation, Declaration}
use Rattle.sgml_catalog.specs.declared.index.Key.{Key}

abbrev pub same_sort : Sort → Sort → Bool
same_sort System System = true
same_sort Public Public = true
same_sort General General = true
same_sort Parameter Parameter = true
same_sort Doctype Doctype = true
same_sort Notation Notation = true
same_sort Declaration Declaration = true
same_sort _ _ = false

abbrev pub same_truth : Bool → Bool → Bool
same_truth true b = b
same_truth false true = false
same_truth false false = true

-- the sort of an entry, whether it has to stand under OVERRIDE YES, and the name by which it is looked up
abbrev pub Sought : Type 0
Sought = Sort × Bool × List ℕ

abbrev pub same_key : Sought → Sought → Bool
same_key a b = same_sort a.0 b.0 && (same_truth a.1 b.1 && bytes_eq a.2 b.2)

abbrev pub key_of : Key → Sought
key_of k = (k.sort, k.over, k.name.items)

abbrev pub keyed : List (Key × ℕ) → List (Sought × ℕ)
keyed es = map (λ e. (key_of e.0, e.1)) es

abbrev pub found : List (Sought × ℕ) → Sought → Option ℕ
found es q = lookup (same_key q) es

-- white space of a public identifier is made single
abbrev pub first_name : Sort → List ℕ → List ℕ
first_name Public name = single name
first_name _ name = name

-- the name of a document type or notation was folded where it was declared
abbrev pub is_folded : Sort → Bool
is_folded Doctype = true
is_folded Notation = true
is_folded _ = false

abbrev pub folded_names : Bool → List ℕ → List (List ℕ)
folded_names true name = map upper name ∷ []
folded_names false name = []

-- The names by which an entry is looked up. A document type's and a notation's entry is looked up also by its name in upper case.
abbrev pub names_of : Sort → List ℕ → List (List ℕ)
names_of sort name = first_name sort name ∷ folded_names (is_folded sort) name

-- where only entries under OVERRIDE YES hold, the entry stands under it
abbrev pub is_in_force : Bool → Bool → Bool
is_in_force sought over = not sought || over

-- the entry holds for what is sought
abbrev pub holds_for : Sought → Entry → Bool
holds_for q e = same_sort q.0 e.sort && (is_in_force q.1 e.over && list_any (bytes_eq q.2) (names_of e.sort e.name))

-- one name of an entry is the one that is sought
abbrev pub is_sought : Sort → Bool → List ℕ → Sought → Bool
is_sought sort over name q = same_sort q.0 sort && (is_in_force q.1 over && bytes_eq q.2 name)

abbrev pub some_if : Bool → ℕ → Option ℕ
some_if true n = Some n
some_if false n = None

-- the numbers of the first entries that hold for what is sought
abbrev pub IsIndexOf : List (Sought × ℕ) → List Entry → Type 0
IsIndexOf index es = (q : Sought) → found index q ≡ position_from (holds_for q) 0 es

-- an entry more, which is found where no earlier one is
abbrev pub Notes : List (Sought × ℕ) → List (Sought × ℕ) → (Sought → Bool) → ℕ → Type 0
Notes old new holds n = (q : Sought) → found new q ≡ option_or (found old q) (some_if (holds q) n)
