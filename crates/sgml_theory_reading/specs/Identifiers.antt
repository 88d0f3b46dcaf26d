-- Whether the identifiers of a document agree (7.9.4).
use Rattle.std.specs.Prelude.{◌≡◌, ◌<◌, ◌⊎◌, ℕ, zero, suc, Bool, not, IsTrue, Option, Some, None, List, [], ◌∷◌, ◌++◌, if◌then◌else◌}
use Rattle.std.specs.List.{list_any}
use Rattle.sgml_dtd.specs.text.declared.reason.Reason.{Reason}
use Rattle.sgml_dtd.specs.text.declared.reason.Reason.TheVariants.{Repeated, Dangling}
use Rattle.sgml_dtd.specs.attr.declared.definition.Declared.{Declared}
use Rattle.sgml_dtd.specs.attr.declared.definition.Declared.TheVariants as declared
use Rattle.sgml_dtd.specs.attr.declared.value.AttrValue.{AttrValue}
use Rattle.sgml_dtd.specs.attr.declared.value.AttrValue.TheVariants as value
use Rattle.sgml_theory_reading.specs.Names.{Name}
use Rattle.sgml_theory_reading.specs.Types.{is_in}
use Rattle.sgml_theory_reading.specs.Reads.{Attribute}
use Rattle.sgml_theory_reading.specs.Events.{Event, Started}

abbrev pub tokens_of : AttrValue → List Name
tokens_of (value.Tokens ts) = ts
tokens_of _ = []

abbrev pub ids_by : Declared → List Name → List Name
ids_by declared.Id ts = ts
ids_by _ ts = []

abbrev pub references_by : Declared → List Name → List Name
references_by declared.Idref ts = ts
references_by declared.Idrefs ts = ts
references_by _ ts = []

-- the ID values of a start, and what its IDREFs name
abbrev pub ids_of : List Attribute → List Name
ids_of [] = []
ids_of (a ∷ as') = ids_by a.declared (tokens_of a.value) ++ ids_of as'

abbrev pub references_of : List Attribute → List Name
references_of [] = []
references_of (a ∷ as') = references_by a.declared (tokens_of a.value) ++ references_of as'

-- the attributes of each start, in order
abbrev pub starts : List Event → List (List Attribute)
starts [] = []
starts (Started n attributes ∷ es) = attributes ∷ starts es
starts (e ∷ es) = starts es

abbrev pub all_ids : List (List Attribute) → List Name
all_ids [] = []
all_ids (s ∷ ss) = ids_of s ++ all_ids ss

-- some of these names is among the others; some isn't
abbrev pub some_in : List Name → List Name → Bool
some_in ns ms = list_any (λ n. is_in n ms) ns

abbrev pub some_not_in : List Name → List Name → Bool
some_not_in ns ms = list_any (λ n. not (is_in n ms)) ns

-- the first start in order, counted from `n`, that repeats an earlier ID, or has an IDREF that is
-- no ID of any start
abbrev pub id_fault_from : List Name → List Name → ℕ → List (List Attribute) → Option (ℕ × Reason)
id_fault_from earlier ids n [] = None
id_fault_from earlier ids n (s ∷ ss) =
    if some_in (ids_of s) earlier then Some (n, Repeated)
    else (if some_not_in (references_of s) ids then Some (n, Dangling)
    else id_fault_from (earlier ++ ids_of s) ids (suc n) ss)

unfoldable pub id_fault : List Event → Option (ℕ × Reason)
id_fault es = id_fault_from [] (all_ids (starts es)) 0 (starts es)

-- THE SAME IN WORDS, of the attributes of each start, in order

-- none past the last start
abbrev pub start_at : List (List Attribute) → ℕ → List Attribute
start_at [] k = []
start_at (s ∷ ss) zero = s
start_at (s ∷ ss) (suc k) = start_at ss k

-- the name is an ID value of the start at k; an IDREF of the start at k names it
abbrev pub IsIdAt : List (List Attribute) → ℕ → Name → Type 0
IsIdAt ss k n = IsTrue (is_in n (ids_of (start_at ss k)))

abbrev pub IsReferenceAt : List (List Attribute) → ℕ → Name → Type 0
IsReferenceAt ss k n = IsTrue (is_in n (references_of (start_at ss k)))

-- the start at k has an ID that an earlier start has
abbrev pub Repeats : List (List Attribute) → ℕ → Type 0
Repeats ss k = (n : Name) × (i : ℕ) × (i < k) × IsIdAt ss i n × IsIdAt ss k n

-- the start at k has an IDREF that is the ID of no start
abbrev pub Dangles : List (List Attribute) → ℕ → Type 0
Dangles ss k = (n : Name) × IsReferenceAt ss k n × ((i : ℕ) → ¬ IsIdAt ss i n)

-- the start at k is the first with a fault, and this is its fault, the repeated ID first
pub record IsFirstFault (ss : List (List Attribute)) (k : ℕ) (r : Reason) : Type 0 where
  pub none_repeats : (i : ℕ) → i < k → ¬ Repeats ss i
  pub none_dangles : (i : ℕ) → i < k → ¬ Dangles ss i
  pub is_one : ((r ≡ Repeated) × Repeats ss k) ⊎ ((r ≡ Dangling) × (¬ Repeats ss k) × Dangles ss k)
