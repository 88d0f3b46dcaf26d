-- The attribute lists of a document type, in the order of their declarations (11.3).
use Rattle.std.specs.Prelude.{ℕ, ◌+◌, List, [], ◌∷◌, Option, Some, None, if◌then◌else◌, slice_get}
use Rattle.std.specs.List.{flat_map}
use Rattle.sgml_names.specs.Lists.{has}
use Rattle.sgml_attr.specs.declared.definition.Definition.{Definition}
use Rattle.sgml_dtd_attlists.specs.declared.list.AttributeList.{AttributeList}

-- the number of the first of these lists that is one of this element type, where they are numbered from n
abbrev pub list_from : ℕ → List AttributeList → List ℕ → Option ℕ
list_from n [] name = None
list_from n (l ∷ ls) name = if has l.names name then Some n else list_from (n + 1) ls name

-- the number of the list of an element type
abbrev pub list_of : List AttributeList → List ℕ → Option ℕ
list_of lists name = list_from 0 lists name

abbrev pub definitions_in : Option AttributeList → List Definition
definitions_in None = []
definitions_in (Some l) = l.definitions

-- the definitions of the list of a number
abbrev pub definitions_of : List AttributeList → ℕ → List Definition
definitions_of lists n = definitions_in (slice_get lists n)

-- the element types that have a list
abbrev pub listed : List AttributeList → List (List ℕ)
listed lists = flat_map (λ l. l.names) lists
