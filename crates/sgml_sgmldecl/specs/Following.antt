-- What is due after an item, and which row of what is due an item stands for (13).
use Rattle.std.specs.Prelude.{ℕ, ◌≡◌, ◌⊎◌, List, [], ◌∷◌, Option, Some, None, codes, if◌then◌else◌}
use Rattle.std.specs.Str.{bytes_eq}
use Rattle.sgml_sgmldecl.specs.declared.due.Due.{Due}
use Rattle.sgml_sgmldecl.specs.declared.due.Due.TheVariants as due
use Rattle.sgml_sgmldecl.specs.declared.row.Row.{Row}
use Rattle.sgml_sgmldecl.specs.declared.row.Item.{Item}
use Rattle.sgml_sgmldecl.specs.declared.row.Item.TheVariants as i
use Rattle.sgml_sgmldecl.specs.declared.row.Content.{Content}
use Rattle.sgml_sgmldecl.specs.declared.row.Content.TheVariants as c
use Rattle.sgml_sgmldecl.specs.declared.row.ListEnd.{ListEnd}
use Rattle.sgml_sgmldecl.specs.declared.row.ListEnd.TheVariants as e
use Rattle.sgml_sgmldecl.specs.Rows.{rows}
use Rattle.sgml_sgmldecl.specs.Items.{begins}

-- the keyword that ends a list of names, and what is due after it
abbrev pub end_word : ListEnd → List ℕ
end_word e.Scope = codes "SCOPE"
end_word e.Features = codes "FEATURES"

abbrev pub end_due : ListEnd → Due
end_due e.Scope = due.ScopeValue
end_due e.Features = due.Minimize

abbrev pub due_after : Item → List ℕ → Due → Due
due_after (i.Name end) word next = if bytes_eq word (end_word end) then end_due end else next
due_after i.Opening word next = next
due_after (i.Word k) word next = next
due_after i.Number word next = next
due_after (i.Literal x) word next = next
due_after i.End word next = next

-- what is due after an item of this row whose text is this
abbrev pub after : Row → List ℕ → Due
after r word = due_after r.item word r.then

-- the marks of the last literal of marks
abbrev pub marks_of_content : Content → List ℕ → List ℕ → List ℕ
marks_of_content c.Marks word marks = word
marks_of_content c.Any word marks = marks
marks_of_content c.Heading word marks = marks
marks_of_content c.SameMarks word marks = marks

-- one of these rows
abbrev pub IsRow : Row → List Row → Type 0
IsRow r [] = ⊥
IsRow r (x ∷ xs) = (r ≡ x) ⊎ IsRow r xs

-- The row of what is due whose item begins with the byte. No two rows of one due begin alike.
abbrev pub first_begun : List Row → ℕ → Option Row
first_begun [] b = None
first_begun (r ∷ rs) b = if begins r.item b then Some r else first_begun rs b

abbrev pub row_at : Due → ℕ → Option Row
row_at d b = first_begun (rows d) b
