-- The values of starts that were left out, in each state by which what is kept may stand (7.3.1.1, 7.9).
use Rattle.std.specs.Prelude.{◌≡◌, ℕ, List, Some}
use Rattle.sgml_text.specs.declared.reason.Reason.{Reason}
use Rattle.sgml_attr.specs.declared.value.AttrValue.{AttrValue}
use Rattle.sgml_theory_starts.specs.theory_reading.State.{State}
use Rattle.sgml_theory_starts.specs.theory_spelling.Attributes.{unvalued}
use Rattle.sgml_theory_starts.specs.theory_standing.Moves.{run_unvalued}
use Rattle.sgml_infer.specs.Seen.{started}
use Rattle.sgml_content_steps.specs.Content.{Content}
use Rattle.sgml_content_steps.specs.Starts.{IsBy, IsStartValued, AreStartsValued, start_at}

-- of the starts that were left out last
abbrev pub AreValuesOf : Content → List (List AttrValue) → Type 0
AreValuesOf c values = (s : State) → IsBy c.kept.doctype c.currents s → AreStartsValued c.kept.doctype s c.tree.starts.items values

abbrev pub AreUnvalued : Content → Reason → Type 0
AreUnvalued c r = (s : State) → IsBy c.kept.doctype c.currents s → run_unvalued s (started c.kept.doctype c.tree.starts.items) ≡ Some r

-- of the start of an element of the type of this number
abbrev pub IsValueOf : Content → ℕ → List AttrValue → Type 0
IsValueOf c n values = (s : State) → IsBy c.kept.doctype c.currents s → IsStartValued c.kept.doctype s n values

abbrev pub HasNoValue : Content → ℕ → Reason → Type 0
HasNoValue c n r = (s : State) → IsBy c.kept.doctype c.currents s → unvalued s (start_at c.kept.doctype n).kind ≡ Some r
