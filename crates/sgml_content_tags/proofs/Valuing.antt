-- The values of a visible start, and the reason for which it has none.
use Rattle.std.specs.Prelude.{◌≡◌, ℕ, List, Option}
use Rattle.std.proofs.Common.{subst}
use Rattle.sgml_syntax.specs.declared.syntax.Syntax.{Syntax}
use Rattle.sgml_theory_spelling.specs.theory_reading.Names.{Text}
use Rattle.sgml_starts.specs.declared.error.StartError.{StartError}
use Rattle.sgml_starts.specs.Specified.{specified}
use Rattle.sgml_starts.specs.Values.{unvalued}
use Rattle.sgml_starts.specs.Starts.{start_of, input_of, IsUnvalued}
use Rattle.sgml_content_steps.specs.theory_starts.There.{input_at}
use Rattle.sgml_content_steps.specs.Content.{Content}

-- by the tables that are kept
abbrev UnvaluedIn : Content → Syntax → List (ℕ × Text) → ℕ → Option ℕ → StartError → Type 0
UnvaluedIn c syntax texts number tag e =
    IsUnvalued (unvalued (start_of syntax c.kept.doctype number c.currents) (specified (input_of syntax c.kept.doctype texts c.kept.stack) tag)) e

pub unvalued-in : (z old : Content) (syntax : Syntax) (texts : List (ℕ × Text)) (number : ℕ) (tag : Option ℕ) (e : StartError) → z ≡ old → syntax ≡ z.kept.doctype.syntax
    → UnvaluedIn z syntax texts number tag e
    → IsUnvalued (unvalued (start_of old.kept.doctype.syntax old.kept.doctype number old.currents) (specified (input_at old.kept texts) tag)) e
unvalued-in z old syntax texts number tag e same s h =
    subst (λ (c : Content). UnvaluedIn c c.kept.doctype.syntax texts number tag e) same (subst (λ (x : Syntax). UnvaluedIn z x texts number tag e) s h)
