use Rattle.std.proofs.Common.{◌≡◌, ◌∙◌, ap, map, ℕ, List, Option, Result, Ok, Err, IfOk}
use Rattle.sgml_names.proofs.Numbering.{found-numbered}
use Rattle.sgml_names.specs.Index.{found}
use Rattle.sgml_names.specs.Naming.{cased}
use Rattle.sgml_dtd_elements.specs.Kept.{declared}
use Rattle.sgml_dtd_elements.specs.Types.{types, names, number_of}
use Rattle.sgml_dtd_elements.proofs.elements.Elements.number_cased.Goals as goal

same-number : {E : Type 0} (r : Result (Option ℕ) E) (m n : Option ℕ) → m ≡ n → IfOk r (λ number. number ≡ m) → IfOk r (λ number. number ≡ n)
same-number (Ok number) m n e is = is ∙ e
same-number (Err error) m n e is = is

pub returns : goal.returns
returns c =
    let name : List ℕ = cased c.args.folded c.args.spelled.now in
    same-number c.number_cased.result (found c.self.inside.index name) (number_of c.args.self.now name)
    (ap (λ es. found es name) c.self.invariant.index_is
    ∙ found-numbered 0 (names (types (map declared c.self.inside.rows.items))) name
    ∙ ap (λ ds. number_of ds name) c.self.view_is)
    c.number_cased.ensures
