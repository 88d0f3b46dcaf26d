use Rattle.std.proofs.Common.{◌≡◌, ◌∙◌, ap, sym, subst, OnOk, None, IfErr}
use Rattle.sgml_declared.specs.sgml_dtd.Errors.{IsEnd}
use Rattle.sgml_declared.specs.sgml_dtd.Rows.{final_reason}
use Rattle.sgml_declared.specs.theory_standing.Kept.{Kept}
use Rattle.sgml_prolog_steps.proofs.Closing.{type-end-is}
use Rattle.sgml_prolog_steps.proofs.ends.judge_end.Goals as goal

pub returns-then-number-eq1-clause-ok : goal.returns-then-number-eq1-clause-ok
returns-then-number-eq1-clause-ok c =
    subst (λ o. OnOk c.finish.result (o ≡ None)) (sym (type-end-is c.args.number c.args.kept.now.doctype c.if-number-eq1.true ∙ ap (λ (k : Kept). final_reason k.doctype) (sym c.kept.view_is))) c.finish.ensures.ok

pub returns-then-number-eq1-clause-refused : goal.returns-then-number-eq1-clause-refused
returns-then-number-eq1-clause-refused c =
    subst (λ o. IfErr c.finish.result (IsEnd o)) (sym (type-end-is c.args.number c.args.kept.now.doctype c.if-number-eq1.true ∙ ap (λ (k : Kept). final_reason k.doctype) (sym c.kept.view_is))) c.finish.ensures.refused
