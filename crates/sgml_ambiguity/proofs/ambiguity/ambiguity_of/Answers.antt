use Rattle.std.proofs.Common.{sym, subst}
use Rattle.sgml_model.specs.View.{view}
use Rattle.sgml_model.specs.Model.{model_of}
use Rattle.sgml_model.specs.Group.{Numbered}
use Rattle.sgml_ambiguity.specs.Scan.{token_view}
use Rattle.sgml_ambiguity.specs.Ambiguity.{IsModel, IsAmbiguous, IsUnambiguous}
use Rattle.sgml_ambiguity.proofs.Found.{unambiguous, ambiguous, named}
use Rattle.std.proofs.lemmas.Bool.{OnTrue_at}
use Rattle.sgml_ambiguity.specs.Once.{EachNameOnce}
use Rattle.sgml_ambiguity.proofs.Naming.{once_unambiguous}
use Rattle.sgml_ambiguity.proofs.ambiguity.ambiguity_of.Goals as goal

pub returns-in-Err-Clash : goal.returns-in-Err-Clash
returns-in-Err-Clash c =
    let h = rw c.in-Err-Clash.field-0-is at c.in-Err-Clash.ensures.err in
    let e = c.term-2.ensures.term in
    named (model_of c.args.model.now) (token_view c.in-Err-Clash.a) (token_view c.in-Err-Clash.b) c.in_ok-name-in-Err-Clash.name c.in_ok-name-in-Err-Clash.ensures
    (subst (λ x. IsAmbiguous x (token_view c.in-Err-Clash.a) (token_view c.in-Err-Clash.b)) e
    (ambiguous (view c.term-2.result.now) (token_view c.in-Err-Clash.a) (token_view c.in-Err-Clash.b) (subst IsModel (sym e) c.term-2.ensures.well_formed) h))

pub returns : goal.returns
returns c =
    let e = c.term-2.ensures.term in
    let n = c.term-2.ensures.in_order in
    subst IsUnambiguous e (unambiguous (view c.term-2.result.now) n.0 (subst IsModel (sym e) c.term-2.ensures.well_formed) (subst (λ x. Numbered x 0 n.0) (sym e) n.1) c.in-Ok.ensures.ok.clear)

pub returns-then-branch : goal.returns-then-branch
returns-then-branch c =
    once_unambiguous (model_of c.args.model.now)
    (subst EachNameOnce c.term.ensures.term (OnTrue_at c.if-branch.true c.in_ok-is_each_name_once.ensures))
