use Rattle.std.proofs.Common.{◌≡◌, sym, ap, ◌∙◌, subst}
use Rattle.sgml_dtd.specs.Doctypes.{Doctype}
use Rattle.sgml_declared.specs.theory_standing.Kept.{Kept}
use Rattle.sgml_infer.specs.Tables.{IsNumber}
use Rattle.sgml_infer.specs.Trees.{IsTreeOf}
use Rattle.sgml_dtd.specs.dtd_elements.Laws.{AreDistinct}
use Rattle.sgml_content_tags.specs.Starts.{is_void_at}
use Rattle.sgml_content_tags.proofs.Fitting.{either-left, level-fits, start-taken}
use Rattle.sgml_content_tags.proofs.beginning.take_begun.Goals as goal

pub begin-requires-clause-level : goal.begin-requires-clause-level
begin-requires-clause-level c e =
    let j = c.requires.judged in
    let t = c.take_run.new.content in
    let taken = c.take_run.ensures.taken j.0 j.1 j.2 j.3 in
    let same : t.kept.doctype ≡ j.0.kept.doctype = ap (λ (k : Kept). k.doctype) c.take_run.ensures.kept ∙ j.1.doctype in
    level-fits j.0 t c.args.begun.element taken.0
    (subst (λ (d : Doctype). AreDistinct d.elements) j.1.doctype c.requires.content.tree.distinct)
    (subst (λ (d : Doctype). IsNumber d c.args.begun.element) j.1.doctype c.requires.number) same taken.2
    (ap (λ (d : Doctype). is_void_at d c.args.begun.element) (sym same) ∙ either-left (is_void_at t.kept.doctype c.args.begun.element) c.args.start.conref e)

pub begin-requires-clause-of_type : goal.begin-requires-clause-of_type
begin-requires-clause-of_type c =
    let j = c.requires.judged in
    let t = c.take_run.new.content in
    let same : t.kept.doctype ≡ j.0.kept.doctype = ap (λ (k : Kept). k.doctype) c.take_run.ensures.kept ∙ j.1.doctype in
    subst (λ (d : Doctype). IsTreeOf d t.tree) (sym same) (c.take_run.ensures.taken j.0 j.1 j.2 j.3).2.tree

pub returns : goal.returns
returns c = record {
  taken = λ judged before run place.
      let t = c.take_run.new.content in
      let taken = c.take_run.ensures.taken judged before run place in
      start-taken judged c.args.content.now t c.begin.new.content c.args.begun.place c.args.begun.element c.args.begun.net c.args.begun.included c.args.start
      c.args.told.now.items c.take_run.new.told.items c.begin.new.told.items taken.0 c.take_run.ensures.kept c.take_run.ensures.currents before.doctype taken.1 taken.2
      c.begin.ensures.content c.begin.ensures.told c.begin.ensures.settles c.begin.ensures.tree;
}
