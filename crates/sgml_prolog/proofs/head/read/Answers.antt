use Rattle.std.proofs.Common.{None, ap, subst}
use Rattle.sgml_declared.specs.theory_standing.Kept.{Kept}
use Rattle.sgml_declared.specs.Files.{sources_in}
use Rattle.sgml_declared.specs.Heads.{HeadIsTaken, HeadIsStopped}
use Rattle.sgml_declared.specs.Over.{HeadIsOver}
use Rattle.sgml_prolog.proofs.head.read.Goals as goal

pub returns-in-Err-clause-err : goal.returns-in-Err-clause-err
returns-in-Err-clause-err c =
    subst (λ (k : Kept). HeadIsStopped c.args.options.now (sources_in k.doctype None) c.args.texts.now c.args.asked.now k.stack c.in-Err.error) c.kept.view_is c.in-Err.ensures.err

pub returns-clause-taken : goal.returns-clause-taken
returns-clause-taken c = record {
  head = c.in-Ok.head;
  taken = subst (λ (k : Kept). HeadIsTaken c.args.options.now (sources_in k.doctype None) c.args.texts.now c.args.asked.now c.take_head.new.dtd k.stack c.take_head.new.stack c.in-Ok.head)
      c.kept.view_is c.in-Ok.ensures.ok;
  over = subst (λ (k : Kept). HeadIsOver k.doctype c.take_head.new.dtd c.args.texts.now k.stack c.take_head.new.stack c.in-Ok.head) c.kept.view_is c.in-Ok.ensures.over;
  after = λ i. record {
    doctype = c.take_head.new.dtd;
    stack = c.take_head.new.stack;
    sections = ap (λ (k : Kept). k.sections) c.kept.view_is i;
    stage = c.stage_of_head-kept-inside.ensures i;
    subset = c.in-Ok.head.external;
  };
}
