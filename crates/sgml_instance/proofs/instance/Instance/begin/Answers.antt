use Rattle.std.proofs.Common.{List, false, reverse, sym, ap, subst}
use Rattle.sgml_events.specs.declared.event.Event.{Event}
use Rattle.sgml_instance.specs.Reading.{BeginsAfterProlog, reader}
use Rattle.sgml_instance.proofs.Begun.{begins}
use Rattle.sgml_instance.proofs.instance.Instance.begin.Goals as goal

pub returns-clause-begins : goal.returns-clause-begins
returns-clause-begins c =
    subst (λ (z : List Event). BeginsAfterProlog c.args.kept (reader c.args.options.value c.in_ok-content.content z false)) (sym (ap reverse c.new.ensures.items))
    (begins c.args.options.value c.args.kept c.in_ok-content.content c.in_ok-content.ensures.kept c.in_ok-content.ensures.nothing)
