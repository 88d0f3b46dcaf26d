use Rattle.std.proofs.Common.{sym, subst}
use Rattle.sgml_instance.specs.Reading.{BeginsAfterProlog}
use Rattle.sgml_parse.proofs.going.instance_after.Goals as goal

pub returns-clause-begins : goal.returns-clause-begins
returns-clause-begins c = subst (BeginsAfterProlog c.args.kept) (sym c.in_ok-new.ensures.ok) c.in_ok-instance.ensures.begins
