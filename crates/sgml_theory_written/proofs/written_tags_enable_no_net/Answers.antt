use Rattle.sgml_theory_written.proofs.Nets.{written-enable-none, net-stays-out}
use Rattle.sgml_theory_written.proofs.written_tags_enable_no_net.Goals as goal

pub returns-clause-written : goal.returns-clause-written
returns-clause-written c = written-enable-none

pub returns-clause-after : goal.returns-clause-after
returns-clause-after c = net-stays-out
