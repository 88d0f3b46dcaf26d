use Rattle.std.proofs.Common.{sym, arith}
use Rattle.sgml_sgmldecl.specs.Machine.{run, begin_state, state_of}
use Rattle.sgml_sgmldecl.proofs.Running.{turned_so, at_the_end}
use Rattle.sgml_sgmldecl.specs.declared.reading.Turn.TheVariants as turn
use Rattle.sgml_sgmldecl.proofs.reading.read.Goals as goal

pub returns-in-Refused : goal.returns-in-Refused
returns-in-Refused c =
    turned_so (run 0 begin_state c.args.text.now) c.args.text.now c.loop-i.i (state_of c.loop-i.reading) (state_of c.take.new.self) c.in_ok-take.field-0 turn.Refused (omega arith) c.loop-i.invariant c.in_ok-take.ensures c.in-Refused.is

pub returns-in-Ended : goal.returns-in-Ended
returns-in-Ended c =
    turned_so (run 0 begin_state c.args.text.now) c.args.text.now c.loop-i.i (state_of c.loop-i.reading) (state_of c.take.new.self) c.in_ok-take.field-0 turn.Ended (omega arith) c.loop-i.invariant c.in_ok-take.ensures c.in-Ended.is

pub loop-i-preserved : goal.loop-i-preserved
loop-i-preserved c =
    sym (turned_so (run 0 begin_state c.args.text.now) c.args.text.now c.loop-i.i (state_of c.loop-i.reading) (state_of c.take.new.self) c.in_ok-take.field-0 turn.GoesOn (omega arith) c.loop-i.invariant c.in_ok-take.ensures c.in-GoesOn.is)

pub returns : goal.returns
returns c = at_the_end (run 0 begin_state c.args.text.now) c.args.text.now c.loop-i.i (state_of c.loop-i.reading) (omega arith) (omega arith) c.loop-i.invariant
