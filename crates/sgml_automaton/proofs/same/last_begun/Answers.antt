use Rattle.std.proofs.Common.{sym, ◌∙◌}
use Rattle.sgml_automaton.proofs.OneTerm.{last_none}
use Rattle.sgml_automaton.proofs.same.last_begun.Goals as goal

pub returns-then-i-members-clause-shape : goal.returns-then-i-members-clause-shape
returns-then-i-members-clause-shape c = λ b.
    sym (c.loop-i.invariant.0 b
    ∙ last_none c.args.members.now c.loop-i.i c.index-members-i.result c.loop-i.at c.args.k b c.loop-i-test.true c.index-members-i.is (sym c.has.ensures ∙ c.if-has.true) c.if-i-members.true)
