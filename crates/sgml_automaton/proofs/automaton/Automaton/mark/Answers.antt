use Rattle.std.proofs.Common.{sym, ◌∙◌}
use Rattle.std.specs.Option.{option_copied}
use Rattle.sgml_automaton.specs.Automaton.{whole_of}
use Rattle.sgml_automaton.proofs.Still.{moved_still}
use Rattle.sgml_automaton.proofs.automaton.Automaton.mark.Goals as goal

pub returns-then-self-eq0 : goal.returns-then-self-eq0
returns-then-self-eq0 c = sym (moved_still (whole_of c.args.self.now) c.args.last c.args.j (option_copied c.args.name) c.args.bits.now
    (sym c.args.self.now.counted ∙ c.if-self-eq0.true))
