use Rattle.std.proofs.Common.{◌≡◌, length}
use Rattle.std.specs.Option.{option_copied}
use Rattle.sgml_automaton.specs.Plan.{chase}
use Rattle.sgml_automaton.proofs.plan.Plan.chase.Given as goal

abbrev pub invariant-exits : goal.invariant-exits
invariant-exits l =
    chase (length l.self.exits.items) l.self.scopes.items l.self.exits.items l.fn.at (option_copied l.name)
    ≡ chase l.left l.self.scopes.items l.self.exits.items l.next (option_copied l.name)

abbrev pub decreases-exits : goal.decreases-exits
decreases-exits l = l.left
