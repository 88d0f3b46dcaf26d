use Rattle.std.proofs.Common.{◌≡◌, Some, length}
use Rattle.sgml_automaton.specs.Plan.{chase}
use Rattle.sgml_automaton.proofs.plan.Plan.chase_spelled.Given as goal

abbrev pub invariant-exits : goal.invariant-exits
invariant-exits l =
    chase (length l.self.exits.items) l.self.scopes.items l.self.exits.items l.fn.at (Some l.spelled)
    ≡ chase l.left l.self.scopes.items l.self.exits.items l.next (Some l.spelled)

abbrev pub decreases-exits : goal.decreases-exits
decreases-exits l = l.left
