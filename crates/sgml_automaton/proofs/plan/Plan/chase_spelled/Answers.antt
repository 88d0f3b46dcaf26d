use Rattle.std.proofs.Common.{rules, arith, sym, ap, ◌∙◌, Some}
use Rattle.std.proofs.lemmas.Option.{slice_get-get_or}
use Rattle.sgml_automaton.proofs.Chasing.{chased-on}
use Rattle.sgml_automaton.proofs.plan.Plan.chase_spelled.Goals as goal

pub exits-preserved : goal.exits-preserved
exits-preserved c =
    c.exits.invariant
    ∙ chased-on c.args.self.now.scopes.items c.args.self.now.exits.items c.exits.left c.exits.next c.in_ok-i.i c.index-exit.result.now (Some c.args.spelled.now)
    (search (arith, c.exits-test.true)) (search (rules, c.in_ok-i.was))
    (slice_get-get_or c.args.self.now.exits.items c.in_ok-i.i c.index-exit.result.now (search (arith, rules, c.if-i-len.false, c.len.ensures)) ∙ ap Some (sym c.index-exit.ensures))
    (sym c.hit_spelled.ensures ∙ c.in_default.is)
