use Rattle.std.proofs.Common.{◌≡◌, ◌++◌, map, drop, take}
use Rattle.sgml_ambiguity.specs.Scan.{token_view, without}
use Rattle.sgml_ambiguity.proofs.firsts.Firsts.without.Given as goal

abbrev pub invariant-loop-i : goal.invariant-loop-i
invariant-loop-i l =
    let here = map token_view (take l.self.known l.self.tokens.items) in
    without (map token_view l.tokens) here ≡ map token_view l.others.items ++ without (map token_view (drop l.i l.tokens)) here
