use Rattle.std.proofs.Common.{◌≡◌, map, drop}
use Rattle.sgml_ambiguity.specs.Scan.{token_view, cross}
use Rattle.sgml_ambiguity.proofs.firsts.Firsts.apart.Given as goal

abbrev pub invariant-loop-token : goal.invariant-loop-token
invariant-loop-token l = cross (map token_view l.tokens) (map token_view l.all.tokens.items) ≡ cross (map token_view (drop l.token-index l.tokens)) (map token_view l.all.tokens.items)
