use Rattle.sgml_scan.proofs.Firsts.{bound-not-one}
use Rattle.sgml_scan.proofs.stretches.is_end.Goals as goal

pub returns-then-is_bound : goal.returns-then-is_bound
returns-then-is_bound c = λ t ended h. bound-not-one c.args.syntax.now c.args.state ended c.args.text.now c.requires (c.is_bound.ensures c.if-is_bound.true) h
