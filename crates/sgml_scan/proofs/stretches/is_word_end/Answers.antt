use Rattle.sgml_scan.proofs.Firsts.{string-not-one}
use Rattle.sgml_scan.proofs.stretches.is_word_end.Goals as goal

pub returns-then-is_string_bound : goal.returns-then-is_string_bound
returns-then-is_string_bound c = λ t ended h.
    string-not-one c.args.syntax.now c.args.state ended c.args.text.now c.requires (c.is_string_bound.ensures c.if-is_string_bound.true) h
