use Rattle.sgml_bench.proofs.tokens.measure.Given as goal

abbrev pub ghosts-tokens : goal.ghosts-tokens
ghosts-tokens a = record { name = a.blank.name; parts = a.blank.parts }
