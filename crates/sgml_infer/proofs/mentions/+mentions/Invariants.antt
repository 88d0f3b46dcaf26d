use Rattle.std.proofs.Common.{◌≡◌, map, drop}
use Rattle.sgml_model.specs.View.{view, terms}
use Rattle.sgml_theory_reading.specs.Characters.{some_mentions}
use Rattle.sgml_infer.proofs.mentions.+mentions.Given as goal

abbrev pub invariant-some_mentions-loop-i : goal.invariant-some_mentions-loop-i
invariant-some_mentions-loop-i l = some_mentions (terms (map view l.members)) ≡ some_mentions (terms (map view (drop l.i l.members)))
