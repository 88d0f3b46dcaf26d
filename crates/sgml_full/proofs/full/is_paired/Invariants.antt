use Rattle.std.proofs.Common.{◌≡◌, drop, false}
use Rattle.sgml_full.specs.Spelled.{is_paired}
use Rattle.sgml_full.proofs.full.is_paired.Given as goal

abbrev pub invariant-loop-b : goal.invariant-loop-b
invariant-loop-b l = is_paired false l.text ≡ is_paired l.after_end (drop l.b-index l.text)
