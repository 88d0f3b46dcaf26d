use Rattle.std.proofs.Common.{◌≡◌, ◌+◌, length, drop}
use Rattle.sgml_markup.specs.References.{run_of}
use Rattle.sgml_markup.specs.QuickTags.{is_calm}
use Rattle.sgml_markup.proofs.quick.calm_length.Given as goal

abbrev pub invariant-loop-i : goal.invariant-loop-i
invariant-loop-i l = length (run_of (is_calm l.q) l.text) ≡ l.i + length (run_of (is_calm l.q) (drop l.i l.text))
