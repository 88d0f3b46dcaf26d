use Rattle.std.proofs.Common.{◌≡◌, ◌+◌, length, drop}
use Rattle.sgml_text.specs.Characters.{is_separator}
use Rattle.sgml_markup.specs.References.{run_of}
use Rattle.sgml_markup.proofs.quick.separators.Given as goal

abbrev pub invariant-loop-i : goal.invariant-loop-i
invariant-loop-i l = length (run_of is_separator l.text) ≡ l.i + length (run_of is_separator (drop l.i l.text))
