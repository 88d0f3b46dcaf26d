use Rattle.std.proofs.Common.{◌≡◌, ◌+◌, length, drop}
use Rattle.sgml_text.specs.NameCharacters.{is_name_character}
use Rattle.sgml_text.specs.Runs.{run_of}
use Rattle.sgml_text.proofs.name_set.NameSet.run_length.Given as goal

abbrev pub invariant-loop-i : goal.invariant-loop-i
invariant-loop-i l =
    length (run_of (is_name_character l.self) l.text) ≡ l.i + length (run_of (is_name_character l.self) (drop l.i l.text))
