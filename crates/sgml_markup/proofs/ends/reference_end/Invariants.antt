use Rattle.std.proofs.Common.{◌≡◌, drop}
use Rattle.sgml_text.specs.NameCharacters.{is_name_character}
use Rattle.sgml_markup.specs.Ends.{reference_end}
use Rattle.sgml_delim.specs.Ends.{later}
use Rattle.sgml_markup.proofs.ends.reference_end.Given as goal

abbrev pub invariant-loop-i : goal.invariant-loop-i
invariant-loop-i l =
    reference_end (is_name_character l.names) l.ended l.text
    ≡ later l.i (reference_end (is_name_character l.names) l.ended (drop l.i l.text))
