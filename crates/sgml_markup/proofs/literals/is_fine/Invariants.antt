use Rattle.std.proofs.Common.{◌≡◌, drop}
use Rattle.std.specs.List.{list_all}
use Rattle.sgml_text.specs.Characters.{is_sgml_character}
use Rattle.sgml_markup.specs.References.{has_wrong_number, has_wrong_length}
use Rattle.sgml_markup.proofs.literals.is_fine.Given as goal

abbrev pub invariant-loop-i : goal.invariant-loop-i
invariant-loop-i l = record {
  sgml : list_all is_sgml_character l.text ≡ list_all is_sgml_character (drop l.i l.text);
  number : has_wrong_number l.syntax l.text ≡ has_wrong_number l.syntax (drop l.i l.text);
  short : has_wrong_length l.syntax l.text ≡ has_wrong_length l.syntax (drop l.i l.text);
}
