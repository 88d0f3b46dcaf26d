use Rattle.std.proofs.Common.{◌≡◌, true, take}
use Rattle.std.specs.List.{list_all}
use Rattle.sgml_esis.specs.Grammar.{is_word_byte}
use Rattle.sgml_esis.proofs.words.all_in_words.Given as goal

abbrev pub invariant-loop-b : goal.invariant-loop-b
invariant-loop-b l = list_all is_word_byte (take l.b-index l.bytes) ≡ true
