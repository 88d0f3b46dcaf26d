use Rattle.std.proofs.Common.{◌≡◌, false, take}
use Rattle.std.specs.List.{list_any}
use Rattle.sgml_text.specs.Characters.{is_word}
use Rattle.sgml_marked.proofs.status.has.Given as goal

abbrev pub invariant-loop-keyword : goal.invariant-loop-keyword
invariant-loop-keyword l = list_any (is_word l.word) (take l.keyword-index l.keywords) ≡ false
