use Rattle.std.proofs.Common.{◌≡◌, ◌++◌}
use Rattle.sgml_gen.specs.Book.{head, title_text, chapters_text}
use Rattle.sgml_gen.proofs.book.document.Given as goal

abbrev pub invariant-loop-i : goal.invariant-loop-i
invariant-loop-i l = l.text.items ≡ head ++ title_text l.number ++ chapters_text l.number l.i
