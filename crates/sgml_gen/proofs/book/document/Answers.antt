use Rattle.std.proofs.Common.{◌∙◌, sym, append-nil, ◌++◌}
use Rattle.sgml_gen.specs.Book.{head, title_text}
use Rattle.sgml_gen.proofs.Counts.{chapter_more}
use Rattle.sgml_gen.proofs.book.document.Goals as goal

pub loop-i-init : goal.loop-i-init
loop-i-init c = c.in_ok-text.ensures ∙ sym (append-nil (head ++ title_text c.args.number))

pub loop-i-preserved : goal.loop-i-preserved
loop-i-preserved c = chapter_more c.args.number c.loop-i.i _ _ c.loop-i.invariant c.in_ok-add_chapter.ensures
