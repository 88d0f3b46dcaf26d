use Rattle.std.proofs.Common.{sym, subst, slice_index_or}
use Rattle.sgml_scan.specs.Sure.{Sure}
use Rattle.sgml_scan.proofs.Standing.{word-sure}
use Rattle.sgml_scan.proofs.stretches.words_of.Goals as goal

pub returns-in-Chars-clause-sure : goal.returns-in-Chars-clause-sure
returns-in-Chars-clause-sure c = λ i h.
    subst (λ run. Sure c.args.state run (slice_index_or c.args.text.now i 0)) (sym c.in-Chars.is)
    (word-sure c.args.state (slice_index_or c.args.text.now i 0) c.requires (c.word_of.ensures.sure i h))
