use Rattle.std.proofs.Common.{◌≡◌, true, below_more, slice_index_or, sym, ◌∙◌}
use Rattle.sgml_scan.specs.Sure.{is_word}
use Rattle.sgml_scan.proofs.stretches.word_of.Goals as goal

pub loop-i-preserved : goal.loop-i-preserved
loop-i-preserved c =
    below_more (λ i. is_word c.args.net (slice_index_or c.args.text.now i 0) ≡ true) c.loop-i.i c.loop-i.invariant
    (sym c.is_word.ensures ∙ c.if-not-is_word.false)
