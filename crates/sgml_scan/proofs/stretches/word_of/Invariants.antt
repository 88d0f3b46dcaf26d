use Rattle.std.proofs.Common.{◌≡◌, ℕ, ◌<◌, true, slice_index_or}
use Rattle.sgml_scan.specs.Sure.{is_word}
use Rattle.sgml_scan.proofs.stretches.word_of.Given as goal

abbrev pub invariant-loop-i : goal.invariant-loop-i
invariant-loop-i l = (i : ℕ) → i < l.i → is_word l.net (slice_index_or l.text i 0) ≡ true
