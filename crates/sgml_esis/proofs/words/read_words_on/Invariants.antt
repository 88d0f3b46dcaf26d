use Rattle.std.proofs.Common.{◌≡◌, [], length}
use Rattle.sgml_esis.specs.Reading.{words_on}
use Rattle.sgml_esis.proofs.words.read_words_on.Given as goal

abbrev pub invariant-words : goal.invariant-words
invariant-words l = words_on l.names.items [] l.rest ≡ words_on [] [] l.bytes

abbrev pub decreases-words : goal.decreases-words
decreases-words l = length l.rest
