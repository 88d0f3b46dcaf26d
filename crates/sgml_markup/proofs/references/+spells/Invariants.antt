use Rattle.std.proofs.Common.{length}
use Rattle.sgml_markup.proofs.references.+spells.Given as goal

abbrev pub decreases-spells : goal.decreases-spells
decreases-spells l = length l.word.now
