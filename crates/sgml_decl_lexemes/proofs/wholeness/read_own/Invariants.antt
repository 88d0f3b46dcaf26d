use Rattle.sgml_decl_lexemes.specs.Readings.{state_of}
use Rattle.sgml_decl_lexemes.specs.Reads.{left}
use Rattle.sgml_decl_lexemes.proofs.Going.{SoFar}
use Rattle.sgml_decl_lexemes.proofs.wholeness.read_own.Given as goal

abbrev pub invariant-parts : goal.invariant-parts
invariant-parts l = SoFar l.given l.fn.stack (state_of l.progress l.stack)

abbrev pub decreases-parts : goal.decreases-parts
decreases-parts l = left l.given l.stack
