use Rattle.std.proofs.Common.{◌≤◌, ◌-◌, length}
use Rattle.sgml_decl_lexemes.specs.Quiet.{Calm}
use Rattle.sgml_decl_lexemes.proofs.quiet.calm_length.Given as goal

abbrev pub invariant-comments : goal.invariant-comments
invariant-comments l = record { calm : Calm l.bytes l.size; within : l.size ≤ length l.bytes }

abbrev pub decreases-comments : goal.decreases-comments
decreases-comments l = length l.bytes - l.size
