use Rattle.std.proofs.Common.{◌≡◌, ◌+◌, length}
use Rattle.sgml_decl_parts.specs.Parts.{comment_at}
use Rattle.sgml_decl_parts.proofs.part.read_comment.Given as goal

abbrev pub invariant-comment : goal.invariant-comment
invariant-comment l = record {
  same : comment_at l.size l.rest ≡ comment_at 2 l.fn.bytes;
  count : l.size + length l.rest ≡ 2 + length l.fn.bytes;
}

abbrev pub decreases-comment : goal.decreases-comment
decreases-comment l = length l.rest
