use Rattle.std.proofs.Common.{◌≡◌, Some, length, ◌≤◌, ◌+◌}
use Rattle.sgml_decl_forms.specs.Groups.{tokens_at, group_at, mark_at}
use Rattle.sgml_decl_forms.specs.Words.{◌>>=◌}
use Rattle.sgml_decl_forms.proofs.groups.read_tokens.Given as goal

abbrev pub invariant-tokens : goal.invariant-tokens
invariant-tokens l = record {
  same : (tokens_at l.tokens.items l.level l.rest >>= (λ g. Some (mark_at g.0 g.1))) ≡ group_at l.fn.lexemes;
  small : l.level + length l.rest ≤ length l.fn.lexemes;
}

abbrev pub decreases-tokens : goal.decreases-tokens
decreases-tokens l = length l.rest
