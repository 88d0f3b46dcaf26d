use Rattle.std.proofs.Common.{◌≡◌, ◌==◌, ◌-◌, take, reverse}
use Rattle.sgml_infer.specs.Seen.{inside_where}
use Rattle.sgml_infer.proofs.Behind.{behind}
use Rattle.sgml_infer.proofs.omitting.inside_of.Given as goal

abbrev pub invariant-loop-inside : goal.invariant-loop-inside
invariant-loop-inside l =
    inside_where (λ x. l.element == x.element) (reverse l.levels) ≡ behind l.inside (inside_where (λ x. l.element == x.element) (reverse (take (l.count - l.inside) l.levels)))
