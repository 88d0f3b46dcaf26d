use Rattle.std.proofs.Common.{subst, true, nat_lt, ◌≡◌, List, ℕ}
use Rattle.std.specs.List.{list_all}
use Rattle.std.proofs.lemmas.List.{take_all}
use Rattle.sgml_attr.proofs.Plain.{apart-same}
use Rattle.sgml_attr.proofs.literal.are_apart.Goals as goal

pub returns-clause-same : goal.returns-clause-same
returns-clause-same c = λ told declared.
    apart-same declared c.args.bytes.now
    (subst (λ (bytes : List ℕ). list_all (nat_lt 32) bytes ≡ true) (take_all c.loop-b.b-index c.args.bytes.now c.loop-b-test.false) c.loop-b.invariant)
