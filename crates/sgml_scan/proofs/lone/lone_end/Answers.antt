use Rattle.std.proofs.Common.{arith, subst, List, ℕ}
use Rattle.sgml_markup.proofs.EndLemmas.{rest-of}
use Rattle.sgml_scan.specs.Lone.{BeginsLone}
use Rattle.sgml_scan.proofs.LoneTags.{end-at}
use Rattle.sgml_scan.proofs.lone.lone_end.Goals as goal

pub returns-else-n-eq0-clause-tag : goal.returns-else-n-eq0-clause-tag
returns-else-n-eq0-clause-tag c some =
    let n = c.lone_length-n.result in
    end-at c.args.syntax.now c.args.text.now n c.in-len2-up.len_at_least (omega (arith, c.if-b-ne60.false)) (omega (arith, c.if-c-ne47.false))
    (subst (λ (xs : List ℕ). BeginsLone c.args.syntax.now xs n) (rest-of 2 c.args.text.now) (c.lone_length-n.ensures.lone (omega (arith, c.if-n-eq0.false))))
