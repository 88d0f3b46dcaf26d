use Rattle.std.proofs.Common.{◌≡◌, ◌≤◌, ◌∙◌, ap, arith, take, replicate, Bool, false, if◌then◌else◌}
use Rattle.sgml_starts.proofs.Flagged.{no-more, take-none}
use Rattle.sgml_starts.proofs.flags.Flags.none.Goals as goal

pub returns : goal.returns
returns c =
    let n = c.args.many in
    let l : n ≤ 16 = omega (arith, c.if-many-gt-FEW.false) in
    ap (λ (b : Bool). if b then c.new.result.items else take n (replicate 16 false)) (no-more n l) ∙ take-none n 16 l
