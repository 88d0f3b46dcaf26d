use Rattle.std.proofs.Common.{◌≡◌, List, ℕ, ◌+◌, ◌-◌, ◌++◌, take, drop, sym, ap, ◌∙◌, arith}
use Rattle.std.specs.List.{list_all}
use Rattle.sgml_esis.specs.Plain.{is_plain}
use Rattle.sgml_esis.proofs.Fronts.{all_more, held_more}
use Rattle.sgml_esis.proofs.held.extend_blocks.Goals as goal

pub eights-preserved : goal.eights-preserved
eights-preserved c =
    let bs : List ℕ = c.args.bytes.now in
    let n : ℕ = c.eights.count in
    let eight : n + 8 - n ≡ 8 = omega arith in (
      omega (arith, c.eights.invariant.0, c.eights-test.true),
      all_more is_plain bs n 8 c.eights.invariant.1 (sym (ap (λ k. list_all is_plain (take k (drop n bs))) eight) ∙ sym c.all_plain.ensures ∙ c.if-all_plain.true),
      held_more c.args.held.now bs n 8 c.eights.held c.extend.new.self c.eights.invariant.2 (c.extend.ensures ∙ ap (λ k. (c.eights.held.0 ++ take k (drop n bs), c.eights.held.1)) eight),
    )
