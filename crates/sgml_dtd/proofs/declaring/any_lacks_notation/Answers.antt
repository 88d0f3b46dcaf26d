use Rattle.std.proofs.Common.{◌≡◌, ℕ, Bool, ◌+◌, ◌-◌, ◌||◌, Some, ap, sym, ◌∙◌, drop, arith}
use Rattle.std.specs.List.{slice_get, list_any}
use Rattle.sgml_entity.specs.declared.kinds.Entity.{Entity}
use Rattle.sgml_dtd.specs.Rows.{lacks_notation}
use Rattle.sgml_dtd.proofs.Searching.{any_from}
use Rattle.sgml_dtd.proofs.declaring.any_lacks_notation.Goals as goal

pub returns-then-lacks_notation : goal.returns-then-lacks_notation
returns-then-lacks_notation c =
    let n : ℕ = c.loop-number.number in
    let place : n ≡ (n + 2) - 2 = omega arith in
    let at : slice_get c.args.entities.now.entities n ≡ Some c.entity.result.now = ap (λ (k : ℕ). slice_get c.args.entities.now.entities k) place ∙ c.entity.ensures in
    let rest : Bool = list_any (λ (e : Entity). lacks_notation c.args.entities.now.notations e.body) (drop (n + 1) c.args.entities.now.entities) in
    ap (λ (b : Bool). b || rest) (sym c.if-lacks_notation.true ∙ c.lacks_notation.ensures)
    ∙ sym (any_from (λ (e : Entity). lacks_notation c.args.entities.now.notations e.body) c.args.entities.now.entities n c.entity.result.now at)
    ∙ c.loop-number.invariant

pub loop-number-preserved : goal.loop-number-preserved
loop-number-preserved c =
    let n : ℕ = c.loop-number.number in
    let place : n ≡ (n + 2) - 2 = omega arith in
    let at : slice_get c.args.entities.now.entities n ≡ Some c.entity.result.now = ap (λ (k : ℕ). slice_get c.args.entities.now.entities k) place ∙ c.entity.ensures in
    let rest : Bool = list_any (λ (e : Entity). lacks_notation c.args.entities.now.notations e.body) (drop (n + 1) c.args.entities.now.entities) in
    ap (λ (b : Bool). b || rest) (sym c.if-lacks_notation.false ∙ c.lacks_notation.ensures)
    ∙ sym (any_from (λ (e : Entity). lacks_notation c.args.entities.now.notations e.body) c.args.entities.now.entities n c.entity.result.now at)
    ∙ c.loop-number.invariant
