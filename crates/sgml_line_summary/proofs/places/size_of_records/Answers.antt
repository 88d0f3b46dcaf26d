use Rattle.std.proofs.Common.{◌≡◌, ℕ, ◌+◌, ◌<◌, ◌≢◌, suc, zero, List, length, drop, get_or, refl, sym, ap, ◌∙◌, subst, arith, cond, ◌==◌, true, false, Bool, ◌-◌, eq-eqb}
use Rattle.std.proofs.Math.Seq.{drop-cons}
use Rattle.std.proofs.lemmas.Bool.Decides.{nat_tests}
use Rattle.sgml_line_summary.specs.Begins.{size_of_records}
use Rattle.sgml_line_summary.proofs.places.size_of_records.Goals as goal
use Rattle.sgml_line_summary.proofs.places.size_of_records.Goals.{then-b-eq13, else-b-eq13}

-- one more byte
passed : (left i : ℕ) (text : List ℕ) (count : ℕ) (ends : Bool) → left ≢ 0 → i < length text → (get_or text i 0 == 13) ≡ ends → i + size_of_records left (drop i text) ≡ count → i + 1 + size_of_records (cond ends (left - 1) left) (drop (i + 1) text) ≡ count
passed zero i text count ends some lt is h = absurd (some refl)
passed (suc n) i text count ends some lt is h =
    let less : suc n - 1 ≡ n = omega arith in
    let one : i + 1 ≡ suc i = omega arith in
    let k : ℕ = size_of_records (cond ends n (suc n)) (drop (suc i) text) in
    let e : i + suc k ≡ count = ap (λ t. i + suc (size_of_records (cond t n (suc n)) (drop (suc i) text))) (sym is) ∙ ap (λ v. i + size_of_records (suc n) v) (sym (drop-cons text i 0 lt)) ∙ h in
    let f : i + 1 + k ≡ i + suc k = omega arith in
    ap (λ m. i + 1 + size_of_records (cond ends m (suc n)) (drop (i + 1) text)) less ∙ ap (λ j. i + 1 + size_of_records (cond ends n (suc n)) (drop j text)) one ∙ f ∙ e

other : (b : ℕ) → (b ≡ 13 → ⊥) → (b == 13) ≡ false
other b h = grind (arith, nat_tests)

pub bytes-preserved : goal.bytes-preserved
bytes-preserved c =
    let text : List ℕ = c.args.text.now in
    let total : ℕ = size_of_records c.args.count text in
    let F : ℕ → Type 0 = λ n. c.bytes.i + 1 + size_of_records n (drop (c.bytes.i + 1) text) ≡ total in
    elim c.if-b-eq13.branch [
      | then-b-eq13 w ↦ subst F (sym w.left-is) (passed c.bytes.left c.bytes.i text total true c.if-left-eq0.false c.bytes-test.true (eq-eqb (get_or text c.bytes.i 0) 13 w.if-b-eq13.true) c.bytes.invariant)
      | else-b-eq13 w ↦ subst F (sym w.left-is) (passed c.bytes.left c.bytes.i text total false c.if-left-eq0.false c.bytes-test.true (other (get_or text c.bytes.i 0) w.if-b-eq13.false) c.bytes.invariant)
    ]
