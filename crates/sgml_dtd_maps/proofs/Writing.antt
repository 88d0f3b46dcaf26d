-- Each string is written in one way.
use Rattle.std.proofs.Common.{◌≡◌, ◌+◌, ℕ, zero, suc, Bool, true, false, ◌&&◌, List, [], ◌∷◌, Option, Some, None, refl, sym, ap, ◌∙◌, arith, if◌then◌else◌}
use Rattle.std.specs.Prelude.{slice_get, ◌==◌}
use Rattle.std.specs.Str.{bytes_eq}
use Rattle.std.proofs.lemmas.Slice.Eq.{bytes_eq-Decides}
use Rattle.std.proofs.lemmas.Bool.Decides.{Decides-eqb}
use Rattle.sgml_shortref.specs.Strings.{Mark, strings}
use Rattle.sgml_dtd_maps.specs.Written.{written, written_from}
use Rattle.sgml_dtd_maps.specs.InOrder.{IsWritten}

is_at : Option ℕ → ℕ → Bool
is_at None n = false
is_at (Some k) n = k == n

-- each of these strings, numbered from n, has its number among all
all_at : ℕ → List (List Mark) → Bool
all_at n [] = true
all_at n (marks ∷ more) = is_at (written_from 0 strings (written marks)) n && all_at (n + 1) more

every : all_at 0 strings ≡ true
unfolding all_at is_at
every = refl

both : (a b : Bool) → (a && b) ≡ true → (a ≡ true) × (b ≡ true)
both true b e = (refl, e)
both false b e = cc

at_is : (r : Option ℕ) (n : ℕ) → is_at r n ≡ true → r ≡ Some n
unfolding is_at
at_is None n e = cc
at_is (Some k) n e = ap (λ (m : ℕ). Some m) ((Decides-eqb k n).0 e)

one_at : (n k : ℕ) (all : List (List Mark)) (marks : List Mark) → all_at n all ≡ true → slice_get all k ≡ Some marks → written_from 0 strings (written marks) ≡ Some (n + k)
unfolding all_at
one_at n k [] marks e at = cc
one_at n zero (x ∷ all) marks e at =
    let same : x ≡ marks = cc in
    let count : n ≡ n + 0 = omega arith in
    ap (λ (m : List Mark). written_from 0 strings (written m)) (sym same)
    ∙ at_is (written_from 0 strings (written x)) n (both (is_at (written_from 0 strings (written x)) n) (all_at (n + 1) all) e).0
    ∙ ap (λ (m : ℕ). Some m) count
one_at n (suc k) (x ∷ all) marks e at =
    let count : (n + 1) + k ≡ n + suc k = omega arith in
    one_at (n + 1) k all marks (both (is_at (written_from 0 strings (written x)) n) (all_at (n + 1) all) e).1 at ∙ ap (λ (m : ℕ). Some m) count

pub only-written : (text : List ℕ) (n : ℕ) → IsWritten n text → written_from 0 strings text ≡ Some n
only-written text n i =
    let count : 0 + n ≡ n = omega arith in
    ap (written_from 0 strings) i.is_text ∙ one_at 0 n strings i.marks every i.is_string ∙ ap (λ (m : ℕ). Some m) count

record Stands (n k : ℕ) (all : List (List Mark)) (text : List ℕ) : Type 0 where
  place : ℕ
  number : k ≡ n + place
  marks : List Mark
  at : slice_get all place ≡ Some marks
  is_text : text ≡ written marks

stands_here : (b : Bool) (n k : ℕ) (x : List Mark) (all : List (List Mark)) (text : List ℕ) → bytes_eq text (written x) ≡ b → (if b then Some n else written_from (n + 1) all text) ≡ Some k
    → (written_from (n + 1) all text ≡ Some k → Stands (n + 1) k all text) → Stands n k (x ∷ all) text
stands_here true n k x all text is e again =
    let same : n ≡ k = cc in
    record { place = zero; number = omega arith; marks = x; at = refl; is_text = (bytes_eq-Decides text (written x)).0 is }
stands_here false n k x all text is e again =
    let later = again e in
    let at : k ≡ (n + 1) + later.place = later.number in
    record { place = suc later.place; number = omega arith; marks = later.marks; at = later.at; is_text = later.is_text }

stands : (n k : ℕ) (all : List (List Mark)) (text : List ℕ) → written_from n all text ≡ Some k → Stands n k all text
stands n k [] text e = cc
stands n k (x ∷ all) text e = stands_here (bytes_eq text (written x)) n k x all text refl e (λ later. stands (n + 1) k all text later)

pub found-written : (text : List ℕ) (n : ℕ) → written_from 0 strings text ≡ Some n → IsWritten n text
found-written text n e =
    let s = stands 0 n strings text e in
    let is : n ≡ s.place = let plus : n ≡ 0 + s.place = s.number in omega arith in
    record { marks = s.marks; is_string = ap (slice_get strings) is ∙ s.at; is_text = s.is_text }
