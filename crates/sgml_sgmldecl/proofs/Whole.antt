-- The run over a text is what the definition says of the text.
use Rattle.std.proofs.Common.{◌≡◌, ℕ, zero, suc, ◌+◌, ◌<◌, ◌≤◌, true, List, [], ◌∷◌, ◌++◌, length, take, drop, refl, sym, ap, ◌∙◌, subst, append-nil, arith, length-take, length-append}
use Rattle.std.proofs.lemmas.List.{take-append-drop}
use Rattle.std.proofs.Math.Seq.{take-append_seam}
use Rattle.sgml_sgmldecl.specs.declared.due.Due.TheVariants as due
use Rattle.sgml_sgmldecl.specs.declared.heard.Heard.{Heard}
use Rattle.sgml_sgmldecl.specs.Characters.{opening}
use Rattle.sgml_sgmldecl.specs.Heard.{start}
use Rattle.sgml_sgmldecl.specs.Machine.{State, Step, refused, goes, ends, bad, whole, go_on, run, step, begin_state}
use Rattle.sgml_sgmldecl.specs.Declaring.{Reads, Declares, IsFront, IsLongestFront, BeginsWithNone}
use Rattle.sgml_sgmldecl.proofs.Resting.{Rest}
use Rattle.sgml_sgmldecl.proofs.Backward.{back, back_end}
use Rattle.sgml_sgmldecl.proofs.Forward.{Onward, on, over, onward}
use Rattle.sgml_sgmldecl.proofs.Kept.{Holds, complete, kept, row_known}

-- what is read whole
pub record ReadWhole (at : ℕ) (s : State) (bs : List ℕ) (x : Heard) (n : ℕ) : Type 0 where
  pub us : List ℕ
  pub vs : List ℕ
  pub all : bs ≡ us ++ vs
  pub size : n ≡ at + length us
  pub rest : Rest s at us x

whole_step : (at : ℕ) (s : State) (b : ℕ) (bs : List ℕ) (x : Heard) (n : ℕ) (st : Step) → Holds s → step at s b ≡ st → go_on at st (λ t. run (at + 1) t bs) ≡ whole x n
    → ((t : State) → Holds t → run (at + 1) t bs ≡ whole x n → ReadWhole (at + 1) t bs x n) → ReadWhole at s (b ∷ bs) x n
whole_step at s b bs x n refused h st is later = cc
whole_step at s b bs x n (goes t) h st is later =
    let r = later t (kept s t at b h st) is in
    record { us = b ∷ r.us; vs = r.vs; all = ap (λ (l : List ℕ). b ∷ l) r.all; size = omega (arith, r.size); rest = back s t at b r.us x (row_known s.part s.marks s.word h.part) st r.rest }
whole_step at s b bs x n (ends y) h st is later =
    let told : y ≡ x = cc in
    let size : at + 1 ≡ n = cc in
    record { us = b ∷ []; vs = bs; all = refl; size = sym size; rest = back_end s at b x (st ∙ ap ends told) }

read_whole : (bs : List ℕ) (at : ℕ) (s : State) (x : Heard) (n : ℕ) → Holds s → run at s bs ≡ whole x n → ReadWhole at s bs x n
unfolding run
read_whole [] at s x n h is = cc
read_whole (b ∷ bs) at s x n h is = whole_step at s b bs x n (step at s b) h refl is (λ t k e. read_whole bs (at + 1) t x n k e)

-- what is refused
pub record ReadBad (at : ℕ) (s : State) (bs : List ℕ) (n : ℕ) : Type 0 where
  pub us : List ℕ
  pub vs : List ℕ
  pub all : bs ≡ us ++ vs
  pub size : n ≡ at + length us
  pub more : List ℕ
  pub told : Heard
  pub rest : Rest s at (us ++ more) told

bad_here : (at : ℕ) (s : State) (bs : List ℕ) (n : ℕ) → Holds s → at ≡ n → ReadBad at s bs n
bad_here at s bs n h same = let q = complete s at h in record { us = []; vs = bs; all = refl; size = omega (arith, same); more = q.bytes; told = q.told; rest = q.rest }

bad_step : (at : ℕ) (s : State) (b : ℕ) (bs : List ℕ) (n : ℕ) (st : Step) → Holds s → step at s b ≡ st → go_on at st (λ t. run (at + 1) t bs) ≡ bad n
    → ((t : State) → Holds t → run (at + 1) t bs ≡ bad n → ReadBad (at + 1) t bs n) → ReadBad at s (b ∷ bs) n
bad_step at s b bs n refused h st is later = let same : at ≡ n = cc in bad_here at s (b ∷ bs) n h same
bad_step at s b bs n (goes t) h st is later =
    let r = later t (kept s t at b h st) is in
    record { us = b ∷ r.us; vs = r.vs; all = ap (λ (l : List ℕ). b ∷ l) r.all; size = omega (arith, r.size); more = r.more; told = r.told; rest = back s t at b (r.us ++ r.more) r.told (row_known s.part s.marks s.word h.part) st r.rest }
bad_step at s b bs n (ends y) h st is later = cc

read_bad : (bs : List ℕ) (at : ℕ) (s : State) (n : ℕ) → Holds s → run at s bs ≡ bad n → ReadBad at s bs n
unfolding run
read_bad [] at s n h is = let same : at ≡ n = cc in bad_here at s [] n h same
read_bad (b ∷ bs) at s n h is = bad_step at s b bs n (step at s b) h refl is (λ t k e. read_bad bs (at + 1) t n k e)

-- what completes a state is read
run_on_step : (y : ℕ) (ys : List ℕ) (at : ℕ) (s : State) (x : Heard) (vs : List ℕ) → ((t : State) → Rest t (at + 1) ys x → run (at + 1) t (ys ++ vs) ≡ whole x (at + 1 + length ys)) → Onward (step at s) at (y ∷ ys) x → run at s (y ∷ ys ++ vs) ≡ whole x (at + length (y ∷ ys))
unfolding run
run_on_step y ys at s x vs later (on t b bs text does rest) =
    let head : b ≡ y = cc in
    let tail : bs ≡ ys = cc in
    let place : at + 1 + length ys ≡ at + length (y ∷ ys) = omega arith in
    ap (λ (st : Step). go_on at st (λ u. run (at + 1) u (ys ++ vs))) (ap (step at s) (sym head) ∙ does)
    ∙ later t (subst (λ (l : List ℕ). Rest t (at + 1) l x) tail rest) ∙ ap (whole x) place
run_on_step y ys at s x vs later (over b text does) =
    let head : b ≡ y = cc in
    let tail : [] ≡ ys = cc in
    let place : at + 1 ≡ at + length (y ∷ ys) = omega (arith, ap length tail) in
    ap (λ (st : Step). go_on at st (λ u. run (at + 1) u (ys ++ vs))) (ap (step at s) (sym head) ∙ does) ∙ ap (whole x) place

not_nothing : (f : ℕ → Step) (at : ℕ) (x : Heard) → Onward f at [] x → ⊥
not_nothing f at x (on t b bs text does rest) = cc
not_nothing f at x (over b text does) = cc

run_on : (us : List ℕ) (at : ℕ) (s : State) (x : Heard) (vs : List ℕ) → Rest s at us x → run at s (us ++ vs) ≡ whole x (at + length us)
run_on [] at s x vs rest = absurd (not_nothing (step at s) at x (onward s at [] x rest))
run_on (y ∷ ys) at s x vs rest = run_on_step y ys at s x vs (λ t r. run_on ys (at + 1) t x vs r) (onward s at (y ∷ ys) x rest)

-- where a text is refused, another text that has the same bytes up to that place and one more is refused there too
bad_low : (bs : List ℕ) (at : ℕ) (s : State) (n : ℕ) → run at s bs ≡ bad n → at ≤ n
unfolding run
bad_low [] at s n is = let same : at ≡ n = cc in omega arith
bad_low (b ∷ bs) at s n is = by_step (step at s b) is (λ t e. bad_low bs (at + 1) t n e)
  where
    by_step : (st : Step) → go_on at st (λ t. run (at + 1) t bs) ≡ bad n → ((t : State) → run (at + 1) t bs ≡ bad n → at + 1 ≤ n) → at ≤ n
    by_step refused is later = let same : at ≡ n = cc in omega arith
    by_step (goes t) is later = omega (arith, later t is)
    by_step (ends y) is later = cc

bad_same : (bs : List ℕ) (at : ℕ) (s : State) (n m : ℕ) (more : List ℕ) → run at s bs ≡ bad n → n < at + m → m ≤ length bs → run at s (take m bs ++ more) ≡ bad n
unfolding run
bad_same [] at s n m more is low high = let same : at ≡ n = cc in absurd (omega arith)
bad_same (b ∷ bs) at s n zero more is low high = absurd (omega (arith, bad_low (b ∷ bs) at s n is))
bad_same (b ∷ bs) at s n (suc m) more is low high = by_step (step at s b) is (λ t e. bad_same bs (at + 1) t n m more e (omega arith) (omega arith))
  where
    by_step : (st : Step) → go_on at st (λ t. run (at + 1) t bs) ≡ bad n → ((t : State) → run (at + 1) t bs ≡ bad n → run (at + 1) t (take m bs ++ more) ≡ bad n) → go_on at st (λ t. run (at + 1) t (take m bs ++ more)) ≡ bad n
    by_step refused is later = is
    by_step (goes t) is later = later t is
    by_step (ends y) is later = cc

-- before the first byte
begun_holds : Holds begin_state
begun_holds = record { marks = refl; part = record { z = opening; grows = refl } }

begin_rest : (bytes : List ℕ) (x : Heard) → Declares bytes x → Rest begin_state 0 bytes x
begin_rest bytes x d = record { w = d.0; rest = d.1; all = d.3; grows = d.2; reads = subst (λ (n : ℕ). Reads true n due.Heading [] start d.1 x) (omega arith) d.4 }

begin_declares : (bytes : List ℕ) (x : Heard) → Rest begin_state 0 bytes x → Declares bytes x
begin_declares bytes x r = (r.w, r.rest, r.grows, r.all, subst (λ (n : ℕ). Reads true n due.Heading [] start r.rest x) (omega arith) r.reads)

-- a declaration at the front of a text is read
pub declared_read : (text : List ℕ) (n : ℕ) (x : Heard) → n ≤ length text → Declares (take n text) x → run 0 begin_state text ≡ whole x n
declared_read text n x within d =
    let size : 0 + length (take n text) ≡ n = omega (arith, length-take n text) in
    ap (run 0 begin_state) (sym (take-append-drop n text)) ∙ run_on (take n text) 0 begin_state x (drop n text) (begin_rest (take n text) x d) ∙ ap (whole x) size

-- what is read is a declaration
pub read_declared : (text : List ℕ) (n : ℕ) (x : Heard) → run 0 begin_state text ≡ whole x n → (n ≤ length text) × Declares (take n text) x
read_declared text n x is =
    let r = read_whole text 0 begin_state x n begun_holds is in
    let size : n ≡ length r.us = omega (arith, r.size) in
    let front : take n text ≡ r.us = ap (take n) r.all ∙ ap (λ (k : ℕ). take k (r.us ++ r.vs)) size ∙ take-append_seam r.us r.vs in
    (omega (arith, ap length r.all, length-append r.us r.vs), subst (λ (l : List ℕ). Declares l x) (sym front) (begin_declares r.us x r.rest))

-- what is refused has no longer front that some declaration has
pub refused_front : (text : List ℕ) (n : ℕ) → run 0 begin_state text ≡ bad n → IsLongestFront text n × BeginsWithNone text
refused_front text n is =
    let r = read_bad text 0 begin_state n begun_holds is in
    let size : n ≡ length r.us = omega (arith, r.size) in
    let front : take n text ≡ r.us = ap (take n) r.all ∙ ap (λ (k : ℕ). take k (r.us ++ r.vs)) size ∙ take-append_seam r.us r.vs in
    let has : IsFront (take n text) = (r.more, r.told, subst (λ (l : List ℕ). Declares (l ++ r.more) r.told) (sym front) (begin_declares (r.us ++ r.more) r.told r.rest)) in
    ((omega (arith, ap length r.all, length-append r.us r.vs), has, λ m low high f. no_longer m low high f), λ m x within d. never x n m (sym is ∙ declared_read text m x within d))
  where
    never : (x : Heard) (k j : ℕ) → bad k ≡ whole x j → ⊥
    never x k j e = cc

    no_longer : (m : ℕ) → n < m → m ≤ length text → IsFront (take m text) → ⊥
    no_longer m low high f =
        let one = bad_same text 0 begin_state n m f.0 is (omega arith) high in
        let two = run_on (take m text ++ f.0) 0 begin_state f.1 [] (begin_rest (take m text ++ f.0) f.1 f.2) in
        never f.1 n (0 + length (take m text ++ f.0)) (sym one ∙ ap (run 0 begin_state) (sym (append-nil (take m text ++ f.0))) ∙ two)
