-- Where a record ends, and the stretches between.
use Rattle.std.proofs.Common.{◌≡◌, ℕ, zero, suc, ◌+◌, ◌-◌, ◌<◌, ◌≤◌, Bool, true, false, List, [], ◌∷◌, length, take, drop, refl, sym, ◌∙◌, ap, arith, slice_index_or, true-eqb, false-eqb, not, ◌==◌, ◌&&◌, ◌||◌, cond, length-drop, length-take}
use Rattle.std.specs.Prelude.{slice_index}
use Rattle.std.specs.List.{prefix_len}
use Rattle.memchr.specs.Find.{is_byte2, places_from, places_between}
use Rattle.sgml_io.specs.Records.{is_plain, IsPlain}
use lib.Seq.{get_or-take, get_or-drop, length-take-le, take_all}

goes-on : (b : ℕ) → is_byte2 13 10 b ≡ false → is_plain b ≡ true
goes-on b h = by_tests (b == 13) (b == 10) h
  where
    by_tests : (t u : Bool) → (t || u) ≡ false → (not t && not u) ≡ true
    by_tests true u h = absurd (cc)
    by_tests false true h = absurd (cc)
    by_tests false false h = refl

plain-all : (bytes : List ℕ) → ((k : ℕ) → k < length bytes → is_byte2 13 10 (slice_index_or bytes k 0) ≡ false) → prefix_len is_plain bytes ≡ length bytes
plain-all [] h = refl
plain-all (b ∷ bs) h =
    ap (λ t. cond t (1 + prefix_len is_plain bs) 0) (goes-on b (h 0 (omega arith)))
    ∙ ap (λ n. 1 + n) (plain-all bs (λ k l. h (suc k) (omega arith)))
    ∙ omega arith

-- no record ends from i up to j
abbrev pub NoneEnds : List ℕ → ℕ → ℕ → Type 0
NoneEnds bytes i j = (k : ℕ) → i ≤ k → k < j → is_byte2 13 10 (slice_index bytes k) ≡ false

-- the first of these ends, and those behind it
pub record IsFirstEnd (bytes : List ℕ) (i n at : ℕ) (later : List ℕ) : Type 0 where
  pub low : i ≤ at
  pub high : at < i + n
  pub before : NoneEnds bytes i at
  pub behind : later ≡ places_from (is_byte2 13 10) bytes (at + 1) (i + n - (at + 1))

none-here : (bytes : List ℕ) (i j : ℕ) → is_byte2 13 10 (slice_index bytes i) ≡ false → NoneEnds bytes (i + 1) j → NoneEnds bytes i j
none-here bytes i j here later k l h = by_place (k == i) refl
  where
    by_place : (t : Bool) → (k == i) ≡ t → is_byte2 13 10 (slice_index bytes k) ≡ false
    by_place true e = let same : k ≡ i = true-eqb k i (sym e) in rw same here
    by_place false e = later k (omega (arith, false-eqb k i (sym e), l)) h

pub first-end : (bytes : List ℕ) (i n at : ℕ) (later : List ℕ) → places_from (is_byte2 13 10) bytes i n ≡ at ∷ later → IsFirstEnd bytes i n at later
unfolding places_from
first-end bytes i zero at later h = absurd (cc)
first-end bytes i (suc n) at later h = by_test (λ k. first-end bytes (i + 1) n at later k) (is_byte2 13 10 (slice_index bytes i)) refl h
  where
    by_test : (places_from (is_byte2 13 10) bytes (i + 1) n ≡ at ∷ later → IsFirstEnd bytes (i + 1) n at later) → (t : Bool) → is_byte2 13 10 (slice_index bytes i) ≡ t → cond t (i ∷ places_from (is_byte2 13 10) bytes (i + 1) n) (places_from (is_byte2 13 10) bytes (i + 1) n) ≡ at ∷ later → IsFirstEnd bytes i (suc n) at later
    by_test again true e k =
        let same : i ≡ at = cc in
        let rest : places_from (is_byte2 13 10) bytes (i + 1) n ≡ later = cc in
        let count : i + suc n - (at + 1) ≡ n = omega (arith, same) in
        record {
          low = omega (arith, same);
          high = omega (arith, same);
          before = λ k l h. absurd (omega (arith, same));
          behind = sym rest ∙ ap (λ j. places_from (is_byte2 13 10) bytes (j + 1) n) same ∙ ap (places_from (is_byte2 13 10) bytes (at + 1)) (sym count);
        }
    by_test again false e k =
        let more : IsFirstEnd bytes (i + 1) n at later = again k in
        let count : i + 1 + n - (at + 1) ≡ i + suc n - (at + 1) = omega arith in
        record {
          low = omega (arith, more.low);
          high = omega (arith, more.high);
          before = none-here bytes i at e more.before;
          behind = more.behind ∙ ap (places_from (is_byte2 13 10) bytes (at + 1)) count;
        }

pub no-end : (bytes : List ℕ) (i n : ℕ) → places_from (is_byte2 13 10) bytes i n ≡ [] → NoneEnds bytes i (i + n)
unfolding places_from
no-end bytes i zero h = λ k l m. absurd (omega arith)
no-end bytes i (suc n) h = by_test (λ k. no-end bytes (i + 1) n k) (is_byte2 13 10 (slice_index bytes i)) refl h
  where
    by_test : (places_from (is_byte2 13 10) bytes (i + 1) n ≡ [] → NoneEnds bytes (i + 1) (i + 1 + n)) → (t : Bool) → is_byte2 13 10 (slice_index bytes i) ≡ t → cond t (i ∷ places_from (is_byte2 13 10) bytes (i + 1) n) (places_from (is_byte2 13 10) bytes (i + 1) n) ≡ [] → NoneEnds bytes i (i + suc n)
    by_test again true e k = absurd (cc)
    by_test again false e k =
        let count : i + suc n ≡ i + 1 + n = omega arith in
        rw count (none-here bytes i (i + 1 + n) e (again k))

-- a stretch in which none ends
pub plain-stretch : (bytes : List ℕ) (i j : ℕ) → i ≤ j → j ≤ length bytes → NoneEnds bytes i j → IsPlain (take (j - i) (drop i bytes))
plain-stretch bytes i j l m none =
    let count : length (take (j - i) (drop i bytes)) ≡ j - i = length-take-le (j - i) (drop i bytes) (omega (arith, length-drop i bytes)) in
    plain-all (take (j - i) (drop i bytes)) (λ k h.
    let there : slice_index_or (take (j - i) (drop i bytes)) k 0 ≡ slice_index_or bytes (i + k) 0 = get_or-take (j - i) (drop i bytes) k 0 (omega (arith, count, h)) ∙ get_or-drop i bytes k 0 in
    ap (is_byte2 13 10) there ∙ none (i + k) (omega arith) (omega (arith, count, h)))

pub plain-rest : (bytes : List ℕ) (i : ℕ) → i ≤ length bytes → NoneEnds bytes i (i + (length bytes - i)) → IsPlain (drop i bytes)
plain-rest bytes i l none =
    let whole : take (length bytes - i) (drop i bytes) ≡ drop i bytes = take_all (length bytes - i) (drop i bytes) (omega (arith, length-drop i bytes)) in
    rw (← whole) (plain-stretch bytes i (length bytes) l (omega arith) (λ k m h. none k m (omega (arith, l, h))))
