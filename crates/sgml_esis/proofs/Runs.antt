-- Stretches of bytes, read at once.
use Rattle.std.proofs.Common.{◌≡◌, ◌≢◌, ◌⊎◌, inl, inr, ℕ, ◌+◌, ◌%◌, zero, suc, List, [], ◌∷◌, ◌++◌, length, map, take, drop, refl, sym, ap, subst, ◌∙◌, arith, append_assoc, append-nil, cond, Bool, true, false, not, ◌==◌, ◌&&◌, Option, None, Some}
use Rattle.std.proofs.lemmas.Bool.Decides.{nat_tests}
use Rattle.std.proofs.lemmas.List.{take_all, drop_all}
use Rattle.std.specs.List.{prefix_len, list_all, count_by}
use Rattle.sgml_esis.specs.Spelling.{spell_byte, spell_escaped}
use Rattle.sgml_esis.specs.declared.line.EscUnit.{EscUnit}
use Rattle.sgml_esis.specs.declared.line.EscUnit.TheVariants as units
use Rattle.sgml_esis.specs.declared.escapes.Mode.TheVariants as modes
use Rattle.sgml_esis.specs.Grammar.{is_word_byte, is_none, is_bar}
use Rattle.sgml_esis.specs.Plain.{is_plain}
use Rattle.sgml_esis.specs.Reading.{on_some, unit_in, mode_in, units_on, paired_only, text_of, words_on, strip}

plain_unit : (b : ℕ) → is_plain b ≡ true → unit_in modes.Plain b ≡ Some (units.Byte b)
plain_unit b h = grind (arith, nat_tests)

one_more : (n : ℕ) → 1 + n ≡ suc n
one_more n = omega arith

-- a stretch goes on with its first byte, or has none
first_of_run : (p : ℕ → Bool) (b : ℕ) (bs : List ℕ)
    → ((p b ≡ true) × (prefix_len p (b ∷ bs) ≡ suc (prefix_len p bs))) ⊎ ((p b ≡ false) × (prefix_len p (b ∷ bs) ≡ zero))
first_of_run p b bs = by (p b) refl
  where
    by : (t : Bool) → p b ≡ t → ((p b ≡ true) × (prefix_len p (b ∷ bs) ≡ suc (prefix_len p bs))) ⊎ ((p b ≡ false) × (prefix_len p (b ∷ bs) ≡ zero))
    by true h = inl (h, ap (λ t. cond t (1 + prefix_len p bs) 0) h ∙ one_more (prefix_len p bs))
    by false h = inr (h, ap (λ t. cond t (1 + prefix_len p bs) 0) h)

abbrev PlainFront : List EscUnit → List ℕ → ℕ → Type 0
PlainFront done bs n = units_on done modes.Plain bs ≡ units_on (done ++ map units.Byte (take n bs)) modes.Plain (drop n bs)

plain_step : (b : ℕ) (bs : List ℕ) (done : List EscUnit) → PlainFront (done ++ units.Byte b ∷ []) bs (prefix_len is_plain bs)
    → ((is_plain b ≡ true) × (prefix_len is_plain (b ∷ bs) ≡ suc (prefix_len is_plain bs))) ⊎ ((is_plain b ≡ false) × (prefix_len is_plain (b ∷ bs) ≡ zero))
    → PlainFront done (b ∷ bs) (prefix_len is_plain (b ∷ bs))
plain_step b bs done later (inl (h, n)) =
    subst (PlainFront done (b ∷ bs)) (sym n)
    (ap (λ u. on_some u (λ x. units_on (done ++ x ∷ []) modes.Plain bs) (on_some (mode_in modes.Plain b) (λ next. units_on done next bs) None)) (plain_unit b h)
    ∙ later ∙ ap (λ v. units_on v modes.Plain (drop (prefix_len is_plain bs) bs)) (append_assoc done (units.Byte b ∷ []) (map units.Byte (take (prefix_len is_plain bs) bs))))
plain_step b bs done later (inr (h, n)) = subst (PlainFront done (b ∷ bs)) (sym n) (ap (λ v. units_on v modes.Plain (b ∷ bs)) (sym (append-nil done)))

-- a stretch of bytes that stand for themselves
pub plain_front : (bs : List ℕ) (done : List EscUnit) → PlainFront done bs (prefix_len is_plain bs)
plain_front [] done = ap (λ v. units_on v modes.Plain []) (sym (append-nil done))
plain_front (b ∷ bs) done = plain_step b bs done (plain_front bs (done ++ units.Byte b ∷ [])) (first_of_run is_plain b bs)

pub plain_start : (bs : List ℕ) (n : ℕ) → n ≡ prefix_len is_plain bs → units_on (map units.Byte (take n bs)) modes.Plain (drop n bs) ≡ units_on [] modes.Plain bs
plain_start bs n e = sym (subst (PlainFront [] bs) (sym e) (plain_front bs []))

no_bars : (bs : List ℕ) → count_by is_bar (map units.Byte bs) ≡ zero
no_bars [] = refl
no_bars (b ∷ bs) = no_bars bs

all_taken : (bs : List ℕ) → take (length bs) bs ≡ bs
all_taken bs = take_all (length bs) bs (omega arith)

none_left : (bs : List ℕ) → drop (length bs) bs ≡ []
none_left bs = drop_all (length bs) bs (omega arith)

-- a text that has nothing else
pub plain_text : (bs : List ℕ) → prefix_len is_plain bs ≡ length bs → text_of bs ≡ Some (map units.Byte bs)
plain_text bs h =
    let start : units_on (map units.Byte (take (length bs) bs)) modes.Plain (drop (length bs) bs) ≡ units_on [] modes.Plain bs = plain_start bs (length bs) (sym h) in
    let whole : units_on [] modes.Plain bs ≡ Some (map units.Byte bs) =
    sym start ∙ ap (λ v. units_on (map units.Byte v) modes.Plain (drop (length bs) bs)) (all_taken bs) ∙ ap (λ v. units_on (map units.Byte bs) modes.Plain v) (none_left bs) in
    ap (λ r. on_some r paired_only None) whole ∙ ap (λ n. cond (n % 2 == 0) (Some (map units.Byte bs)) None) (no_bars bs)

-- what follows a word, or the end
abbrev after : List (List ℕ) → List ℕ → List ℕ → Option (List (List ℕ))
after done word [] = Some (done ++ word ∷ [])
after done word (b ∷ bs) = cond (b == 32) (words_on (done ++ word ∷ []) [] bs) None

never_none : (word : List ℕ) (b : ℕ) → is_none (word ++ b ∷ []) ≡ false
never_none [] b = refl
never_none (w ∷ ws) b = refl

and_true : (t : Bool) → (t && true) ≡ t
and_true true = refl
and_true false = refl

and_false : (t : Bool) → (t && false) ≡ false
and_false true = refl
and_false false = refl

abbrev RunOn : List (List ℕ) → List ℕ → List ℕ → ℕ → Type 0
RunOn done word bs n = words_on done word bs ≡ after done (word ++ take n bs) (drop n bs)

run_step : (b : ℕ) (bs : List ℕ) (done : List (List ℕ)) (word : List ℕ) → is_none word ≡ false → RunOn done (word ++ b ∷ []) bs (prefix_len is_word_byte bs)
    → ((is_word_byte b ≡ true) × (prefix_len is_word_byte (b ∷ bs) ≡ suc (prefix_len is_word_byte bs))) ⊎ ((is_word_byte b ≡ false) × (prefix_len is_word_byte (b ∷ bs) ≡ zero))
    → RunOn done word (b ∷ bs) (prefix_len is_word_byte (b ∷ bs))
run_step b bs done word some later (inl (h, n)) =
    subst (RunOn done word (b ∷ bs)) (sym n)
    (ap (λ t. cond t (words_on done (word ++ b ∷ []) bs) (cond (b == 32 && not (is_none word)) (words_on (done ++ word ∷ []) [] bs) None)) h
    ∙ later ∙ ap (λ v. after done v (drop (prefix_len is_word_byte bs) bs)) (append_assoc word (b ∷ []) (take (prefix_len is_word_byte bs) bs)))
run_step b bs done word some later (inr (h, n)) =
    subst (RunOn done word (b ∷ bs)) (sym n)
    (ap (λ t. cond t (words_on done (word ++ b ∷ []) bs) (cond (b == 32 && not (is_none word)) (words_on (done ++ word ∷ []) [] bs) None)) h
    ∙ ap (λ t. cond (b == 32 && not t) (words_on (done ++ word ∷ []) [] bs) None) some
    ∙ ap (λ t. cond t (words_on (done ++ word ∷ []) [] bs) None) (and_true (b == 32))
    ∙ ap (λ v. cond (b == 32) (words_on (done ++ v ∷ []) [] bs) None) (sym (append-nil word)))

run_on : (bs : List ℕ) (done : List (List ℕ)) (word : List ℕ) → is_none word ≡ false → RunOn done word bs (prefix_len is_word_byte bs)
run_on [] done word h = ap (λ t. cond t None (Some (done ++ word ∷ []))) h ∙ ap (λ v. Some (done ++ v ∷ [])) (sym (append-nil word))
run_on (b ∷ bs) done word h = run_step b bs done word h (run_on bs done (word ++ b ∷ []) (never_none word b)) (first_of_run is_word_byte b bs)

first_step : (b : ℕ) (bs : List ℕ) (done : List (List ℕ)) → prefix_len is_word_byte (b ∷ bs) ≢ 0
    → ((is_word_byte b ≡ true) × (prefix_len is_word_byte (b ∷ bs) ≡ suc (prefix_len is_word_byte bs))) ⊎ ((is_word_byte b ≡ false) × (prefix_len is_word_byte (b ∷ bs) ≡ zero))
    → RunOn done [] (b ∷ bs) (prefix_len is_word_byte (b ∷ bs))
first_step b bs done some (inl (h, n)) =
    subst (RunOn done [] (b ∷ bs)) (sym n)
    (ap (λ t. cond t (words_on done (b ∷ []) bs) (cond (b == 32 && false) (words_on (done ++ [] ∷ []) [] bs) None)) h ∙ run_on bs done (b ∷ []) refl)
first_step b bs done some (inr (h, n)) = absurd (some n)

-- a word, and what follows it
word_front : (bs : List ℕ) (done : List (List ℕ)) → prefix_len is_word_byte bs ≢ 0 → RunOn done [] bs (prefix_len is_word_byte bs)
word_front [] done h = absurd (h refl)
word_front (b ∷ bs) done h = first_step b bs done h (first_of_run is_word_byte b bs)

none_step : (b : ℕ) (bs : List ℕ) (done : List (List ℕ)) → prefix_len is_word_byte (b ∷ bs) ≡ 0
    → ((is_word_byte b ≡ true) × (prefix_len is_word_byte (b ∷ bs) ≡ suc (prefix_len is_word_byte bs))) ⊎ ((is_word_byte b ≡ false) × (prefix_len is_word_byte (b ∷ bs) ≡ zero))
    → words_on done [] (b ∷ bs) ≡ None
none_step b bs done z (inl (h, n)) = absurd (omega (arith, z, n))
none_step b bs done z (inr (h, n)) =
    ap (λ t. cond t (words_on done (b ∷ []) bs) (cond (b == 32 && false) (words_on (done ++ [] ∷ []) [] bs) None)) h
    ∙ ap (λ t. cond t (words_on (done ++ [] ∷ []) [] bs) None) (and_false (b == 32))

-- where no word begins
pub no_word : (bs : List ℕ) (done : List (List ℕ)) → prefix_len is_word_byte bs ≡ 0 → words_on done [] bs ≡ None
no_word [] done h = refl
no_word (b ∷ bs) done h = none_step b bs done h (first_of_run is_word_byte b bs)

word_at : (bs : List ℕ) (done : List (List ℕ)) (n : ℕ) → n ≡ prefix_len is_word_byte bs → n ≢ 0 → words_on done [] bs ≡ after done (take n bs) (drop n bs)
word_at bs done n e some = subst (RunOn done [] bs) (sym e) (word_front bs done (λ z. some (e ∙ z)))

none_nil : (bs : List ℕ) → is_none bs ≡ true → bs ≡ []
none_nil [] h = refl
none_nil (b ∷ bs) h = absurd (cc)

-- the ways on after a word
pub last_word : (bs : List ℕ) (done : List (List ℕ)) (n : ℕ) → n ≡ prefix_len is_word_byte bs → n ≢ 0 → is_none (drop n bs) ≡ true → words_on done [] bs ≡ Some (done ++ take n bs ∷ [])
last_word bs done n e some none = word_at bs done n e some ∙ ap (after done (take n bs)) (none_nil (drop n bs) none)

same_turned : (b : ℕ) → (b == 32) ≡ (32 == b)
same_turned b = grind (arith, nat_tests)

after_stripped : (done : List (List ℕ)) (word bs : List ℕ) → is_none bs ≡ false → after done word bs ≡ on_some (strip (32 ∷ []) bs) (λ more. words_on (done ++ word ∷ []) [] more) None
after_stripped done word [] some = absurd (cc)
after_stripped done word (b ∷ bs) some =
    ap (λ t. cond t (words_on (done ++ word ∷ []) [] bs) None) (same_turned b) ∙ by (32 == b)
  where
    by : (t : Bool) → cond t (words_on (done ++ word ∷ []) [] bs) None ≡ on_some (cond t (Some bs) None) (λ more. words_on (done ++ word ∷ []) [] more) None
    by true = refl
    by false = refl

pub next_word : (bs : List ℕ) (done : List (List ℕ)) (n : ℕ) (r : Option (List ℕ)) → n ≡ prefix_len is_word_byte bs → n ≢ 0 → is_none (drop n bs) ≡ false → r ≡ strip (32 ∷ []) (drop n bs)
    → words_on done [] bs ≡ on_some r (λ more. words_on (done ++ take n bs ∷ []) [] more) None
next_word bs done n r e some rest is =
    word_at bs done n e some ∙ after_stripped done (take n bs) (drop n bs) rest ∙ ap (λ o. on_some o (λ more. words_on (done ++ take n bs ∷ []) [] more) None) (sym is)

all_step : (b : ℕ) (bs : List ℕ) → (prefix_len is_plain bs ≡ length bs → list_all is_plain bs ≡ true) → prefix_len is_plain (b ∷ bs) ≡ suc (length bs)
    → ((is_plain b ≡ true) × (prefix_len is_plain (b ∷ bs) ≡ suc (prefix_len is_plain bs))) ⊎ ((is_plain b ≡ false) × (prefix_len is_plain (b ∷ bs) ≡ zero))
    → list_all is_plain (b ∷ bs) ≡ true
all_step b bs later h (inl (p, n)) = ap (λ t. t && list_all is_plain bs) p ∙ later (omega (arith, h, n))
all_step b bs later h (inr (p, n)) = absurd (omega (arith, h, n))

-- a stretch that goes to the end
pub all_plain : (bs : List ℕ) → prefix_len is_plain bs ≡ length bs → list_all is_plain bs ≡ true
all_plain [] h = refl
all_plain (b ∷ bs) h = all_step b bs (all_plain bs) h (first_of_run is_plain b bs)

plain_byte : (b : ℕ) → is_plain b ≡ true → spell_byte b ≡ b ∷ []
plain_byte b h = grind (arith, nat_tests)

halves : (a b : Bool) → (a && b) ≡ true → (a ≡ true) × (b ≡ true)
halves true true h = (refl, refl)
halves true false h = absurd (cc)
halves false b h = absurd (cc)

-- such bytes are spelled as they are
pub plain_spelled : (bs : List ℕ) → list_all is_plain bs ≡ true → bs ≡ spell_escaped (map units.Byte bs)
plain_spelled [] h = refl
plain_spelled (b ∷ bs) h =
    let p = halves (is_plain b) (list_all is_plain bs) h in
    ap (λ v. b ∷ v) (plain_spelled bs p.1) ∙ ap (λ v. v ++ spell_escaped (map units.Byte bs)) (sym (plain_byte b p.0))
