-- Names and tokens: what is read is their grammar.
use Rattle.std.proofs.Common.{◌≡◌, ℕ, ◌+◌, ◌≤◌, inl, inr, zero, suc, List, [], ◌∷◌, ◌++◌, length, take, drop, refl, sym, ap, ◌∙◌, arith, append_assoc, append-nil, take-append-drop, cond, Bool, true, false, not, ◌==◌, ◌&&◌, Option, None, Some}
use Rattle.std.proofs.lemmas.Bool.{eqb-true}
use Rattle.std.proofs.lemmas.Bool.Decides.{nat_tests}
use Rattle.std.proofs.lemmas.List.Sums.{prefix_len-le-length}
use Rattle.std.specs.List.{list_all, prefix_len}
use Rattle.sgml_esis.specs.Grammar.{is_word_byte, is_word, AreWords, is_none}
use Rattle.sgml_esis.specs.Spelling.{spell_names}
use Rattle.sgml_esis.specs.Reading.{word_of, words_ended, words_on, words_of, strip, split_of}
use Rattle.sgml_esis.proofs.Units.{guard, pick, chosen, some_is}

pub both : (a b : Bool) → (a && b) ≡ true → (a ≡ true) × (b ≡ true)
both true true h = (refl, refl)
both true false h = absurd (cc)
both false true h = absurd (cc)
both false false h = absurd (cc)

pub not_false : (t : Bool) → not t ≡ true → t ≡ false
not_false true h = absurd (cc)
not_false false h = refl

pub tested : {A : Type 0} (t : Bool) (x : Option A) (y : A) → cond t x None ≡ Some y → (t ≡ true) × (x ≡ Some y)
tested true x y h = (refl, h)
tested false x y h = absurd (cc)

pub word_read : (w : List ℕ) → is_word w ≡ true → word_of w ≡ Some w
word_read w h = ap (λ t. cond t (Some w) None) h

pub word_is : (bytes w : List ℕ) → word_of bytes ≡ Some w → (is_word w ≡ true) × (bytes ≡ w)
word_is bytes w h =
    let p = chosen (is_word bytes) bytes w h in
    (sym (ap is_word p.1) ∙ p.0, p.1)

pub in_word : (w : List ℕ) → is_word w ≡ true → list_all is_word_byte w ≡ true
in_word [] h = absurd (cc)
in_word (b ∷ bs) h = h

not_none : (w : List ℕ) → is_word w ≡ true → is_none w ≡ false
not_none [] h = absurd (cc)
not_none (b ∷ bs) h = refl

is_word_from : (w : List ℕ) → is_none w ≡ false → list_all is_word_byte w ≡ true → is_word w ≡ true
is_word_from [] n h = absurd (cc)
is_word_from (b ∷ bs) n h = h

-- a word's bytes are taken one by one
words_run : (w : List ℕ) (done : List (List ℕ)) (word rest : List ℕ) → list_all is_word_byte w ≡ true → words_on done word (w ++ rest) ≡ words_on done (word ++ w) rest
words_run [] done word rest h = ap (λ v. words_on done v rest) (sym (append-nil word))
words_run (b ∷ bs) done word rest h =
    let p = both (is_word_byte b) (list_all is_word_byte bs) h in
    ap (λ t. cond t (words_on done (word ++ b ∷ []) (bs ++ rest)) (cond (b == 32 && not (is_none word)) (words_on (done ++ word ∷ []) [] (bs ++ rest)) None)) p.0
    ∙ words_run bs done (word ++ b ∷ []) rest p.1 ∙ ap (λ v. words_on done v rest) (append_assoc word (b ∷ []) bs)

words_read_on : (ws : List (List ℕ)) (done : List (List ℕ)) (bytes : List ℕ) → AreWords ws bytes → (tail : List ℕ) × (bytes ≡ 32 ∷ tail) × (words_on done [] tail ≡ Some (done ++ ws))
words_read_on [] done bytes h = absurd h
words_read_on (w ∷ []) done bytes (is, at) = (
  w,
  at,
  ap (words_on done []) (sym (append-nil w)) ∙ words_run w done [] [] (in_word w is) ∙ ap (λ t. cond t None (Some (done ++ w ∷ []))) (not_none w is),
)
words_read_on (w ∷ next ∷ ws) done bytes (rest, is, at, more) =
    let later = words_read_on (next ∷ ws) (done ++ w ∷ []) rest more in (
      w ++ 32 ∷ later.0,
      at ∙ ap (λ v. 32 ∷ w ++ v) later.1,
      words_run w done [] (32 ∷ later.0) (in_word w is) ∙ ap (λ t. cond (not t) (words_on (done ++ w ∷ []) [] later.0) None) (not_none w is) ∙ later.2 ∙ ap Some (append_assoc done (w ∷ []) (next ∷ ws)),
    )

pub words_read : (ws : List (List ℕ)) (bytes : List ℕ) → AreWords ws bytes → words_of bytes ≡ Some ws
words_read ws bytes h =
    let p = words_read_on ws [] bytes h in
    ap words_of p.1 ∙ p.2

-- words that were read, and their bytes
abbrev Worded : List (List ℕ) → List ℕ → List ℕ → List (List ℕ) → Type 0
Worded done word bytes ws = (more : List (List ℕ)) × (ws ≡ done ++ more) × AreWords more (32 ∷ word ++ bytes)

ended_worded : (done : List (List ℕ)) (word : List ℕ) (ws : List (List ℕ)) → list_all is_word_byte word ≡ true → words_ended done word ≡ Some ws → Worded done word [] ws
ended_worded done word ws all h =
    let p = guard (is_none word) ws (Some (done ++ word ∷ [])) h in
    (word ∷ [], sym (some_is (done ++ word ∷ []) ws p.1), (is_word_from word p.0 all, ap (λ v. 32 ∷ v) (append-nil word)))

all_more : (word : List ℕ) (b : ℕ) → list_all is_word_byte word ≡ true → is_word_byte b ≡ true → list_all is_word_byte (word ++ b ∷ []) ≡ true
all_more [] b h k = ap (λ t. t && true) k
all_more (c ∷ cs) b h k =
    let p = both (is_word_byte c) (list_all is_word_byte cs) h in
    ap (λ t. t && list_all is_word_byte (cs ++ b ∷ [])) p.0 ∙ all_more cs b p.1 k

another : (more : List (List ℕ)) (word rest : List ℕ) → is_word word ≡ true → AreWords more (32 ∷ rest) → AreWords (word ∷ more) (32 ∷ word ++ 32 ∷ rest)
another [] word rest is h = absurd h
another (w ∷ ws) word rest is h = (32 ∷ rest, is, refl, h)

worded_on : (bytes : List ℕ) (done : List (List ℕ)) (word : List ℕ) (ws : List (List ℕ)) → list_all is_word_byte word ≡ true → words_on done word bytes ≡ Some ws → Worded done word bytes ws
worded_on [] done word ws all h = ended_worded done word ws all h
worded_on (b ∷ bs) done word ws all h =
    let R : Type 0 = Worded done word (b ∷ bs) ws in
    let X : Option (List (List ℕ)) = words_on done (word ++ b ∷ []) bs in
    let Y : Option (List (List ℕ)) = words_on (done ++ word ∷ []) [] bs in
    let inside : (is_word_byte b ≡ true) × (X ≡ Some ws) → R = λ p.
    let s = worded_on bs done (word ++ b ∷ []) ws (all_more word b all p.0) p.1 in
    let e : word ++ b ∷ bs ≡ (word ++ b ∷ []) ++ bs = sym (append_assoc word (b ∷ []) bs) in
    (s.0, s.1, rw e s.2) in
    let outside : (is_word_byte b ≡ false) × (cond (b == 32 && not (is_none word)) Y None ≡ Some ws) → R = λ p.
    elim (pick (b == 32 && not (is_none word)) Y None (Some ws) p.1) [
      | inl q ↦
          let t = both (b == 32) (not (is_none word)) q.0 in
          let s = worded_on bs (done ++ word ∷ []) [] ws refl q.1 in
          let e : b ≡ 32 = eqb-true b 32 t.0 in
          let n : is_none word ≡ false = not_false (is_none word) t.1 in
          (word ∷ s.0, s.1 ∙ append_assoc done (word ∷ []) s.0, rw e (another s.0 word bs (is_word_from word n all) s.2))
      | inr q ↦ absurd (let e : None ≡ Some ws = q.1 in cc)
    ] in
    elim (pick (is_word_byte b) X (cond (b == 32 && not (is_none word)) Y None) (Some ws) h) [ inl p ↦ inside p | inr p ↦ outside p ]

pub words_are : (bytes : List ℕ) (ws : List (List ℕ)) → words_of bytes ≡ Some ws → AreWords ws bytes
words_are [] ws h = absurd (cc)
words_are (b ∷ bs) ws h =
    let p = tested (b == 32) (words_on [] [] bs) ws h in
    let e : b ≡ 32 = eqb-true b 32 p.0 in
    let s = worded_on bs [] [] ws refl p.1 in
    let a : AreWords ws (32 ∷ bs) = rw (s.1) (s.2) in
    rw e a

-- a word's spelling
pub words_spelled : (ws : List (List ℕ)) (bytes : List ℕ) → AreWords ws bytes → bytes ≡ spell_names ws
words_spelled [] bytes h = absurd h
words_spelled (w ∷ []) bytes (is, at) = at ∙ ap (λ v. 32 ∷ v) (sym (append-nil w))
words_spelled (w ∷ next ∷ ws) bytes (rest, is, at, more) = at ∙ ap (λ v. 32 ∷ w ++ v) (words_spelled (next ∷ ws) rest more)

-- what follows a word at the front
pub strip_is : (w bytes rest : List ℕ) → strip w bytes ≡ Some rest → bytes ≡ w ++ rest
strip_is [] bytes rest h = some_is bytes rest h
strip_is (c ∷ cs) [] rest h = absurd (cc)
strip_is (c ∷ cs) (b ∷ bs) rest h =
    let p = tested (c == b) (strip cs bs) rest h in
    ap (λ v. v ∷ bs) (sym (eqb-true c b p.0)) ∙ ap (λ v. c ∷ v) (strip_is cs bs rest p.1)

-- a name at the front
run_at : (w rest : List ℕ) → list_all is_word_byte w ≡ true → prefix_len is_word_byte (w ++ 32 ∷ rest) ≡ length w
run_at [] rest h = refl
run_at (b ∷ bs) rest h =
    let p = both (is_word_byte b) (list_all is_word_byte bs) h in
    let one : 1 + length bs ≡ suc (length bs) = omega arith in
    ap (λ t. cond t (1 + prefix_len is_word_byte (bs ++ 32 ∷ rest)) 0) p.0 ∙ ap (λ n. 1 + n) (run_at bs rest p.1) ∙ one

pub take_front : (w rest : List ℕ) → take (length w) (w ++ rest) ≡ w
take_front [] rest = refl
take_front (b ∷ bs) rest = ap (λ v. b ∷ v) (take_front bs rest)

pub drop_front : (w rest : List ℕ) → drop (length w) (w ++ rest) ≡ rest
drop_front [] rest = refl
drop_front (b ∷ bs) rest = drop_front bs rest

pub suc_not_zero : (n : ℕ) → (suc n == 0) ≡ false
suc_not_zero n = grind (arith, nat_tests)

some_length : (w : List ℕ) → is_word w ≡ true → (length w == 0) ≡ false
some_length [] h = absurd (cc)
some_length (b ∷ bs) h = suc_not_zero (length bs)

pub split_read : (w rest : List ℕ) → is_word w ≡ true → split_of (w ++ 32 ∷ rest) ≡ Some (w, 32 ∷ rest)
split_read w rest is =
    let bytes : List ℕ = w ++ 32 ∷ rest in
    ap (λ n. cond (n == 0) None (Some (take n bytes, drop n bytes))) (run_at w rest (in_word w is))
    ∙ ap (λ t. cond t None (Some (take (length w) bytes, drop (length w) bytes))) (some_length w is)
    ∙ ap (λ v. Some (v, drop (length w) bytes)) (take_front w (32 ∷ rest)) ∙ ap (λ v. Some (w, v)) (drop_front w (32 ∷ rest))

all_taken : (bytes : List ℕ) → list_all is_word_byte (take (prefix_len is_word_byte bytes) bytes) ≡ true
all_taken [] = refl
all_taken (b ∷ bs) =
    let P : Bool → Type 0 = λ t. is_word_byte b ≡ t → list_all is_word_byte (take (cond t (1 + prefix_len is_word_byte bs) 0) (b ∷ bs)) ≡ true in
    let yes : P true = λ h.
    let one : 1 + prefix_len is_word_byte bs ≡ suc (prefix_len is_word_byte bs) = omega arith in
    ap (λ n. list_all is_word_byte (take n (b ∷ bs))) one ∙ ap (λ t. t && list_all is_word_byte (take (prefix_len is_word_byte bs) bs)) h ∙ all_taken bs in
    let isnt : P false = λ h. refl in
    (elim (is_word_byte b) as P [ true ↦ yes | false ↦ isnt ]) refl

taken_none : (n : ℕ) (bytes : List ℕ) → n ≤ length bytes → (n == 0) ≡ false → is_none (take n bytes) ≡ false
taken_none zero bytes le h = absurd (cc)
taken_none (suc n) [] le h = absurd (omega arith)
taken_none (suc n) (b ∷ bs) le h = refl

pub split_is : (bytes w rest : List ℕ) → split_of bytes ≡ Some (w, rest) → (is_word w ≡ true) × (bytes ≡ w ++ rest)
split_is bytes w rest h =
    let n : ℕ = prefix_len is_word_byte bytes in
    let p = guard (n == 0) (w, rest) (Some (take n bytes, drop n bytes)) h in
    let e : (take n bytes, drop n bytes) ≡ (w, rest) = some_is (take n bytes, drop n bytes) (w, rest) p.1 in
    let front : take n bytes ≡ w = ap (λ v. v.0) e in
    let back : drop n bytes ≡ rest = ap (λ v. v.1) e in
    let is : is_word (take n bytes) ≡ true = is_word_from (take n bytes) (taken_none n bytes (prefix_len-le-length is_word_byte bytes) p.0) (all_taken bytes) in
    (sym (ap is_word front) ∙ is, sym (take-append-drop n bytes) ∙ ap (λ v. v ++ drop n bytes) front ∙ ap (λ v. w ++ v) back)
