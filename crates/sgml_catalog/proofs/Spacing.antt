-- The bytes one by one make the words with a SPACE between any two.
use Rattle.std.proofs.Common.{◌≡◌, ◌≤◌, ℕ, zero, suc, Bool, true, false, cond, List, [], ◌∷◌, ◌++◌, fold, length, drop, arith, refl, sym, ap, ◌∙◌, append_assoc, append-nil}
use Rattle.sgml_catalog.specs.Words.{with_word, words_after, spaced, joined, single, Spaced, is_some_text, spaced_after}
use Rattle.sgml_text.specs.Characters.{is_separator}

abbrev made : Spaced → List ℕ → List ℕ
made s bytes = (fold spaced_after s bytes).0

at_separator : (s : Spaced) (b : ℕ) (bs : List ℕ) → is_separator b ≡ true → made s (b ∷ bs) ≡ made (s.0, is_some_text s.0) bs
at_separator s b bs is = ap (λ (x : Bool). made (cond x (s.0, is_some_text s.0) (s.0 ++ cond s.1 (32 ∷ b ∷ []) (b ∷ []), false)) bs) is

at_other : (s : Spaced) (b : ℕ) (bs : List ℕ) → is_separator b ≡ false → made s (b ∷ bs) ≡ made (s.0 ++ cond s.1 (32 ∷ b ∷ []) (b ∷ []), false) bs
at_other s b bs is = ap (λ (x : Bool). made (cond x (s.0, is_some_text s.0) (s.0 ++ cond s.1 (32 ∷ b ∷ []) (b ∷ []), false)) bs) is

words_end : (begun : List ℕ) (b : ℕ) (bs : List ℕ) → is_separator b ≡ true → with_word begun (words_after [] bs) ≡ words_after begun (b ∷ bs)
words_end begun b bs is = rw is refl

words_go : (begun : List ℕ) (b : ℕ) (bs : List ℕ) → is_separator b ≡ false → words_after (begun ++ b ∷ []) bs ≡ words_after begun (b ∷ bs)
words_go begun b bs is = rw is refl

some_byte : (x : Bool) (c : ℕ) (acc : List ℕ) (b : ℕ) (bs : List ℕ) → is_separator b ≡ x → spaced (words_after (c ∷ (acc ++ b ∷ [])) bs) ≡ 32 ∷ joined (words_after (c ∷ (acc ++ b ∷ [])) bs)
    → spaced (words_after (c ∷ acc) (b ∷ bs)) ≡ 32 ∷ joined (words_after (c ∷ acc) (b ∷ bs))
some_byte true c acc b bs is more = rw is refl
some_byte false c acc b bs is more = rw is more

-- a word is begun, so there is one
some_word : (c : ℕ) (acc bytes : List ℕ) → spaced (words_after (c ∷ acc) bytes) ≡ 32 ∷ joined (words_after (c ∷ acc) bytes)
some_word c acc [] = refl
some_word c acc (b ∷ bs) = some_byte (is_separator b) c acc b bs refl (some_word c (acc ++ b ∷ []) bs)

some_text : (pre : List ℕ) (c : ℕ) (acc : List ℕ) → is_some_text (pre ++ c ∷ acc) ≡ true
some_text [] c acc = refl
some_text (p ∷ ps) c acc = refl

word_byte : (x : Bool) (b : ℕ) (bs pre : List ℕ) (c : ℕ) (acc : List ℕ) → is_separator b ≡ x → made (pre ++ c ∷ acc, true) bs ≡ (pre ++ c ∷ acc) ++ spaced (words_after [] bs)
    → made (pre ++ c ∷ (acc ++ b ∷ []), false) bs ≡ pre ++ joined (words_after (c ∷ (acc ++ b ∷ [])) bs) → made (pre ++ c ∷ acc, false) (b ∷ bs) ≡ pre ++ joined (words_after (c ∷ acc) (b ∷ bs))
word_byte true b bs pre c acc is ended more =
    at_separator (pre ++ c ∷ acc, false) b bs is
    ∙ (ap (λ (o : Bool). made (pre ++ c ∷ acc, o) bs) (some_text pre c acc)
    ∙ (ended ∙ (append_assoc pre (c ∷ acc) (spaced (words_after [] bs)) ∙ ap (λ (ws : List (List ℕ)). pre ++ joined ws) (words_end (c ∷ acc) b bs is))))
word_byte false b bs pre c acc is ended more =
    at_other (pre ++ c ∷ acc, false) b bs is
    ∙ (ap (λ (t : List ℕ). made (t, false) bs) (append_assoc pre (c ∷ acc) (b ∷ [])) ∙ (more ∙ ap (λ (ws : List (List ℕ)). pre ++ joined ws) (words_go (c ∷ acc) b bs is)))

between_byte : (x : Bool) (b : ℕ) (bs text : List ℕ) → is_some_text text ≡ true → is_separator b ≡ x → made (text, true) bs ≡ text ++ spaced (words_after [] bs)
    → made ((text ++ 32 ∷ []) ++ b ∷ [], false) bs ≡ (text ++ 32 ∷ []) ++ joined (words_after (b ∷ []) bs) → made (text, true) (b ∷ bs) ≡ text ++ spaced (words_after [] (b ∷ bs))
between_byte true b bs text some is again begun =
    at_separator (text, true) b bs is ∙ (ap (λ (o : Bool). made (text, o) bs) some ∙ (again ∙ ap (λ (ws : List (List ℕ)). text ++ spaced ws) (words_end [] b bs is)))
between_byte false b bs text some is again begun =
    at_other (text, true) b bs is
    ∙ (ap (λ (t : List ℕ). made (t, false) bs) (sym (append_assoc text (32 ∷ []) (b ∷ [])))
    ∙ (begun ∙ (append_assoc text (32 ∷ []) (joined (words_after (b ∷ []) bs))
    ∙ (ap (λ (t : List ℕ). text ++ t) (sym (some_word b [] bs)) ∙ ap (λ (ws : List (List ℕ)). text ++ spaced ws) (words_go [] b bs is)))))

mutual
  -- within a word
  in_word : (bytes pre : List ℕ) (c : ℕ) (acc : List ℕ) → made (pre ++ c ∷ acc, false) bytes ≡ pre ++ joined (words_after (c ∷ acc) bytes)
  in_word [] pre c acc = ap (λ (t : List ℕ). pre ++ t) (sym (append-nil (c ∷ acc)))
  in_word (b ∷ bs) pre c acc = word_byte (is_separator b) b bs pre c acc refl (between bs (pre ++ c ∷ acc) (some_text pre c acc)) (in_word bs pre c (acc ++ b ∷ []))

  -- after a word
  between : (bytes text : List ℕ) → is_some_text text ≡ true → made (text, true) bytes ≡ text ++ spaced (words_after [] bytes)
  between [] text some = sym (append-nil text)
  between (b ∷ bs) text some = between_byte (is_separator b) b bs text some refl (between bs text some) (in_word bs (text ++ 32 ∷ []) b [])

first_byte : (x : Bool) (b : ℕ) (bs : List ℕ) → is_separator b ≡ x → made ([], false) bs ≡ joined (words_after [] bs) → made (b ∷ [], false) bs ≡ joined (words_after (b ∷ []) bs) → made ([], false) (b ∷ bs) ≡ joined (words_after [] (b ∷ bs))
first_byte true b bs is again begun = at_separator ([], false) b bs is ∙ (again ∙ ap joined (words_end [] b bs is))
first_byte false b bs is again begun = at_other ([], false) b bs is ∙ (begun ∙ ap joined (words_go [] b bs is))

-- from the first byte on
pub made_single : (bytes : List ℕ) → (fold spaced_after ([], false) bytes).0 ≡ single bytes
made_single [] = refl
made_single (b ∷ bs) = first_byte (is_separator b) b bs refl (made_single bs) (in_word bs [] b [])

pub none_left : (n : ℕ) (xs : List ℕ) → length xs ≤ n → drop n xs ≡ []
none_left zero [] h = refl
none_left zero (x ∷ xs) h = absurd (omega arith)
none_left (suc n) [] h = refl
none_left (suc n) (x ∷ xs) h = none_left n xs (omega arith)
