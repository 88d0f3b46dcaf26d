-- The words of a text are those that separators part.
use Rattle.std.proofs.Common.{◌≡◌, ◌<◌, ◌≢◌, ℕ, zero, suc, Bool, true, false, List, [], ◌∷◌, ◌++◌, length, All, arith, refl, sym, ap, ◌∙◌, subst, append_assoc, append-nil}
use Rattle.std.proofs.lemmas.List.Elements.{All-append, All-cons, All-head, All-tail}
use Rattle.sgml_text.specs.Characters.{is_separator}
use Rattle.sgml_catalog.specs.Words.{with_word, words_after, joined, single, IsWord, IsParted, AreWords}

abbrev AreSeparators : List ℕ → Type 0
AreSeparators text = All (λ b. is_separator b ≡ true) text

abbrev AreOthers : List ℕ → Type 0
AreOthers text = All (λ b. is_separator b ≡ false) text

none : (P : ℕ → Type 0) → All P []
none P k d lt = absurd (omega (arith, lt))

-- ANY WORDS OF A TEXT ARE THOSE THAT ARE TAKEN FROM IT

blank_goes : (blank text : List ℕ) → AreSeparators blank → words_after [] (blank ++ text) ≡ words_after [] text
blank_goes [] text h = refl
blank_goes (b ∷ bs) text h = rw (All-head (λ x. is_separator x ≡ true) b bs h) (blank_goes bs text (All-tail (λ x. is_separator x ≡ true) b bs h))

word_goes : (w begun text : List ℕ) → AreOthers w → words_after begun (w ++ text) ≡ words_after (begun ++ w) text
word_goes [] begun text h = ap (λ (g : List ℕ). words_after g text) (sym (append-nil begun))
word_goes (b ∷ bs) begun text h =
    rw (All-head (λ x. is_separator x ≡ false) b bs h)
    (word_goes bs (begun ++ b ∷ []) text (All-tail (λ x. is_separator x ≡ false) b bs h) ∙ ap (λ (g : List ℕ). words_after g text) (append_assoc begun (b ∷ []) bs))

word_ends : (w rest : List ℕ) → 0 < length w → IsParted rest → words_after w rest ≡ w ∷ words_after [] rest
word_ends [] rest some parted = absurd (omega (arith, some))
word_ends (c ∷ cs) [] some parted = refl
word_ends (c ∷ cs) (b ∷ bs) some parted = rw parted refl

only : (words : List (List ℕ)) (text : List ℕ) → AreWords words text → words_after [] text ≡ words
only [] text h = ap (λ (t : List ℕ). words_after [] t) (sym (append-nil text)) ∙ blank_goes text [] h
only (w ∷ words) text (blank, rest, is, blanks, word, parted, more) =
    ap (λ (t : List ℕ). words_after [] t) is
    ∙ (blank_goes blank (w ++ rest) blanks
    ∙ (word_goes w [] rest word.whole
    ∙ (word_ends w rest word.some parted ∙ ap (λ (ws : List (List ℕ)). w ∷ ws) (only words rest more))))

pub one_spacing : (words : List (List ℕ)) (text : List ℕ) → AreWords words text → single text ≡ joined words
one_spacing words text h = ap joined (only words text h)

-- EACH TEXT HAS ITS WORDS

behind_separator : (words : List (List ℕ)) (b : ℕ) (text : List ℕ) → is_separator b ≡ true → AreWords words text → AreWords words (b ∷ text)
behind_separator [] b text is h = All-cons (λ x. is_separator x ≡ true) b text is h
behind_separator (w ∷ words) b text is (blank, rest, same, blanks, word, parted, more) =
    (b ∷ blank, rest, ap (λ (t : List ℕ). b ∷ t) same, All-cons (λ x. is_separator x ≡ true) b blank is blanks, word, parted, more)

with_one : (begun : List ℕ) (words : List (List ℕ)) (rest : List ℕ) → AreOthers begun → IsParted rest → AreWords words rest → AreWords (with_word begun words) (begun ++ rest)
with_one [] words rest others parted more = more
with_one (c ∷ cs) words rest others parted more =
    ([], rest, refl, none (λ x. is_separator x ≡ true), record { some = omega arith; whole = others }, parted, more)

by_byte : (x : Bool) (begun : List ℕ) (b : ℕ) (bs : List ℕ) → AreOthers begun → is_separator b ≡ x → ((g : List ℕ) → AreOthers g → AreWords (words_after g bs) (g ++ bs)) → AreWords (words_after begun (b ∷ bs)) (begun ++ b ∷ bs)
by_byte true begun b bs others is more =
    rw is (with_one begun (words_after [] bs) (b ∷ bs) others is (behind_separator (words_after [] bs) b bs is (more [] (none (λ x. is_separator x ≡ false)))))
by_byte false begun b bs others is more =
    rw is (subst (λ (t : List ℕ). AreWords (words_after (begun ++ b ∷ []) bs) t) (append_assoc begun (b ∷ []) bs)
    (more (begun ++ b ∷ []) (All-append (λ x. is_separator x ≡ false) begun (b ∷ []) others (All-cons (λ x. is_separator x ≡ false) b [] is (none (λ x. is_separator x ≡ false))))))

are_words : (begun text : List ℕ) → AreOthers begun → AreWords (words_after begun text) (begun ++ text)
are_words begun [] others = with_one begun [] [] others _ (none (λ x. is_separator x ≡ true))
are_words begun (b ∷ bs) others = by_byte (is_separator b) begun b bs others refl (λ g h. are_words g bs h)

pub each_has_words : (text : List ℕ) → AreWords (words_after [] text) text
each_has_words text = are_words [] text (none (λ x. is_separator x ≡ false))
