-- The sorts of words, as `clap` tells them apart.
use Rattle.std.proofs.Common.{◌≡◌, ◌∙◌, ◌==◌, ℕ, Bool, true, false, refl, sym, ap, subst, [], ◌∷◌, Option, Some, None, bytes_eq, slice_get, chars, IsUtf8, eqb-true, encode_utf8_all}
use Rattle.std.proofs.lemmas.Str.{IsUtf8-past_char, encodes-chars}
use Rattle.std.specs.Char.{encode_utf8}
use Rattle.clap.specs.Lexer.{long_of, short_of, name_and_value}
use Rattle.clap.specs.Walk.{Text}
use Rattle.sgml_words.specs.Words.{dashes, may_stand}

-- ---- the sorts of words

pub data Sort (w : Text) : Type 0 where
  closes : w ≡ dashes → Sort w
  long : (name : Text) (value : Option Text) → bytes_eq w dashes ≡ false → long_of w ≡ Some (name, value)
      → may_stand w ≡ false → Sort w
  short : (flag b : ℕ) (bs : Text) → bytes_eq w dashes ≡ false → long_of w ≡ None → short_of w ≡ Some (b ∷ bs)
      → slice_get (chars (b ∷ bs)) 0 ≡ Some flag
      → may_stand w ≡ false → Sort w
  plain : bytes_eq w dashes ≡ false → long_of w ≡ None → short_of w ≡ None → may_stand w ≡ true → Sort w

-- of text the part after `-` has a character
pub tail_utf8 : (bs : Text) → IsUtf8 (45 ∷ bs) → IsUtf8 bs
unfolding encode_utf8
tail_utf8 bs utf8 = IsUtf8-past_char (45 ∷ bs) bs 45 utf8 refl

pub first_char : (b : ℕ) (bs cs : Text) → IsUtf8 (b ∷ bs) → chars (b ∷ bs) ≡ cs
    → (x : ℕ) × (slice_get (chars (b ∷ bs)) 0 ≡ Some x)
first_char b bs [] utf8 e =
    let none : [] ≡ b ∷ bs = ap encode_utf8_all (sym e) ∙ encodes-chars (b ∷ bs) utf8 in
    absurd cc
first_char b bs (c ∷ cs) utf8 e = (c, ap (λ xs. slice_get xs 0) e)

-- a word that begins with a hyphen and has more
pub hyphened : (c : ℕ) (bs : Text) (t : Bool) → (c == 45) ≡ t → IsUtf8 (c ∷ bs) → Sort (45 ∷ c ∷ bs)
hyphened c bs false e utf8 =
    let first = first_char c bs (chars (c ∷ bs)) utf8 refl in
    short first.0 c bs (rw e refl) (rw e refl) (rw e refl) first.1 refl
hyphened c [] true e utf8 = closes (rw (eqb-true c 45 e) refl)
hyphened c (d ∷ bs) true e utf8 =
    rw (eqb-true c 45 e) (long (name_and_value (d ∷ bs)).0 (name_and_value (d ∷ bs)).1 refl refl refl)

-- a word of two bytes or more
pub longer : (b c : ℕ) (bs : Text) (t : Bool) → (b == 45) ≡ t → IsUtf8 (b ∷ c ∷ bs) → Sort (b ∷ c ∷ bs)
longer b c bs false e utf8 = plain (rw e refl) (rw e refl) (rw e refl) (rw e refl)
longer b c bs true e utf8 =
    let is : b ≡ 45 = eqb-true b 45 e in
    subst (λ x. Sort (x ∷ c ∷ bs)) (sym is)
    (hyphened c bs (c == 45) refl (tail_utf8 (c ∷ bs) (subst (λ x. IsUtf8 (x ∷ c ∷ bs)) is utf8)))

pub lone : (b : ℕ) (t : Bool) → (b == 45) ≡ t → Sort (b ∷ [])
lone b true e = rw (eqb-true b 45 e) (plain refl refl refl refl)
lone b false e = plain (rw e refl) (rw e refl) (rw e refl) refl

pub sort_of : (w : Text) → IsUtf8 w → Sort w
sort_of [] utf8 = plain refl refl refl refl
sort_of (b ∷ []) utf8 = lone b (b == 45) refl
sort_of (b ∷ c ∷ bs) utf8 = longer b c bs (b == 45) refl utf8
