-- Tests of bytes: of those of names, and of the digits of small numbers.
use Rattle.std.proofs.Common.{◌≡◌, ◌≢◌, eq-eqb, ℕ, zero, suc, ◌<◌, Bool, true, false, not, ◌&&◌, ◌||◌, ◌==◌, nat_le, List, [], ◌∷◌, ◌++◌, refl, sym, ◌∙◌, ap, if◌then◌else◌, arith}
use Rattle.std.specs.Prelude.{decimal}
use Rattle.std.specs.Fmt.{digits}
use Rattle.std.specs.List.{list_all}
use Rattle.std.proofs.lemmas.Bool.{eqb-true}
use Rattle.std.proofs.lemmas.Bool.Decides.{nat_tests}
use Rattle.sgml_theory_values.specs.text.declared.name_set.NameSet.{NameSet}
use Rattle.sgml_theory_values.specs.text.Characters.{is_letter, is_digit}
use Rattle.sgml_theory_values.specs.text.NameCharacters.{is_marked, is_name_start, is_name_character, is_name_of}
use Rattle.sgml_theory_values.specs.markup.References.{number_of}
use Rattle.sgml_theory_values.specs.decl_parts.Bytes.{number_after}
use Rattle.sgml_theory_values.specs.full.Spelled.{is_itself}

-- BOOLEANS

pub true-false : {A : Type 0} → true ≡ false → A
true-false e = absurd (never e)
  where
    never : true ≡ false → ⊥
    never e = cc

pub and-true : (a b : Bool) → a ≡ true → b ≡ true → (a && b) ≡ true
and-true a b h k = rw h k

pub both : (a b : Bool) → (a && b) ≡ true → (a ≡ true) × (b ≡ true)
both true b h = (refl, h)
both false b h = true-false (sym h)

pub or-right : (a b : Bool) → b ≡ true → (a || b) ≡ true
or-right true b h = refl
or-right false b h = h

pub or-false : (a b : Bool) → (a || b) ≡ false → (a ≡ false) × (b ≡ false)
or-false true b h = true-false h
or-false false b h = (refl, h)

pub either : (a b : Bool) {A : Type 0} → (a || b) ≡ true → (a ≡ true → A) → (b ≡ true → A) → A
either true b h f g = f refl
either false b h f g = g h

pub if-true : {A : Type 0} (t : Bool) (x y : A) → t ≡ true → (if t then x else y) ≡ x
if-true t x y h = ap (λ b. if b then x else y) h

pub if-false : {A : Type 0} (t : Bool) (x y : A) → t ≡ false → (if t then x else y) ≡ y
if-false t x y h = ap (λ b. if b then x else y) h

-- ALL OF A LIST

pub all-append : (p : ℕ → Bool) (xs ys : List ℕ) → list_all p xs ≡ true → list_all p ys ≡ true → list_all p (xs ++ ys) ≡ true
all-append p [] ys h k = k
all-append p (x ∷ xs) ys h k =
    let q = both (p x) (list_all p xs) h in
    and-true (p x) (list_all p (xs ++ ys)) q.0 (all-append p xs ys q.1 k)

pub all-of : (p q : ℕ → Bool) → ((b : ℕ) → p b ≡ true → q b ≡ true) → (xs : List ℕ) → list_all p xs ≡ true → list_all q xs ≡ true
all-of p q f [] h = refl
all-of p q f (x ∷ xs) h =
    let k = both (p x) (list_all p xs) h in
    and-true (q x) (list_all q xs) (f x k.0) (all-of p q f xs k.1)

-- BYTES OF NAMES: what holds of letters, digits and the four marks holds of name characters (9.2.1, 13.4.5)

pub record OfNames (p : ℕ → Bool) : Type 0 where
  pub letters : (b : ℕ) → is_letter b ≡ true → p b ≡ true
  pub digits : (b : ℕ) → is_digit b ≡ true → p b ≡ true
  pub minus : p 45 ≡ true
  pub stop : p 46 ≡ true
  pub low_line : p 95 ≡ true
  pub colon : p 58 ≡ true

one-mark : (p : ℕ → Bool) (n b : ℕ) (t : Bool) → p n ≡ true → ((b == n) && t) ≡ true → p b ≡ true
one-mark p n b t w h = ap p (eqb-true b n (both (b == n) t h).0) ∙ w

marked : (p : ℕ → Bool) → OfNames p → (marks : List Bool) (b : ℕ) → is_marked marks b ≡ true → p b ≡ true
marked p o [] b h = true-false (sym h)
marked p o (t ∷ []) b h = true-false (sym h)
marked p o (t ∷ u ∷ []) b h = true-false (sym h)
marked p o (t ∷ u ∷ v ∷ []) b h = true-false (sym h)
marked p o (t ∷ u ∷ v ∷ w ∷ []) b h =
    either (((b == 45) && t) || ((b == 46) && u) || ((b == 95) && v)) ((b == 58) && w) h
    (λ h. either (((b == 45) && t) || ((b == 46) && u)) ((b == 95) && v) h
    (λ h. either ((b == 45) && t) ((b == 46) && u) h (one-mark p 45 b t o.minus) (one-mark p 46 b u o.stop))
    (one-mark p 95 b v o.low_line))
    (one-mark p 58 b w o.colon)
marked p o (t ∷ u ∷ v ∷ w ∷ x ∷ rest) b h = true-false (sym h)

pub of-character : (p : ℕ → Bool) → OfNames p → (names : NameSet) (b : ℕ) → is_name_character names b ≡ true → p b ≡ true
of-character p o names b h =
    either (is_letter b || is_digit b || is_marked names.start b) (is_marked names.more b) h
    (λ h. either (is_letter b || is_digit b) (is_marked names.start b) h
    (λ h. either (is_letter b) (is_digit b) h (o.letters b) (o.digits b))
    (marked p o names.start b))
    (marked p o names.more b)

-- a name start character goes on names too
start-parts : (l d s m : Bool) → (l || s) ≡ true → (l || d || s || m) ≡ true
start-parts true d s m h = refl
start-parts false true s m h = refl
start-parts false false true m h = refl
start-parts false false false m h = true-false (sym h)

pub start-goes-on : (names : NameSet) (b : ℕ) → is_name_start names b ≡ true → is_name_character names b ≡ true
start-goes-on names b h = start-parts (is_letter b) (is_digit b) (is_marked names.start b) (is_marked names.more b) h

pub name-characters : (names : NameSet) (name : List ℕ) → is_name_of names name ≡ true → list_all (is_name_character names) name ≡ true
name-characters names [] h = refl
name-characters names (b ∷ bs) h =
    let k = both (is_name_start names b) (list_all (is_name_character names) bs) h in
    and-true (is_name_character names b) (list_all (is_name_character names) bs) (start-goes-on names b k.0) k.1

-- NUMBERS below 128, one after another

unfoldable pub below : (ℕ → Bool) → ℕ → Bool
below test zero = true
below test (suc n) = test n && below test n

last-or : (test : ℕ → Bool) (n b : ℕ) (t : Bool) → (b == n) ≡ t → test n ≡ true → ((b ≢ n) → test b ≡ true) → test b ≡ true
last-or test n b true e h k = ap test (eqb-true b n e) ∙ h
last-or test n b false e h k = k (λ is. true-false (sym (eq-eqb b n is) ∙ e))

pub below-is : (test : ℕ → Bool) (n b : ℕ) → below test n ≡ true → b < n → test b ≡ true
unfolding below
below-is test zero b h lt = absurd (omega arith)
below-is test (suc n) b h lt =
    let k = both (test n) (below test n) h in
    last-or test n b (b == n) refl k.0 (λ ne. below-is test n b k.1 (omega (arith, ne)))

is_some_list : List ℕ → Bool
is_some_list [] = false
is_some_list (b ∷ bs) = true

spells_number : ℕ → Bool
spells_number n =
    is_some_list (decimal n)
    && (list_all is_digit (decimal n) && ((number_of (decimal n) == n) && (number_after 0 (decimal n) == n)))

small-numbers : below spells_number 128 ≡ true
unfolding below spells_number is_some_list digits
small-numbers = refl

-- what is spelled by a number
pub record IsSpelledNumber (n : ℕ) : Type 0 where
  pub first : ℕ
  pub more : List ℕ
  pub is : decimal n ≡ first ∷ more
  pub digits : list_all is_digit (decimal n) ≡ true
  pub number : number_of (decimal n) ≡ n
  pub after : number_after 0 (decimal n) ≡ n

some-list : (bs : List ℕ) → is_some_list bs ≡ true → (first : ℕ) × (more : List ℕ) × (bs ≡ first ∷ more)
unfolding is_some_list
some-list [] h = true-false (sym h)
some-list (b ∷ bs) h = (b, bs, refl)

pub small-number : (n : ℕ) → n < 128 → IsSpelledNumber n
unfolding spells_number
small-number n lt =
    let all = below-is spells_number 128 n small-numbers lt in
    let p = both (is_some_list (decimal n)) (list_all is_digit (decimal n) && ((number_of (decimal n) == n) && (number_after 0 (decimal n) == n))) all in
    let q = both (list_all is_digit (decimal n)) ((number_of (decimal n) == n) && (number_after 0 (decimal n) == n)) p.1 in
    let r = both (number_of (decimal n) == n) (number_after 0 (decimal n) == n) q.1 in
    let f = some-list (decimal n) p.0 in
    record { first = f.0; more = f.1; is = f.2; digits = q.0; number = eqb-true (number_of (decimal n)) n r.0; after = eqb-true (number_after 0 (decimal n)) n r.1 }

-- a byte that isn't spelled as itself is below 128
not-low : (b : ℕ) → nat_le 128 b ≡ false → b < 128
not-low b h = grind (arith, nat_tests)

itself-parts : (l d s h t : Bool) → (l || d || s || h || t) ≡ false → h ≡ false
itself-parts true d s h t e = true-false e
itself-parts false true s h t e = true-false e
itself-parts false false true h t e = true-false e
itself-parts false false false true t e = true-false e
itself-parts false false false false t e = refl

pub other-is-low : (mapped : Bool) (b : ℕ) → is_itself mapped b ≡ false → b < 128
other-is-low mapped b h = not-low b (itself-parts (is_letter b) (is_digit b) (b == 46) (nat_le 128 b) ((b == 32) && not mapped) h)
