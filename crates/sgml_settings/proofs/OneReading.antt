-- A text spells one list of tokens.
use Rattle.std.proofs.Common.{◌≡◌, ℕ, ◌+◌, List, ◌∷◌, drop, refl, sym, ap, ◌∙◌, subst}
use Rattle.sgml_catalog.specs.declared.token.Token.{Token}
use Rattle.sgml_catalog.specs.declared.token.End.{End}
use Rattle.sgml_catalog.specs.declared.item.Item.TheVariants.{Over, Blank, Literal, Word, Unended}
use Rattle.sgml_catalog.specs.Tokens.{literal_at, word_at, Spells, over, unended, blank, literal, word}

size_of_blank : (n m : ℕ) → Blank n ≡ Blank m → n ≡ m
size_of_blank n m is = cc

size_of_literal : (n m : ℕ) → Literal n ≡ Literal m → n ≡ m
size_of_literal n m is = cc

size_of_word : (n m : ℕ) → Word n ≡ Word m → n ≡ m
size_of_word n m is = cc

same_blank : (at : ℕ) (text : List ℕ) (n m : ℕ) (ts us : List Token) (e f : End) → n ≡ m → Spells (at + n) (drop n text) ts e → Spells (at + m) (drop m text) us f
    → ((vs : List Token) (g : End) → Spells (at + n) (drop n text) vs g → (ts ≡ vs) × (e ≡ g)) → (ts ≡ us) × (e ≡ f)
same_blank at text n m ts us e f is x y again = again us f (subst (λ (k : ℕ). Spells (at + k) (drop k text) us f) (sym is) y)

same_literal : (at : ℕ) (text : List ℕ) (n m : ℕ) (ts us : List Token) (e f : End) → n ≡ m → Spells (at + (n + 2)) (drop (n + 2) text) ts e → Spells (at + (m + 2)) (drop (m + 2) text) us f
    → ((vs : List Token) (g : End) → Spells (at + (n + 2)) (drop (n + 2) text) vs g → (ts ≡ vs) × (e ≡ g)) → (literal_at at n text ∷ ts ≡ literal_at at m text ∷ us) × (e ≡ f)
same_literal at text n m ts us e f is x y again =
    let r = again us f (subst (λ (k : ℕ). Spells (at + (k + 2)) (drop (k + 2) text) us f) (sym is) y) in
    (ap (λ (k : ℕ). literal_at at k text ∷ ts) is ∙ ap (λ (vs : List Token). literal_at at m text ∷ vs) r.0, r.1)

same_word : (at : ℕ) (text : List ℕ) (n m : ℕ) (ts us : List Token) (e f : End) → n ≡ m → Spells (at + n) (drop n text) ts e → Spells (at + m) (drop m text) us f
    → ((vs : List Token) (g : End) → Spells (at + n) (drop n text) vs g → (ts ≡ vs) × (e ≡ g)) → (word_at at n text ∷ ts ≡ word_at at m text ∷ us) × (e ≡ f)
same_word at text n m ts us e f is x y again =
    let r = again us f (subst (λ (k : ℕ). Spells (at + k) (drop k text) us f) (sym is) y) in
    (ap (λ (k : ℕ). word_at at k text ∷ ts) is ∙ ap (λ (vs : List Token). word_at at m text ∷ vs) r.0, r.1)

pub one_reading : (at : ℕ) (text : List ℕ) (ts us : List Token) (e f : End) → Spells at text ts e → Spells at text us f → (ts ≡ us) × (e ≡ f)
one_reading at text _ _ _ _ (over _ _ p0) (over _ _ p1) = (refl, refl)
one_reading at text _ _ _ _ (over _ _ p0) (unended _ _ p1) = let never : Over ≡ Unended = sym p0 ∙ p1 in cc
one_reading at text _ _ _ _ (over _ _ p0) (blank _ n1 _ ts1 e1 p1 x1) = let never : Over ≡ Blank n1 = sym p0 ∙ p1 in cc
one_reading at text _ _ _ _ (over _ _ p0) (literal _ n1 _ ts1 e1 p1 x1) = let never : Over ≡ Literal n1 = sym p0 ∙ p1 in cc
one_reading at text _ _ _ _ (over _ _ p0) (word _ n1 _ ts1 e1 p1 x1) = let never : Over ≡ Word n1 = sym p0 ∙ p1 in cc
one_reading at text _ _ _ _ (unended _ _ p0) (over _ _ p1) = let never : Unended ≡ Over = sym p0 ∙ p1 in cc
one_reading at text _ _ _ _ (unended _ _ p0) (unended _ _ p1) = (refl, refl)
one_reading at text _ _ _ _ (unended _ _ p0) (blank _ n1 _ ts1 e1 p1 x1) = let never : Unended ≡ Blank n1 = sym p0 ∙ p1 in cc
one_reading at text _ _ _ _ (unended _ _ p0) (literal _ n1 _ ts1 e1 p1 x1) = let never : Unended ≡ Literal n1 = sym p0 ∙ p1 in cc
one_reading at text _ _ _ _ (unended _ _ p0) (word _ n1 _ ts1 e1 p1 x1) = let never : Unended ≡ Word n1 = sym p0 ∙ p1 in cc
one_reading at text _ _ _ _ (blank _ n0 _ ts0 e0 p0 x0) (over _ _ p1) = let never : Blank n0 ≡ Over = sym p0 ∙ p1 in cc
one_reading at text _ _ _ _ (blank _ n0 _ ts0 e0 p0 x0) (unended _ _ p1) = let never : Blank n0 ≡ Unended = sym p0 ∙ p1 in cc
one_reading at text _ _ _ _ (blank _ n0 _ ts0 e0 p0 x0) (blank _ n1 _ ts1 e1 p1 x1) = same_blank at text n0 n1 ts0 ts1 e0 e1 (size_of_blank n0 n1 (sym p0 ∙ p1)) x0 x1 (λ ts f y. one_reading _ _ _ _ _ _ x0 y)
one_reading at text _ _ _ _ (blank _ n0 _ ts0 e0 p0 x0) (literal _ n1 _ ts1 e1 p1 x1) = let never : Blank n0 ≡ Literal n1 = sym p0 ∙ p1 in cc
one_reading at text _ _ _ _ (blank _ n0 _ ts0 e0 p0 x0) (word _ n1 _ ts1 e1 p1 x1) = let never : Blank n0 ≡ Word n1 = sym p0 ∙ p1 in cc
one_reading at text _ _ _ _ (literal _ n0 _ ts0 e0 p0 x0) (over _ _ p1) = let never : Literal n0 ≡ Over = sym p0 ∙ p1 in cc
one_reading at text _ _ _ _ (literal _ n0 _ ts0 e0 p0 x0) (unended _ _ p1) = let never : Literal n0 ≡ Unended = sym p0 ∙ p1 in cc
one_reading at text _ _ _ _ (literal _ n0 _ ts0 e0 p0 x0) (blank _ n1 _ ts1 e1 p1 x1) = let never : Literal n0 ≡ Blank n1 = sym p0 ∙ p1 in cc
one_reading at text _ _ _ _ (literal _ n0 _ ts0 e0 p0 x0) (literal _ n1 _ ts1 e1 p1 x1) = same_literal at text n0 n1 ts0 ts1 e0 e1 (size_of_literal n0 n1 (sym p0 ∙ p1)) x0 x1 (λ ts f y. one_reading _ _ _ _ _ _ x0 y)
one_reading at text _ _ _ _ (literal _ n0 _ ts0 e0 p0 x0) (word _ n1 _ ts1 e1 p1 x1) = let never : Literal n0 ≡ Word n1 = sym p0 ∙ p1 in cc
one_reading at text _ _ _ _ (word _ n0 _ ts0 e0 p0 x0) (over _ _ p1) = let never : Word n0 ≡ Over = sym p0 ∙ p1 in cc
one_reading at text _ _ _ _ (word _ n0 _ ts0 e0 p0 x0) (unended _ _ p1) = let never : Word n0 ≡ Unended = sym p0 ∙ p1 in cc
one_reading at text _ _ _ _ (word _ n0 _ ts0 e0 p0 x0) (blank _ n1 _ ts1 e1 p1 x1) = let never : Word n0 ≡ Blank n1 = sym p0 ∙ p1 in cc
one_reading at text _ _ _ _ (word _ n0 _ ts0 e0 p0 x0) (literal _ n1 _ ts1 e1 p1 x1) = let never : Word n0 ≡ Literal n1 = sym p0 ∙ p1 in cc
one_reading at text _ _ _ _ (word _ n0 _ ts0 e0 p0 x0) (word _ n1 _ ts1 e1 p1 x1) = same_word at text n0 n1 ts0 ts1 e0 e1 (size_of_word n0 n1 (sym p0 ∙ p1)) x0 x1 (λ ts f y. one_reading _ _ _ _ _ _ x0 y)
