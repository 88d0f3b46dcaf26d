-- A delimiter of content is at least as long as each short reference string that stands there.
use Rattle.std.proofs.Common.{◌≡◌, ℕ, Bool, true, List, [], ◌∷◌, Option, None, Some, length, drop, refl, sym, ◌∙◌, ap, subst, ◌&&◌, ◌==◌, ◌≤◌, arith, inl, inr}
use Rattle.std.proofs.lemmas.Bool.{eqb-true}
use Rattle.sgml_syntax.specs.declared.syntax.Syntax.{Syntax}
use Rattle.sgml_delim.specs.declared.delim.Delim.{Delim}
use Rattle.sgml_delim.specs.declared.delim.Delim.TheVariants as d
use Rattle.sgml_delim.specs.declared.delim.Mode.{Mode}
use Rattle.sgml_delim.specs.declared.delim.Mode.TheVariants as m
use Rattle.sgml_delim.specs.Tables.{string, begins, follows, need, in_force, stands, delims}
use Rattle.sgml_delim.specs.Answers.{answer, Among, Says, IsRecognised}
use Rattle.sgml_shortref.specs.Matches as strings
use Rattle.sgml_shortref.specs.Strings.{AtLeast}
use Rattle.sgml_delim.proofs.Deciding.{true-false, and-left, and-right}

stands-begins : (s : Syntax) (mode : Mode) (net : Bool) (x : Delim) (bytes : List ℕ) → stands s mode net x bytes ≡ true
    → begins (string x) bytes ≡ true
unfolding stands
stands-begins s mode net x bytes e =
    let f = in_force s mode net x in
    let g = begins (string x) bytes in
    and-right f g (and-left (f && g) (follows s (need mode x) (drop (length (string x)) bytes)) e)

head-is : (c : ℕ) (cs bytes : List ℕ) → begins (c ∷ cs) bytes ≡ true → (more : List ℕ) × (bytes ≡ c ∷ more)
head-is c cs [] e = absurd (true-false e)
head-is c cs (b ∷ bytes) e = (bytes, ap (λ x. x ∷ bytes) (sym (eqb-true c b (and-left (c == b) (begins cs bytes) e))))

no-string : {A : Type 0} (p : ℕ × ℕ) (o : Option (ℕ × ℕ)) → o ≡ Some p → o ≡ None → A
no-string p o e f = absurd (not-some-and-none e f)
  where
    not-some-and-none : o ≡ Some p → o ≡ None → ⊥
    not-some-and-none e f = cc

pair-of : (p q : ℕ × ℕ) → Some p ≡ Some q → p ≡ q
pair-of p q e = ap or_zero e
  where
    or_zero : Option (ℕ × ℕ) → ℕ × ℕ
    or_zero None = (0, 0)
    or_zero (Some x) = x

-- what a string that stands after this first byte has, of bytes or none
none-at : (c : ℕ) (cs bytes : List ℕ) (p : ℕ × ℕ) (n : ℕ) → ((more : List ℕ) → strings.answer (c ∷ more) ≡ None)
    → begins (c ∷ cs) bytes ≡ true → strings.answer bytes ≡ Some p → p.1 ≤ n
none-at c cs bytes p n none e f =
    let head = head-is c cs bytes e in
    no-string p (strings.answer bytes) f (ap strings.answer head.1 ∙ none head.0)

bracket-at : (cs bytes : List ℕ) (p : ℕ × ℕ) → begins (93 ∷ cs) bytes ≡ true → strings.answer bytes ≡ Some p → p.1 ≤ 2
bracket-at cs bytes p e f =
    let head = head-is 93 cs bytes e in
    subst (λ q. q.1 ≤ 2) (pair-of (25, 1) p (sym (ap strings.answer head.1) ∙ f)) (omega arith)

-- a delimiter of the table, by which of its rows it is
row : (bytes : List ℕ) (y x : Delim) (p : ℕ × ℕ) → y ≡ x → (begins (string y) bytes ≡ true → p.1 ≤ length (string y))
    → begins (string x) bytes ≡ true → p.1 ≤ length (string x)
row bytes y x p h least e =
    subst (λ z. p.1 ≤ length (string z)) h (least (subst (λ z. begins (string z) bytes ≡ true) (sym h) e))

by-among : (bytes : List ℕ) (x : Delim) (p : ℕ × ℕ) → Among (delims m.Con) x → begins (string x) bytes ≡ true
    → strings.answer bytes ≡ Some p → p.1 ≤ length (string x)
by-among bytes x p (inl h) e f = row bytes d.Etago x p h (λ g. none-at 60 (47 ∷ []) bytes p 2 (λ more. refl) g f) e
by-among bytes x p (inr (inl h)) e f = row bytes d.Cro x p h (λ g. none-at 38 (35 ∷ []) bytes p 2 (λ more. refl) g f) e
by-among bytes x p (inr (inr (inl h))) e f = row bytes d.Mdo x p h (λ g. none-at 60 (33 ∷ []) bytes p 2 (λ more. refl) g f) e
by-among bytes x p (inr (inr (inr (inl h)))) e f = row bytes d.Msc x p h (λ g. bracket-at (93 ∷ []) bytes p g f) e
by-among bytes x p (inr (inr (inr (inr (inl h))))) e f = row bytes d.Pio x p h (λ g. none-at 60 (63 ∷ []) bytes p 2 (λ more. refl) g f) e
by-among bytes x p (inr (inr (inr (inr (inr (inl h)))))) e f = row bytes d.Stago x p h (λ g. none-at 60 [] bytes p 1 (λ more. refl) g f) e
by-among bytes x p (inr (inr (inr (inr (inr (inr (inl h))))))) e f = row bytes d.Ero x p h (λ g. none-at 38 [] bytes p 1 (λ more. refl) g f) e
by-among bytes x p (inr (inr (inr (inr (inr (inr (inr (inl h)))))))) e f = row bytes d.Net x p h (λ g. none-at 47 [] bytes p 1 (λ more. refl) g f) e
by-among bytes x p (inr (inr (inr (inr (inr (inr (inr (inr a)))))))) e f = absurd a

pub longest-opens : (s : Syntax) (net : Bool) (bytes : List ℕ) (x : Delim) (n : ℕ)
    → IsRecognised s m.Con net bytes (answer s m.Con net bytes) → answer s m.Con net bytes ≡ Some x
    → AtLeast n (strings.answer bytes) → n ≤ length (string x)
longest-opens s net bytes x n recognised e h =
    let says : Says (λ y. stands s m.Con net y bytes) (delims m.Con) (Some x) =
    subst (λ o. Says (λ y. stands s m.Con net y bytes) (delims m.Con) o) e recognised in
    let low = by-among bytes x h.0 says.0 (stands-begins s m.Con net x bytes says.1) h.1 in
    let high = h.2 in
    omega (arith, low, high)
