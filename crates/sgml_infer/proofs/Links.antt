-- Links from an open element to the nearest one with exceptions.
use Rattle.std.proofs.Common.{◌≡◌, ℕ, zero, suc, ◌+◌, ◌-◌, ◌<◌, ◌≤◌, ◌==◌, Bool, true, false, not, ◌||◌, List, [], ◌∷◌, ◌++◌, Some, None, is_some, length, take, refl, sym, ap, ◌∙◌, subst, arith}
use Rattle.std.specs.Prelude.{if◌then◌else◌, MatchBool}
use Rattle.std.specs.List.{list_any, slice_get, slice_set}
use Rattle.std.proofs.lemmas.List.{take_all, take_more_set}
use Rattle.std.proofs.lemmas.List.Folds.{list_any-append}
use Rattle.std.proofs.lemmas.Bool.Decides.{nat_tests}
use Rattle.std.proofs.lemmas.Option.{slice_get_within}
use Rattle.sgml_attr.proofs.Getting.{take-get}
use Rattle.sgml_dtd_elements.specs.Types.{ElementType}
use Rattle.sgml_dtd.specs.Doctypes.{Doctype}
use Rattle.sgml_theory_reading.specs.Names.{Name}
use Rattle.sgml_theory_reading.specs.Facets.{Token}
use Rattle.sgml_theory_reading.specs.Omission.{is_token_in}
use Rattle.sgml_infer.specs.Tables.{type_at}
use Rattle.sgml_infer.specs.declared.level.Level.{Level}
use Rattle.sgml_infer.specs.Links.{has_exceptions, link_at, last_link, AreLinkedFrom, AreLinked, excepted, excepts}
use Rattle.sgml_infer.specs.declared.exceptions.Exception.{Exception}
use Rattle.sgml_infer.specs.declared.exceptions.Exception.TheVariants.{Inclusion, Exclusion}

-- FRONTS OF THE OPEN ELEMENTS

pub split-last : (xs : List Level) (n : ℕ) → 0 < n → n ≤ length xs → (l : Level) × (take n xs ≡ take (n - 1) xs ++ l ∷ []) × (slice_get xs (n - 1) ≡ Some l)
split-last xs n p h =
    let e : n - 1 + 1 ≡ n = omega arith in
    let f = got xs (n - 1) (omega arith) in
    (f.0, (ap (λ (m : ℕ). take m xs) (sym e) ∙ take-get xs (n - 1) f.0 f.1), f.1)
  where
    got : (ys : List Level) (i : ℕ) → i < length ys → (l : Level) × (slice_get ys i ≡ Some l)
    got [] i h = absurd (omega arith)
    got (y ∷ ys) zero h = (y, refl)
    got (y ∷ ys) (suc i) h = got ys i (omega arith)

pub take-front : (m n : ℕ) (xs : List Level) → m ≤ n → take m (take n xs) ≡ take m xs
take-front zero n xs h = refl
take-front (suc m) zero xs h = absurd (omega arith)
take-front (suc m) (suc n) [] h = refl
take-front (suc m) (suc n) (x ∷ xs) h = ap (λ (ys : List Level). x ∷ ys) (take-front m n xs (omega arith))

pub taken-length : (k : ℕ) (xs : List Level) → k ≤ length xs → length (take k xs) ≡ k
taken-length zero xs h = refl
taken-length (suc k) [] h = absurd (omega arith)
taken-length (suc k) (x ∷ xs) h = ap suc (taken-length k xs (omega arith))

-- LINKS STAY

linked-take : (t : Doctype) (n at o : ℕ) (ls : List Level) → AreLinkedFrom t at o ls → AreLinkedFrom t at o (take n ls)
linked-take t zero at o ls w = tt
linked-take t (suc n) at o [] w = tt
linked-take t (suc n) at o (l ∷ ls) w = (w.0, linked-take t n (at + 1) l.excepted ls w.1)

pub linked-front : (t : Doctype) (m n : ℕ) (ls : List Level) → m ≤ n → AreLinked t (take n ls) → AreLinked t (take m ls)
linked-front t m n ls h w = subst (AreLinked t) (take-front m n ls h) (linked-take t m 0 0 (take n ls) w)

pub linked_within : (t : Doctype) (n : ℕ) (ls : List Level) → AreLinked t ls → AreLinked t (take n ls)
linked_within t n ls w = linked-take t n 0 0 ls w

linked-push : (t : Doctype) (at o : ℕ) (ls : List Level) (l : Level) → AreLinkedFrom t at o ls → l.excepted ≡ link_at t l.element (at + length ls) (last_link o ls) → AreLinkedFrom t at o (ls ++ l ∷ [])
linked-push t at o [] l w e = (e ∙ ap (λ (n : ℕ). link_at t l.element n o) (omega arith), tt)
linked-push t at o (k ∷ ls) l w e =
    let z : at + length (k ∷ ls) ≡ at + 1 + length ls = omega arith in
    (w.0, linked-push t (at + 1) k.excepted ls l w.1 (e ∙ ap (λ (n : ℕ). link_at t l.element n (last_link k.excepted ls)) z))

linked-last : (t : Doctype) (at o : ℕ) (ls : List Level) (l : Level) → AreLinkedFrom t at o (ls ++ l ∷ []) → l.excepted ≡ link_at t l.element (at + length ls) (last_link o ls)
linked-last t at o [] l w =
    let z : at ≡ at + 0 = omega arith in
    w.0 ∙ ap (λ (n : ℕ). link_at t l.element n o) z
linked-last t at o (k ∷ ls) l w =
    let z : at + 1 + length ls ≡ at + length (k ∷ ls) = omega arith in
    linked-last t (at + 1) k.excepted ls l w.1 ∙ ap (λ (n : ℕ). link_at t l.element n (last_link k.excepted ls)) z

linked-before : (t : Doctype) (at o : ℕ) (ls : List Level) (l : Level) → AreLinkedFrom t at o (ls ++ l ∷ []) → AreLinkedFrom t at o ls
linked-before t at o [] l w = tt
linked-before t at o (k ∷ ls) l w = (w.0, linked-before t (at + 1) k.excepted ls l w.1)

link-push : (o : ℕ) (ls : List Level) (l : Level) → last_link o (ls ++ l ∷ []) ≡ l.excepted
link-push o [] l = refl
link-push o (k ∷ ls) l = link-push k.excepted ls l

-- the innermost of these elements is another one of the same type, with the same link
pub linked-same : (t : Doctype) (ls : List Level) (n : ℕ) (k l : Level) → 0 < n → slice_get ls (n - 1) ≡ Some k → l.element ≡ k.element → l.excepted ≡ k.excepted → AreLinked t (take n ls) → AreLinked t (take n (slice_set ls (n - 1) l))
linked-same t ls n k l p g e f w =
    let back : n - 1 + 1 ≡ n = omega arith in
    let within = slice_get_within ls (n - 1) k g in
    let old : take n ls ≡ take (n - 1) ls ++ k ∷ [] = ap (λ (m : ℕ). take m ls) (sym back) ∙ take-get ls (n - 1) k g in
    let new : take n (slice_set ls (n - 1) l) ≡ take (n - 1) ls ++ l ∷ [] = ap (λ (m : ℕ). take m (slice_set ls (n - 1) l)) (sym back) ∙ take_more_set ls (n - 1) l within in
    let v : AreLinked t (take (n - 1) ls ++ k ∷ []) = subst (AreLinked t) old w in
    subst (AreLinked t) (sym new)
    (linked-push t 0 0 (take (n - 1) ls) l (linked-before t 0 0 (take (n - 1) ls) k v)
    (f ∙ (linked-last t 0 0 (take (n - 1) ls) k v ∙ ap (λ (m : ℕ). link_at t m (0 + length (take (n - 1) ls)) (last_link 0 (take (n - 1) ls))) (sym e))))

-- one more element
pub linked-begun : (t : Doctype) (ls : List Level) (n : ℕ) (l : Level) → n < length ls → l.excepted ≡ link_at t l.element n (last_link 0 (take n ls)) → AreLinked t (take n ls) → AreLinked t (take (n + 1) (slice_set ls n l))
linked-begun t ls n l h e w =
    let k = taken-length n ls (omega arith) in
    let z : n ≡ 0 + length (take n ls) = omega (arith, k) in
    subst (AreLinked t) (sym (take_more_set ls n l h))
    (linked-push t 0 0 (take n ls) l w (e ∙ ap (λ (m : ℕ). link_at t l.element m (last_link 0 (take n ls))) z))

link-at-within : (t : Doctype) (i at o : ℕ) → o ≤ at → link_at t i at o ≤ at + 1
link-at-within t i at o h = either-link (has_exceptions (type_at t i))
  where
    either-link : (b : Bool) → (if b then at + 1 else o) ≤ at + 1
    either-link true = omega arith
    either-link false = omega arith

link-within : (t : Doctype) (at o : ℕ) (ls : List Level) → AreLinkedFrom t at o ls → o ≤ at → last_link o ls ≤ at + length ls
link-within t at o [] w h = omega arith
link-within t at o (l ∷ ls) w h =
    let i : l.excepted ≤ at + 1 = subst (λ (n : ℕ). n ≤ at + 1) (sym w.0) (link-at-within t l.element at o h) in
    let e = link-within t (at + 1) l.excepted ls w.1 i in
    omega (arith, e)

pub link-bound : (t : Doctype) (n : ℕ) (ls : List Level) → AreLinked t ls → n ≤ length ls → last_link 0 (take n ls) ≤ n
link-bound t n ls w h =
    let e = link-within t 0 0 (take n ls) (linked-take t n 0 0 ls w) (omega arith) in
    let f = taken-length n ls h in
    omega (arith, e, f)

pub front-bound : (t : Doctype) (n : ℕ) (ls : List Level) → AreLinked t (take n ls) → n ≤ length ls → last_link 0 (take n ls) ≤ n
front-bound t n ls w h =
    let e = link-within t 0 0 (take n ls) w (omega arith) in
    let f = taken-length n ls h in
    omega (arith, e, f)

-- the link of an open element
pub link-of-place : (ls : List Level) (n : ℕ) (l : Level) → 0 < n → slice_get ls (n - 1) ≡ Some l → l.excepted ≡ last_link 0 (take n ls)
link-of-place ls n l p g =
    let back : n - 1 + 1 ≡ n = omega arith in
    sym (ap (λ (m : ℕ). last_link 0 (take m ls)) (sym back) ∙ (ap (last_link 0) (take-get ls (n - 1) l g) ∙ link-push 0 (take (n - 1) ls) l))

-- ONLY ELEMENTS WITH EXCEPTIONS INCLUDE OR EXCLUDE

not-zero : (n : ℕ) → (suc n == 0) ≡ false
not-zero n = grind (arith, nat_tests)

none-in : (k : Token) (ns : List Name) → not (length ns == 0) ≡ false → is_token_in k ns ≡ false
none-in None ns h = refl
none-in (Some n) [] h = refl
none-in (Some n) (m ∷ ms) h =
    let e : true ≡ false = ap not (sym (not-zero (length ms))) ∙ h in
    absurd (cc)

first-of : (a b : Bool) → (a || b) ≡ false → a ≡ false
first-of true b h = cc
first-of false b h = refl

second-of : (a b : Bool) → (a || b) ≡ false → b ≡ false
second-of true b h = cc
second-of false b h = h

includes-none : (k : Token) (e : ElementType) → has_exceptions e ≡ false → is_token_in k e.body.included ≡ false
includes-none k e h = none-in k e.body.included (first-of (not (length e.body.included == 0)) (not (length e.body.excluded == 0)) h)

excludes-none : (k : Token) (e : ElementType) → has_exceptions e ≡ false → is_token_in k e.body.excluded ≡ false
excludes-none k e h = none-in k e.body.excluded (second-of (not (length e.body.included == 0)) (not (length e.body.excluded == 0)) h)

pub excepted-none : (x : Exception) (k : Token) (e : ElementType) → has_exceptions e ≡ false → is_token_in k (excepted x e) ≡ false
excepted-none Inclusion k e h = includes-none k e h
excepted-none Exclusion k e h = excludes-none k e h

-- #PCDATA is neither included nor excluded
pub no-token : (k : Token) → is_some k ≡ false → (names : Level → List Name) (ls : List Level) → false ≡ list_any (λ (l : Level). is_token_in k (names l)) ls
no-token None h names [] = refl
no-token None h names (l ∷ ls) = no-token None h names ls
no-token (Some n) h names ls = cc

-- THE WALK ALONG LINKS

or-false : (b : Bool) → (b || false) ≡ b
or-false true = refl
or-false false = refl

or-true : (b : Bool) → (b || true) ≡ true
or-true true = refl
or-true false = refl

module _ (t : Doctype) (test : Level → Bool) (fails : (l : Level) → has_exceptions (type_at t l.element) ≡ false → test l ≡ false) where
  any-push : (ls : List Level) (l : Level) (b : Bool) → test l ≡ b → list_any test (ls ++ l ∷ []) ≡ (list_any test ls || b)
  any-push ls l b h = list_any-append test ls (l ∷ []) ∙ ap (λ c. list_any test ls || c) (or-false (test l) ∙ h)

  any-step : (n : ℕ) (ls : List Level) (l : Level) → AreLinked t (take n ls ++ l ∷ []) → n ≤ length ls → take (n + 1) ls ≡ take n ls ++ l ∷ [] →
      list_any test (take n ls) ≡ list_any test (take (last_link 0 (take n ls)) ls) → list_any test (take (n + 1) ls) ≡ list_any test (take (last_link 0 (take (n + 1) ls)) ls)
  any-step n ls l w h e ih = either-way (has_exceptions (type_at t l.element)) refl
    where
      last : last_link 0 (take (n + 1) ls) ≡ l.excepted
      last = ap (last_link 0) e ∙ link-push 0 (take n ls) l

      is : l.excepted ≡ link_at t l.element (0 + length (take n ls)) (last_link 0 (take n ls))
      is = linked-last t 0 0 (take n ls) l w

      either-way : (b : Bool) → has_exceptions (type_at t l.element) ≡ b → list_any test (take (n + 1) ls) ≡ list_any test (take (last_link 0 (take (n + 1) ls)) ls)
      either-way true g =
          let k = taken-length n ls h in
          let z : 0 + length (take n ls) + 1 ≡ n + 1 = omega (arith, k) in
          ap (λ (m : ℕ). list_any test (take m ls)) (sym (last ∙ (is ∙ (ap (λ b. if b then 0 + length (take n ls) + 1 else last_link 0 (take n ls)) g ∙ z))))
      either-way false g =
          ap (list_any test) e
          ∙ (any-push (take n ls) l false (fails l g)
          ∙ (or-false (list_any test (take n ls))
          ∙ (ih ∙ ap (λ (m : ℕ). list_any test (take m ls)) (sym (last ∙ (is ∙ ap (λ b. if b then 0 + length (take n ls) + 1 else last_link 0 (take n ls)) g))))))

  any-linked : (n : ℕ) (ls : List Level) → AreLinked t ls → n ≤ length ls → list_any test (take n ls) ≡ list_any test (take (last_link 0 (take n ls)) ls)
  any-linked zero ls w h = refl
  any-linked (suc n) ls w h =
      let s = split-last ls (n + 1) (omega arith) (omega arith) in
      let m : n + 1 - 1 ≡ n = omega arith in
      let e : take (n + 1) ls ≡ take n ls ++ s.0 ∷ [] = s.1 ∙ ap (λ (k : ℕ). take k ls ++ s.0 ∷ []) m in
      let z : n + 1 ≡ suc n = omega arith in
      subst (λ (k : ℕ). list_any test (take k ls) ≡ list_any test (take (last_link 0 (take k ls)) ls)) z
      (any-step n ls s.0 (subst (AreLinked t) e (linked-take t (n + 1) 0 0 ls w)) (omega arith) e (any-linked n ls w (omega arith)))

  pub any-begins : (ls : List Level) (at : ℕ) → AreLinked t ls → at ≡ last_link 0 (take (length ls) ls) → list_any test ls ≡ list_any test (take at ls)
  any-begins ls at w e =
      ap (list_any test) (sym (take_all (length ls) ls (omega arith)))
      ∙ (any-linked (length ls) ls w (omega arith) ∙ ap (λ (m : ℕ). list_any test (take m ls)) (sym e))

  any-split : (ls : List Level) (at : ℕ) (l : Level) (b : Bool) → 0 < at → slice_get ls (at - 1) ≡ Some l → test l ≡ b → list_any test (take at ls) ≡ (list_any test (take (at - 1) ls) || b)
  any-split ls at l b p g h =
      let back : at - 1 + 1 ≡ at = omega arith in
      ap (λ (m : ℕ). list_any test (take m ls)) (sym back) ∙ (ap (list_any test) (take-get ls (at - 1) l g) ∙ any-push (take (at - 1) ls) l b h)

  pub any-outward : (ls : List Level) (at next : ℕ) (l : Level) → AreLinked t ls → 0 < at → at ≤ length ls → slice_get ls (at - 1) ≡ Some l → test l ≡ false → next ≡ last_link 0 (take (at - 1) ls) →
      list_any test ls ≡ list_any test (take at ls) → list_any test ls ≡ list_any test (take next ls)
  any-outward ls at next l w p h g f e a =
      a ∙ (any-split ls at l false p g f
      ∙ (or-false (list_any test (take (at - 1) ls))
      ∙ (any-linked (at - 1) ls w (omega arith) ∙ ap (λ (m : ℕ). list_any test (take m ls)) (sym e))))

  pub any-found : (ls : List Level) (at : ℕ) (l : Level) → 0 < at → slice_get ls (at - 1) ≡ Some l → test l ≡ true → list_any test ls ≡ list_any test (take at ls) → true ≡ list_any test ls
  any-found ls at l p g f a = sym (a ∙ (any-split ls at l true p g f ∙ or-true (list_any test (take (at - 1) ls))))

-- WHERE NO ELEMENT HAS ANY
none-taken : (test : Level → Bool) (ls : List Level) → list_any test (take 0 ls) ≡ false
none-taken test [] = refl
none-taken test (l ∷ ls) = refl

no-items : (ns : List ℕ) → (length ns == 0) ≡ true → ns ≡ []
no-items [] h = refl
no-items (n ∷ ns) h =
    let e : true ≡ false = sym h ∙ not-zero (length ns) in
    absurd (cc)

is-zero : (n : ℕ) → (n == 0) ≡ true → n ≡ 0
is-zero n h = grind (arith, nat_tests)

pub none-except : (t : Doctype) (ns : List ℕ) (ls : List Level) → AreLinked t ls → (length ns == 0) ≡ true → (at : ℕ) → at ≡ last_link 0 (take (length ls) ls) → (b : Bool) → b ≡ (at == 0) →
    MatchBool b ((x : Exception) (k : Token) → (list_any (excepts t x k) ns || list_any (λ (l : Level). excepts t x k l.element) ls) ≡ false) (Unit {0})
none-except t ns ls w e at h false z = tt
none-except t ns ls w e at h true z = λ x k.
    ap (λ (js : List ℕ). list_any (excepts t x k) js || list_any (λ (l : Level). excepts t x k l.element) ls) (no-items ns e)
    ∙ (any-begins t (λ (l : Level). is_token_in k (excepted x (type_at t l.element))) (λ l g. excepted-none x k (type_at t l.element) g) ls 0 w (sym (is-zero at (sym z)) ∙ h)
    ∙ none-taken (λ (l : Level). is_token_in k (excepted x (type_at t l.element))) ls)
