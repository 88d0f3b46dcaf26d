-- The first keyword that is no status keyword.
use Rattle.std.proofs.Common.{arith, ap, sym, refl, ◌≡◌, ◌+◌, ℕ, Bool, true, false, if◌then◌else◌, List, [], ◌∷◌, length, Option, Some, None, option_map}
use Rattle.sgml_marked.specs.Keywords.{is_keyword, first_unknown, AllKnown, IsFirstUnknown}

none-some : (y : ℕ) (o : Option ℕ) → o ≡ None → o ≡ Some y → ⊥
none-some y o d e = cc

some-is : (x y : ℕ) → Some y ≡ Some x → y ≡ x
some-is x y e = ap (λ o. some_or o) e
  where
    some_or : Option ℕ → ℕ
    some_or (Some z) = z
    some_or None = x

unknown-here : (keyword : List ℕ) (keywords : List (List ℕ)) (i : ℕ) → is_keyword keyword ≡ false → Some 0 ≡ Some i
    → IsFirstUnknown (keyword ∷ keywords) i
unknown-here keyword keywords i e h =
    record { known = []; unknown = keyword; later = keywords; are = refl; place = sym (some-is i 0 h); all_known = tt; is_unknown = e }

unknown-later : (keyword : List ℕ) (keywords : List (List ℕ)) (i : ℕ) (o : Option ℕ) → first_unknown keywords ≡ o → is_keyword keyword ≡ true
    → ((j : ℕ) → first_unknown keywords ≡ Some j → IsFirstUnknown keywords j)
    → option_map (λ j. j + 1) o ≡ Some i → IsFirstUnknown (keyword ∷ keywords) i
unknown-later keyword keywords i None is e more h = absurd (none-some i None refl h)
unknown-later keyword keywords i (Some j) is e more h =
    let m = more j is in
    let at : j + 1 ≡ i = some-is i (j + 1) h in
    let place : j ≡ length m.known = m.place in
    record { known = keyword ∷ m.known; unknown = m.unknown; later = m.later; are = ap (λ xs. keyword ∷ xs) m.are; place = omega arith; all_known = (e, m.all_known); is_unknown = m.is_unknown }

unknown-step : (keyword : List ℕ) (keywords : List (List ℕ)) (i : ℕ) (b : Bool) → is_keyword keyword ≡ b
    → ((j : ℕ) → first_unknown keywords ≡ Some j → IsFirstUnknown keywords j)
    → (if b then option_map (λ j. j + 1) (first_unknown keywords) else Some 0) ≡ Some i → IsFirstUnknown (keyword ∷ keywords) i
unknown-step keyword keywords i true e more h = unknown-later keyword keywords i (first_unknown keywords) refl e more h
unknown-step keyword keywords i false e more h = unknown-here keyword keywords i e h

pub unknown-told : (keywords : List (List ℕ)) (i : ℕ) → first_unknown keywords ≡ Some i → IsFirstUnknown keywords i
unknown-told [] i h = absurd (none-some i None refl h)
unknown-told (keyword ∷ keywords) i h =
    unknown-step keyword keywords i (is_keyword keyword) refl (λ j g. unknown-told keywords j g) h

map-none : (o : Option ℕ) → option_map (λ i. i + 1) o ≡ None → o ≡ None
map-none None e = refl
map-none (Some i) e = absurd (none-some (i + 1) (Some (i + 1)) e refl)

known-step : (keyword : List ℕ) (keywords : List (List ℕ)) (b : Bool) → is_keyword keyword ≡ b
    → (first_unknown keywords ≡ None → AllKnown keywords)
    → (if b then option_map (λ j. j + 1) (first_unknown keywords) else Some 0) ≡ None → AllKnown (keyword ∷ keywords)
known-step keyword keywords true e more h = (e, more (map-none (first_unknown keywords) h))
known-step keyword keywords false e more h = absurd (none-some 0 (Some 0) h refl)

pub all-known : (keywords : List (List ℕ)) → first_unknown keywords ≡ None → AllKnown keywords
all-known [] h = tt
all-known (keyword ∷ keywords) h =
    known-step keyword keywords (is_keyword keyword) refl (λ g. all-known keywords g) h
