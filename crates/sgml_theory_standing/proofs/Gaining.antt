-- More texts leave what is kept as it was.
use Rattle.std.specs.Prelude.{◌≡◌, ℕ, zero, suc, ◌<◌, ◌≤◌, ◌==◌, ◌||◌, Bool, true, false, List, [], ◌∷◌, ◌++◌, length, drop, if◌then◌else◌}
use Rattle.std.proofs.Common.{refl, sym, ap, ◌∙◌, subst, arith, eq-eqb, length-append, append_assoc}
use Rattle.std.proofs.lemmas.List.{drop-append-le}
use Rattle.sgml_theory_spelling.specs.text.declared.place.Place.{Place}
use Rattle.sgml_theory_spelling.specs.entity.declared.kinds.Entity.{Entity}
use Rattle.sgml_theory_spelling.specs.entity.Entities.{entity_at}
use Rattle.sgml_theory_spelling.specs.entity.Stack.{is_on}
use Rattle.sgml_theory_spelling.specs.entity.Texts.{text_of}
use Rattle.sgml_theory_spelling.specs.decl_lexemes.Sources.{text_at, or_empty, or_given, internal_text}
use Rattle.sgml_theory_spelling.specs.theory_reading.Names.{Text}
use Rattle.sgml_theory_spelling.specs.theory_reading.Unread.{Rest}
use Rattle.sgml_theory_spelling.specs.theory_reading.Reads.{more_of}
use Rattle.sgml_theory_spelling.specs.Asked.{ArePlacesOf}
use Rattle.sgml_theory_standing.specs.Kept.{AreWithin}
use Rattle.sgml_theory_standing.specs.Laws.{TextsAreGained}
use Rattle.sgml_theory_standing.proofs.Entities.{other}

-- a text that is being read
abbrev IsGained : List (ℕ × Text) → List (ℕ × Text) → List Place → Type 0
IsGained old new ps = (number : ℕ) → 0 < number → is_on number ps ≡ true → text_of new number ≡ text_of old number

on-top : (n : ℕ) (rest : Bool) → ((n == n) || rest) ≡ true
on-top n rest = ap (λ t. t || rest) (eq-eqb n n refl)

below-top : (a b : Bool) → b ≡ true → (a || b) ≡ true
below-top true b e = refl
below-top false b e = e

below : (old new : List (ℕ × Text)) (p : Place) (ps : List Place) → IsGained old new (p ∷ ps) → IsGained old new ps
below old new p ps g number l e = g number l (below-top (p.entity == number) (is_on number ps) e)

-- how the text of a place is
text-same : (es : List Entity) (old new : List (ℕ × Text)) (n : ℕ) → text_of new n ≡ text_of old n → text_at es new n ≡ text_at es old n
text-same es old new n e = ap (or_given (internal_text (entity_at es n))) e

place-within : (es : List Entity) (old new : List (ℕ × Text)) (bytes : Text) (n at : ℕ) → or_empty (text_of new 0) ≡ or_empty (text_of old 0) ++ bytes
    → (0 < n → text_of new n ≡ text_of old n) → at ≤ length (or_empty (text_at es old n)) → at ≤ length (or_empty (text_at es new n))
place-within es old new bytes zero at d g l =
    let e = ap length d in
    let f = length-append (or_empty (text_of old 0)) bytes in omega (arith, l, e, f)
place-within es old new bytes (suc n) at d g l = subst (λ o. at ≤ length (or_empty o)) (sym (text-same es old new (suc n) (g (omega arith)))) l

place-unread : (es : List Entity) (old new : List (ℕ × Text)) (bytes more : Text) (n at : ℕ) → or_empty (text_of new 0) ≡ or_empty (text_of old 0) ++ bytes
    → (0 < n → text_of new n ≡ text_of old n) → at ≤ length (or_empty (text_at es old n))
    → more_of (bytes ++ more) n (drop at (or_empty (text_at es old n))) ≡ more_of more n (drop at (or_empty (text_at es new n)))
place-unread es old new bytes more zero at d g l =
    sym (append_assoc (drop at (or_empty (text_of old 0))) bytes more)
    ∙ ap (λ xs. xs ++ more) (sym (drop-append-le at (or_empty (text_of old 0)) bytes l) ∙ ap (drop at) (sym d))
place-unread es old new bytes more (suc n) at d g l =
    let text = drop at (or_empty (text_at es old (suc n))) in
    let same = sym (text-same es old new (suc n) (g (omega arith))) in
    ap (λ b. if b then text ++ (bytes ++ more) else text) (other (suc n) 0 (omega arith))
    ∙ (sym (ap (λ b. if b then text ++ more else text) (other (suc n) 0 (omega arith))) ∙ ap (λ o. more_of more (suc n) (drop at (or_empty o))) same)

all-within : (es : List Entity) (old new : List (ℕ × Text)) (bytes : Text) (ps : List Place) → or_empty (text_of new 0) ≡ or_empty (text_of old 0) ++ bytes
    → IsGained old new ps → AreWithin es old ps → AreWithin es new ps
all-within es old new bytes [] d g w = tt
all-within es old new bytes (p ∷ ps) d g w = (
  place-within es old new bytes p.entity p.at d (λ l. g p.entity l (on-top p.entity (is_on p.entity ps))) w.0,
  all-within es old new bytes ps d (below old new p ps g) w.1,
)

all-unread : (es : List Entity) (old new : List (ℕ × Text)) (bytes more : Text) (ps : List Place) (rs : List Rest) → or_empty (text_of new 0) ≡ or_empty (text_of old 0) ++ bytes
    → IsGained old new ps → AreWithin es old ps → ArePlacesOf es old (bytes ++ more) ps rs → ArePlacesOf es new more ps rs
all-unread es old new bytes more [] [] d g w a = tt
all-unread es old new bytes more (p ∷ ps) (r ∷ rs) d g w a =
    let text = or_empty (text_at es old p.entity) in (
      a.0,
      a.1 ∙ (ap (λ n. more_of (bytes ++ more) n (drop p.at text)) (sym a.0)
          ∙ (place-unread es old new bytes more p.entity p.at d (λ l. g p.entity l (on-top p.entity (is_on p.entity ps))) w.0
          ∙ ap (λ n. more_of more n (drop p.at (or_empty (text_at es new p.entity)))) a.0)),
      all-unread es old new bytes more ps rs d (below old new p ps g) w.1 a.2,
    )
all-unread es old new bytes more [] (r ∷ rs) d g w a = absurd a
all-unread es old new bytes more (p ∷ ps) [] d g w a = absurd a

pub texts-are-gained : TextsAreGained
texts-are-gained k old new bytes more I h s g = record {
  read = s.read;
  goes_on = s.goes_on;
  doctype_is = s.doctype_is;
  places_are = s.places_are;
  open_are = s.open_are;
  within = all-within k.doctype.entities old new bytes k.stack.places g.document g.being_read s.within;
  unread_is = all-unread k.doctype.entities old new bytes more k.stack.places _ g.document g.being_read s.within s.unread_is;
  levels_are = s.levels_are;
  expand_is = s.expand_is;
  spent_is = s.spent_is;
  sections_are = s.sections_are;
  stage_is = s.stage_is;
  subset_is = s.subset_is;
  supplied = g.supplied;
}
