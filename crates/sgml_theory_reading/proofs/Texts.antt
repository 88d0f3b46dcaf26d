-- A declared entity keeps its text.
use Rattle.std.proofs.Common.{List, [], ◌++◌, drop, ◌≡◌, ℕ, ◌==◌, ◌-◌, Bool, true, false, cond, if◌then◌else◌, ◌∷◌, Option, Some, None, nat_lt, refl, sym, ap, ◌∙◌, arith}
use Rattle.std.specs.List.{slice_get}
use Rattle.std.proofs.lemmas.Bool.Decides.{nat_tests}
use Rattle.sgml_dtd.specs.text.declared.place.Place.{Place}
use Rattle.sgml_dtd.specs.entity.declared.kinds.Entity.{Entity}
use Rattle.sgml_dtd.specs.Doctypes.{Doctype}
use Rattle.sgml_theory_reading.specs.Pieces.{Piece, History}
use Rattle.sgml_theory_reading.specs.Types.{entity}
use Rattle.sgml_theory_reading.specs.Facets.{Turn, OpensText, EndsText, StaysInText, turn}
use Rattle.sgml_theory_reading.specs.Nest.{types}
use Rattle.sgml_theory_reading.proofs.Numbered.{number-stays}
use Rattle.sgml_theory_reading.specs.Unread.{Input, unread, Rest, rests, opened, opened_turned, opened_text, opened_number, text_opened, number_opened, AreAlong, AreInTexts, Outside, Sources, sources, text_of, text_of_entity, fetched_text, file_of, file_of_entity, file_of_subset}
use Rattle.sgml_theory_reading.proofs.Stack.{unread-along}

-- the document and the external subset are no declared entities
not-reserved : (n : ℕ) → nat_lt n 2 ≡ false → ((n == 0) ≡ false)
not-reserved n h = grind (arith, nat_tests)

not-subset : (n : ℕ) → nat_lt n 2 ≡ false → ((n == 1) ≡ false)
not-subset n h = grind (arith, nat_tests)

stands-high : (b : Bool) (o : Option Entity) (e : Entity) → cond b None o ≡ Some e → b ≡ false
stands-high true o e h = absurd (cc)
stands-high false o e h = refl

high : (d : Doctype) (n : ℕ) (e : Entity) → entity d n ≡ Some e → nat_lt n 2 ≡ false
unfolding entity
high d n e h = stands-high (nat_lt n 2) (slice_get d.entities (n - 2)) e h

file-is : (outside : Outside) (k : Sources) (n : ℕ) → nat_lt n 2 ≡ false → file_of outside k n ≡ file_of_entity outside (entity k.doctype n)
unfolding file_of
file-is outside k n h =
    ap (λ (b : Bool). if b then Some outside.file else (if n == 1 then file_of_subset outside k.doctype k.subset else file_of_entity outside (entity k.doctype n))) (not-reserved n h)
    ∙ ap (λ (b : Bool). if b then file_of_subset outside k.doctype k.subset else file_of_entity outside (entity k.doctype n)) (not-subset n h)

text-is : (outside : Outside) (k : Sources) (n : ℕ) (e : Entity) → entity k.doctype n ≡ Some e → text_of outside k n ≡ text_of_entity (Some e) (fetched_text outside (file_of_entity outside (Some e)))
unfolding text_of
text-is outside k n e h =
    ap (λ f. text_of_entity (entity k.doctype n) (fetched_text outside f)) (file-is outside k n (high k.doctype n e h))
    ∙ ap (λ (o : Option Entity). text_of_entity o (fetched_text outside (file_of_entity outside o))) h

more-types : (p : Piece) (h : History) (n : ℕ) (e : Entity) → entity (types h) n ≡ Some e → entity (types (p ∷ h)) n ≡ Some e
unfolding types
more-types p h n e s = number-stays (types h) p.kind n e s

pub text-stays : (outside : Outside) (p : Piece) (h : History) (n : ℕ) (e : Entity) → entity (types h) n ≡ Some e → text_of outside (sources (p ∷ h)) n ≡ text_of outside (sources h) n
text-stays outside p h n e s =
    text-is outside (sources (p ∷ h)) n e (more-types p h n e s) ∙ sym (text-is outside (sources h) n e s)

-- IN WHAT WAS READ LATER

declared-later : (qs : List Piece) (k : History) (n : ℕ) (e : Entity) → entity (types k) n ≡ Some e → entity (types (qs ++ k)) n ≡ Some e
declared-later [] k n e s = s
declared-later (q ∷ qs) k n e s = more-types q (qs ++ k) n e (declared-later qs k n e s)

text-later : (outside : Outside) (qs : List Piece) (k : History) (n : ℕ) (e : Entity) → entity (types k) n ≡ Some e → text_of outside (sources (qs ++ k)) n ≡ text_of outside (sources k) n
text-later outside [] k n e s = refl
text-later outside (q ∷ qs) k n e s = text-stays outside q (qs ++ k) n e (declared-later qs k n e s) ∙ text-later outside qs k n e s

no-document : (d : Doctype) (e : Entity) → entity d 0 ≡ Some e → ⊥
no-document d e h = let z : true ≡ false = high d 0 e h in cc

turned-text : (I : Input) (t : Turn) (k : Sources) (d : Doctype) (e : Entity) → entity d (opened_number t) ≡ Some e → opened_text (text_of I.outside k) t ≡ text_of I.outside k (opened_number t)
turned-text I (OpensText n) k d e s = refl
turned-text I EndsText k d e s = absurd (no-document d e s)
turned-text I StaysInText k d e s = absurd (no-document d e s)

-- the text that a declared entity had where it was opened
opened-is : (I : Input) (k : History) (e : Entity) → entity (types k) (number_opened k) ≡ Some e → text_opened I k ≡ text_of I.outside (sources k) (number_opened k)
opened-is I [] e s = absurd (no-document (types []) e s)
opened-is I (p ∷ h) e s = turned-text I (turn p.kind) (sources (p ∷ h)) (types (p ∷ h)) e s

-- each of these histories is a front of one
abbrev AreFronts : History → List History → Type 0
AreFronts h [] = Unit {0}
AreFronts h (k ∷ ks) = ((qs : List Piece) × (h ≡ qs ++ k)) × AreFronts h ks

fronts-more : (p : Piece) (h : History) (ks : List History) → AreFronts h ks → AreFronts (p ∷ h) ks
fronts-more p h [] a = tt
fronts-more p h (k ∷ ks) a = ((p ∷ a.0.0, ap (λ (x : History). p ∷ x) a.0.1), fronts-more p h ks a.1)

fronts-turned : (t : Turn) (h : History) (ks : List History) → AreFronts h ks → AreFronts h (opened_turned t h ks)
fronts-turned (OpensText e) h ks a = (([], refl), a)
fronts-turned EndsText h [] a = tt
fronts-turned EndsText h (k ∷ ks) a = a.1
fronts-turned StaysInText h ks a = a

opened-fronts : (h : History) → AreFronts h (opened h)
unfolding opened
opened-fronts [] = (([], refl), tt)
opened-fronts (p ∷ h) = fronts-turned (turn p.kind) (p ∷ h) (opened h) (fronts-more p h (opened h) (opened-fronts h))

in-texts : (I : Input) (h : History) (ks : List History) (ps : List Place) (rs : List Rest) → AreFronts h ks → AreAlong I ks ps rs → AreInTexts I h ks ps rs
in-texts I h [] [] [] f a = tt
in-texts I h (k ∷ ks) (p ∷ ps) (r ∷ rs) f a = (
  λ e s.
      let u : entity (types k) (number_opened k) ≡ Some e = ap (entity (types k)) (sym a.0) ∙ s in
      a.2 ∙ ap (drop p.at) (opened-is I k e u
      ∙ (sym (text-later I.outside f.0.0 k (number_opened k) e u)
      ∙ ((λ i. text_of I.outside (sources (sym f.0.1 i)) (number_opened k)) ∙ ap (text_of I.outside (sources h)) (sym a.0)))),
  in-texts I h ks ps rs f.1 a.3,
)
in-texts I h [] [] (r ∷ rs) f a = absurd a
in-texts I h [] (p ∷ ps) rs f a = absurd a
in-texts I h (k ∷ ks) [] rs f a = absurd a
in-texts I h (k ∷ ks) (p ∷ ps) [] f a = absurd a

pub unread-in-texts : (I : Input) (h : History) → AreInTexts I h (opened h) (unread h) (rests I h)
unread-in-texts I h = in-texts I h (opened h) (unread h) (rests I h) (opened-fronts h) (unread-along I h)
