-- Where the document's text is at the top of the stack, it is there alone.
use Rattle.std.proofs.Common.{◌≡◌, ℕ, Bool, true, false, ◌==◌, List, [], ◌∷◌, Option, Some, None, length, refl, sym, ap, ◌∙◌, subst, if◌then◌else◌}
use Rattle.sgml_storage.specs.text.declared.place.Place.{Place}
use Rattle.sgml_conversion.specs.entity.declared.kinds.External.{External}
use Rattle.sgml_conversion.specs.entity.Stack.{place_at, moved, lower}
use Rattle.sgml_conversion.specs.theory_reading.Pieces.{Kind, Head, SubsetEnd, EntityEnd, Ref, ShortRef, History, Meaning, ToText}
use Rattle.sgml_conversion.specs.theory_reading.Facets.{Turn, OpensText, EndsText, StaysInText, turn, turn_of_external, turn_of_end, turn_of_meaning}
use Rattle.sgml_conversion.specs.theory_reading.Unread.{Input, Rest, unread, texts, turned, rests, opened, AreAlong}
use Rattle.sgml_conversion.proofs.theory_reading.Stack.{unread-along, length-unread}

-- each place that has another below it is in an entity's text
abbrev Above : List Place → Type 0
Above [] = Unit {0}
Above (p ∷ []) = Unit {0}
Above (p ∷ q ∷ ps) = ((p.entity == 0) ≡ false) × Above (q ∷ ps)

above-lower : (ps : List Place) → Above ps → Above (lower ps)
above-lower [] a = tt
above-lower (p ∷ []) a = tt
above-lower (p ∷ q ∷ ps) a = a.1

above-moved : (n : ℕ) (ps : List Place) → Above ps → Above (moved n ps)
above-moved n [] a = tt
above-moved n (p ∷ []) a = tt
above-moved n (p ∷ q ∷ ps) a = a

above-over : (e : ℕ) (ps : List Place) → (e == 0) ≡ false → Above ps → Above (place_at e 0 ∷ ps)
above-over e [] n a = tt
above-over e (p ∷ ps) n a = (n, a)

-- a piece opens the text of an entity alone
abbrev pub OpensAnother : Turn → Type 0
OpensAnother (OpensText e) = (e == 0) ≡ false
OpensAnother _ = Unit {0}

to-another : (e : ℕ) (b : Bool) → (e == 0) ≡ b → OpensAnother (if b then StaysInText else OpensText e)
to-another e true n = tt
to-another e false n = n

external-another : (o : Option External) → OpensAnother (turn_of_external o)
external-another None = tt
external-another (Some x) = refl

head-another : (b : Bool) (o : Option External) → OpensAnother (if b then StaysInText else turn_of_external o)
head-another true o = tt
head-another false o = external-another o

end-another : (b : Bool) → OpensAnother (turn_of_end b)
end-another true = refl
end-another false = tt

meaning-another : (m : Meaning) → OpensAnother (turn_of_meaning m)
meaning-another (ToText e) = to-another e (e == 0) refl
meaning-another _ = tt

pub opens-another : (k : Kind) → OpensAnother (turn k)
unfolding turn
opens-another (Ref e) = to-another e (e == 0) refl
opens-another (ShortRef string meaning) = meaning-another meaning
opens-another (Head head base) = head-another head.subset head.external
opens-another (SubsetEnd reads) = end-another reads
opens-another EntityEnd = tt
opens-another _ = tt

above-turned : (t : Turn) (ps : List Place) → OpensAnother t → Above ps → Above (turned t ps)
above-turned (OpensText e) ps o a = above-over e ps o a
above-turned EndsText ps o a = above-lower ps a
above-turned StaysInText ps o a = a

above-unread : (h : History) → Above (unread h)
unfolding unread
above-unread [] = tt
above-unread (p ∷ h) =
    above-turned (turn p.kind) (moved p.size (unread h)) (opens-another p.kind) (above-moved p.size (unread h) (above-unread h))

-- so the document's place is the only one
never : {A : Type 0} → true ≡ false → A
never e = absurd (cc)

along-alone : (I : Input) (ks : List History) (ps : List Place) (r : Rest) (rs : List Rest)
    → AreAlong I ks ps (r ∷ rs) → Above ps → r.entity ≡ 0 → length ps ≡ 1
along-alone I (k ∷ ks) (p ∷ []) r rs a b e = refl
along-alone I (k ∷ ks) (p ∷ q ∷ ps) r rs a b e = never (sym (ap (λ (n : ℕ). n == 0) (sym a.1 ∙ e)) ∙ b.0)
along-alone I [] [] r rs a b e = absurd a
along-alone I (k ∷ ks) [] r rs a b e = absurd a
along-alone I [] (p ∷ ps) r rs a b e = absurd a

pub document-alone : (I : Input) (h : History) (r : Rest) (rs : List Rest) → rests I h ≡ r ∷ rs → r.entity ≡ 0 → texts h ≡ 1
document-alone I h r rs is e =
    sym (length-unread h)
    ∙ along-alone I (opened h) (unread h) r rs (subst (AreAlong I (opened h) (unread h)) is (unread-along I h)) (above-unread h) e
