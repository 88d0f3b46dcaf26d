-- Which file a text is in, by its number.
use Rattle.std.proofs.Common.{◌≡◌, ℕ, zero, suc, ◌+◌, ◌<◌, ◌==◌, Bool, true, false, List, [], ◌∷◌, length, drop, Option, Some, None, Result, Ok, Err, IfOk, unwrap_or, map, refl, sym, ap, ◌∙◌, if◌then◌else◌, add-one, arith, eqb-true}
use Rattle.std.specs.List.{slice_get}
use Rattle.std.proofs.Math.Seq.{drop-length}
use Rattle.sgml_text.specs.declared.place.Place.{Place}
use Rattle.sgml_dtd.specs.Doctypes.{Doctype}
use Rattle.sgml_theory_standing.specs.theory_reading.Names.{Name}
use Rattle.sgml_theory_standing.specs.theory_reading.Types.{entity}
use Rattle.sgml_theory_standing.specs.theory_reading.Facets.{ExternalSubset, subset_number}
use Rattle.sgml_theory_standing.specs.theory_reading.Unread.{Outside, Sources, file_of, file_of_entity, file_of_subset, base_in}
use Rattle.sgml_declared.specs.Files.{Choices, InEach, sources_in}

other : (a b : ℕ) → b < a → (a == b) ≡ false
other a b l = by (a == b) refl
  where
    by : (t : Bool) → (a == b) ≡ t → (a == b) ≡ false
    by true e = let same : a ≡ b = eqb-true a b e in absurd (omega (arith, l, same))
    by false e = e

pub document-file : (outside : Outside) (k : Sources) → file_of outside k 0 ≡ Some outside.file
unfolding file_of
document-file outside k = refl

pub subset-file : (outside : Outside) (k : Sources) → file_of outside k 1 ≡ file_of_subset outside k.doctype k.subset
unfolding file_of
subset-file outside k = refl

pub entity-file : (outside : Outside) (k : Sources) (n : ℕ) → 1 < n → file_of outside k n ≡ file_of_entity outside (entity k.doctype n)
unfolding file_of
entity-file outside k n l =
    (λ i. if other n 0 (omega (arith, l)) i then Some outside.file else (if other n subset_number l i then file_of_subset outside k.doctype k.subset
    else file_of_entity outside (entity k.doctype n)))

-- so the answers for its two kinds are answers for the number
pub subset-answer : {E : Type 0} (c : Choices) (d : Doctype) (s : Option ExternalSubset) (n : ℕ) (result : Result (Option Name) E) → n ≡ 1
    → IfOk result (InEach c (λ outside. file_of_subset outside d s)) → IfOk result (InEach c (λ outside. file_of outside (sources_in d s) n))
subset-answer c d s n (Err e) l h = tt
subset-answer c d s n (Ok file) l h = λ outside o.
    h outside o ∙ (sym (subset-file outside (sources_in d s)) ∙ ap (file_of outside (sources_in d s)) (sym l))

pub entity-answer : {E : Type 0} (c : Choices) (d : Doctype) (s : Option ExternalSubset) (n : ℕ) (result : Result (Option Name) E) → 1 < n
    → IfOk result (InEach c (λ outside. file_of_entity outside (entity d n))) → IfOk result (InEach c (λ outside. file_of outside (sources_in d s) n))
entity-answer c d s n (Err e) l h = tt
entity-answer c d s n (Ok file) l h = λ outside o. h outside o ∙ sym (entity-file outside (sources_in d s) n l)

-- THE FILE OF A DECLARATION

abbrev pub base_from : Outside → Sources → List Place → Name
base_from outside k places = base_in outside k (map (λ (p : Place). p.entity) places)

pub base-here : (outside : Outside) (k : Sources) (p : Place) (ps : List Place) (file : Name) → Some file ≡ file_of outside k p.entity → file ≡ base_from outside k (p ∷ ps)
base-here outside k p ps file e = ap (λ (o : Option Name). unwrap_or o (base_from outside k ps)) e

pub base-below : (outside : Outside) (k : Sources) (p : Place) (ps : List Place) → None ≡ file_of outside k p.entity → base_from outside k ps ≡ base_from outside k (p ∷ ps)
base-below outside k p ps e = ap (λ (o : Option Name). unwrap_or o (base_from outside k ps)) e

-- the places from one on
drop-get : (ps : List Place) (i : ℕ) (p : Place) → slice_get ps i ≡ Some p → drop i ps ≡ p ∷ drop (suc i) ps
drop-get [] i p e = let never : ⊥ = cc in absurd never
drop-get (q ∷ ps) zero p e = let same : q ≡ p = cc in ap (λ (x : Place). x ∷ ps) same
drop-get (q ∷ ps) (suc i) p e = drop-get ps i p e

drop-none : (ps : List Place) (i : ℕ) → slice_get ps i ≡ None → drop i ps ≡ drop (suc i) ps
drop-none [] zero e = refl
drop-none [] (suc i) e = refl
drop-none (q ∷ ps) zero e = let never : ⊥ = cc in absurd never
drop-none (q ∷ ps) (suc i) e = drop-none ps i e

pub base-found : (outside : Outside) (k : Sources) (ps : List Place) (i : ℕ) (p : Place) (file : Name) → slice_get ps i ≡ Some p
    → Some file ≡ file_of outside k p.entity → file ≡ base_from outside k (drop i ps)
base-found outside k ps i p file e f = base-here outside k p (drop (suc i) ps) file f ∙ ap (base_from outside k) (sym (drop-get ps i p e))

pub base-next : (outside : Outside) (k : Sources) (ps : List Place) (i : ℕ) (p : Place) → slice_get ps i ≡ Some p
    → None ≡ file_of outside k p.entity → base_from outside k (drop i ps) ≡ base_from outside k (drop (i + 1) ps)
base-next outside k ps i p e f =
    ap (base_from outside k) (drop-get ps i p e) ∙ (sym (base-below outside k p (drop (suc i) ps) f) ∙ ap (λ n. base_from outside k (drop n ps)) (sym (add-one i)))

pub base-none : (outside : Outside) (k : Sources) (ps : List Place) (i : ℕ) → slice_get ps i ≡ None → base_from outside k (drop i ps) ≡ base_from outside k (drop (i + 1) ps)
base-none outside k ps i e = ap (base_from outside k) (drop-none ps i e ∙ ap (λ n. drop n ps) (sym (add-one i)))

pub base-end : (outside : Outside) (k : Sources) (ps : List Place) → base_from outside k (drop (length ps) ps) ≡ outside.file
base-end outside k ps = ap (base_from outside k) (drop-length ps)
