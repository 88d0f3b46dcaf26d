-- The end of the document is spelled where the document alone is open, after its document type.
use Rattle.std.proofs.Common.{◌≡◌, ℕ, suc, Bool, true, false, not, ◌==◌, ◌&&◌, List, [], ◌∷◌, Option, Some, None, Result, Ok, Err, length, refl, sym, ap, ◌∙◌, subst, if◌then◌else◌, arith, eqb-true}
use Rattle.sgml_storage.specs.text.declared.reason.Reason.{Reason}
use Rattle.sgml_conversion.specs.theory_reading.Pieces.{Piece, Kind, Finish, Re, ShortRef, SubsetEnd, History}
use Rattle.sgml_conversion.specs.theory_reading.Facets.{Stage, BeforeSyntax, AtBeginning, BeforeDoctype, InSubset, AfterSubset, is_finish}
use Rattle.sgml_conversion.specs.theory_reading.Unread.{Outside, Input, Rest, Standing, standing, texts}
use Rattle.sgml_conversion.specs.theory_reading.State.{State, state, stage}
use Rattle.sgml_conversion.specs.theory_reading.Characters.{kind_noted}
use Rattle.sgml_conversion.specs.theory_reading.Reads.{Move, Reads, length_of_first, is_after_subset, is_border, ends_in_finish}
use Rattle.sgml_theory_prologs.specs.theory_spelling.Stacked.{stacked}
use Rattle.sgml_theory_prologs.specs.theory_spelling.Sized.{unless_reason}
use Rattle.sgml_theory_prologs.specs.theory_spelling.Places.{in_section}
use Rattle.sgml_theory_prologs.specs.theory_spelling.Taken.{is_text_end}
use Rattle.sgml_theory_prologs.specs.theory_spelling.Spelled.{forms, document_end, entity_end, type_end, spelled_in, spelled_of, spelled}
use Rattle.sgml_theory_prologs.proofs.theory_spelling.Taken.{takes-its-bytes}
use Rattle.sgml_conversion.proofs.theory_ending.Falling.{move-spelled, visible}
use Rattle.sgml_theory_round.proofs.Alone.{document-alone}

never : {A : Type 0} → false ≡ true → A
never e = absurd (cc)

none-left : {A : Type 0} (n : ℕ) → suc n ≡ 0 → A
none-left n e = absurd (omega (arith, e))

finish-is-end : (k : Kind) → is_finish k ≡ true → is_text_end k ≡ true
unfolding is_finish
finish-is-end Finish e = refl
finish-is-end _ e = never e

-- what is noted of a piece doesn't make it the end
pub noted-finish : (s : State) (k : Kind) → is_finish (kind_noted s k) ≡ is_finish k
unfolding kind_noted is_finish
noted-finish s (Re live) = refl
noted-finish s (ShortRef string meaning) = refl
noted-finish s (SubsetEnd reads) = refl
noted-finish s k = refl

abbrev Finishes : Result Piece Reason → Type 0
Finishes (Ok p) = is_finish p.kind ≡ true
Finishes (Err r) = ⊥

-- the document's end is after its document type
end-stage : (g : Stage) (b : Bool) → Finishes (document_end g b) → is_after_subset g ≡ true
end-stage BeforeSyntax b f = absurd f
end-stage AtBeginning b f = absurd f
end-stage BeforeDoctype b f = absurd f
end-stage InSubset b f = absurd f
end-stage AfterSubset b f = refl

unless-none : (o : Option Reason) (p : Piece) → is_finish p.kind ≡ false → Finishes (unless_reason o p) → ⊥
unless-none None p n f = never (sym n ∙ f)
unless-none (Some r) p n f = f

entity-never : (s : State) (number : ℕ) (b : Bool) → Finishes (entity_end s number b) → ⊥
unfolding is_finish
entity-never s number true f = f
entity-never s number false f = unless-none (type_end number s.context.doctype) _ refl f

-- where all of the text at the top was read, and it is the document's
pub record Finished (s : State) (rs : List Rest) : Type 0 where
  pub first : Rest
  pub below : List Rest
  pub are : rs ≡ first ∷ below
  pub document : first.entity ≡ 0
  pub after : is_after_subset s.stage ≡ true

is-none : (n : ℕ) → (n == 0) ≡ true → n ≡ 0
is-none n e = eqb-true n 0 e

text-finished : (s : State) (r : Rest) (rs : List Rest) (b c : Bool) → (r.entity == 0) ≡ b
    → Finishes (if b then document_end s.stage c else entity_end s r.entity c) → Finished s (r ∷ rs)
text-finished s r rs true c e f = record { first = r; below = rs; are = refl; document = is-none r.entity e; after = end-stage s.stage c f }
text-finished s r rs false c e f = absurd (entity-never s r.entity c f)

rests-finished : (outside : Outside) (s : State) (t : Standing) (rs : List Rest) → t.rests ≡ rs → length_of_first rs ≡ 0
    → Finishes (spelled_of outside s (stacked t) rs) → Finished s rs
rests-finished outside s t [] e l f = absurd f
rests-finished outside s t (r ∷ rs) e l f = by r.bytes refl l f
  where
    by : (bytes : List ℕ) → r.bytes ≡ bytes → length bytes ≡ 0 → Finishes (spelled_in outside s (stacked t) r.entity bytes) → Finished s (r ∷ rs)
    by [] e l f = text-finished s r rs (r.entity == 0) (in_section s.texts s.sections) refl f
    by (b ∷ bytes) e l f = none-left (length bytes) l

pub spelled-finished : (outside : Outside) (s : State) (t : Standing) (p : Piece) → spelled outside s t ≡ Ok p → is_finish p.kind ≡ true → Finished s t.rests
unfolding spelled
spelled-finished outside s t p e f =
    let takes = takes-its-bytes outside s t p e in
    rests-finished outside s t t.rests refl (takes.ends (finish-is-end p.kind f)).1 (subst Finishes (sym e) f)

-- A MOVE READS THE END from a border
one-text : (n : ℕ) → n ≡ 1 → (n == 1) ≡ true
one-text n e = ap (λ (m : ℕ). m == 1) e

border-by : (a b c : Bool) → a ≡ true → b ≡ true → c ≡ false → (a && (b && not c)) ≡ true
border-by a b c ea eb ec = λ i. ea i && (eb i && not (ec i))

pub end-at-border : (I : Input) (h : History) (m : Move) → Reads forms I h m → is_finish m.visible.kind ≡ true → is_border h ≡ true
unfolding state
end-at-border I h m r f =
    let x = move-spelled I h m r in
    let v = visible I h m x.piece x.moves in
    let g = spelled-finished I.outside (state h) (standing I h) x.piece x.is_spelled
    (sym (noted-finish (state h) x.piece.kind) ∙ (sym v.alike.finish_is ∙ f)) in
    border-by (is_after_subset (stage h)) (texts h == 1) (ends_in_finish h) g.after
    (one-text (texts h) (document-alone I h g.first g.below g.are g.document)) r.goes_on
