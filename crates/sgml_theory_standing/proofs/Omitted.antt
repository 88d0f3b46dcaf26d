-- Tags that are left out change nothing of what is kept beside the elements.
use Rattle.std.specs.Prelude.{◌≡◌, ℕ, ◌+◌, List, [], ◌∷◌}
use Rattle.std.proofs.Common.{refl, sym, ap, ◌∙◌, subst, arith, inl, inr}
use Rattle.sgml_theory_spelling.specs.text.declared.place.Place.{Place}
use Rattle.sgml_theory_spelling.specs.entity.Stack.{moved, place_at}
use Rattle.sgml_theory_spelling.specs.theory_reading.Names.{Name, Text}
use Rattle.sgml_theory_spelling.specs.theory_reading.Pieces.{Piece, Kind, History}
use Rattle.sgml_theory_spelling.specs.theory_reading.Facets.{AfterSubset, Stage, turn, border, declares, stage_after, stage_begun, subset_named}
use Rattle.sgml_theory_spelling.specs.theory_reading.Nest.{types}
use Rattle.sgml_theory_spelling.specs.theory_reading.Context.{Context, context}
use Rattle.sgml_theory_spelling.specs.theory_reading.Omission.{omitted_end, omitted_start, MayStand}
use Rattle.sgml_theory_spelling.specs.theory_reading.Runs.{LongestRun, after_run}
use Rattle.sgml_theory_spelling.specs.theory_reading.Unread.{Input, Rest, unread, spent, external_subset}
use Rattle.sgml_theory_spelling.specs.theory_reading.Sections.{sections}
use Rattle.sgml_theory_spelling.specs.theory_reading.State.{stage}
use Rattle.sgml_theory_spelling.proofs.theory_reading.Cutting.{run-stays}
use Rattle.sgml_theory_spelling.specs.Asked.{ArePlacesOf}
use Rattle.sgml_theory_standing.specs.Kept.{Kept}
use Rattle.sgml_theory_standing.proofs.Standing.{Keeps}

add-none : (n : ℕ) → n + 0 ≡ n
add-none n = omega arith

moved-none : (ps : List Place) → moved 0 ps ≡ ps
moved-none [] = refl
moved-none (p ∷ ps) = λ i. place_at p.entity (add-none p.at i) ∷ ps

-- what is kept beside the elements, by what was read
record Same (I : Input) (new old : History) : Type 0 where
  types_are : types new ≡ types old
  unread_are : unread new ≡ unread old
  spent_is : spent I.outside new ≡ spent I.outside old
  sections_are : sections new ≡ sections old
  stage_is : stage old ≡ AfterSubset → stage new ≡ stage old
  subset_is : external_subset new ≡ external_subset old

begun-after : (g : Stage) → g ≡ AfterSubset → stage_begun g ≡ g
begun-after g e = ap stage_begun e ∙ sym e

end-same : (I : Input) (n : Name) (h : History) → Same I (omitted_end n ∷ h) h
unfolding types unread spent sections stage external_subset turn border declares stage_after subset_named
end-same I n h = record {
  types_are = refl;
  unread_are = moved-none (unread h);
  spent_is = add-none (spent I.outside h);
  sections_are = refl;
  stage_is = λ e. begun-after (stage h) e;
  subset_is = refl;
}

start-same : (I : Input) (n : Name) (h : History) → Same I (omitted_start n ∷ h) h
unfolding types unread spent sections stage external_subset turn border declares stage_after subset_named
start-same I n h = record {
  types_are = refl;
  unread_are = moved-none (unread h);
  spent_is = add-none (spent I.outside h);
  sections_are = refl;
  stage_is = λ e. begun-after (stage h) e;
  subset_is = refl;
}

one-same : (I : Input) (c : Context) (o : Piece) (x : Kind) (h : History) → MayStand c o x → Same I (o ∷ h) h
one-same I c o x h (inl m) = subst (λ (p : Piece). Same I (p ∷ h) h) (sym m.1) (end-same I m.0 h)
one-same I c o x h (inr m) = subst (λ (p : Piece). Same I (p ∷ h) h) (sym m.1) (start-same I m.0 h)

run-same : (I : Input) (h : History) (x : Kind) (os : List Piece) → LongestRun h x os → Same I (after_run h os) h
run-same I h x [] r = record { types_are = refl; unread_are = refl; spent_is = refl; sections_are = refl; stage_is = λ e. refl; subset_is = refl }
run-same I h x (o ∷ os) r =
    let rest = run-same I (o ∷ h) x os r.1 in
    let one = one-same I (context h) o x h r.0 in record {
      types_are = rest.types_are ∙ one.types_are;
      unread_are = rest.unread_are ∙ one.unread_are;
      spent_is = rest.spent_is ∙ one.spent_is;
      sections_are = rest.sections_are ∙ one.sections_are;
      stage_is = λ e. rest.stage_is (one.stage_is e ∙ e) ∙ one.stage_is e;
      subset_is = rest.subset_is ∙ one.subset_is;
    }

pub keeps-run : (k : Kept) (texts : List (ℕ × Text)) (I : Input) (more : Text) (h : History) (x : Kind) (os : List Piece) → LongestRun h x os → k.stage ≡ AfterSubset
    → Keeps k texts I more h → Keeps k texts I more (after_run h os)
keeps-run k texts I more h x os r g s =
    let same = run-same I h x os r in record {
      doctype_is = s.doctype_is ∙ sym same.types_are;
      places_are = s.places_are ∙ sym same.unread_are;
      open_are = s.open_are;
      within = s.within;
      unread_is = subst (λ (rs : List Rest). ArePlacesOf k.doctype.entities texts more k.stack.places rs) (sym (run-stays I h x os r)) s.unread_is;
      levels_are = s.levels_are;
      expand_is = s.expand_is;
      spent_is = s.spent_is ∙ sym same.spent_is;
      sections_are = s.sections_are ∙ sym same.sections_are;
      stage_is = s.stage_is ∙ sym (same.stage_is (sym s.stage_is ∙ g));
      subset_is = s.subset_is ∙ sym same.subset_is;
      supplied = s.supplied;
    }
