-- The instance begins where the prolog has been read.
use Rattle.std.proofs.Common.{◌≡◌, ℕ, suc, Bool, true, false, ◌&&◌, ◌==◌, List, [], ◌∷◌, length, map, refl, ◌∙◌, ap, rules, tests}
use Rattle.std.specs.List.{list_any}
use Rattle.sgml_text.specs.declared.place.Place.{Place}
use Rattle.sgml_theory_starts.specs.theory_reading.Facets.{Stage, AfterSubset, subset_number}
use Rattle.sgml_theory_starts.specs.theory_reading.Reads.{is_after_subset}
use Rattle.sgml_theory_starts.specs.theory_spelling.Places.{in_doctype}
use Rattle.sgml_theory_starts.specs.declaring.Taking.{stacked_on}
use Rattle.sgml_prolog_steps.specs.Standing.{LiesUnder}
use Rattle.sgml_prolog_steps.proofs.Top.{apart}
use Rattle.sgml_content_steps.specs.Laws.{InstanceBegins}

after-subset : (g : Stage) (b : Bool) → (is_after_subset g && b) ≡ true → (g ≡ AfterSubset) × (b ≡ true)
after-subset AfterSubset b e = (refl, e)
after-subset _ b e = apart false e refl

-- only the document is left
one-text : (ps : List Place) → LiesUnder ps → (length ps == 1) ≡ true → list_any (λ n. n == subset_number) (map (λ (p : Place). p.entity) ps) ≡ false
one-text [] u l = absurd u
one-text (p ∷ []) u l = ap (λ n. list_any (λ m. m == subset_number) (n ∷ [])) u
one-text (p ∷ q ∷ ps) u l = apart (suc (suc (length ps)) == 1) l (two-not-one (length ps))
  where
    two-not-one : (n : ℕ) → (suc (suc n) == 1) ≡ false
    two-not-one n = search (rules, tests)

pub instance-begins : InstanceBegins
instance-begins k h over =
    let both = after-subset k.stage (length k.stack.places == 1) over in record {
      levels = h.levels;
      document = h.document;
      declared = h.declared;
      nested = h.nested;
      stage = both.0;
      no_subset = ap (λ g. in_doctype g (stacked_on k.stack).entities) both.0 ∙ one-text k.stack.places h.document both.1;
      named = h.named;
    }
