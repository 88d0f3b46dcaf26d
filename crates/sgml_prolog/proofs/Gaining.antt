-- More texts leave a reader standing for what it stood for.
use Rattle.std.proofs.Common.{◌≡◌, ℕ, ◌==◌, ◌⊎◌, Bool, true, false, List, Some, is_some, refl, sym, ap, ◌∙◌, subst, inl, inr, eqb-true, arith}
use Rattle.sgml_entity.specs.Stack.{is_on}
use Rattle.sgml_entity.specs.Texts.{text_of}
use Rattle.sgml_declared.specs.theory_reading.Names.{Name, Text}
use Rattle.sgml_declared.specs.theory_reading.Facets.{subset_number}
use Rattle.sgml_declared.specs.theory_reading.Unread.{Outside, Found}
use Rattle.sgml_declared.specs.theory_standing.Supplied.{IsInFile, AreSuppliedSoFar, is_named}
use Rattle.sgml_declared.specs.theory_standing.Kept.{Kept, sources_of}
use Rattle.sgml_declared.proofs.theory_standing.Gaining.{texts-are-gained}
use Rattle.sgml_prolog_steps.specs.Steps.{IsFileNext}
use Rattle.sgml_prolog.specs.Reading.{Reader, IsTextGiven, IsSubsetAsAsked, MoreTextsReadOn, WantedTextIsGain, WantedTextReadsOn}

pub more-texts-read-on : MoreTextsReadOn
more-texts-read-on r old new was ended I bytes more h x g s f = record {
  well = x.well;
  of_options = x.of_options;
  stands = texts-are-gained r.kept old new bytes more I h x.stands g;
  asked_for = λ text n t. elim (s text t) [ inl o ↦ x.asked_for text n o | inr a ↦ a ];
  follows = f;
  in_prolog = x.in_prolog;
  none_before = x.none_before;
}

-- THE TEXT THAT WAS WANTED
apart : {A : Type 0} → true ≡ false → A
apart e = absurd (never e)
  where
    never : true ≡ false → ⊥
    never e = cc

same-text : (a b : Text) → Some a ≡ Some b → a ≡ b
same-text a b e = cc

-- the number of a text that is being read is another
pub other-read : (k : Kept) (number other : ℕ) (t : Bool) → (other == number) ≡ t → is_on number k.stack.places ≡ false → is_on other k.stack.places ≡ true → t ≡ false
other-read k number other true e off on =
    apart (sym on ∙ ap (λ n. is_on n k.stack.places) (eqb-true other number e) ∙ off)
other-read k number other false e off on = refl

-- it is the one in its entity's file, where that is named
wanted-in-file : (outside : Outside) (k : Kept) (number : ℕ) (file : Name) (text : Text) → IsFileNext outside k number file → outside.fetched file ≡ Found text
    → is_named (sources_of k) number ≡ true → IsInFile outside (sources_of k) number text
wanted-in-file outside k number file text (inl e) found named = record { file = file; named = e; found = found }
wanted-in-file outside k number file text (inr (is, none, head, at)) found named =
    apart (sym named ∙ (ap (is_named (sources_of k)) is ∙ ap is_some none))

pub supplied-with : (outside : Outside) (k : Kept) (number : ℕ) (file : Name) (old new : List (ℕ × Text)) (bytes : Text) → IsFileNext outside k number file
    → AreSuppliedSoFar outside (sources_of k) old → IsTextGiven outside number file old new bytes → AreSuppliedSoFar outside (sources_of k) new
supplied-with outside k number file old new bytes f s g other text l named given = by (other == number) refl
  where
    by : (t : Bool) → (other == number) ≡ t → IsInFile outside (sources_of k) other text
    by true e =
        let is : other ≡ number = eqb-true other number e in
        let same : g.text ≡ text = same-text g.text text (sym g.given ∙ (ap (text_of new) (sym is) ∙ given)) in
        subst (λ n. IsInFile outside (sources_of k) n text) (sym is)
        (wanted-in-file outside k number file text f (g.found ∙ ap Found same) (ap (is_named (sources_of k)) (sym is) ∙ named))
    by false e = s other text l named (sym (g.others other l e) ∙ given)

pub subset-as-asked : (outside : Outside) (r : Reader) (number : ℕ) (file : Name) (old new : List (ℕ × Text)) (bytes : Text) → (number ≡ subset_number → r.asked ≡ Some file)
    → IsTextGiven outside number file old new bytes → IsSubsetAsAsked outside r old new
subset-as-asked outside r number file old new bytes asked g text given = by (subset_number == number) refl
  where
    by : (t : Bool) → (subset_number == number) ≡ t
        → (text_of old subset_number ≡ Some text) ⊎ ((file : Name) × (r.asked ≡ Some file) × (outside.fetched file ≡ Found text))
    by true e =
        let is : subset_number ≡ number = eqb-true subset_number number e in
        let same : g.text ≡ text = same-text g.text text (sym g.given ∙ (ap (text_of new) (sym is) ∙ given)) in
        inr (file, asked (sym is), g.found ∙ ap Found same)
    by false e = inl (sym (g.others subset_number (omega arith) e) ∙ given)

pub wanted-text-is-gain : WantedTextIsGain
wanted-text-is-gain r old new ended I bytes more h number file x w g = (
  record {
    document = g.document;
    being_read = λ other l on. g.others other l (by other on (other == number) refl);
    supplied = supplied-with I.outside r.kept number file old new bytes w.named x.stands.supplied g;
  },
  subset-as-asked I.outside r number file old new bytes w.asked g,
)
  where
    by : (other : ℕ) → is_on other r.kept.stack.places ≡ true → (t : Bool) → (other == number) ≡ t → (other == number) ≡ false
    by other on t e = e ∙ other-read r.kept number other t e w.unread on

pub wanted-text-reads-on : WantedTextReadsOn
wanted-text-reads-on r old new was ended I bytes more h number file x w g f =
    let both = wanted-text-is-gain r old new was I bytes more h number file x w g in
    more-texts-read-on r old new was ended I bytes more h x both.0 both.1 f
