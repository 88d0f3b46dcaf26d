-- The reader before the first byte.
use Rattle.std.proofs.Common.{◌≡◌, ℕ, true, false, List, Option, None, Some, refl, sym, ◌∙◌, subst, arith}
use Rattle.std.specs.Prelude.{IsSome, unwrap_or}
use Rattle.sgml_syntax.specs.declared.syntax.Syntax.{Syntax}
use Rattle.sgml_syntax.specs.Implied.{implied_syntax}
use Rattle.sgml_entity.specs.Texts.{text_of}
use Rattle.sgml_declared.specs.theory_reading.Names.{Text}
use Rattle.sgml_declared.specs.theory_reading.Facets.{ExternalSubset, subset_number}
use Rattle.sgml_declared.specs.theory_reading.Unread.{Outside, opening}
use Rattle.sgml_declared.specs.theory_standing.Kept.{Kept, Stands, kept_at_start}
use Rattle.sgml_declared.proofs.theory_standing.Beginning.{reading-begins}
use Rattle.sgml_declared.specs.Files.{Choices}
use Rattle.sgml_prolog_steps.specs.Standing.{IsKept}
use Rattle.sgml_prolog.specs.Reading.{Reader, IsReading, IsSound, start_of, BeginsAtStart}

no-some : {B : Type 0} (o : Option ExternalSubset) → o ≡ None → IsSome o → B
no-some None e s = cc
no-some (Some x) e s = cc

pub kept-start : (syntax : Syntax) (expand : ℕ) → IsKept (start_of syntax expand)
kept-start syntax expand = record {
  levels = refl;
  document = refl;
  declared = (omega arith, tt);
  nested = tt;
  after = λ e. absurd (never e);
  named = λ e. no-some None refl e;
  before = λ e. record { doctype = refl; one_text = refl; none_opened = refl; no_section = refl; no_subset = refl };
}
  where
    never : false ≡ true → ⊥
    never e = cc

pub sound-start : (c : Choices) (syntax : Syntax) (k : Kept) → k ≡ start_of syntax c.expand → IsSound c k
sound-start c syntax k e = subst (IsSound c) (sym e) (record { kept = kept-start syntax c.expand; expand = refl })

no-text : {A : Type 0} (texts : List (ℕ × Text)) (number : ℕ) (text : Text) → text_of texts number ≡ None → text_of texts number ≡ Some text → A
no-text texts number text n s = absurd (never (sym n ∙ s))
  where
    never : None ≡ Some text → ⊥
    never e = cc

-- what is kept is that of the outside, by its syntax and the limit of its options
start-is : (outside : Outside) (syntax : Syntax) (expand : ℕ) → outside.syntax ≡ syntax → outside.expand ≡ expand → kept_at_start outside ≡ start_of syntax expand
start-is outside syntax expand s e = λ i. start_of (s i) (e i)

pub begins-at-start : (declaration : Option Syntax) (c : Choices) (r : Reader) (syntax : Syntax) → syntax ≡ unwrap_or declaration implied_syntax
    → r ≡ record { options = c; kept = start_of syntax c.expand; asked = None; failed = None } → BeginsAtStart declaration c r
begins-at-start declaration c r syntax s e = λ texts ended I more x.
    let begun = reading-begins texts I more x.document (λ number text l named t. no-text texts number text (x.none_given number l) t) in
    let is = start-is I.outside syntax c.expand (x.syntax ∙ sym s) x.of_options.expand in
    subst (λ q. IsReading q texts ended I more (opening I.outside)) (sym e)
    (record {
      well = refl;
      of_options = x.of_options;
      stands = subst (λ k. Stands k texts I more (opening I.outside)) is begun.0;
      asked_for = λ text n t. no-text texts subset_number text (x.none_given subset_number (omega arith)) t;
      follows = x.follows;
      in_prolog = begun.1;
      none_before = refl;
    })
