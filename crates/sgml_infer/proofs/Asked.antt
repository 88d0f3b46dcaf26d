-- What is asked of the innermost element.
use Rattle.std.proofs.Common.{◌≡◌, ℕ, Bool, true, false, not, ◌&&◌, ◌||◌, List, [], ◌∷◌, Option, Some, None, is_some, refl, sym, ap, ◌∙◌}
use Rattle.sgml_automaton.specs.model.Term.{done}
use Rattle.sgml_automaton.specs.declared.state.ModelState.{ModelState}
use Rattle.sgml_dtd_elements.specs.Types.{ElementType}
use Rattle.sgml_dtd_elements.specs.Laws.{AreDistinct}
use Rattle.sgml_dtd.specs.Doctypes.{Doctype}
use Rattle.sgml_theory_reading.specs.Names.{Name}
use Rattle.sgml_theory_reading.specs.Types.{Content, Model, Any, Cdata, Rcdata, Void, type_of, has_model, content_of}
use Rattle.sgml_theory_reading.specs.Facets.{Token}
use Rattle.sgml_theory_reading.specs.Context.{Context}
use Rattle.sgml_theory_reading.specs.Context as reading
use Rattle.sgml_theory_reading.specs.Omission.{document_name, left_of, finished, allowed, fits, fits_in, fits_content, is_included, is_excluded_in, is_declared_token, level_content}
use Rattle.sgml_theory_reading.specs.Reasons.{end_is_omissible}
use Rattle.sgml_theory_reading.specs.Reads.{is_proper_in, is_proper_for}
use Rattle.sgml_infer.specs.Tables.{name_at, type_at}
use Rattle.sgml_infer.specs.Trees.{left_in, left_at, may_take, takes_itself, context_with}
use Rattle.sgml_infer.specs.Seen.{IsInner}
use Rattle.sgml_infer.proofs.Declared.{said-of}

-- WHERE NONE IS OPEN

none-done : (o : Option Name) → not (is_some o) ≡ done (document_name o)
none-done None = refl
none-done (Some n) = refl

pub finished-before : (t : Doctype) → not (is_some t.name) ≡ finished (context_with t [] false)
unfolding finished
finished-before t = none-done t.name

pub finished-behind : (t : Doctype) → true ≡ finished (context_with t [] true)
unfolding finished
finished-behind t = refl

-- WHERE ONE IS

module _ (t : Doctype) (i p : ℕ) (s : ModelState) (c : Context) (d : AreDistinct t.elements) (w : IsInner t i p s c) where
  abbrev whole : Context
  whole = record {
    doctype = t;
    levels = record { element = name_at t i; left = left_at t i s; slash = w.slash } ∷ w.outer;
    begun = c.begun;
    inferred = c.inferred;
  }

  is-whole : c ≡ whole
  is-whole = λ j. record { doctype = w.doctype j; levels = w.levels j; begun = c.begun; inferred = c.inferred }

  type-is : type_of t (name_at t i) ≡ type_at t i
  type-is = said-of t i d w.number

  finished-whole : finished whole ≡ (not (has_model (content_of (type_of t (name_at t i)))) || done (left_at t i s))
  unfolding finished
  finished-whole = refl

  pub finished-inner : (not (has_model (content_of (type_at t i))) || done (left_at t i s)) ≡ finished c
  finished-inner = sym (ap finished is-whole ∙ (finished-whole ∙ ap (λ (e : ElementType). not (has_model (content_of e)) || done (left_at t i s)) type-is))

  pub left-inner : left_at t i s ≡ left_of c
  left-inner = sym (ap left_of is-whole)

  content-fits : (x : Content) (k : Token) → is_declared_token t k ≡ true → (may_take x s k || (has_model x && is_included t whole.levels k)) ≡ fits_content (record { doctype = t; levels = record { element = name_at t i; left = left_in x s; slash = w.slash } ∷ w.outer; begun = c.begun; inferred = c.inferred }) x k
  content-fits (Model term) k h = refl
  content-fits Any k h = sym h
  content-fits Cdata k h = or-false (may_take Cdata s k)
    where
      or-false : (b : Bool) → (b || false) ≡ b
      or-false true = refl
      or-false false = refl
  content-fits Rcdata k h = or-false (may_take Rcdata s k)
    where
      or-false : (b : Bool) → (b || false) ≡ b
      or-false true = refl
      or-false false = refl
  content-fits Void k h = refl

  pub fits-inner : (k : Token) → is_declared_token t k ≡ true → (may_take (content_of (type_at t i)) s k || (has_model (content_of (type_at t i)) && is_included t c.levels k)) ≡ fits c k
  fits-inner k h =
      ap (λ (x : Context). may_take (content_of (type_at t i)) s k || (has_model (content_of (type_at t i)) && is_included t x.levels k)) is-whole
      ∙ (content-fits (content_of (type_at t i)) k h
      ∙ (ap (λ (e : ElementType). fits_content whole (content_of e) k) (sym type-is) ∙ ap (λ (x : Context). fits x k) (sym is-whole)))

  content-proper : (x : Content) (k : Token) → is_declared_token t k ≡ true → takes_itself x s k ≡ is_proper_for (record { doctype = t; levels = record { element = name_at t i; left = left_in x s; slash = w.slash } ∷ w.outer; begun = c.begun; inferred = c.inferred }) x k
  content-proper (Model term) k h = refl
  content-proper Any k h = sym h
  content-proper Cdata k h = refl
  content-proper Rcdata k h = refl
  content-proper Void k h = refl

  pub proper-inner : (k : Token) → is_declared_token t k ≡ true → takes_itself (content_of (type_at t i)) s k ≡ is_proper_in c c.levels k
  proper-inner k h =
      content-proper (content_of (type_at t i)) k h
      ∙ (ap (λ (e : ElementType). is_proper_for whole (content_of e) k) (sym type-is) ∙ ap (λ (x : Context). is_proper_in x x.levels k) (sym is-whole))

  may-take-itself : (x : Content) (n : Name) → takes_itself x s (Some n) ≡ may_take x s (Some n)
  may-take-itself (Model term) n = refl
  may-take-itself Any n = refl
  may-take-itself Cdata n = refl
  may-take-itself Rcdata n = refl
  may-take-itself Void n = refl

  -- a start that isn't a proper one
  pub improper-fits : (n : Name) → is_declared_token t (Some n) ≡ true → is_proper_in c c.levels (Some n) ≡ false →
      (has_model (content_of (type_at t i)) && is_included t c.levels (Some n)) ≡ fits c (Some n)
  improper-fits n h f =
      ap (λ b. b || (has_model (content_of (type_at t i)) && is_included t c.levels (Some n)))
      (sym (sym (may-take-itself (content_of (type_at t i)) n) ∙ (proper-inner (Some n) h ∙ f)))
      ∙ fits-inner (Some n) h

  pub end-inner : (t.syntax.omittag && (type_at t i).omits.end) ≡ end_is_omissible c
  end-inner = sym (ap end_is_omissible is-whole ∙ ap (λ (e : ElementType). t.syntax.omittag && e.omits.end) type-is)

-- A PROPER START FITS
pub proper-fits : (s : Context) (ls : List reading.Level) (k : Token) → is_proper_in s ls k ≡ true → fits_in s ls k ≡ true
proper-fits s [] k h = h
proper-fits s (l ∷ ls) k h = content-fits (level_content s l) h
  where
    content-fits : (x : Content) → is_proper_for s x k ≡ true → fits_content s x k ≡ true
    content-fits (Model term) h = ap (λ b. b || is_included s.doctype s.levels k) h
    content-fits Any h = h
    content-fits Cdata h = cc
    content-fits Rcdata h = cc
    content-fits Void h = cc

-- NO ELEMENT EXCLUDES CHARACTERS
none-excluded : (d : Doctype) (ls : List reading.Level) → is_excluded_in d ls None ≡ false
none-excluded d [] = refl
none-excluded d (l ∷ ls) = none-excluded d ls

and-true : (b : Bool) → b ≡ (b && true)
and-true true = refl
and-true false = refl

pub characters-allowed : (s : Context) → fits s None ≡ allowed s None
unfolding allowed
characters-allowed s = and-true (fits s None) ∙ ap (λ b. fits s None && not b) (sym (none-excluded s.doctype s.levels))
