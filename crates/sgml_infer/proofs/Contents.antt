-- What the tables' contents are in the terms of reading.
use Rattle.std.specs.Prelude.{MatchBool, IsSomeAnd, is_some}
use Rattle.std.proofs.Common.{◌≡◌, ℕ, suc, ◌+◌, ◌≤◌, Bool, List, Option, Some, None, option_map, option_and_then, unwrap_or, sym, ap, ◌∙◌, subst, arith}
use Rattle.std.specs.List.{slice_get, list_any}
use Rattle.std.proofs.lemmas.Option.{slice_get_within}
use Rattle.sgml_automaton.specs.model.Term.{Term, empty}
use Rattle.sgml_automaton.specs.model.Left.{Leaves}
use Rattle.sgml_automaton.specs.Position.{room, next_by}
use Rattle.sgml_automaton.specs.Automaton.{whole_of, room_of, bits_in, term_of, term_at_last}
use Rattle.sgml_automaton.specs.Automaton as automaton
use Rattle.sgml_automaton.specs.declared.state.ModelState.{ModelState}
use Rattle.sgml_automaton.specs.declared.automaton.Automaton.{Automaton}
use Rattle.sgml_dtd_elements.specs.sgml_decl_forms.declared.element.ContentForm.{ContentForm}
use Rattle.sgml_dtd_elements.specs.sgml_decl_forms.declared.element.ContentForm.TheVariants as form
use Rattle.sgml_dtd_elements.specs.sgml_decl_forms.declared.element.Omits.{Omits}
use Rattle.sgml_dtd_elements.specs.Types.{ElementType, types, number_of, IsContentOf}
use Rattle.sgml_dtd_elements.specs.declared.content.Content.{Content as Kept}
use Rattle.sgml_dtd_elements.specs.declared.content.Content.TheVariants as kept
use Rattle.sgml_dtd_elements.specs.Laws.{AreDistinct}
use Rattle.sgml_dtd.specs.Doctypes.{Doctype, definitions_for}
use Rattle.sgml_theory_reading.specs.Names.{Name}
use Rattle.sgml_theory_reading.specs.Types.{Content, Model, Any, Cdata, Rcdata, Void, model_of, type_of, element_type, undeclared, has_required, content_in, is_required, content_of}
use Rattle.sgml_theory_reading.specs.Context.{token_left}
use Rattle.sgml_infer.specs.Tables.{name_in, name_at, said_in, type_at, IsNumber}
use Rattle.sgml_infer.specs.Trees.{left_in, left_at, may_take, takes_itself, at_position, HasRoom, IsStateOf, IsStateIn, IsPositionIn, IsPosition, IsStepIn}
use Rattle.sgml_infer.proofs.Numbers.{stands-at}
use Rattle.sgml_infer.proofs.Declared.{required-are, said-of}
use Rattle.sgml_infer.proofs.Stepping.{takes-left, found-left, missed-left, next-left, found-at, reaches-more}

model-in-form : (f : ContentForm) (a : Automaton) → IsContentOf f (kept.Model a) → content_in f ≡ Model (whole_of a)
model-in-form form.Empty a h = absurd h
model-in-form form.Cdata a h = absurd h
model-in-form form.Rcdata a h = absurd h
model-in-form form.Any a h = absurd h
model-in-form (form.Model ts) a h = ap (λ (o : Option Term). Model (unwrap_or o empty)) h

model-in : (o : Option ElementType) (a : Automaton) → IsSomeAnd o (λ e. IsContentOf e.body.content (kept.Model a)) → (content_of (said_in o)) ≡ Model (whole_of a)
model-in None a h = absurd h
model-in (Some e) a h = model-in-form e.body.content a h

-- the content of an element type with an automaton is the model that it is of
pub content-model : (t : Doctype) (i : ℕ) (c : Kept) (a : Automaton) → IsSomeAnd (slice_get (types t.elements) i) (λ e. IsContentOf e.body.content c) → c ≡ kept.Model a → (content_of (type_at t i)) ≡ Model (whole_of a)
content-model t i c a h e = model-in (slice_get (types t.elements) i) a (subst (λ (k : Kept). IsSomeAnd (slice_get (types t.elements) i) (λ d. IsContentOf d.body.content k)) e h)

module _ (t : Doctype) (i : ℕ) (a : Automaton) (e : (content_of (type_at t i)) ≡ Model (whole_of a)) where
  pub state-is : (s : ModelState) → IsStateIn (content_of (type_at t i)) s → IsStateOf (whole_of a) s
  state-is s h = subst (λ (c : Content). IsStateIn c s) e h

  pub state-from : (s : ModelState) → IsStateOf (whole_of a) s → IsStateIn (content_of (type_at t i)) s
  state-from s h = subst (λ (c : Content). IsStateIn c s) (sym e) h

  pub state-for : (s : ModelState) → IsStateIn (content_of (type_at t i)) s → HasRoom t s → automaton.IsStateOf a s
  state-for s h r =
      let u : room (whole_of a) ≤ bits_in s = subst (λ (c : Content). room (model_of c) ≤ bits_in s) e (r i) in
      record { fits = subst (λ (n : ℕ). n ≤ bits_in s) (sym a.counted) u; placed = (state-is s h).placed }

  pub left-from : (s : ModelState) → left_at t i s ≡ term_of a s
  left-from s = ap (λ (c : Content). left_in c s) e

  pub fits-model : (s : ModelState) (l : Option (List ℕ)) (b : Bool) → MatchBool b ((r : Term) × Leaves (term_of a s) l r) ((r : Term) → Leaves (term_of a s) l r → ⊥) → b ≡ may_take (content_of (type_at t i)) s l
  fits-model s l b m = takes-left (term_of a s) l b m ∙ sym (ap (λ (c : Content). may_take c s l) e)

  pub proper-model : (s : ModelState) (l : Option (List ℕ)) (b : Bool) → MatchBool b ((r : Term) × Leaves (term_of a s) l r) ((r : Term) → Leaves (term_of a s) l r → ⊥) → b ≡ takes_itself (content_of (type_at t i)) s l
  proper-model s l b m = takes-left (term_of a s) l b m ∙ sym (ap (λ (c : Content). takes_itself c s l) e)

  pub left-found : (old new : ModelState) (l : Option (List ℕ)) → IsStateIn (content_of (type_at t i)) old → Leaves (term_of a old) l (term_of a new) → left_at t i new ≡ token_left (left_at t i old) l
  left-found old new l h m =
      let s = state-is old h in
      left-from new ∙ (found-left a old l (term_of a new) s.placed s.reached m ∙ sym (ap (λ r. token_left r l) (left-from old)))

  pub left-missed : (s : ModelState) (l : Option (List ℕ)) → next_by (term_of a s) l ≡ None → left_at t i s ≡ token_left (left_at t i s) l
  left-missed s l m = left-from s ∙ (missed-left (term_of a s) l m ∙ sym (ap (λ r. token_left r l) (left-from s)))

  pub state-found : (old new : ModelState) (l : Option (List ℕ)) → IsStateIn (content_of (type_at t i)) old → automaton.IsStateOf a new → Leaves (term_of a old) l (term_of a new) → IsStateIn (content_of (type_at t i)) new
  state-found old new l h k m =
      state-from new (record { placed = k.placed; reached = reaches-more (whole_of a) (term_of a old) (term_of a new) l (state-is old h).reached m })

  -- positions, where the model has no AND groups
  pub position-is : (p : ℕ) (s : ModelState) → IsPosition t i p s → room (whole_of a) ≡ 0 → term_of a s ≡ at_position (whole_of a) p
  position-is p s h = subst (λ (c : Content). IsPositionIn c p s) e h

  pub position-found : (old new : ModelState) (l : Option (List ℕ)) (k : ℕ) → IsStateIn (content_of (type_at t i)) old → next_by (term_of a old) l ≡ Some k → Leaves (term_of a old) l (term_of a new) → IsPosition t i (k + 1) new
  position-found old new l k h n m =
      let s = state-is old h in
      let more : suc k ≡ k + 1 = omega arith in
      subst (λ (c : Content). IsPositionIn c (k + 1) new) (sym e)
      (λ z. found-at a old l k (term_of a new) s.placed s.reached n m z ∙ ap (at_position (whole_of a)) more)

  -- a step that was found tells the token
  pub step-token : (p : ℕ) (s : ModelState) (n : Name) (k : ℕ) → IsPosition t i p s → IsStepIn (content_of (type_at t i)) p n (Some k) → next_by (term_of a s) (Some n) ≡ Some k
  step-token p s n k h m =
      let u : (room (whole_of a) ≡ 0) × (Some k ≡ next_by (at_position (whole_of a) p) (Some n)) = subst (λ (c : Content). IsStepIn c p n (Some k)) e m in
      ap (λ r. next_by r (Some n)) (position-is p s h u.0) ∙ sym u.1

  pub step-from : (p : ℕ) (s : ModelState) (n : Name) (o : Option ℕ) → IsPosition t i p s → room (whole_of a) ≡ 0 → o ≡ next_by (term_of a s) (Some n) → IsStepIn (content_of (type_at t i)) p n o
  step-from p s n o h z m = subst (λ (c : Content). IsStepIn c p n o) (sym e) (z, m ∙ ap (λ r. next_by r (Some n)) (position-is p s h z))

-- A STEP THAT WAS FOUND, in whatever content

pub step-proper : (c : Content) (p : ℕ) (s : ModelState) (n : Name) (k : Option ℕ) → IsPositionIn c p s → IsStepIn c p n k → is_some k ≡ takes_itself c s (Some n)
step-proper (Model x) p s n k q h = ap is_some (h.1 ∙ ap (λ r. next_by r (Some n)) (sym (q h.0))) ∙ next-left (term_at_last x s.last s.bits.items) (Some n)
step-proper Any p s n k q h = absurd h
step-proper Cdata p s n k q h = absurd h
step-proper Rcdata p s n k q h = absurd h
step-proper Void p s n k q h = absurd h

pub step-missed : (c : Content) (p : ℕ) (s : ModelState) (n : Name) → IsPositionIn c p s → IsStepIn c p n None → left_in c s ≡ token_left (left_in c s) (Some n)
step-missed (Model x) p s n q h = missed-left (term_at_last x s.last s.bits.items) (Some n) (ap (λ r. next_by r (Some n)) (q h.0) ∙ sym h.1)
step-missed Any p s n q h = absurd h
step-missed Cdata p s n q h = absurd h
step-missed Rcdata p s n q h = absurd h
step-missed Void p s n q h = absurd h

-- at the start
pub start-position : (c : Content) (s : ModelState) → left_in c s ≡ model_of c → IsPositionIn c 0 s
start-position (Model x) s h = λ z. h
start-position Any s h = tt
start-position Cdata s h = tt
start-position Rcdata s h = tt
start-position Void s h = tt

-- BY NAME

pub number-within : (t : Doctype) (n : Name) (i : ℕ) → number_of t.elements n ≡ Some i → IsNumber t i
number-within t n i h = let r = stands-at t.elements n i h in slice_get_within (types t.elements) i r.type r.stands

pub name-found : (t : Doctype) (n : Name) (i : ℕ) → number_of t.elements n ≡ Some i → name_at t i ≡ n
name-found t n i h = let r = stands-at t.elements n i h in ap name_in r.stands ∙ r.name

pub said-found : (t : Doctype) (n : Name) (i : ℕ) → AreDistinct t.elements → number_of t.elements n ≡ Some i → type_of t n ≡ type_at t i
said-found t n i d h = ap (type_of t) (sym (name-found t n i h)) ∙ said-of t i d (number-within t n i h)

pub none-found : (t : Doctype) (n : Name) → number_of t.elements n ≡ None → element_type t n ≡ None
unfolding element_type
none-found t n h =
    ap (option_and_then (λ i. slice_get (types t.elements) i)) h

pub unsaid : (t : Doctype) (n : Name) → number_of t.elements n ≡ None → type_of t n ≡ undeclared
unfolding type_of
unsaid t n h = ap (λ o. unwrap_or o undeclared) (none-found t n h)

start-in : (o : Option ElementType) (x : Omits) → option_map (λ (e : ElementType). e.omits) o ≡ Some x → x.start ≡ (said_in o).omits.start
start-in None x h = cc
start-in (Some e) x h = let f : e.omits ≡ x = cc in ap (λ (y : Omits). y.start) (sym f)

end-in : (o : Option ElementType) (x : Omits) → option_map (λ (e : ElementType). e.omits) o ≡ Some x → x.end ≡ (said_in o).omits.end
end-in None x h = cc
end-in (Some e) x h = let f : e.omits ≡ x = cc in ap (λ (y : Omits). y.end) (sym f)

-- which tags of an element type may be left out
pub start-said : (t : Doctype) (i : ℕ) (x : Omits) → option_map (λ (e : ElementType). e.omits) (slice_get (types t.elements) i) ≡ Some x → x.start ≡ (type_at t i).omits.start
start-said t i x h = start-in (slice_get (types t.elements) i) x h

pub end-said : (t : Doctype) (i : ℕ) (x : Omits) → option_map (λ (e : ElementType). e.omits) (slice_get (types t.elements) i) ≡ Some x → x.end ≡ (type_at t i).omits.end
end-said t i x h = end-in (slice_get (types t.elements) i) x h

-- whether an attribute is required
pub required-found : (t : Doctype) (n : Name) (i : ℕ) → number_of t.elements n ≡ Some i → list_any is_required (definitions_for t.lists (name_at t i)) ≡ has_required t n
required-found t n i h = ap (λ m. list_any is_required (definitions_for t.lists m)) (name-found t n i h) ∙ sym (required-are t n)
