-- What a tree of open elements stands for.
use Rattle.std.specs.Prelude.{◌≡◌, ℕ, zero, suc, ◌<◌, ◌≤◌, ◌^◌, Bool, true, false, not, ◌||◌, is_some, Option, Some, List, [], ◌∷◌, All, map, reverse, take, length, slice_get, slice_set, vec_capacity, IfSome}
use Rattle.sgml_automaton.specs.model.Term.{Term, empty, done}
use Rattle.sgml_automaton.specs.model.Choice.{left_by, is_text}
use Rattle.sgml_automaton.specs.ambiguity.Ambiguity.{Reaches}
use Rattle.sgml_automaton.specs.Position.{room, at, next_by}
use Rattle.sgml_automaton.specs.Automaton.{bits_in, term_at_last, IsPlaced}
use Rattle.sgml_automaton.specs.declared.state.ModelState.{ModelState}
use Rattle.sgml_dtd_elements.specs.Laws.{AreDistinct}
use Rattle.sgml_dtd.specs.Doctypes.{Doctype}
use Rattle.sgml_theory_reading.specs.Types.{Content, Model, Any, Cdata, Rcdata, Void, content_of, has_model}
use Rattle.sgml_theory_reading.specs.Names.{Name}
use Rattle.sgml_theory_reading.specs.Pieces.{History}
use Rattle.sgml_theory_reading.specs.Facets.{Token}
use Rattle.sgml_theory_reading.specs.Context.{Context, context, at_start, token_left}
use Rattle.sgml_theory_reading.specs.Context as reading
use Rattle.sgml_infer.specs.Tables.{name_at, type_at, model_at, IsNumber}
use Rattle.sgml_infer.specs.declared.level.Level.{Level}
use Rattle.sgml_infer.specs.declared.steps.Step.{Step}
use Rattle.sgml_infer.specs.declared.steps.Steps.{Steps}
use Rattle.sgml_infer.specs.declared.tree.Tree.{Tree}
use Rattle.sgml_infer.specs.Links.{AreLinked, KnowNet}
use Rattle.sgml_infer.specs.Known.{AreKnown}

-- the term that is left, of a content with a model
abbrev pub left_in : Content → ModelState → Term
left_in (Model x) s = term_at_last x s.last s.bits.items
left_in Any s = empty
left_in Cdata s = empty
left_in Rcdata s = empty
left_in Void s = empty

abbrev pub left_at : Doctype → ℕ → ModelState → Term
left_at t i s = left_in (content_of (type_at t i)) s

-- the content takes a token of a declared type, but for inclusions
abbrev pub may_take : Content → ModelState → Token → Bool
may_take (Model x) s k = is_some (left_by (term_at_last x s.last s.bits.items) k)
may_take Any s k = true
may_take Cdata s k = is_text k
may_take Rcdata s k = is_text k
may_take Void s k = false

-- the model takes it itself; each declared type may stand in ANY
abbrev pub takes_itself : Content → ModelState → Token → Bool
takes_itself (Model x) s k = is_some (left_by (term_at_last x s.last s.bits.items) k)
takes_itself Any s k = true
takes_itself Cdata s k = false
takes_itself Rcdata s k = false
takes_itself Void s k = false

-- nothing more need come in the element of this number: it has no model, or its model is done
abbrev pub finished_at : Doctype → ℕ → ModelState → Bool
finished_at t i s = not (has_model (content_of (type_at t i))) || done (left_at t i s)

abbrev pub level_of : Doctype → Level → reading.Level
level_of t l = record { element = name_at t l.element; left = left_at t l.element l.state; slash = l.slash }

abbrev pub open_levels : Tree → List Level
open_levels tree = take tree.depth tree.levels.items

-- what is known of them, the innermost first
abbrev pub levels_of : Doctype → List Level → List reading.Level
levels_of t ls = reverse (map (level_of t) ls)

-- what is known of the first so many of them
abbrev pub first_levels : Doctype → ℕ → List Level → List reading.Level
first_levels t count ls = levels_of t (take count ls)

-- the innermost element takes a token
abbrev pub taking : Token → List reading.Level → List reading.Level
taking k [] = []
taking k (l ∷ ls) = record { element = l.element; left = token_left l.left k; slash = l.slash } ∷ ls

-- what is known of the open elements, the innermost last
abbrev pub context_with : Doctype → List Level → Bool → Context
context_with t ls begun = record { doctype = t; levels = levels_of t ls; begun = begun; inferred = false }

abbrev pub context_in : Doctype → Tree → Context
context_in t tree = context_with t (open_levels tree) tree.begun

-- THE TREE STANDS FOR WHAT WAS READ
abbrev pub StandsFor : Doctype → Tree → History → Type 0
StandsFor t tree h = context h ≡ context_in t tree

-- nothing was begun
abbrev pub IsStarted : Doctype → History → Type 0
IsStarted t h = context h ≡ at_start t

-- WHAT HOLDS OF EACH TREE that was made for these tables

-- the last token is one of the model, and some tokens lead to the term
pub record IsStateOf (x : Term) (s : ModelState) : Type 0 where
  pub placed : IsPlaced x s.last
  pub reached : Reaches x (term_at_last x s.last s.bits.items)

abbrev pub IsStateIn : Content → ModelState → Type 0
IsStateIn (Model x) s = IsStateOf x s
IsStateIn _ s = Unit {0}

-- The term at a position of a model without AND groups: 0 is its start, and each other position is one
-- more than the token before it.
abbrev pub at_position : Term → ℕ → Term
at_position x zero = x
at_position x (suc k) = at x 0 k (λ i. false)

-- the state stands there
abbrev pub IsPositionIn : Content → ℕ → ModelState → Type 0
IsPositionIn (Model x) p s = room x ≡ 0 → term_at_last x s.last s.bits.items ≡ at_position x p
IsPositionIn _ p s = Unit {0}

abbrev pub IsPosition : Doctype → ℕ → ℕ → ModelState → Type 0
IsPosition t i p s = IsPositionIn (content_of (type_at t i)) p s

-- it has bits for each of the models
abbrev pub HasRoom : Doctype → ModelState → Type 0
HasRoom t s = (i : ℕ) → room (model_at t i) ≤ bits_in s

-- a state at the start of an element's content
pub record IsFresh (t : Doctype) (i : ℕ) (s : ModelState) : Type 0 where
  pub state : IsStateIn (content_of (type_at t i)) s
  pub start : left_at t i s ≡ model_at t i

pub record IsLevel (t : Doctype) (l : Level) : Type 0 where
  pub number : IsNumber t l.element
  pub state : IsStateIn (content_of (type_at t l.element)) l.state
  pub position : IsPosition t l.element l.position l.state
  pub room : HasRoom t l.state

abbrev pub HasRoomIn : Doctype → Level → Type 0
HasRoomIn t l = HasRoom t l.state

-- STEPS THAT WERE FOUND

-- in a model without AND groups, at this position, the name has this token, where one can come
abbrev pub IsStepIn : Content → ℕ → Name → Option ℕ → Type 0
IsStepIn (Model x) p n k = (room x ≡ 0) × (k ≡ next_by (at_position x p) (Some n))
IsStepIn _ p n k = ⊥

-- the same of element types by their numbers
abbrev pub IsStep : Doctype → ℕ → ℕ → ℕ → Option ℕ → Type 0
IsStep t i p n k = IsStepIn (content_of (type_at t i)) p (name_at t n) k

abbrev pub IsStepOf : Doctype → Step → Type 0
IsStepOf t s = IsStep t s.element s.position s.number s.token

-- each that was noted is one
abbrev pub AreSteps : Doctype → Steps → Type 0
AreSteps t s = All (λ o. IfSome o (IsStepOf t)) s.slots.items

-- each open element has a place, and knows whether NET is in force
pub record HasPlaces (tree : Tree) : Type 0 where
  pub places : tree.depth ≤ length tree.levels.items
  pub net : KnowNet (open_levels tree)

-- the open elements are the same
pub record KeepsOpen (old new : Tree) : Type 0 where
  pub levels : new.levels.items ≡ old.levels.items
  pub depth : new.depth ≡ old.depth
  pub begun : new.begun ≡ old.begun

-- all that a refusal leaves as it was
pub record IsUnchanged (old new : Tree) : Type 0 where
  pub levels : new.levels.items ≡ old.levels.items
  pub depth : new.depth ≡ old.depth
  pub begun : new.begun ≡ old.begun
  pub ended : new.ended.items ≡ old.ended.items

pub record IsTreeOf (t : Doctype) (tree : Tree) : Type 0 where
  pub distinct : AreDistinct t.elements
  pub few : t.syntax.quantities.taglvl < 2 ^ 32
  -- TAGLVL elements have a place
  pub slots : length tree.levels.items ≡ t.syntax.quantities.taglvl
  pub depth : tree.depth ≤ t.syntax.quantities.taglvl
  pub levels : All (IsLevel t) (open_levels tree)
  pub linked : AreLinked t (open_levels tree)
  pub places : HasPlaces tree
  pub rooms : All (HasRoomIn t) tree.levels.items
  pub fresh : HasRoom t tree.fresh
  pub ended : t.syntax.quantities.taglvl ≤ vec_capacity tree.ended
  pub starts : t.syntax.quantities.taglvl ≤ vec_capacity tree.starts
  pub steps : AreSteps t tree.steps
  pub known : AreKnown t tree.known.items

abbrev pub enabled : Level → Level
enabled l = record { element = l.element; state = l.state; position = l.position; slash = true; within_net = true; excepted = l.excepted }

-- the element at this place has NET enabled, and the others stay
pub record IsEnabled (old new : List Level) (at : ℕ) : Type 0 where
  pub level : Level
  pub was : slice_get old at ≡ Some level
  pub all : new ≡ slice_set old at (enabled level)
