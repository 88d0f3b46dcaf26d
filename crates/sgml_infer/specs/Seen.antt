-- What is known of the open elements at a point of a walk.
use Rattle.std.specs.Prelude.{◌≡◌, ◌-◌, ℕ, Bool, ◌||◌, Option, Some, None, List, [], ◌∷◌, ◌++◌, All, map, reverse, take, drop}
use Rattle.std.specs.List.{list_any}
use Rattle.sgml_automaton.specs.declared.state.ModelState.{ModelState}
use Rattle.sgml_dtd_elements.specs.Laws.{AreDistinct}
use Rattle.sgml_dtd.specs.Doctypes.{Doctype}
use Rattle.sgml_theory_reading.specs.Types.{content_of}
use Rattle.sgml_theory_reading.specs.Names.{Name}
use Rattle.sgml_theory_reading.specs.Pieces.{Piece, Kind}
use Rattle.sgml_theory_reading.specs.Facets.{Token}
use Rattle.sgml_theory_reading.specs.Context.{Context}
use Rattle.sgml_theory_reading.specs.Context as reading
use Rattle.sgml_theory_reading.specs.Omission.{omitted_end, omitted_start, counted, EndMayStand, StartMayStand, NoneMayStand}
use Rattle.sgml_theory_reading.specs.Reasons.{reason}
use Rattle.sgml_theory_reading.specs.Runs.{LongestRunFrom, context_after_run}
use Rattle.sgml_theory_reading.specs.Reads.{is_proper_in}
use Rattle.sgml_infer.specs.Tables.{name_at, type_at, IsNumber}
use Rattle.sgml_infer.specs.declared.level.Level.{Level}
use Rattle.sgml_infer.specs.declared.exceptions.Exception.{Exception}
use Rattle.sgml_infer.specs.declared.standing.Standing.{Standing}
use Rattle.sgml_infer.specs.declared.tree.Tree.{Tree}
use Rattle.sgml_infer.specs.Links.{excepts, AreLinked}
use Rattle.sgml_infer.specs.Known.{AreKnown}
use Rattle.sgml_infer.specs.Trees.{left_at, open_levels, context_with, IsStateIn, IsPosition, HasRoom, IsFresh, IsLevel, AreSteps}

-- the starts that were left out, the oldest first
abbrev pub started : Doctype → List ℕ → List Piece
started t ns = map (λ n. omitted_start (name_at t n)) ns

-- the ends that were left out, of these elements
abbrev pub ended : Doctype → List ℕ → List Piece
ended t ns = map (λ n. omitted_end (name_at t n)) ns

-- the elements that end where so many of the open ones stay, from the inside out
abbrev pub ending : List Level → ℕ → List ℕ
ending ls kept = map (λ (l : Level). l.element) (reverse (drop kept ls))

-- what is known of the open elements
abbrev pub context_at : Doctype → List Level → Bool → Context
context_at t ls begun = context_with t ls begun

abbrev pub seen_with : Doctype → List Level → Bool → List ℕ → Context
seen_with t ls begun ns = context_after_run (context_at t ls begun) (started t ns)

abbrev pub seen : Standing → Context
seen s = seen_with s.dtd.now s.levels.now s.begun s.starts.now

-- what is known where only so many of the open elements stay, and no start is inferred
abbrev pub kept : Standing → ℕ → Context
kept s count = context_at s.dtd.now (take count s.levels.now) s.begun

-- the ends that are left out where so many of them stay
abbrev pub left_ends : Standing → ℕ → List Piece
left_ends s count = ended s.dtd.now (ending s.levels.now count)

-- an end-tag may be left out here before a piece (7.3.1.2)
abbrev pub SomeEndMayStand : Context → Kind → Type 0
SomeEndMayStand s x = (n : Name) × EndMayStand s n x

abbrev pub NoEndMayStand : Context → Kind → Type 0
NoEndMayStand s x = (n : Name) → EndMayStand s n x → ⊥

-- no start-tag may be left out here before a piece (7.3.1.1)
abbrev pub NoStartMayStand : Context → Kind → Type 0
NoStartMayStand s x = (n : Name) → StartMayStand s n x → ⊥

-- a piece may stand here, and no tag may be left out before it
pub record IsUnopposed (s : Context) (x : Kind) : Type 0 where
  pub none : NoneMayStand s x
  pub no_reason : reason s x ≡ None

-- These pieces begin the longest run before a piece: behind them each longest run from what is then
-- known completes it.
abbrev pub BeginLongestRun : Context → Kind → List Piece → Context → Type 0
BeginLongestRun s x run after = (rest : List Piece) → LongestRunFrom after x rest → LongestRunFrom s x (run ++ rest)

-- the term that is left takes the token itself, or each declared type may stand there
abbrev pub is_proper_here : Context → Token → Bool
is_proper_here s k = is_proper_in s s.levels k

-- what is known of a tree where so many of its open elements stay and these starts are inferred
abbrev pub seen_in : Doctype → Tree → ℕ → List ℕ → Context
seen_in t tree count ns = seen_with t (take count (open_levels tree)) tree.begun ns

-- the tags that are left out there
abbrev pub run_in : Doctype → Tree → ℕ → List ℕ → List Piece
run_in t tree count ns = ended t (ending (open_levels tree) count) ++ started t ns

-- what is known of a tree once its inferred starts have begun
abbrev pub seen_begun : Doctype → Tree → Context
seen_begun t tree = seen_with t (open_levels tree) tree.begun tree.starts.items

-- one of the elements has such an exception for the token
abbrev pub some_excepts : Standing → Exception → Token → Bool
some_excepts s exception k =
    list_any (excepts s.dtd.now exception k) s.starts.now || list_any (λ (l : Level). excepts s.dtd.now exception k l.element) s.levels.now

-- how many stand before the first that passes a test
abbrev pub inside_where : (Level → Bool) → List Level → Option ℕ
inside_where test [] = None
inside_where test (l ∷ ls) = counted (test l) (inside_where test ls)

abbrev pub one_less : Option ℕ → Option ℕ
one_less None = None
one_less (Some n) = Some (n - 1)

-- the last of these elements is at its start
abbrev pub IsLastFresh : Doctype → List ℕ → ModelState → Type 0
IsLastFresh t ns s = (rest : List ℕ) (n : ℕ) → ns ≡ rest ++ n ∷ [] → IsFresh t n s

pub record IsStanding (s : Standing) : Type 0 where
  pub distinct : AreDistinct s.dtd.now.elements
  pub levels : All (IsLevel s.dtd.now) s.levels.now
  pub linked : AreLinked s.dtd.now s.levels.now
  pub starts : All (IsNumber s.dtd.now) s.starts.now
  pub fresh : IsLastFresh s.dtd.now s.starts.now s.fresh.now
  pub room : HasRoom s.dtd.now s.fresh.now
  pub steps : AreSteps s.dtd.now s.steps.now
  pub known : AreKnown s.dtd.now s.known.now

-- the element of this number is the innermost, and the position and the state are those of its model
pub record IsInner (t : Doctype) (i p : ℕ) (s : ModelState) (c : Context) : Type 0 where
  pub number : IsNumber t i
  pub state : IsStateIn (content_of (type_at t i)) s
  pub position : IsPosition t i p s
  pub room : HasRoom t s
  pub doctype : c.doctype ≡ t
  pub slash : Bool
  pub outer : List reading.Level
  pub levels : c.levels ≡ record { element = name_at t i; left = left_at t i s; slash = slash } ∷ outer
