-- Which pieces a visible one stands for, and what it is to accept or to refuse it.
use Rattle.std.specs.Prelude.{◌≡◌, ℕ, ◌<◌, ◌≤◌, ◌+◌, ◌-◌, Bool, true, false, not, Option, Some, None, option_map, List, [], ◌∷◌, ◌++◌, All, length}
use Rattle.sgml_text.specs.declared.reason.Reason.{Reason}
use Rattle.sgml_dtd.specs.Doctypes.{Doctype}
use Rattle.sgml_theory_reading.specs.Names.{Name}
use Rattle.sgml_theory_reading.specs.Types.{type_of, content_of}
use Rattle.sgml_theory_reading.specs.Pieces.{Piece, Kind, Start, End, Char, Finish, How, Tag, Short, Slash, Net, Omitted, Specification, History}
use Rattle.sgml_theory_reading.specs.Facets.{Pcdata, token}
use Rattle.sgml_theory_reading.specs.Context.{Context, context, context_after}
use Rattle.sgml_theory_reading.specs.Omission.{misfits, inside_of_ended}
use Rattle.sgml_theory_reading.specs.Runs.{LongestRun, LongestRunFrom, after_run, context_after_run}
use Rattle.sgml_theory_reading.specs.Reasons.{reason}
use Rattle.sgml_theory_reading.specs.Characters.{is_void}
use Rattle.sgml_theory_reading.specs.Reads.{is_proper_in}
use Rattle.sgml_infer.specs.Tables.{name_at, type_at, IsNumber}
use Rattle.sgml_infer.specs.declared.visible.Visible.{Visible}
use Rattle.sgml_infer.specs.declared.visible.Visible.TheVariants as visible
use Rattle.sgml_infer.specs.declared.visible.Chain.{Chain}
use Rattle.sgml_infer.specs.declared.fitting.Fit.{Fit}
use Rattle.sgml_infer.specs.declared.standing.Standing.{Standing}
use Rattle.sgml_infer.specs.declared.tree.Tree.{Tree}
use Rattle.sgml_infer.specs.Trees.{open_levels, context_in, StandsFor}
use Rattle.sgml_infer.specs.Seen.{started, ended, ending}

-- the element type of a tag is one of the tables
abbrev pub IsNumbered : Doctype → Visible → Type 0
IsNumbered t (visible.Start i) = IsNumber t i
IsNumbered t visible.Chars = Unit {0}
IsNumbered t (visible.EndTag i) = IsNumber t i
IsNumbered t visible.EndCurrent = Unit {0}
IsNumbered t visible.Net = Unit {0}
IsNumbered t visible.EndDocument = Unit {0}

-- a start is one that is written, in whatever way
abbrev pub IsWritten : How → Type 0
IsWritten Omitted = ⊥
IsWritten _ = Unit {0}

pub record IsStartOf (n : Name) (k : Kind) : Type 0 where
  pub specifications : List Specification
  pub how : How
  pub proper : Bool
  pub at_once : Bool
  pub written : IsWritten how
  pub is : k ≡ Start n specifications how proper at_once

-- what the visible piece may be
abbrev pub IsVisible : Doctype → Visible → Kind → Type 0
IsVisible t (visible.Start i) k = IsStartOf (name_at t i) k
IsVisible t visible.Chars k = token k ≡ Some Pcdata
IsVisible t (visible.EndTag i) k = k ≡ End (name_at t i) Tag
IsVisible t visible.EndCurrent k = (n : Name) × (k ≡ End n Short)
IsVisible t visible.Net k = (n : Name) × (k ≡ End n Net)
IsVisible t visible.EndDocument k = k ≡ Finish

-- A start as it is accepted: it is proper where the term that is left takes it, it ends at once
-- where its type is declared EMPTY, and it doesn't enable NET.
abbrev pub plain : How → How
plain Slash = Tag
plain how = how

abbrev pub accepted : Context → Kind → Kind
accepted s (Start n specifications how proper at_once) =
    Start n specifications (plain how) (is_proper_in s s.levels (Some n)) (is_void (content_of (type_of s.doctype n)))
accepted s kind = kind

abbrev pub accepted_piece : Context → Piece → Piece
accepted_piece s p = record { kind = accepted s p.kind; size = p.size; spent = p.spent }

-- the start of an element that an open one includes
abbrev pub is_included_start : Context → Kind → Bool
is_included_start s (Start n specifications how proper at_once) = not (is_proper_in s s.levels (Some n))
is_included_start s kind = false

-- how a visible piece fits in a state
pub record IsFit (s : Context) (k : Kind) (f : Fit) : Type 0 where
  pub misfit : f.misfit ≡ misfits s (token k)
  pub included : f.included ≡ is_included_start s k

-- the tags that a tree has left out last: ends, and then starts
abbrev pub left_out : Doctype → Tree → List Piece
left_out t tree = ended t tree.ended.items ++ started t tree.starts.items

-- THE PIECE IS JUDGED where these elements are open: what the tree has left out is the longest run
-- before it, and no reason holds after it. Nothing of it is taken.

-- what is known after the run
abbrev pub after_left_out : Doctype → Tree → Context
after_left_out t tree = context_after_run (context_in t tree) (left_out t tree)

-- and after the piece
abbrev pub after_judged : Doctype → Tree → Piece → Context
after_judged t tree p = context_after (accepted_piece (after_left_out t tree) p) (after_left_out t tree)

pub record IsJudged (t : Doctype) (tree : Tree) (visible : Visible) (chain : Chain) : Type 0 where
  -- the innermost elements end, and there are places for those that start
  pub ends : chain.ends ≡ length tree.ended.items
  pub starts : chain.starts ≡ length tree.starts.items
  pub within : chain.ends ≤ tree.depth
  pub ended : tree.ended.items ≡ ending (open_levels tree) (tree.depth - chain.ends)
  pub room : tree.depth - chain.ends + chain.starts ≤ t.syntax.quantities.taglvl
  -- each has a type of the tables
  pub ended_numbers : All (IsNumber t) tree.ended.items
  pub started_numbers : All (IsNumber t) tree.starts.items
  -- of each piece that the visible one may be
  pub longest : (k : Kind) → IsVisible t visible k → LongestRunFrom (context_in t tree) k (left_out t tree)
  pub no_reason : (k : Kind) → IsVisible t visible k → reason (after_left_out t tree) k ≡ None
  pub included : (k : Kind) → IsVisible t visible k → chain.included ≡ is_included_start (after_left_out t tree) k

-- IT IS REFUSED in a context, for the reason that holds after the longest run before it
pub record IsRefusedIn (t : Doctype) (c : Context) (visible : Visible) (r : Reason) : Type 0 where
  pub run : List Piece
  pub longest : (k : Kind) → IsVisible t visible k → LongestRunFrom c k run
  pub because : (k : Kind) → IsVisible t visible k → reason (context_after_run c run) k ≡ Some r

-- THE PIECE IS ACCEPTED: what the tree has left out is the longest run before it, no reason holds
-- after it, and the tree stands for what was read with both.
pub record Accepts (t : Doctype) (h : History) (p : Piece) (chain : Chain) (new : Tree) : Type 0 where
  pub longest : LongestRun h p.kind (left_out t new)
  pub no_reason : reason (context (after_run h (left_out t new))) p.kind ≡ None
  pub stands : StandsFor t new (accepted_piece (context (after_run h (left_out t new))) p ∷ after_run h (left_out t new))
  pub included : chain.included ≡ is_included_start (context (after_run h (left_out t new))) p.kind

-- THE PIECE IS REFUSED for the reason that holds after the longest run before it.
pub record Refuses (h : History) (p : Piece) (r : Reason) : Type 0 where
  pub run : List Piece
  pub longest : LongestRun h p.kind run
  pub because : reason (context (after_run h run)) p.kind ≡ Some r

-- ONE KIND OF EACH

abbrev pub is_content : Visible → Bool
is_content (visible.Start i) = true
is_content visible.Chars = true
is_content (visible.EndTag i) = false
is_content visible.EndCurrent = false
is_content visible.Net = false
is_content visible.EndDocument = false

abbrev pub kind_of : Doctype → Visible → Kind
kind_of t (visible.Start i) = Start (name_at t i) [] Tag true (is_void (content_of (type_at t i)))
kind_of t visible.Chars = Char 0
kind_of t (visible.EndTag i) = End (name_at t i) Tag
kind_of t visible.EndCurrent = End [] Short
kind_of t visible.Net = End [] Net
kind_of t visible.EndDocument = Finish

-- it is the start of an element that isn't declared EMPTY
abbrev pub begins_element : Doctype → Visible → Bool
begins_element t (visible.Start i) = not (is_void (content_of (type_at t i)))
begins_element t _ = false

-- the kind that a visible piece has at a point of a walk
abbrev pub kind_in : Standing → Visible → Kind
kind_in s visible = kind_of s.dtd.now visible

-- the piece changes the open elements within their bounds
abbrev pub HasRoomFor : Doctype → Visible → ℕ → Type 0
HasRoomFor t (visible.Start i) depth = depth < t.syntax.quantities.taglvl
HasRoomFor t visible.Chars depth = Unit {0}
HasRoomFor t (visible.EndTag i) depth = 0 < depth
HasRoomFor t visible.EndCurrent depth = 0 < depth
HasRoomFor t visible.Net depth = 0 < depth
HasRoomFor t visible.EndDocument depth = Unit {0}

-- a start
abbrev pub start_of : Name → List Specification → How → Bool → Bool → ℕ → ℕ → Piece
start_of n specifications how proper at_once size spent = record { kind = Start n specifications how proper at_once; size = size; spent = spent }

-- for each start in which the tree's innermost element began, the tree stands for it with NET enabled
abbrev pub EnablesNet : Tree → Tree → Type 0
EnablesNet old new =
    (t : Doctype) (h : History) (n : Name) (specifications : List Specification) (how : How) (proper : Bool) (size spent : ℕ) →
    StandsFor t old (start_of n specifications how proper false size spent ∷ h) →
    StandsFor t new (start_of n specifications Slash proper false size spent ∷ h)

-- and for it as one that ends at once
abbrev pub EndsAtOnce : Tree → Tree → Type 0
EndsAtOnce old new =
    (t : Doctype) (h : History) (n : Name) (specifications : List Specification) (how : How) (proper : Bool) (size spent : ℕ) →
    IsWritten how → StandsFor t old (start_of n specifications how proper false size spent ∷ h) →
    StandsFor t new (start_of n specifications how proper true size spent ∷ h)

-- The same where no history is kept, of the context before the start.
abbrev pub EnablesNetIn : Tree → Tree → Type 0
EnablesNetIn old new =
    (t : Doctype) (c : Context) (n : Name) (specifications : List Specification) (how : How) (proper : Bool) (size spent : ℕ) →
    context_in t old ≡ context_after (start_of n specifications how proper false size spent) c →
    context_in t new ≡ context_after (start_of n specifications Slash proper false size spent) c

abbrev pub EndsAtOnceIn : Tree → Tree → Type 0
EndsAtOnceIn old new =
    (t : Doctype) (c : Context) (n : Name) (specifications : List Specification) (how : How) (proper : Bool) (size spent : ℕ) →
    context_in t old ≡ context_after (start_of n specifications how proper false size spent) c →
    context_in t new ≡ context_after (start_of n specifications how proper true size spent) c

-- Of so many open elements the one that NET ends, counted from the outermost, 0: the innermost that
-- enabled it (7.5.1.3).
abbrev pub net_level : ℕ → Context → Option ℕ
net_level depth s = option_map (λ inside. depth - 1 - inside) (inside_of_ended s (End [] Net))
