-- How what a reader keeps goes on to stand for what was read.
use Rattle.std.specs.Prelude.{◌≡◌, ℕ, ◌<◌, ◌≤◌, ◌⊎◌, Bool, true, IsFalse, List, ◌∷◌, ◌++◌, Ok, Result, map, length}
use Rattle.sgml_theory_spelling.specs.text.declared.reason.Reason.{Reason}
use Rattle.sgml_theory_spelling.specs.entity.Stack.{is_on}
use Rattle.sgml_theory_spelling.specs.entity.Texts.{text_of}
use Rattle.sgml_theory_spelling.specs.decl_lexemes.Sources.{or_empty}
use Rattle.sgml_theory_spelling.specs.theory_reading.Names.{Text}
use Rattle.sgml_theory_spelling.specs.theory_reading.Pieces.{Piece, EntityEnd, History}
use Rattle.sgml_theory_spelling.specs.theory_reading.Unread.{Outside, Input, standing, opening}
use Rattle.sgml_theory_spelling.specs.theory_reading.State.{state}
use Rattle.sgml_theory_spelling.specs.theory_reading.Reads.{Reads, ReadOn, after_moves, Stops, spelled_next, answer_noted, stop_place, top_place, standing_with_more, ends_in_finish}
use Rattle.sgml_theory_spelling.specs.Spelled.{spelled, forms}
use Rattle.sgml_theory_standing.specs.Supplied.{AreSuppliedSoFar, MayFollow}
use Rattle.sgml_theory_standing.specs.Kept.{Kept, Stands, kept_at_start, AreDeclared, given, sources_of}
use Rattle.sgml_theory_standing.specs.Prologs.{is_of_prolog, is_in_prolog, state_in_prolog, alone}
use Rattle.sgml_theory_standing.specs.Next.{after, IsThere, IsDecidedIn, AreNext, IsRefused, left_to_read}

-- READING BEGINS before the first byte, with what was given of the document
abbrev pub ReadingBegins : Type 0
ReadingBegins =
    (texts : List (ℕ × Text)) (I : Input) (more : Text) → I.document ≡ or_empty (text_of texts 0) ++ more
    → AreSuppliedSoFar I.outside (sources_of (kept_at_start I.outside)) texts
    → Stands (kept_at_start I.outside) texts I more (opening I.outside) × (is_in_prolog (opening I.outside) ≡ true)

-- WHAT IS UNREAD of the input is what is unread of the texts that were given, with what is to come
abbrev pub GivenIsUnread : Type 0
GivenIsUnread =
    (k : Kept) (texts : List (ℕ × Text)) (I : Input) (more : Text) (h : History)
    → Stands k texts I more h → standing I h ≡ standing_with_more more (given k texts)

-- reading stands at the top of the stack
abbrev pub StopsAtTop : Type 0
StopsAtTop =
    (k : Kept) (texts : List (ℕ × Text)) (I : Input) (more : Text) (h : History)
    → Stands k texts I more h → stop_place h ≡ top_place k.stack.places

-- WHAT IS SPELLED in the texts that were given, where they decide it, stands next in the input
abbrev pub SpelledStandsNext : Type 0
SpelledStandsNext =
    (k : Kept) (texts : List (ℕ × Text)) (ended : Bool) (I : Input) (more : Text) (h : History) (answer : Result Piece Reason)
    → Stands k texts I more h → MayFollow ended I more → IsDecidedIn I.outside (state h) k texts ended
    → spelled I.outside (state h) (given k texts) ≡ answer → spelled_next forms I h ≡ answer_noted (state h) answer

-- IN THE PROLOG the state is that of what is kept
abbrev pub StateInProlog : Type 0
StateInProlog =
    (k : Kept) (texts : List (ℕ × Text)) (I : Input) (more : Text) (h : History)
    → Stands k texts I more h → is_in_prolog h ≡ true → state h ≡ state_in_prolog k

-- a piece of the prolog reads with no tag left out before it
abbrev pub PrologReads : Type 0
PrologReads =
    (I : Input) (h : History) (p : Piece) → IsFalse (ends_in_finish h) → is_of_prolog p.kind ≡ true
    → spelled_next forms I h ≡ Ok p → Reads forms I h (alone p)

-- AFTER A PIECE what is kept stands for what was read with it
abbrev pub StandsOn : Type 0
StandsOn =
    (k : Kept) (texts : List (ℕ × Text)) (I : Input) (more : Text) (h : History) (p : Piece)
    → Stands k texts I more h → is_of_prolog p.kind ≡ true → Reads forms I h (alone p) → IsThere I.outside k texts p
    → Stands (after I.outside p k) texts I more (p ∷ h)

-- so pieces that stand next, one after another, are read
pub record AreRead (new : Kept) (texts : List (ℕ × Text)) (I : Input) (more : Text) (h : History) (ps : List Piece) : Type 0 where
  pub read : ReadOn forms I h (map alone ps)
  pub stands : Stands new texts I more (after_moves h (map alone ps))
  pub in_prolog : is_in_prolog (after_moves h (map alone ps)) ≡ true

abbrev pub NextAreRead : Type 0
NextAreRead =
    (k new : Kept) (texts : List (ℕ × Text)) (ended : Bool) (I : Input) (more : Text) (h : History) (ps : List Piece)
    → Stands k texts I more h → MayFollow ended I more → is_in_prolog h ≡ true → AreNext I.outside k texts ended ps new
    → AreRead new texts I more h ps

-- with each of them less is left to read, where its text may be opened
abbrev pub NextFalls : Type 0
NextFalls =
    (k : Kept) (texts : List (ℕ × Text)) (outside : Outside) (p : Piece)
    → AreDeclared k.doctype.entities k.stack.places → 0 < length k.stack.places
    → is_of_prolog p.kind ≡ true → IsThere outside k texts p → (0 < p.size) ⊎ (p.kind ≡ EntityEnd)
    → (after outside p k).stack.spent ≤ k.stack.expand
    → left_to_read (after outside p k) texts < left_to_read k texts

-- and where none stands next, reading stops for that reason
abbrev pub RefusedStops : Type 0
RefusedStops =
    (k : Kept) (texts : List (ℕ × Text)) (ended : Bool) (I : Input) (more : Text) (h : History) (r : Reason)
    → Stands k texts I more h → MayFollow ended I more → is_in_prolog h ≡ true → IsRefused I.outside k texts ended r
    → Stops forms I h r

-- MORE TEXTS leave it as it is: more of the document, and texts of entities that aren't being read
pub record Gain (k : Kept) (outside : Outside) (old new : List (ℕ × Text)) (bytes : Text) : Type 0 where
  pub document : or_empty (text_of new 0) ≡ or_empty (text_of old 0) ++ bytes
  pub being_read : (number : ℕ) → 0 < number → is_on number k.stack.places ≡ true → text_of new number ≡ text_of old number
  pub supplied : AreSuppliedSoFar outside (sources_of k) new

abbrev pub TextsAreGained : Type 0
TextsAreGained =
    (k : Kept) (old new : List (ℕ × Text)) (bytes more : Text) (I : Input) (h : History)
    → Stands k old I (bytes ++ more) h → Gain k I.outside old new bytes → Stands k new I more h
