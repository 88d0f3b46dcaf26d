-- What a parser keeps in content beside what was kept of the prolog, and what that stands for.
use Rattle.std.specs.Prelude.{◌≡◌, ℕ, Bool, true, false, Option, None, List, [], ◌∷◌, Result, reverse, length}
use Rattle.sgml_theory_spelling.specs.text.declared.reason.Reason.{Reason}
use Rattle.sgml_theory_spelling.specs.records.Facts.{Facts}
use Rattle.sgml_theory_spelling.specs.dtd_maps.declared.uses.MapOf.{MapOf}
use Rattle.sgml_theory_spelling.specs.theory_reading.Names.{Name, Text}
use Rattle.sgml_theory_spelling.specs.theory_reading.Pieces.{Piece, Kind, Start, End, Char, Data, DataRef, Re, Rs, Sep, ShortRef, Ref, EntityEnd, SectionStart, SectionEnd, Skipped, Pi, Comment, UseMap, History}
use Rattle.sgml_theory_spelling.specs.theory_reading.Facets.{AfterSubset}
use Rattle.sgml_theory_spelling.specs.theory_reading.Context.{Level}
use Rattle.sgml_theory_spelling.specs.theory_reading.Currents.{Currents}
use Rattle.sgml_theory_spelling.specs.theory_reading.Unread.{Outside, Input}
use Rattle.sgml_theory_spelling.specs.theory_reading.State.{State, state, after_piece}
use Rattle.sgml_theory_spelling.specs.theory_reading.Reads.{Move}
use Rattle.sgml_theory_spelling.specs.Spelled.{spelled}
use Rattle.sgml_theory_standing.specs.Kept.{Kept, Stands, given}
use Rattle.sgml_theory_standing.specs.Next.{IsDecidedIn, after}

pub record Held : Type 0 where
  -- the document type, the texts, the marked sections
  pub kept : Kept
  -- the open elements, the innermost first, with what is left of each one's model
  pub levels : List Level
  -- the document element was begun
  pub begun : Bool
  -- the record ends of each open element, the innermost first
  pub record_ends : List Facts
  -- the type of the element that ended last
  pub ended : Option Name
  pub map_settings : List MapOf
  pub currents : Currents

-- THE STATE in which content is read: the newest piece is no tag that was left out
abbrev pub state_of : Held → State
state_of x = record {
  context = record { doctype = x.kept.doctype; levels = x.levels; begun = x.begun; inferred = false };
  record_ends = x.record_ends;
  ended = x.ended;
  sections = reverse x.kept.sections;
  texts = length x.kept.stack.places;
  map_settings = x.map_settings;
  currents = x.currents;
  stage = x.kept.stage;
  subset = x.kept.subset;
}

-- WHAT IT STANDS FOR, of an input of which the document goes on with `more`
pub record Parses (x : Held) (texts : List (ℕ × Text)) (I : Input) (more : Text) (h : History) : Type 0 where
  pub stands : Stands x.kept texts I more h
  pub state_is : state h ≡ state_of x
  -- the prolog has been read
  pub in_content : x.kept.stage ≡ AfterSubset

-- where the prolog ends nothing of the instance was read
abbrev pub content_begins : Kept → Held
content_begins k = record { kept = k; levels = []; begun = false; record_ends = []; ended = None; map_settings = []; currents = λ e a. None }

-- THE PIECES OF CONTENT that it goes on after
abbrev pub is_of_content : Kind → Bool
is_of_content (Start n specifications how proper at_once) = true
is_of_content (End n how) = true
is_of_content (Char byte) = true
is_of_content (Data entity) = true
is_of_content (DataRef entity) = true
is_of_content (Re live) = true
is_of_content Rs = true
is_of_content (Sep byte) = true
is_of_content (ShortRef string meaning) = true
is_of_content (Ref entity) = true
is_of_content EntityEnd = true
is_of_content (SectionStart status) = true
is_of_content SectionEnd = true
is_of_content (Skipped byte) = true
is_of_content (Pi text entity) = true
is_of_content Comment = true
is_of_content (UseMap map) = true
is_of_content _ = false

-- AFTER A MOVE: the state after its pieces, one after another, and what is kept after the visible one
abbrev pub state_after_run : List Piece → State → State
state_after_run [] s = s
state_after_run (o ∷ os) s = state_after_run os (after_piece o s)

abbrev pub state_after : Move → State → State
state_after m s = after_piece m.visible (state_after_run m.omitted s)

pub record IsAfter (outside : Outside) (m : Move) (old new : Held) : Type 0 where
  pub kept : new.kept ≡ after outside m.visible old.kept
  pub state : state_of new ≡ state_after m (state_of old)

-- WHAT IS SPELLED in this state, in the texts that were given, where they decide it
pub record IsSpelledIn (outside : Outside) (x : Held) (texts : List (ℕ × Text)) (ended : Bool) (answer : Result Piece Reason) : Type 0 where
  pub decided : IsDecidedIn outside (state_of x) x.kept texts ended
  pub spelled : spelled outside (state_of x) (given x.kept texts) ≡ answer
