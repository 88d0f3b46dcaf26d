-- How what a parser keeps goes on to stand for what was read.
use Rattle.std.specs.Prelude.{◌≡◌, ℕ, Bool, true, Some, List, ◌∷◌, ◌++◌, [], Result, Ok, Err}
use Rattle.sgml_theory_spelling.specs.text.declared.reason.Reason.{Reason}
use Rattle.sgml_theory_spelling.specs.theory_reading.Names.{Text}
use Rattle.sgml_theory_spelling.specs.theory_reading.Pieces.{Piece, History}
use Rattle.sgml_theory_spelling.specs.theory_reading.Runs.{LongestRun}
use Rattle.sgml_theory_spelling.specs.theory_reading.Unread.{Outside, Input}
use Rattle.sgml_theory_spelling.specs.theory_reading.Facets.{items_of, map_set}
use Rattle.sgml_theory_spelling.specs.theory_reading.Maps.{first_set}
use Rattle.sgml_theory_spelling.specs.theory_reading.State.{State, first_noted}
use Rattle.sgml_theory_spelling.specs.theory_reading.Characters.{piece_noted}
use Rattle.sgml_theory_spelling.specs.theory_reading.Reads.{Move, Moves, moved_on, Reads, ReadOn, after_moves, ends_in_finish, Stops, refusal, spelled_next, answer_noted}
use Rattle.sgml_theory_spelling.specs.theory_reading.Events.{events}
use Rattle.sgml_theory_spelling.specs.Spelled.{forms}
use Rattle.sgml_theory_standing.specs.Supplied.{MayFollow}
use Rattle.sgml_theory_standing.specs.Kept.{Kept, Stands}
use Rattle.sgml_theory_standing.specs.Prologs.{is_in_prolog, is_over, alone}
use Rattle.sgml_theory_standing.specs.Next.{IsThere, after}
use Rattle.sgml_theory_standing.specs.Held.{Held, state_of, Parses, content_begins, is_of_content, IsAfter, IsSpelledIn}
use Rattle.sgml_theory_standing.specs.Moves.{IsMove, stands_alone, held_after, AreNextMoves, IsEndNext, IsRefusedNext, told_by_moves}

-- CONTENT BEGINS where the prolog has been read
abbrev pub ContentBegins : Type 0
ContentBegins =
    (k : Kept) (texts : List (ℕ × Text)) (I : Input) (more : Text) (h : History)
    → Stands k texts I more h → is_in_prolog h ≡ true → is_over k ≡ true → Parses (content_begins k) texts I more h

-- WHAT IS SPELLED in the texts that were given stands next in the input
abbrev pub SpelledIsNext : Type 0
SpelledIsNext =
    (x : Held) (texts : List (ℕ × Text)) (ended : Bool) (I : Input) (more : Text) (h : History) (answer : Result Piece Reason)
    → Parses x texts I more h → MayFollow ended I more → IsSpelledIn I.outside x texts ended answer
    → spelled_next forms I h ≡ answer_noted (state_of x) answer

-- A PIECE READS with the tags that are left out before it, where no reason holds
abbrev pub MoveReads : Type 0
MoveReads =
    (x : Held) (texts : List (ℕ × Text)) (ended : Bool) (I : Input) (more : Text) (h : History) (p : Piece) (m : Move)
    → Parses x texts I more h → MayFollow ended I more → IsSpelledIn I.outside x texts ended (Ok p)
    → Moves forms h (piece_noted (state_of x) p) m → Reads forms I h m

-- and then what is kept after it stands for what was read
abbrev pub MoveParses : Type 0
MoveParses =
    (old new : Held) (texts : List (ℕ × Text)) (I : Input) (more : Text) (h : History) (m : Move)
    → Parses old texts I more h → Reads forms I h m → is_of_content m.visible.kind ≡ true
    → IsThere I.outside old.kept texts m.visible → IsAfter I.outside m old new → Parses new texts I more (moved_on h m)

-- WHERE ONE HOLDS reading stops for it: none is spelled, or the one that is may not stand there
abbrev pub UnspelledStops : Type 0
UnspelledStops =
    (x : Held) (texts : List (ℕ × Text)) (ended : Bool) (I : Input) (more : Text) (h : History) (r : Reason)
    → Parses x texts I more h → MayFollow ended I more → IsSpelledIn I.outside x texts ended (Err r) → Stops forms I h r

abbrev pub RefusedStops : Type 0
RefusedStops =
    (x : Held) (texts : List (ℕ × Text)) (ended : Bool) (I : Input) (more : Text) (h : History) (p : Piece) (os : List Piece) (r : Reason)
    → Parses x texts I more h → MayFollow ended I more → IsSpelledIn I.outside x texts ended (Ok p)
    → LongestRun h (piece_noted (state_of x) p).kind os → refusal forms h os (piece_noted (state_of x) p) ≡ Some r → Stops forms I h r

-- NO TAG IS LEFT OUT before a piece that stands alone, and no reason holds against it
abbrev pub AloneMoves : Type 0
AloneMoves = (s : State) (p : Piece) → stands_alone p.kind ≡ true → IsMove s p (alone p)

-- and it changes nothing beside what is kept of the texts but record ends and the map that is set
abbrev pub held_alone : Outside → Piece → Held → Held
held_alone outside p x = record x {
  kept = after outside p x.kept;
  record_ends = first_noted (items_of p.kind) x.record_ends;
  map_settings = first_set (map_set p.kind) x.map_settings;
}

abbrev pub AloneKeeps : Type 0
AloneKeeps = (outside : Outside) (x : Held) (p : Piece) → stands_alone p.kind ≡ true → held_after outside (alone p) x ≡ held_alone outside p x

-- MOVES THAT STAND NEXT READ, one after another; what is kept after them stands for what was read with them, and
-- their events are told
pub record AreReadWith (x new : Held) (texts : List (ℕ × Text)) (I : Input) (more : Text) (h : History) (ms : List Move) : Type 0 where
  pub read : ReadOn forms I h ms
  pub parses : Parses new texts I more (after_moves h ms)
  pub told : events forms (after_moves h ms) ≡ events forms h ++ told_by_moves x ms

abbrev pub NextMovesAreRead : Type 0
NextMovesAreRead =
    (x new : Held) (texts : List (ℕ × Text)) (ended : Bool) (I : Input) (more : Text) (h : History) (ms : List Move)
    → Parses x texts I more h → MayFollow ended I more → AreNextMoves I.outside x texts ended ms new → AreReadWith x new texts I more h ms

-- the end reads, and then the document has ended
pub record IsEndRead (x : Held) (I : Input) (h : History) (m : Move) : Type 0 where
  pub reads : Reads forms I h m
  pub ends : ends_in_finish (moved_on h m) ≡ true
  pub told : events forms (moved_on h m) ≡ events forms h ++ told_by_moves x (m ∷ [])

abbrev pub EndIsRead : Type 0
EndIsRead =
    (x : Held) (texts : List (ℕ × Text)) (ended : Bool) (I : Input) (more : Text) (h : History) (m : Move)
    → Parses x texts I more h → MayFollow ended I more → IsEndNext I.outside x texts ended m → IsEndRead x I h m

-- and where nothing may stand next, reading stops for that reason
abbrev pub RefusedNextStops : Type 0
RefusedNextStops =
    (x : Held) (texts : List (ℕ × Text)) (ended : Bool) (I : Input) (more : Text) (h : History) (r : Reason)
    → Parses x texts I more h → MayFollow ended I more → IsRefusedNext I.outside x texts ended r → Stops forms I h r
