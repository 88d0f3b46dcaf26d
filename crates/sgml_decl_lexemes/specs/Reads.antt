-- WHAT IS READ, as a function of what is asked: the parts one after another, up to the end.
use Rattle.std.specs.Prelude.{ℕ, zero, suc, Bool, true, false, ◌+◌, ◌-◌, ◌<◌, List, [], ◌∷◌, length, Result, Ok, Err, ◌≡◌, ◌↔◌}
use Rattle.sgml_text.specs.declared.place.Place.{Place}
use Rattle.sgml_text.specs.declared.reason.Reason.TheVariants as reason
use Rattle.sgml_entity.specs.Stack.{Stack, lower}
use Rattle.sgml_decl_parts.specs.declared.part.Part.{Part}
use Rattle.sgml_decl_lexemes.specs.declared.lexeme.Lexeme.{Lexeme}
use Rattle.sgml_decl_lexemes.specs.declared.fault.Fault.{Fault}
use Rattle.sgml_decl_lexemes.specs.declared.fault.Fault.TheVariants.{Refusing}
use Rattle.sgml_decl_lexemes.specs.declared.fault.LexError.{LexError}
use Rattle.sgml_decl_lexemes.specs.declared.fault.LexError.TheVariants as error
use Rattle.sgml_decl_lexemes.specs.Sources.{Source, unread}
use Rattle.sgml_decl_lexemes.specs.Readings.{State, ahead, after, next_part, closes, error_of, start, OnTop}
use Rattle.sgml_decl_lexemes.specs.Declares.{Asked, Own, Whole, Growing, Bad, own, source, is_asked, StandsAtStart, IsRead, Answers}

-- WHAT IS LEFT falls with each part: the bytes that aren't read, those that may be opened, and the
-- texts that are open
abbrev pub bytes_left : Source → List Place → ℕ
bytes_left I [] = 0
bytes_left I (p ∷ ps) = length (unread I (p ∷ ps)) + bytes_left I ps

abbrev pub left : Source → Stack → ℕ
left I s = bytes_left I s.places + (s.expand - s.spent) + length s.places

-- READING ON, for so many parts at most, up to one that is the end: what was read, or why it goes no
-- further
abbrev pub unless_end : Bool → (State → Result State Fault) → State → Result State Fault
unless_end true go_on u = Ok u
unless_end false go_on u = go_on u

abbrev pub with_part : Source → State → (State → Result State Fault) → Result Part Fault → Result State Fault
with_part I t go_on (Err fault) = Err fault
with_part I t go_on (Ok part) = unless_end (closes I.construct part) go_on (after I (ahead I t) part t)

abbrev pub read_on : ℕ → Source → State → Result State Fault
read_on zero I t = Err (Refusing reason.Unclosed)
read_on (suc n) I t = with_part I t (λ u. read_on n I u) (next_part I t)

-- as many as there are
unfoldable pub read_all : Source → Stack → Result State Fault
read_all I s = read_on (suc (left I (start I s).stack)) I (start I s)

-- THE ANSWER, with the stack after it: that of the one that `Answers` holds for
abbrev pub answered : Stack → Result State Fault → Result (List Lexeme) LexError × Stack
answered s (Ok u) = (Ok u.reading.lexemes, u.stack)
answered s (Err fault) = (Err (error_of fault), s)

abbrev pub answer_by : Asked → Own → Result (List Lexeme) LexError × Stack
answer_by q (Whole own) = answered q.stack (read_all (source q own) q.stack)
answer_by q Growing = (Err error.NeedMore, q.stack)
answer_by q (Bad why) = (Err (error.Refused why), q.stack)

abbrev pub answer : Asked → Result (List Lexeme) LexError × Stack
answer q = answer_by q (own q)

-- LAW: what is asked has this answer, and no other.
abbrev pub AnswerIs : Type 0
AnswerIs =
    (q : Asked) → is_asked q ≡ true → (a : Result (List Lexeme) LexError) (after : Stack)
    → Answers q a after ↔ (answer q ≡ (a, after))

-- The same of a source.
abbrev pub ReadIs : Type 0
ReadIs =
    (I : Source) (s : Stack) → StandsAtStart I s → (a : Result (List Lexeme) LexError) (after : Stack)
    → IsRead I s a after ↔ (answered s (read_all I s) ≡ (a, after))

-- The bound on the parts says nothing of the text: on a stack over the one on which reading began, as
-- many as are left are enough, and more give the same.
abbrev pub TurnsAreEnough : Type 0
TurnsAreEnough =
    (n m : ℕ) (I : Source) (s : Stack) (t : State) → I.height ≡ suc (length (lower s.places)) → OnTop s t.stack
    → left I t.stack < n → left I t.stack < m → read_on n I t ≡ read_on m I t
