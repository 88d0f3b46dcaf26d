-- Reading an SGML declaration byte by byte: what each byte does.
use Rattle.std.specs.Prelude.{ℕ, Bool, true, false, List, [], ◌∷◌, ◌++◌, Option, Some, None, Result, Ok, Err, ⊤, ◌≡◌, ◌==◌, ◌&&◌, ◌+◌, if◌then◌else◌}
use Rattle.sgml_text.specs.Characters.{upper, is_separator}
use Rattle.sgml_sgmldecl.specs.declared.due.Due.{Due}
use Rattle.sgml_sgmldecl.specs.declared.due.Due.TheVariants as due
use Rattle.sgml_sgmldecl.specs.declared.feature.DeclError.{DeclError}
use Rattle.sgml_sgmldecl.specs.declared.feature.DeclError.TheVariants as errors
use Rattle.sgml_sgmldecl.specs.declared.heard.Heard.{Heard}
use Rattle.sgml_sgmldecl.specs.declared.reading.Part.{Part}
use Rattle.sgml_sgmldecl.specs.declared.reading.Part.TheVariants as p
use Rattle.sgml_sgmldecl.specs.declared.reading.Turn.{Turn}
use Rattle.sgml_sgmldecl.specs.declared.reading.Turn.TheVariants as turn
use Rattle.sgml_sgmldecl.specs.declared.reading.Reading.{Reading}
use Rattle.sgml_sgmldecl.specs.declared.row.Row.{Row}
use Rattle.sgml_sgmldecl.specs.declared.row.Item.{Item}
use Rattle.sgml_sgmldecl.specs.declared.row.Item.TheVariants as i
use Rattle.sgml_sgmldecl.specs.declared.row.Content.{Content}
use Rattle.sgml_sgmldecl.specs.declared.row.Content.TheVariants as c
use Rattle.sgml_sgmldecl.specs.declared.row.Tells.TheVariants as t
use Rattle.sgml_sgmldecl.specs.Characters.{is_name_byte}
use Rattle.sgml_sgmldecl.specs.Items.{word_goes_on, is_whole_word, content_goes_on, is_whole_content}
use Rattle.sgml_sgmldecl.specs.Heard.{tell, start}
use Rattle.sgml_sgmldecl.specs.Following.{after, marks_of_content, row_at}

-- a declaration that is read in part
pub record State : Type 0 where
  pub part : Part
  pub due : Due
  pub from : ℕ
  pub word : List ℕ
  pub marks : List ℕ
  pub heard : Heard

abbrev pub state_of : Reading → State
state_of r = record { part = r.part; due = r.due; from = r.from; word = r.word.items; marks = r.marks.items; heard = r.heard }

pub data Step : Type 0 where
  refused : Step
  goes : State → Step
  ends : Heard → Step

abbrev pub met : Turn → State → Step
met turn.Refused s = refused
met turn.GoesOn s = goes s
met turn.Ended s = ends s.heard

-- whether this is a literal of marks
abbrev pub is_marks : Item → Bool
is_marks (i.Literal c.Marks) = true
is_marks _ = false

abbrev pub marks_after : Item → List ℕ → List ℕ → List ℕ
marks_after (i.Literal x) word marks = marks_of_content x word marks
marks_after i.Opening word marks = marks
marks_after (i.Word k) word marks = marks
marks_after i.Number word marks = marks
marks_after (i.Name end) word marks = marks
marks_after i.End word marks = marks

abbrev pub ended : Part → Row → State → State
ended part r s = record {
  part = part;
  due = after r s.word;
  from = s.from;
  word = s.word;
  marks = marks_after r.item s.word s.marks;
  heard = tell r.tells s.from s.word s.heard;
}

abbrev pub turned : Part → State → State
turned part s = record s { part = part }

abbrev pub opened : Part → ℕ → State → State
opened part at s = record s { part = part; from = at; word = [] }

abbrev pub added : ℕ → State → State
added b s = record s { word = s.word ++ b ∷ [] }

abbrev pub begun_word : Row → ℕ → State → ℕ → Step
begun_word r at s b = goes (added (upper b) (opened (p.Word r) at s))

abbrev pub begun_item : Item → Row → ℕ → State → ℕ → Step
begun_item i.End r at s b = ends s.heard
begun_item (i.Literal x) r at s b = goes (opened (p.Literal r x b) at s)
begun_item i.Opening r at s b = refused
begun_item (i.Word k) r at s b = begun_word r at s b
begun_item i.Number r at s b = begun_word r at s b
begun_item (i.Name e) r at s b = begun_word r at s b

abbrev pub begun : Row → ℕ → State → ℕ → Step
begun r at s b = begun_item r.item r at s b

abbrev pub begun_if : Option Row → ℕ → State → ℕ → Step
begun_if None at s b = refused
begun_if (Some r) at s b = begun r at s b

abbrev pub outside : Bool → ℕ → State → ℕ → Step
outside tight at s b =
    if is_separator b then goes (turned p.Apart s)
    else if tight && is_name_byte b then refused
    else if b == 45 then goes (turned p.Dash s)
    else begun_if (row_at s.due b) at s b

abbrev pub in_word : Row → ℕ → State → ℕ → Step
in_word r at s b =
    if word_goes_on r.item s.word b then goes (added (upper b) s)
    else if is_whole_word r.item s.word then outside true at (ended p.After r s) b
    else refused

abbrev pub in_literal : Row → Content → ℕ → State → ℕ → Step
in_literal r x quote s b =
    if b == quote then (if is_whole_content x s.marks s.word then goes (ended p.Apart r s) else refused)
    else if content_goes_on x s.marks s.word b then goes (added b s)
    else refused

abbrev pub step_in : Part → ℕ → State → ℕ → Step
step_in p.Apart at s b = outside false at s b
step_in p.After at s b = outside true at s b
step_in p.Dash at s b = if b == 45 then goes (turned p.Comment s) else refused
step_in p.Comment at s b = goes (turned (if b == 45 then p.CommentDash else p.Comment) s)
step_in p.CommentDash at s b = goes (turned (if b == 45 then p.Apart else p.Comment) s)
step_in (p.Word r) at s b = in_word r at s b
step_in (p.Literal r x quote) at s b = in_literal r x quote s b

-- what the byte at this place does
abbrev pub step : ℕ → State → ℕ → Step
step at s b = step_in s.part at s b

pub data Outcome : Type 0 where
  -- no declaration goes on at this place
  bad : ℕ → Outcome
  -- the declaration tells this, and has so many bytes
  whole : Heard → ℕ → Outcome

abbrev pub go_on : ℕ → Step → (State → Outcome) → Outcome
go_on at refused follows = bad at
go_on at (goes t) follows = follows t
go_on at (ends h) follows = whole h (at + 1)

-- reading on from a state at this place
unfoldable pub run : ℕ → State → List ℕ → Outcome
run at s [] = bad at
run at s (b ∷ bs) = go_on at (step at s b) (λ t. run (at + 1) t bs)

abbrev pub opening_row : Row
opening_row = record { item = i.Opening; tells = t.Nothing; then = due.Heading }

-- before the first byte
abbrev pub begin_state : State
begin_state = record { part = p.Word opening_row; due = due.Heading; from = 0; word = []; marks = []; heard = start }

-- the code's answer is this one, or want of memory
abbrev pub Agrees : Outcome → Result (Heard × ℕ) DeclError → Type 0
Agrees o (Ok (h, n)) = o ≡ whole h n
Agrees o (Err (errors.BadDeclaration at)) = o ≡ bad at
Agrees o (Err errors.Memory) = ⊤
Agrees o (Err (errors.FeatureOut which at)) = ⊥
Agrees o (Err (errors.QuantityOut name number at)) = ⊥
