-- A start-tag at the top of the stack, and the piece that it is (7.4).
use Rattle.std.specs.Prelude.{◌≡◌, ◌-◌, ◌<◌, ◌≤◌, ℕ, Bool, List, length, take, Ok}
use Rattle.sgml_starts.specs.markup.declared.kinds.Form.TheVariants as form
use Rattle.sgml_starts.specs.markup.declared.kinds.TokenKind.TheVariants as kind
use Rattle.sgml_starts.specs.markup.Forms.{judged}
use Rattle.sgml_starts.specs.Specified.{Input}
use Rattle.sgml_starts.specs.Starts.{input_of}
use Rattle.sgml_declared.specs.theory_reading.Names.{Text}
use Rattle.sgml_declared.specs.theory_reading.Pieces.{Piece, Kind, Start, How}
use Rattle.sgml_declared.specs.theory_reading.Unread.{Outside}
use Rattle.sgml_declared.specs.theory_reading.State.{State}
use Rattle.sgml_declared.specs.theory_spelling.Stacked.{Stacked}
use Rattle.sgml_declared.specs.theory_spelling.Sized.{sized_spent}
use Rattle.sgml_declared.specs.theory_spelling.Tags.{element_of, specifications_of}
use Rattle.sgml_declared.specs.theory_standing.Kept.{Kept}
use Rattle.sgml_declared.specs.Taking.{rest_at_top}

-- the first bytes at the top
abbrev pub tag_at : Kept → List (ℕ × Text) → ℕ → Text
tag_at k texts size = take size (rest_at_top k.doctype.entities texts k.stack)

-- so many bytes there are a start-tag
pub record IsTagThere (k : Kept) (texts : List (ℕ × Text)) (size : ℕ) : Type 0 where
  pub some : 0 < length k.stack.places
  pub within : size ≤ length (rest_at_top k.doctype.entities texts k.stack)
  pub form : judged k.doctype.syntax form.StartTag (tag_at k texts size) ≡ Ok kind.StartTag

-- with what it is read
abbrev pub input_at : Kept → List (ℕ × Text) → Input
input_at k texts = input_of k.doctype.syntax k.doctype texts k.stack

-- THE PIECE that it is, whatever is noted of it
abbrev pub tag_kind : Outside → State → Stacked → Text → How → Bool → Bool → Kind
tag_kind outside s t tag how proper at_once =
    Start (element_of s.context.doctype tag) (specifications_of outside s.context.doctype t tag).specifications how proper at_once

abbrev pub tag_piece : Outside → State → Stacked → Text → How → Bool → Bool → Piece
tag_piece outside s t tag how proper at_once =
    sized_spent (length tag) ((specifications_of outside s.context.doctype t tag).spent - t.spent)
    (tag_kind outside s t tag how proper at_once)
