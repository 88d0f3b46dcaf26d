-- What stands next in the prolog, by what is kept and by the texts that were given.
use Rattle.std.specs.Prelude.{◌≡◌, ℕ, ◌+◌, ◌-◌, ◌*◌, ◌≤◌, Bool, true, false, List, [], ◌∷◌, length, Ok, Err, Some}
use Rattle.std.specs.Option.{option_or}
use Rattle.sgml_theory_spelling.specs.text.declared.reason.Reason.{Reason}
use Rattle.sgml_theory_spelling.specs.entity.Texts.{text_of}
use Rattle.sgml_theory_spelling.specs.decl_lexemes.Sources.{text_at}
use Rattle.sgml_theory_spelling.specs.theory_reading.Names.{Text}
use Rattle.sgml_theory_spelling.specs.theory_reading.Pieces.{Piece}
use Rattle.sgml_theory_spelling.specs.theory_reading.Facets.{ExternalSubset, OpensText, turn, declares, subset_named, subset_number}
use Rattle.sgml_theory_spelling.specs.theory_reading.Unread as reading
use Rattle.sgml_theory_spelling.specs.theory_reading.Unread.{Outside, Sources, Rest}
use Rattle.sgml_theory_spelling.specs.theory_reading.State.{State}
use Rattle.sgml_theory_spelling.specs.theory_reading.Characters.{piece_noted}
use Rattle.sgml_theory_spelling.specs.theory_reading.Reads.{length_of_first}
use Rattle.sgml_theory_spelling.specs.Decided.{decided}
use Rattle.sgml_theory_spelling.specs.Spelled.{spelled}
use Rattle.sgml_theory_standing.specs.Supplied.{IsInFile}
use Rattle.sgml_theory_standing.specs.Kept.{Kept, given, kept_after}
use Rattle.sgml_theory_standing.specs.Prologs.{is_of_prolog, state_in_prolog, is_over}

-- what entities are after a piece, and the texts that they then have
abbrev pub sources_after : Piece → Kept → Sources
sources_after p k = record { doctype = declares p.kind k.doctype; subset = option_or (subset_named p.kind) k.subset }

abbrev pub text_after : Outside → Piece → Kept → ℕ → Text
text_after outside p k number = reading.text_of outside (sources_after p k) number

-- what is kept after a piece
abbrev pub after : Outside → Piece → Kept → Kept
after outside p k = kept_after (text_after outside p k) p k

-- the piece lies in the texts that were given, and a text that it opens is among them
pub record IsThere (outside : Outside) (k : Kept) (texts : List (ℕ × Text)) (p : Piece) : Type 0 where
  pub within : p.size ≤ length_of_first (given k texts).rests
  pub opened : (number : ℕ) → turn p.kind ≡ OpensText number →
      text_at (declares p.kind k.doctype).entities texts number ≡ Some (text_after outside p k number)
  -- of an external subset that it names, the text that was given is the one in its file
  pub subset : (named : ExternalSubset) (text : Text) → subset_named p.kind ≡ Some named →
      text_of texts subset_number ≡ Some text → IsInFile outside (sources_after p k) subset_number text

-- the texts that were given decide what stands next in this state, or the document has ended
abbrev pub IsDecidedIn : Outside → State → Kept → List (ℕ × Text) → Bool → Type 0
IsDecidedIn outside s k texts ended = ended ≡ false → decided outside s (given k texts) ≡ true

-- THE PIECE THAT STANDS NEXT in the prolog
pub record IsNext (outside : Outside) (k : Kept) (texts : List (ℕ × Text)) (ended : Bool) (p : Piece) : Type 0 where
  pub going_on : is_over k ≡ false
  pub of_prolog : is_of_prolog p.kind ≡ true
  pub decided : IsDecidedIn outside (state_in_prolog k) k texts ended
  pub spelled : spelled outside (state_in_prolog k) (given k texts) ≡ Ok p
  pub noted : piece_noted (state_in_prolog k) p ≡ p
  pub there : IsThere outside k texts p

-- these pieces, one after another, and what is kept after them
abbrev pub AreNext : Outside → Kept → List (ℕ × Text) → Bool → List Piece → Kept → Type 0
AreNext outside k texts ended [] new = new ≡ k
AreNext outside k texts ended (p ∷ ps) new = IsNext outside k texts ended p × AreNext outside (after outside p k) texts ended ps new

-- WHY NONE DOES
pub record IsRefused (outside : Outside) (k : Kept) (texts : List (ℕ × Text)) (ended : Bool) (r : Reason) : Type 0 where
  pub going_on : is_over k ≡ false
  pub decided : IsDecidedIn outside (state_in_prolog k) k texts ended
  pub spelled : spelled outside (state_in_prolog k) (given k texts) ≡ Err r

-- HOW MUCH IS LEFT TO READ: what is unread, what may still be opened, and the texts whose end is to come
abbrev pub unread_length : List Rest → ℕ
unread_length [] = 0
unread_length (r ∷ rs) = length r.bytes + unread_length rs

unfoldable pub left_to_read : Kept → List (ℕ × Text) → ℕ
left_to_read k texts = 2 * (unread_length (given k texts).rests + (k.stack.expand - k.stack.spent)) + length k.stack.places
