-- What stands at the top of the stack: a token of the instance, or why none does.
use Rattle.std.specs.Prelude.{◌≡◌, ℕ, ◌<◌, ◌≤◌, Bool, true, false, not, List, [], ◌∷◌, drop, take, length, Result, Err, if◌then◌else◌}
use Rattle.sgml_text.specs.declared.reason.Reason.{Reason}
use Rattle.sgml_syntax.specs.declared.syntax.Syntax.{Syntax}
use Rattle.sgml_delim.specs.declared.delim.Mode.{Mode}
use Rattle.sgml_scan.specs.markup.declared.kinds.TokenKind.{TokenKind}
use Rattle.sgml_scan.specs.markup.declared.kinds.TokenKind.TheVariants as kind
use Rattle.sgml_scan.specs.declared.state.ScanState.{ScanState}
use Rattle.sgml_scan.specs.declared.state.Token as tokens
use Rattle.sgml_scan.specs.declared.state.Scanned.{Scanned}
use Rattle.sgml_scan.specs.declared.state.Scanned.TheVariants.{Token, NeedMore, BadToken}
use Rattle.sgml_scan.specs.Tokens.{IsScanned}
use Rattle.sgml_prolog_steps.specs.decl_parts.declared.ends.Construct.TheVariants as construct
use Rattle.sgml_prolog_steps.specs.decl_lexemes.Readings.{entity_of}
use Rattle.sgml_theory_starts.specs.theory_reading.Names.{Text}
use Rattle.sgml_theory_starts.specs.theory_reading.Pieces.{Piece}
use Rattle.sgml_theory_starts.specs.theory_reading.Unread.{Outside}
use Rattle.sgml_theory_starts.specs.theory_reading.State.{State}
use Rattle.sgml_theory_starts.specs.theory_spelling.Content.{content_piece}
use Rattle.sgml_theory_starts.specs.theory_spelling.Spelled.{text_end}
use Rattle.sgml_theory_starts.specs.theory_spelling.Decided.{decided}
use Rattle.sgml_theory_starts.specs.theory_standing.Kept.{Kept, given}
use Rattle.sgml_theory_starts.specs.theory_standing.Held.{Held, state_of}
use Rattle.sgml_theory_starts.specs.declaring.Taking.{stacked_on, Ends}
use Rattle.sgml_prolog_steps.specs.Found.{rest_in, may_grow, moved_on, SectionEnds}
use Rattle.sgml_content_steps.specs.Standing.{IsHeld, IsSpelledNext}
use Rattle.sgml_content_steps.specs.declared.found.Found.{Found}
use Rattle.sgml_content_steps.specs.declared.found.Found.TheVariants as found

-- THE PIECE that a token of these bytes is, in each state
abbrev pub piece_of : Kept → ScanState → TokenKind → Text → Outside → State → Result Piece Reason
piece_of k st x own outside s = content_piece outside s (stacked_on k.stack) st.mode x own

-- characters are taken one at a time
abbrev pub is_each : TokenKind → Bool
is_each kind.Chars = true
is_each _ = false

-- a token is a piece; of a stretch each byte is one, as long as content is scanned in the same state
abbrev pub IsPiece : Kept → ScanState → List (ℕ × Text) → Bool → tokens.Token → Bool → Type 0
IsPiece k st texts ended x true =
    (i : ℕ) → i < x.length → IsSpelledNext (moved_on i k) st texts ended (piece_of (moved_on i k) st x.kind (take 1 (drop i (rest_in k texts))))
IsPiece k st texts ended x false = IsSpelledNext k st texts ended (piece_of k st x.kind (take x.length (rest_in k texts)))

-- a declaration is there up to its end, and the start of a section too; in an ignored section a start is
-- three bytes
abbrev pub IsWhole : Mode → Kept → List (ℕ × Text) → TokenKind → ℕ → Type 0
IsWhole m k texts kind.Declaration n = Ends construct.Declaration k.doctype texts k.stack n
IsWhole m k texts kind.SectionStart n = SectionEnds m k texts n
IsWhole m k texts _ n = Unit {0}

pub record IsTokenThere (k : Kept) (st : ScanState) (texts : List (ℕ × Text)) (ended : Bool) (x : tokens.Token) : Type 0 where
  pub some : 0 < x.length
  pub within : x.length ≤ length (rest_in k texts)
  pub whole : IsWhole st.mode k texts x.kind x.length
  pub piece : IsPiece k st texts ended x (is_each x.kind)

-- nothing is left of the text, which can't grow: its end is spelled (9.4)
pub record IsEndThere (k : Kept) (st : ScanState) (texts : List (ℕ × Text)) (ended : Bool) : Type 0 where
  pub nothing : rest_in k texts ≡ []
  pub whole : may_grow k ended ≡ false
  pub piece : IsSpelledNext k st texts ended (λ outside s. text_end s (entity_of k.stack.places))

-- the text goes on, and doesn't decide what stands there
pub record IsUndecidedThere (k : Kept) (st : ScanState) (texts : List (ℕ × Text)) (ended : Bool) : Type 0 where
  pub goes_on : ended ≡ false
  pub undecided : (outside : Outside) (x : Held) → IsHeld k st x → decided outside (state_of x) (given k texts) ≡ false

-- WHAT IS FOUND where content is scanned in this state
abbrev pub IsFound : Kept → ScanState → List (ℕ × Text) → Bool → Found → Type 0
IsFound k st texts ended found.End = IsEndThere k st texts ended
IsFound k st texts ended (found.Token x) = IsTokenThere k st texts ended x
IsFound k st texts ended (found.Refused r) = IsSpelledNext k st texts ended (λ outside s. Err r)
IsFound k st texts ended found.More = IsUndecidedThere k st texts ended

-- how many steps are counted: one for each byte of a token
abbrev pub steps_in : Found → ℕ
steps_in (found.Token x) = x.length
steps_in _ = 0

-- WHAT IS TOLD of bytes that may go on, by what is scanned of them
abbrev pub told : Scanned → Found
told (Token x) = found.Token x
told NeedMore = found.More
told (BadToken r) = found.Refused r

abbrev pub at_end : Bool → Found
at_end grows = if grows then found.More else found.End

pub record IsToldBy (s : Syntax) (st : ScanState) (bytes : List ℕ) (grows : Bool) (f : Found) : Type 0 where
  pub scanned : Scanned
  pub is_scanned : IsScanned s st (not grows) bytes scanned
  pub is_told : f ≡ told scanned

abbrev pub IsToldOf : Syntax → ScanState → List ℕ → Bool → Found → Type 0
IsToldOf s st [] grows f = f ≡ at_end grows
IsToldOf s st (b ∷ bytes) grows f = IsToldBy s st (b ∷ bytes) grows f
