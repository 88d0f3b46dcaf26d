-- What stands at the top of the stack: a token of the prolog, or why none does.
use Rattle.std.specs.Prelude.{◌≡◌, ℕ, ◌<◌, ◌≤◌, ◌==◌, ◌&&◌, not, Bool, true, false, List, [], drop, take, length, Result, Err, Option, option_map, slice_get, ◌-◌, if◌then◌else◌}
use Rattle.sgml_text.specs.declared.reason.Reason.{Reason}
use Rattle.sgml_entity.specs.Stack.{moved}
use Rattle.sgml_delim.specs.declared.delim.Mode.{Mode}
use Rattle.sgml_delim.specs.declared.delim.Mode.TheVariants as mode
use Rattle.sgml_markup.specs.declared.kinds.TokenKind.{TokenKind}
use Rattle.sgml_markup.specs.declared.kinds.TokenKind.TheVariants as kind
use Rattle.sgml_marked.specs.declared.status.Status.{Status}
use Rattle.sgml_marked.specs.declared.sections.Section.{Section}
use Rattle.sgml_scan.specs.declared.state.Token.{Token}
use Rattle.sgml_scan.specs.declared.state.Scanned.{Scanned}
use Rattle.sgml_scan.specs.Tokens.{IsScanned}
use Rattle.sgml_decl_lexemes.specs.decl_parts.declared.ends.Construct.TheVariants as construct
use Rattle.sgml_decl_lexemes.specs.Readings.{entity_of}
use Rattle.sgml_declared.specs.theory_reading.Names.{Text}
use Rattle.sgml_declared.specs.theory_reading.Pieces.{Piece}
use Rattle.sgml_declared.specs.theory_reading.Facets.{AtBeginning}
use Rattle.sgml_declared.specs.theory_reading.Unread.{Outside}
use Rattle.sgml_declared.specs.theory_spelling.Places.{mode_at}
use Rattle.sgml_declared.specs.theory_spelling.Prolog.{piece_before, subset_piece}
use Rattle.sgml_declared.specs.theory_spelling.Spelled.{spelled}
use Rattle.sgml_declared.specs.theory_spelling.Decided.{decided, is_before}
use Rattle.sgml_declared.specs.theory_spelling.SgmlDeclared.{sgml_piece, begins_sgml}
use Rattle.sgml_declared.specs.theory_standing.Kept.{Kept, given}
use Rattle.sgml_declared.specs.theory_standing.Prologs.{state_in_prolog}
use Rattle.sgml_declared.specs.theory_standing.Next.{IsDecidedIn}
use Rattle.sgml_declared.specs.Taking.{rest_at_top, stacked_on, Ends}
use Rattle.sgml_prolog_steps.specs.Telling.{mode_in, scanned_in, is_unsure, told_sgml, told_before}
use Rattle.sgml_prolog_steps.specs.declared.found.Found.{Found}
use Rattle.sgml_prolog_steps.specs.declared.found.Found.TheVariants as found

-- the bytes from the place of the reader on, in the text at the top of its stack
abbrev pub rest_in : Kept → List (ℕ × Text) → Text
rest_in k texts = rest_at_top k.doctype.entities texts k.stack

-- that text may go on: it is the document's, which hasn't ended
abbrev pub may_grow : Kept → Bool → Bool
may_grow k ended = (entity_of k.stack.places == 0) && not ended

abbrev pub mode_of : Kept → Mode
mode_of k = mode_at (state_in_prolog k) (stacked_on k.stack).entities

-- so many bytes further in the text at the top
abbrev pub moved_on : ℕ → Kept → Kept
moved_on n k = record k { stack = record k.stack { places = moved n k.stack.places } }

-- the piece that a token is, before the document type and in it
abbrev pub piece_of : Outside → Kept → TokenKind → Text → Result Piece Reason
piece_of outside k x own =
    if is_before k.stage then piece_before outside (state_in_prolog k) (stacked_on k.stack) x own
    else subset_piece outside (state_in_prolog k) (stacked_on k.stack) (mode_of k) x own

-- this is spelled next, and the texts that were given decide it
pub record IsSpelled (outside : Outside) (k : Kept) (texts : List (ℕ × Text)) (ended : Bool) (answer : Result Piece Reason) : Type 0 where
  pub decided : IsDecidedIn outside (state_in_prolog k) k texts ended
  pub spelled : spelled outside (state_in_prolog k) (given k texts) ≡ answer

-- separators are taken one at a time, and so are characters, which before the document type are refused
abbrev pub is_each : Bool → TokenKind → Bool
is_each before kind.Separators = true
is_each before kind.Chars = not before
is_each before _ = false

-- a token is a piece; of a stretch each byte is one
abbrev pub IsPiece : Outside → Kept → List (ℕ × Text) → Bool → Token → Bool → Type 0
IsPiece outside k texts ended x true =
    (i : ℕ) → i < x.length → IsSpelled outside (moved_on i k) texts ended (piece_of outside k x.kind (take 1 (drop i (rest_in k texts))))
IsPiece outside k texts ended x false = IsSpelled outside k texts ended (piece_of outside k x.kind (take x.length (rest_in k texts)))

-- a declaration is there up to its end, the start of a section and the end of a document type too; in an
-- ignored section a start is three bytes
abbrev pub SectionEnds : Mode → Kept → List (ℕ × Text) → ℕ → Type 0
SectionEnds mode.Ign k texts n = n ≡ 3
SectionEnds _ k texts n = Ends construct.SectionStart k.doctype texts k.stack n

abbrev pub IsWhole : Kept → List (ℕ × Text) → TokenKind → ℕ → Type 0
IsWhole k texts kind.Declaration n = Ends construct.Declaration k.doctype texts k.stack n
IsWhole k texts kind.SectionStart n = SectionEnds (mode_of k) k texts n
IsWhole k texts kind.SubsetEnd n = Ends construct.SubsetEnd k.doctype texts k.stack n
IsWhole k texts _ n = Unit {0}

pub record IsTokenThere (k : Kept) (texts : List (ℕ × Text)) (ended : Bool) (x : Token) : Type 0 where
  pub some : 0 < x.length
  pub within : x.length ≤ length (rest_in k texts)
  pub whole : IsWhole k texts x.kind x.length
  pub piece : (outside : Outside) → IsPiece outside k texts ended x (is_each (is_before k.stage) x.kind)

-- where an SGML declaration may stand (13), which begins with its keyword, its end is no further than this
pub record IsSgmlThere (k : Kept) (texts : List (ℕ × Text)) (ended : Bool) (n : ℕ) : Type 0 where
  pub beginning : k.stage ≡ AtBeginning
  pub some : 0 < n
  pub within : n ≤ length (rest_in k texts)
  pub piece : (outside : Outside) → IsSpelled outside k texts ended (sgml_piece (take n (rest_in k texts)))

-- the status of the last section that is open
abbrev pub innermost : List Section → Option Status
innermost ss = option_map (λ s. s.status) (slice_get ss (length ss - 1))

-- what is scanned of the text at the top, which may go on
abbrev pub IsScannedIn : Kept → List ℕ → Bool → Scanned → Type 0
IsScannedIn k bytes grows x = IsScanned k.doctype.syntax (scanned_in (mode_in (innermost k.sections))) (not grows) bytes x

-- an SGML declaration is told where its keyword is decided
abbrev pub IsFoundIf : Bool → Kept → List ℕ → Bool → Found → Type 0
IsFoundIf true k bytes grows f = f ≡ found.More
IsFoundIf false k bytes grows f =
    (x : Scanned) × IsScannedIn k bytes grows x
    × (f ≡ (if begins_sgml k.doctype.syntax.names bytes then told_sgml bytes x else told_before k.doctype.syntax.names bytes x))

abbrev pub IsFoundAtBeginning : Kept → List ℕ → Bool → Found → Type 0
IsFoundAtBeginning k bytes grows f = IsFoundIf (grows && is_unsure k.doctype.syntax.names bytes) k bytes grows f

abbrev pub IsFound : Kept → List (ℕ × Text) → Bool → Found → Type 0
IsFound k texts ended found.End = (rest_in k texts ≡ []) × (may_grow k ended ≡ false)
IsFound k texts ended (found.Token x) = IsTokenThere k texts ended x
IsFound k texts ended (found.SgmlDeclaration n) = IsSgmlThere k texts ended n
IsFound k texts ended (found.Refused r) = (outside : Outside) → IsSpelled outside k texts ended (Err r)
IsFound k texts ended found.More = (ended ≡ false) × ((outside : Outside) → decided outside (state_in_prolog k) (given k texts) ≡ false)
