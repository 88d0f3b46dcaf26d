-- WHAT IS SPELLED NEXT, in what is unread of the texts on the stack, or why nothing is.
use Rattle.std.specs.Prelude.{ℕ, Bool, true, false, not, ◌==◌, ◌&&◌, List, [], ◌∷◌, take, Option, None, Result, Ok, Err, if◌then◌else◌}
use Rattle.sgml_scan.specs.text.declared.reason.Reason.{Reason}
use Rattle.sgml_scan.specs.text.declared.reason.Reason.TheVariants as reason
use Rattle.sgml_scan.specs.delim.declared.delim.Mode.{Mode}
use Rattle.sgml_scan.specs.declared.state.Scanned.{Scanned}
use Rattle.sgml_scan.specs.declared.state.Scanned.TheVariants.{Token, NeedMore, BadToken}
use Rattle.sgml_scan.specs.markup.declared.kinds.TokenKind.{TokenKind}
use Rattle.sgml_theory_reading.specs.dtd.Doctypes.{Doctype}
use Rattle.sgml_theory_reading.specs.Names.{Text}
use Rattle.sgml_theory_reading.specs.Pieces.{Piece, EntityEnd, Finish}
use Rattle.sgml_theory_reading.specs.Facets.{Stage, BeforeSyntax, AtBeginning, BeforeDoctype, InSubset, AfterSubset, subset_number}
use Rattle.sgml_theory_reading.specs.Unread.{Outside, Rest, Standing}
use Rattle.sgml_theory_reading.specs.State.{State}
use Rattle.sgml_theory_reading.specs.Reads.{Forms}
use Rattle.sgml_theory_spelling.specs.Stacked.{Stacked, stacked}
use Rattle.sgml_theory_spelling.specs.Sized.{sized, unless_reason}
use Rattle.sgml_theory_spelling.specs.Tokens.{token_at}
use Rattle.sgml_theory_spelling.specs.Places.{in_doctype, mode_at, scan_state, in_section}
use Rattle.sgml_theory_spelling.specs.Content.{first_of, content_piece}
use Rattle.sgml_theory_spelling.specs.Prolog.{in_document, reason_before, piece_before, subset_piece, at_type_end}
use Rattle.sgml_theory_spelling.specs.SgmlDeclared.{begins_sgml, sgml_piece}
use Rattle.sgml_theory_spelling.specs.Attributes.{unvalued, valued}
use Rattle.sgml_theory_spelling.specs.Decided.{is_early_end, decided}

-- WHERE A TEXT ENDS (9.4): sections that began in it have ended (10.4), and the document type is whole

abbrev pub document_end : Stage → Bool → Result Piece Reason
document_end BeforeSyntax open_section = Err reason.NoDoctype
document_end AtBeginning open_section = Err reason.NoDoctype
document_end BeforeDoctype open_section = Err reason.NoDoctype
document_end InSubset open_section = Err reason.Unclosed
document_end AfterSubset true = Err reason.SectionOpen
document_end AfterSubset false = Ok (sized 0 Finish)

-- of the external subset the end is that of the document type
abbrev pub type_end : ℕ → Doctype → Option Reason
type_end number d = if number == subset_number then at_type_end d else None

abbrev pub entity_end : State → ℕ → Bool → Result Piece Reason
entity_end s number true = Err reason.SectionOpen
entity_end s number false = unless_reason (type_end number s.context.doctype) (sized 0 EntityEnd)

abbrev pub text_end : State → ℕ → Result Piece Reason
text_end s number =
    if number == 0 then document_end s.stage (in_section s.texts s.sections)
    else entity_end s number (in_section s.texts s.sections)

-- BY THE TOKEN of the place (9.6)

-- in content and in the document type
abbrev pub piece_in : Bool → Outside → State → Stacked → Mode → TokenKind → Text → Result Piece Reason
piece_in true outside s t m k own = subset_piece outside s t m k own
piece_in false outside s t m k own = content_piece outside s t m k own

-- a `]` in another text than the document's is refused at once, whether it has an end or not (11.1)
abbrev pub bad_reason : List ℕ → Text → Reason → Reason
bad_reason entities bytes r = if not (in_document entities) && (first_of bytes == 93) then reason.DeclarationSyntax else r

abbrev pub by_token : Outside → State → Stacked → Text → Scanned → Result Piece Reason
by_token outside s t bytes (Token x) =
    piece_in (in_doctype s.stage t.entities) outside s t (mode_at s t.entities) x.kind (take x.length bytes)
by_token outside s t bytes NeedMore = Err reason.Unclosed
by_token outside s t bytes (BadToken r) = Err (bad_reason t.entities bytes r)

-- before the document type
abbrev pub by_token_before : Outside → State → Stacked → Text → Scanned → Result Piece Reason
by_token_before outside s t bytes (Token x) = piece_before outside s t x.kind (take x.length bytes)
by_token_before outside s t bytes NeedMore = Err reason.NoDoctype
by_token_before outside s t bytes (BadToken r) = Err (reason_before s.context.doctype.syntax.names bytes r)

abbrev pub token_here : State → Stacked → Text → Scanned
token_here s t bytes = token_at s.context.doctype.syntax (scan_state s t.entities) bytes

-- an SGML declaration, where only separators stand before it (13): one piece up to its end, or else up to
-- the end of the text
abbrev pub sgml_bad : Text → Reason → Result Piece Reason
sgml_bad bytes reason.Unclosed = sgml_piece bytes
sgml_bad bytes r = Err r

abbrev pub sgml_by_token : Text → Scanned → Result Piece Reason
sgml_by_token bytes (Token x) = sgml_piece (take x.length bytes)
sgml_by_token bytes NeedMore = Err reason.BadDeclaration
sgml_by_token bytes (BadToken r) = sgml_bad bytes r

abbrev pub at_beginning : Bool → Outside → State → Stacked → Text → Result Piece Reason
at_beginning true outside s t bytes = sgml_by_token bytes (token_here s t bytes)
at_beginning false outside s t bytes = by_token_before outside s t bytes (token_here s t bytes)

abbrev pub by_stage : Outside → State → Stacked → Text → Stage → Result Piece Reason
by_stage outside s t bytes AtBeginning = at_beginning (begins_sgml s.context.doctype.syntax.names bytes) outside s t bytes
by_stage outside s t bytes BeforeSyntax = by_token_before outside s t bytes (token_here s t bytes)
by_stage outside s t bytes BeforeDoctype = by_token_before outside s t bytes (token_here s t bytes)
by_stage outside s t bytes InSubset = by_token outside s t bytes (token_here s t bytes)
by_stage outside s t bytes AfterSubset = by_token outside s t bytes (token_here s t bytes)

abbrev pub spelled_in : Outside → State → Stacked → ℕ → Text → Result Piece Reason
spelled_in outside s t number [] = text_end s number
spelled_in outside s t number (b ∷ bytes) =
    if is_early_end s.stage b then Err reason.NoDoctype else by_stage outside s t (b ∷ bytes) s.stage

abbrev pub spelled_of : Outside → State → Stacked → List Rest → Result Piece Reason
spelled_of outside s t [] = Err reason.Unclosed
spelled_of outside s t (x ∷ xs) = spelled_in outside s t x.entity x.bytes

unfoldable pub spelled : Outside → State → Standing → Result Piece Reason
spelled outside s t = spelled_of outside s (stacked t) t.rests

-- THE FORMS that this profile reads
abbrev pub forms : Forms
forms = record { spelled = spelled; decided = decided; unvalued = unvalued; valued = valued }
