-- Where the instance begins, and which piece is spelled where a token stands, by its kind.
use Rattle.std.specs.Prelude.{◌≡◌, ℕ, ◌<◌, ◌+◌, ◌==◌, Bool, true, false, None, slice_index_or, List, take, drop, length, Result, Ok, Err, if◌then◌else◌}
use Rattle.sgml_text.specs.declared.reason.Reason.{Reason}
use Rattle.sgml_text.specs.declared.reason.Reason.TheVariants as reason
use Rattle.sgml_delim.specs.declared.delim.Mode.{Mode}
use Rattle.sgml_scan.specs.markup.declared.kinds.TokenKind.{TokenKind}
use Rattle.sgml_scan.specs.markup.declared.kinds.TokenKind.TheVariants as kind
use Rattle.sgml_scan.specs.declared.state.ScanState.{ScanState}
use Rattle.sgml_scan.specs.declared.state.Token.{Token}
use Rattle.sgml_entity.specs.Entities.{first_entity}
use Rattle.sgml_marked.specs.Opened.{is_open_at}
use Rattle.sgml_prolog_steps.specs.decl_lexemes.Readings.{entity_of}
use Rattle.sgml_theory_starts.specs.theory_reading.Names.{Text}
use Rattle.sgml_theory_starts.specs.theory_reading.Pieces.{Piece, Kind, Char, End, EntityEnd, Finish, SectionEnd, Pi, Comment, Tag, Short, Net}
use Rattle.sgml_theory_starts.specs.theory_reading.ShortTags.{empty_start_type, empty_end_type, net_type}
use Rattle.sgml_theory_starts.specs.theory_reading.Facets.{OpensText, EndsText, turn}
use Rattle.sgml_theory_starts.specs.theory_reading.Characters.{separator_kind}
use Rattle.sgml_theory_starts.specs.theory_reading.Unread.{Outside}
use Rattle.sgml_theory_starts.specs.theory_reading.State.{State}
use Rattle.sgml_theory_starts.specs.theory_spelling.Sized.{sized, sized_ok}
use Rattle.sgml_theory_starts.specs.theory_spelling.Tags.{element_of}
use Rattle.sgml_theory_starts.specs.theory_spelling.Content.{character_kind, string_kind, start_piece, short_start, ending_of, reference_kind, referred_name, instruction, section_piece, declaration_in_content}
use Rattle.sgml_theory_starts.specs.theory_standing.Kept.{Kept}
use Rattle.sgml_theory_starts.specs.theory_standing.Prologs.{is_over}
use Rattle.sgml_theory_starts.specs.theory_standing.Next.{after}
use Rattle.sgml_theory_starts.specs.theory_standing.Held.{is_of_content}
use Rattle.sgml_theory_starts.specs.declaring.Taking.{stacked_on}
use Rattle.sgml_prolog_steps.specs.Standing.{IsKept}
use Rattle.sgml_prolog_steps.specs.Found.{rest_in, moved_on}
use Rattle.sgml_content_steps.specs.Standing.{IsInInstance, IsSpelledNext}
use Rattle.sgml_content_steps.specs.Found.{IsTokenThere, IsEndThere}

-- THE INSTANCE BEGINS where the prolog has been read (7.1)
abbrev pub InstanceBegins : Type 0
InstanceBegins = (k : Kept) → IsKept k → is_over k ≡ true → IsInInstance k

-- and goes on further in the text at the top
abbrev pub InstanceGoesOn : Type 0
InstanceGoesOn = (k : Kept) (n : ℕ) → IsInInstance k → IsInInstance (moved_on n k)

-- and after each piece of it: what it opens is the text of a declared entity, and the text that it ends is an
-- entity's, in which no section is open
pub record MayBeTaken (k : Kept) (x : Kind) : Type 0 where
  pub of_content : is_of_content x ≡ true
  pub opened : (number : ℕ) → turn x ≡ OpensText number → (1 < number) × (number < length k.doctype.entities + first_entity)
  pub ended : turn x ≡ EndsText → ((entity_of k.stack.places == 0) ≡ false) × (is_open_at (length k.stack.places) k.sections ≡ false)

abbrev pub InstanceStays : Type 0
InstanceStays = (outside : Outside) (k : Kept) (p : Piece) → IsInInstance k → MayBeTaken k p.kind → IsInInstance (after outside p k)

-- A TOKEN OF A KIND is this piece, in each state, by the mode, its bytes and their number
abbrev pub IsOfKind : TokenKind → (Kept → Mode → Text → ℕ → Outside → State → Result Piece Reason) → Type 0
IsOfKind q piece =
    (k : Kept) (st : ScanState) (texts : List (ℕ × Text)) (ended : Bool) (x : Token) → IsTokenThere k st texts ended x → x.kind ≡ q
    → IsSpelledNext k st texts ended (piece k st.mode (take x.length (rest_in k texts)) x.length)

-- characters, each by itself (7.6)
abbrev pub CharactersArePieces : Type 0
CharactersArePieces =
    (k : Kept) (st : ScanState) (texts : List (ℕ × Text)) (ended : Bool) (x : Token) (i : ℕ) → IsTokenThere k st texts ended x → x.kind ≡ kind.Chars → i < x.length
    → IsSpelledNext (moved_on i k) st texts ended (λ outside s. Ok (sized 1 (character_kind s st.mode (slice_index_or (rest_in k texts) i 0))))

-- record ends and starts (7.6.1)
abbrev pub RecordEndsArePieces : Type 0
RecordEndsArePieces = IsOfKind kind.Re (λ k m own n outside s. Ok (sized n (separator_kind s 13)))

abbrev pub RecordStartsArePieces : Type 0
RecordStartsArePieces = IsOfKind kind.Rs (λ k m own n outside s. Ok (sized n (separator_kind s 10)))

-- references to characters (9.5)
abbrev pub NumbersArePieces : Type 0
NumbersArePieces = (b : ℕ) → IsOfKind (kind.CharRef b) (λ k m own n outside s. Ok (sized n (Char b)))

abbrev pub FunctionsArePieces : Type 0
FunctionsArePieces = (b : ℕ) → IsOfKind (kind.FunctionRef b) (λ k m own n outside s. Ok (sized n (separator_kind s b)))

-- instructions (8) and comments (10.3)
abbrev pub InstructionsArePieces : Type 0
InstructionsArePieces = IsOfKind kind.Pi (λ k m own n outside s. Ok (sized n (Pi (instruction own) None)))

abbrev pub CommentsArePieces : Type 0
CommentsArePieces = IsOfKind kind.Comment (λ k m own n outside s. Ok (sized n Comment))

-- tags (7.4, 7.5)
abbrev pub StartTagsArePieces : Type 0
StartTagsArePieces = IsOfKind kind.StartTag (λ k m own n outside s. Ok (start_piece outside s (stacked_on k.stack) own))

abbrev pub EmptyStartsArePieces : Type 0
EmptyStartsArePieces = IsOfKind kind.EmptyStart (λ k m own n outside s. sized_ok n (short_start (empty_start_type s.context s.ended)))

abbrev pub EndTagsArePieces : Type 0
EndTagsArePieces = IsOfKind kind.EndTag (λ k m own n outside s. Ok (sized n (End (element_of k.doctype own) Tag)))

abbrev pub EmptyEndsArePieces : Type 0
EmptyEndsArePieces = IsOfKind kind.EmptyEnd (λ k m own n outside s. sized_ok n (ending_of Short (empty_end_type s.context)))

abbrev pub NetsArePieces : Type 0
NetsArePieces = IsOfKind kind.Net (λ k m own n outside s. sized_ok n (ending_of Net (net_type s.context)))

-- references to entities (9.4.4) and short references (9.4.6)
abbrev pub ReferencesArePieces : Type 0
ReferencesArePieces =
    IsOfKind kind.EntityRef (λ k m own n outside s. sized_ok n (reference_kind outside s (stacked_on k.stack) m (referred_name k.doctype (drop 1 own))))

abbrev pub StringsArePieces : Type 0
StringsArePieces = (i : ℕ) → IsOfKind (kind.ShortRef i) (λ k m own n outside s. sized_ok n (string_kind outside s (stacked_on k.stack) i own))

-- marked sections start and end (10.4), and declarations have a place or none (11.6)
abbrev pub SectionStartsArePieces : Type 0
SectionStartsArePieces = IsOfKind kind.SectionStart (λ k m own n outside s. section_piece outside k.doctype (stacked_on k.stack) m false own)

-- the section that ends began in the text at the top
abbrev pub section_ended : ℕ → Bool → Result Piece Reason
section_ended n is_open = if is_open then Ok (sized n SectionEnd) else Err reason.SectionNone

abbrev pub SectionEndsArePieces : Type 0
SectionEndsArePieces =
    (k : Kept) (st : ScanState) (texts : List (ℕ × Text)) (ended : Bool) (x : Token) → IsInInstance k → IsTokenThere k st texts ended x → x.kind ≡ kind.SectionEnd
    → IsSpelledNext k st texts ended (λ outside s. section_ended x.length (is_open_at (length k.stack.places) k.sections))

abbrev pub DeclarationsArePieces : Type 0
DeclarationsArePieces = IsOfKind kind.Declaration (λ k m own n outside s. declaration_in_content outside s (stacked_on k.stack) own)

-- THE END OF A TEXT (9.4), that of the document or of an entity, in which no section is open
abbrev pub text_ended : Bool → Bool → Result Piece Reason
text_ended in_document true = Err reason.SectionOpen
text_ended true false = Ok (sized 0 Finish)
text_ended false false = Ok (sized 0 EntityEnd)

abbrev pub EndsArePieces : Type 0
EndsArePieces =
    (k : Kept) (st : ScanState) (texts : List (ℕ × Text)) (ended : Bool) → IsInInstance k → IsEndThere k st texts ended
    → IsSpelledNext k st texts ended (λ outside s. text_ended (entity_of k.stack.places == 0) (is_open_at (length k.stack.places) k.sections))

-- no other kind of token stands in the instance
abbrev pub is_misplaced : TokenKind → Bool
is_misplaced kind.Separators = true
is_misplaced kind.ParameterRef = true
is_misplaced kind.SubsetEnd = true
is_misplaced _ = false

abbrev pub OthersAreRefused : Type 0
OthersAreRefused = (q : TokenKind) → is_misplaced q ≡ true → IsOfKind q (λ k m own n outside s. Err reason.DeclarationSyntax)
