-- What the head of a document type declaration comes to, and another declaration in its place (7.1, 11.1).
use Rattle.std.specs.Prelude.{◌≡◌, ℕ, ◌+◌, List, Option, Some, None, Result, Ok, Err}
use Rattle.sgml_text.specs.declared.reason.Reason.{Reason}
use Rattle.sgml_entity.specs.Stack.{Stack, moved}
use Rattle.sgml_entity.specs.Texts.{text_of}
use Rattle.sgml_decl_lexemes.specs.decl_parts.declared.ends.Construct.TheVariants.{Declaration}
use Rattle.sgml_decl_forms.specs.declared.doctype.DoctypeHead.{DoctypeHead}
use Rattle.sgml_decl_forms.specs.declared.declaration.Declaration.TheVariants as form
use Rattle.sgml_decl_forms.specs.Declarations.{declaration_at}
use Rattle.sgml_dtd.specs.Doctypes.{Doctype}
use Rattle.sgml_theory_standing.specs.theory_reading.Names.{Name, Text}
use Rattle.sgml_theory_standing.specs.theory_reading.Pieces.{Piece}
use Rattle.sgml_theory_standing.specs.theory_reading.Pieces as pieces
use Rattle.sgml_theory_standing.specs.theory_reading.Facets.{ExternalSubset, OpensText, declares, subset_named, subset_number, turn}
use Rattle.sgml_theory_standing.specs.theory_reading.Unread as reading
use Rattle.sgml_theory_standing.specs.theory_reading.Unread.{Outside, Found, Sources, file_of, turned, opened_length}
use Rattle.sgml_theory_standing.specs.theory_spelling.References.{missing_fetched}
use Rattle.sgml_theory_standing.specs.theory_spelling.Declared.{Lexed}
use Rattle.sgml_theory_standing.specs.theory_spelling.Prolog.{sources_after, head_lexed, other_reason}
use Rattle.sgml_theory_standing.specs.Supplied.{IsInFile}
use Rattle.sgml_declared.specs.Files.{Choices, base_at}
use Rattle.sgml_declared.specs.declared.error.TakeError.{TakeError}
use Rattle.sgml_declared.specs.declared.error.TakeError.TheVariants.{Refused, Wanted, Memory}
use Rattle.sgml_declared.specs.declared.head.Head.{Head}
use Rattle.sgml_declared.specs.Taking.{stacked_on, lexed_at, ForEach}

abbrev pub head_spelled : Outside → Sources → List (ℕ × Text) → Stack → ℕ → Result Piece Reason
head_spelled outside k texts s n = head_lexed outside k (stacked_on s) n (lexed_at Declaration outside k.doctype texts s n)

-- THE HEAD that stands there
pub record IsHead (outside : Outside) (k : Sources) (texts : List (ℕ × Text)) (s : Stack) (n : ℕ) (head : DoctypeHead) : Type 0 where
  pub lexemes : Lexed
  pub are : lexed_at Declaration outside k.doctype texts s n ≡ Ok lexemes
  pub says : declaration_at lexemes.lexemes ≡ Some (form.Doctype head)

-- what entities are after it
abbrev pub after_head : Outside → Sources → Stack → DoctypeHead → Sources
after_head outside k s head = sources_after k (base_at outside k s) head

-- THE FILE OF THE EXTERNAL SUBSET is named by the head, so its text can be given only before the head is
-- taken: then it is the text in the file that was asked for
abbrev pub IsGivenAsAsked : Outside → List (ℕ × Text) → Option Name → Type 0
IsGivenAsAsked outside texts asked =
    (text : Text) → text_of texts subset_number ≡ Some text
    → (file : Name) × (asked ≡ Some file) × (outside.fetched file ≡ Found text)

abbrev pub ForEachHead : Choices → Sources → List (ℕ × Text) → Option Name → Stack → (Outside → ℕ → Type 0) → Type 0
ForEachHead c k texts asked s holds =
    ForEach c Declaration k texts s (λ outside n. IsGivenAsAsked outside texts asked → holds outside n)

-- WHAT IS TAKEN of it: its text is read over, and the external subset opened that no internal one comes
-- before, whose text was there
pub record IsHeadTaken (outside : Outside) (k : Sources) (texts : List (ℕ × Text)) (e : Doctype) (s t : Stack) (n : ℕ) (h : Head) : Type 0 where
  pub head : DoctypeHead
  pub piece : Piece
  pub spelled : head_spelled outside k texts s n ≡ Ok piece
  pub kind : piece.kind ≡ pieces.Head head (base_at outside k s)
  pub size : piece.size ≡ n
  pub declared : e ≡ declares piece.kind k.doctype
  pub external : h.external ≡ subset_named piece.kind
  pub subset : h.subset ≡ head.subset
  pub stack : t ≡ record s {
    spent = s.spent + (piece.spent + opened_length (reading.text_of outside (after_head outside k s head)) (turn piece.kind));
    places = turned (turn piece.kind) (moved n s.places);
  }
  pub there : (number : ℕ) → turn piece.kind ≡ OpensText number
      → text_of texts number ≡ Some (reading.text_of outside (after_head outside k s head) number)
  -- a text that was given for the external subset that it names is the one in its file
  pub in_file : (named : ExternalSubset) (text : Text) → subset_named piece.kind ≡ Some named → text_of texts subset_number ≡ Some text
      → IsInFile outside (after_head outside k s head) subset_number text

abbrev pub HeadIsTaken : Choices → Sources → List (ℕ × Text) → Option Name → Doctype → Stack → Stack → Head → Type 0
HeadIsTaken c k texts asked e s t h = ForEachHead c k texts asked s (λ outside n. IsHeadTaken outside k texts e s t n h)

-- WHY IT ISN'T TAKEN: for the reason that is spelled; or the file of the external subset that it names is
-- to be fetched first, and were that missing in the store, this would be the reason
pub record IsSubsetWanted (outside : Outside) (k : Sources) (texts : List (ℕ × Text)) (s : Stack) (n number : ℕ) (file : Name) : Type 0 where
  pub head : DoctypeHead
  pub stands : IsHead outside k texts s n head
  pub subset : number ≡ subset_number
  pub absent : text_of texts number ≡ None
  pub named : file_of outside (after_head outside k s head) number ≡ Some file
  pub missing : (r : Reason) → missing_fetched (outside.fetched file) ≡ Some r → head_spelled outside k texts s n ≡ Err r

abbrev pub IsHeadStopped : Outside → Sources → List (ℕ × Text) → Stack → ℕ → TakeError → Type 0
IsHeadStopped outside k texts s n (Refused r) = head_spelled outside k texts s n ≡ Err r
IsHeadStopped outside k texts s n (Wanted number file) = IsSubsetWanted outside k texts s n number file
IsHeadStopped outside k texts s n Memory = Unit {0}

abbrev pub HeadIsStopped : Choices → Sources → List (ℕ × Text) → Option Name → Stack → TakeError → Type 0
HeadIsStopped c k texts asked s e = ForEachHead c k texts asked s (λ outside n. IsHeadStopped outside k texts s n e)

-- ANOTHER DECLARATION in its place is refused for this reason (7.1)
abbrev pub IsMisplaced : Choices → Sources → List (ℕ × Text) → Stack → Reason → Type 0
IsMisplaced c k texts s r =
    ForEach c Declaration k texts s (λ outside n. other_reason (lexed_at Declaration outside k.doctype texts s n) ≡ r)
