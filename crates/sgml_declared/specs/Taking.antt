-- What a declaration comes to that begins at the top of the stack, or the start of a marked section, or
-- the end of a document type: what is spelled there, and what is taken of it into the tables.
use Rattle.std.specs.Prelude.{◌≡◌, ℕ, ◌+◌, ◌<◌, ◌≤◌, Bool, true, false, List, Option, Some, None, is_some, Result, Ok, Err, map, take}
use Rattle.sgml_text.specs.declared.reason.Reason.{Reason}
use Rattle.sgml_text.specs.declared.place.Place.{Place}
use Rattle.sgml_text.specs.Characters.{all_sgml}
use Rattle.sgml_entity.specs.declared.kinds.Entity.{Entity}
use Rattle.sgml_entity.specs.Entities.{entity_at}
use Rattle.sgml_entity.specs.Stack.{Stack, moved, is_on}
use Rattle.sgml_entity.specs.Texts.{text_of}
use Rattle.sgml_decl_lexemes.specs.decl_parts.declared.ends.Construct.{Construct}
use Rattle.sgml_decl_lexemes.specs.decl_parts.declared.ends.Construct.TheVariants.{Declaration, SectionStart, SubsetEnd}
use Rattle.sgml_decl_lexemes.specs.decl_parts.Ends.{construct_end}
use Rattle.sgml_decl_lexemes.specs.Declares.{begins, left_at}
use Rattle.sgml_marked.specs.declared.status.Status.{Status}
use Rattle.sgml_dtd.specs.Doctypes.{Doctype}
use Rattle.sgml_theory_standing.specs.theory_reading.Names.{Name, Text}
use Rattle.sgml_theory_standing.specs.theory_reading.Pieces.{Piece, Kind, Declare}
use Rattle.sgml_theory_standing.specs.theory_reading.Pieces.{SectionStart as StartsSection}
use Rattle.sgml_theory_standing.specs.theory_reading.Facets.{ExternalSubset, declares}
use Rattle.sgml_theory_standing.specs.theory_reading.Unread.{Outside, Sources, file_of}
use Rattle.sgml_theory_standing.specs.theory_spelling.Stacked.{Stacked}
use Rattle.sgml_theory_standing.specs.theory_spelling.References.{missing_fetched}
use Rattle.sgml_theory_standing.specs.theory_spelling.Declared.{Lexed, lexed}
use Rattle.sgml_theory_standing.specs.theory_spelling.Prolog.{declared_lexed}
use Rattle.sgml_theory_standing.specs.theory_spelling.Content.{section_start}
use Rattle.sgml_theory_standing.specs.Supplied.{AreSuppliedSoFar}
use Rattle.sgml_declared.specs.Files.{Choices, IsOutsideOf, sources_in}
use Rattle.sgml_declared.specs.declared.error.TakeError.{TakeError}
use Rattle.sgml_declared.specs.declared.error.TakeError.TheVariants.{Refused, Wanted, Memory}

-- WHAT IS UNREAD at the top of the stack, of the texts that were given
abbrev pub rest_at_top : List Entity → List (ℕ × Text) → Stack → Text
rest_at_top es texts s = left_at es texts s.places

-- the texts that are being read, with the sum of what was opened
abbrev pub stacked_on : Stack → Stacked
stacked_on s = record { entities = map (λ (p : Place). p.entity) s.places; spent = s.spent }

-- so many bytes at the top are a construct of this kind, up to its end
pub record Ends (c : Construct) (d : Doctype) (texts : List (ℕ × Text)) (s : Stack) (n : ℕ) : Type 0 where
  pub begins : begins c d.entities texts s.places ≡ true
  pub ends : construct_end d.syntax.names c (rest_at_top d.entities texts s) ≡ Some n
  pub sgml : all_sgml (take n (rest_at_top d.entities texts s)) ≡ true

-- one is there
abbrev pub IsWhole : Construct → Doctype → List (ℕ × Text) → Stack → Type 0
IsWhole c d texts s = (n : ℕ) × Ends c d texts s n

-- the bytes themselves
abbrev pub own_text : Doctype → List (ℕ × Text) → Stack → ℕ → Text
own_text d texts s n = take n (rest_at_top d.entities texts s)

-- and their lexemes
abbrev pub lexed_at : Construct → Outside → Doctype → List (ℕ × Text) → Stack → ℕ → Result Lexed Reason
lexed_at c outside d texts s n = lexed c outside d (stacked_on s) (own_text d texts s n)

-- an outside that a run with these options may have, whose texts were supplied, with this stack
pub record IsAround (c : Choices) (outside : Outside) (k : Sources) (texts : List (ℕ × Text)) (s : Stack) : Type 0 where
  pub of_options : IsOutsideOf c outside
  pub supplied : AreSuppliedSoFar outside k texts
  pub levels : s.levels ≡ k.doctype.syntax.quantities.entlvl
  pub expand : s.expand ≡ outside.expand

-- for each outside, and however many bytes the construct has
abbrev pub ForEach : Choices → Construct → Sources → List (ℕ × Text) → Stack → (Outside → ℕ → Type 0) → Type 0
ForEach c x k texts s holds =
    (outside : Outside) (n : ℕ) → IsAround c outside k texts s → Ends x k.doctype texts s n → holds outside n

-- WHY IT ISN'T TAKEN, where this is spelled

-- the text of a declared entity isn't being read and isn't there; it is in this file, and were that missing in
-- the store, this would be the reason
pub record IsWanted {A : Type 0} (outside : Outside) (k : Sources) (texts : List (ℕ × Text)) (s : Stack) (spelled : Result A Reason) (number : ℕ) (file : Name) : Type 0 where
  pub high : 1 < number
  pub declared : is_some (entity_at k.doctype.entities number) ≡ true
  pub unread : is_on number s.places ≡ false
  pub absent : text_of texts number ≡ None
  pub named : file_of outside k number ≡ Some file
  pub missing : (r : Reason) → missing_fetched (outside.fetched file) ≡ Some r → spelled ≡ Err r

-- for that reason; or the file of an entity is to be fetched first
abbrev pub IsStopped : {A : Type 0} → Outside → Sources → List (ℕ × Text) → Stack → Result A Reason → TakeError → Type 0
IsStopped outside k texts s spelled (Refused r) = spelled ≡ Err r
IsStopped outside k texts s spelled (Wanted number file) = IsWanted outside k texts s spelled number file
IsStopped outside k texts s spelled Memory = Unit {0}

-- WHAT IS TAKEN of a piece: it is read over on the stack, and what it declares is in the tables
pub record IsTaken (said : Result Piece Reason) (n : ℕ) (p : Piece) (d e : Doctype) (s t : Stack) : Type 0 where
  pub spelled : said ≡ Ok p
  pub size : p.size ≡ n
  pub declared : e ≡ declares p.kind d
  pub stack : t ≡ record s { spent = s.spent + p.spent; places = moved n s.places }

-- A DECLARATION in a document type (10, 11)
abbrev pub declaration_spelled : Outside → Sources → List (ℕ × Text) → Stack → ℕ → Result Piece Reason
declaration_spelled outside k texts s n =
    declared_lexed outside k (stacked_on s) n (lexed_at Declaration outside k.doctype texts s n)

abbrev pub is_declare : Kind → Bool
is_declare (Declare lexemes says base) = true
is_declare _ = false

abbrev pub DeclarationIsTaken : Choices → Doctype → Option ExternalSubset → List (ℕ × Text) → Doctype → Stack → Stack → Type 0
DeclarationIsTaken c d subset texts e s t =
    ForEach c Declaration (sources_in d subset) texts s
    (λ outside n. (p : Piece) × IsTaken (declaration_spelled outside (sources_in d subset) texts s n) n p d e s t × (is_declare p.kind ≡ true))

abbrev pub DeclarationIsStopped : Choices → Doctype → Option ExternalSubset → List (ℕ × Text) → Stack → TakeError → Type 0
DeclarationIsStopped c d subset texts s e =
    ForEach c Declaration (sources_in d subset) texts s (λ outside n. IsStopped outside (sources_in d subset) texts s (declaration_spelled outside (sources_in d subset) texts s n) e)

-- THE START OF A MARKED SECTION (10.4)
abbrev pub section_spelled : Bool → Outside → Sources → List (ℕ × Text) → Stack → ℕ → Result Piece Reason
section_spelled in_type outside k texts s n =
    section_start outside k.doctype (stacked_on s) in_type (own_text k.doctype texts s n)

abbrev pub StatusIsTaken : Bool → Choices → Doctype → Option ExternalSubset → List (ℕ × Text) → Stack → Stack → Status → Type 0
StatusIsTaken in_type c d subset texts s t status =
    ForEach c SectionStart (sources_in d subset) texts s
    (λ outside n. (p : Piece) × IsTaken (section_spelled in_type outside (sources_in d subset) texts s n) n p d d s t × (p.kind ≡ StartsSection status))

abbrev pub StatusIsStopped : Bool → Choices → Doctype → Option ExternalSubset → List (ℕ × Text) → Stack → TakeError → Type 0
StatusIsStopped in_type c d subset texts s e =
    ForEach c SectionStart (sources_in d subset) texts s (λ outside n. IsStopped outside (sources_in d subset) texts s (section_spelled in_type outside (sources_in d subset) texts s n) e)

-- THE END OF A DOCUMENT TYPE (11.1): what stands between `]` and `>` is read
abbrev pub EndIsTaken : Choices → Doctype → Option ExternalSubset → List (ℕ × Text) → Stack → Stack → Type 0
EndIsTaken c d subset texts s t =
    ForEach c SubsetEnd (sources_in d subset) texts s
    (λ outside n. (x : Lexed) × (lexed_at SubsetEnd outside d texts s n ≡ Ok x)
    × (t ≡ record s { spent = x.spent; places = moved n s.places }) × (s.spent ≤ x.spent))

abbrev pub EndIsStopped : Choices → Doctype → Option ExternalSubset → List (ℕ × Text) → Stack → TakeError → Type 0
EndIsStopped c d subset texts s e =
    ForEach c SubsetEnd (sources_in d subset) texts s (λ outside n. IsStopped outside (sources_in d subset) texts s (lexed_at SubsetEnd outside d texts s n) e)
