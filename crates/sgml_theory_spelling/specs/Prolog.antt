-- The piece that a token of the prolog or of a document type is (7.1, 11.1, 13), or why there is none.
use Rattle.std.specs.Prelude.{ℕ, Bool, true, false, ◌-◌, ◌==◌, ◌&&◌, ◌||◌, List, [], ◌∷◌, length, drop, Option, Some, None, is_some, Result, Ok, Err, codes, if◌then◌else◌}
use Rattle.std.specs.Option.{option_or}
use Rattle.sgml_scan.specs.text.declared.reason.Reason.{Reason}
use Rattle.sgml_scan.specs.text.declared.reason.Reason.TheVariants as reason
use Rattle.sgml_scan.specs.text.declared.name_set.NameSet.{NameSet}
use Rattle.sgml_scan.specs.delim.declared.delim.Mode.{Mode}
use Rattle.sgml_scan.specs.delim.declared.delim.Mode.TheVariants as mode
use Rattle.sgml_scan.specs.delim.Tables.{begins}
use Rattle.sgml_scan.specs.markup.declared.kinds.TokenKind.{TokenKind}
use Rattle.sgml_scan.specs.markup.declared.kinds.TokenKind.TheVariants as kind
use Rattle.sgml_theory_reading.specs.decl_parts.Ends.{is_doctype}
use Rattle.sgml_theory_reading.specs.decl_parts.declared.ends.Construct.TheVariants as construct
use Rattle.sgml_theory_reading.specs.decl_forms.declared.doctype.DoctypeHead.{DoctypeHead}
use Rattle.sgml_theory_reading.specs.decl_forms.declared.declaration.Declaration.{Declaration}
use Rattle.sgml_theory_reading.specs.decl_forms.declared.declaration.Declaration.TheVariants as form
use Rattle.sgml_theory_reading.specs.decl_forms.Declarations.{declaration_at}
use Rattle.sgml_theory_reading.specs.dtd.Doctypes.{Doctype, with_declared}
use Rattle.sgml_theory_reading.specs.dtd.Rows.{final_reason}
use Rattle.sgml_theory_reading.specs.Names.{Text}
use Rattle.sgml_theory_reading.specs.Pieces.{Piece, Head, Declare, SubsetEnd, Sep, Skipped, Pi, Comment}
use Rattle.sgml_theory_reading.specs.Facets.{subset_named, subset_number}
use Rattle.sgml_theory_reading.specs.Unread.{Outside, Sources, base_in}
use Rattle.sgml_theory_reading.specs.State.{State, sources_in}
use Rattle.sgml_theory_spelling.specs.Stacked.{Stacked}
use Rattle.sgml_theory_spelling.specs.Sized.{sized, sized_spent, sized_ok, unless_reason}
use Rattle.sgml_theory_spelling.specs.Places.{in_section}
use Rattle.sgml_theory_spelling.specs.References.{missing, parameter_kind, subset_unopened}
use Rattle.sgml_theory_spelling.specs.Declared.{Lexed, lexed, reason_against}
use Rattle.sgml_theory_spelling.specs.SgmlDeclared.{has_keyword, sgml_piece, misplaced}
use Rattle.sgml_theory_spelling.specs.Tags.{with_spent}
use Rattle.sgml_theory_spelling.specs.Content.{first_of, referred_name, instruction, section_piece, section_end}

-- THE HEAD of a document type declaration (11.1). One without a subset is the whole declaration, and
-- the external subset that it names is opened then.

-- what entities are after it
abbrev pub sources_after : Sources → Text → DoctypeHead → Sources
sources_after k base head = record {
  doctype = with_declared base k.doctype (form.Doctype head);
  subset = option_or (subset_named (Head head base)) k.subset;
}

-- the file of the subset isn't there
abbrev pub missing_subset : Outside → Sources → Option Reason
missing_subset outside k = if is_some k.subset then missing outside k subset_number else None

-- the rows in their order: that; what is against the declaration; why the subset isn't opened besides
abbrev pub subset_reason : Outside → Sources → Stacked → Option Reason → Option Reason
subset_reason outside k t against = option_or (missing_subset outside k) (option_or against (subset_unopened outside k t))

abbrev pub head_reason : Bool → Outside → Sources → Stacked → Option Reason → Option Reason
head_reason true outside k t against = against
head_reason false outside k t against = subset_reason outside k t against

abbrev pub head_piece : Outside → Sources → Stacked → ℕ → Lexed → DoctypeHead → Result Piece Reason
head_piece outside k t size x head =
    let base = base_in outside k t.entities in
    unless_reason
    (head_reason head.subset outside (sources_after k base head) (with_spent t x.spent) (reason_against k.doctype x.lexemes (form.Doctype head)))
    (sized_spent size (x.spent - t.spent) (Head head base))

abbrev pub head_by : Outside → Sources → Stacked → ℕ → Lexed → Option Declaration → Result Piece Reason
head_by outside k t size x (Some (form.Doctype head)) = head_piece outside k t size x head
head_by outside k t size x _ = Err reason.DeclarationSyntax

abbrev pub head_lexed : Outside → Sources → Stacked → ℕ → Result Lexed Reason → Result Piece Reason
head_lexed outside k t size (Err r) = Err r
head_lexed outside k t size (Ok x) = head_by outside k t size x (declaration_at x.lexemes)

-- BEFORE THE DOCUMENT TYPE separators, comments and instructions stand alone (7.1)
abbrev pub may_stand_before : NameSet → Text → Bool
may_stand_before names bytes =
    begins (codes "<?") bytes || begins (codes "<!-") bytes || begins (codes "<!>") bytes
    || (begins (codes "<!") bytes && is_doctype names bytes)

-- the first row: what is unclosed may be something else than these
abbrev pub reason_before : NameSet → Text → Reason → Reason
reason_before names bytes reason.NonSgml = reason.NonSgml
reason_before names bytes reason.DeclarationSyntax = reason.DeclarationSyntax
reason_before names bytes reason.PiLength = reason.PiLength
reason_before names bytes reason.Unclosed = if may_stand_before names bytes then reason.Unclosed else reason.NoDoctype
reason_before names bytes r = reason.NoDoctype

-- what the profile leaves out by name ranks before that another declaration has no place here
abbrev pub other_reason : Result Lexed Reason → Reason
other_reason (Err reason.LinkOut) = reason.LinkOut
other_reason (Err reason.SubdocOut) = reason.SubdocOut
other_reason (Err reason.OtherOut) = reason.OtherOut
other_reason x = reason.NoDoctype

abbrev pub declaration_before : Outside → State → Stacked → Text → Result Piece Reason
declaration_before outside s t own =
    if is_doctype s.context.doctype.syntax.names own
    then head_lexed outside (sources_in s) t (length own) (lexed construct.Declaration outside s.context.doctype t own)
    else Err (other_reason (lexed construct.Declaration outside s.context.doctype t own))

abbrev pub separator_piece : Text → Piece
separator_piece own = sized (length own) (Sep (first_of own))

unfoldable pub piece_before : Outside → State → Stacked → TokenKind → Text → Result Piece Reason
piece_before outside s t kind.Separators own = Ok (separator_piece own)
piece_before outside s t kind.Pi own = Ok (sized (length own) (Pi (instruction own) None))
piece_before outside s t kind.Comment own = Ok (sized (length own) Comment)
piece_before outside s t kind.Declaration own = declaration_before outside s t own
piece_before outside s t _ own = Err reason.NoDoctype

-- IN THE DOCUMENT TYPE (11.1)

-- a declaration says what it says where none of the reasons holds against it (10, 11); a second head
-- is among what has no place
abbrev pub declared_by : Outside → Sources → Stacked → ℕ → Lexed → Option Declaration → Result Piece Reason
declared_by outside k t size x None = Err reason.DeclarationSyntax
declared_by outside k t size x (Some says) =
    unless_reason (reason_against k.doctype x.lexemes says)
    (sized_spent size (x.spent - t.spent) (Declare x.lexemes says (base_in outside k t.entities)))

abbrev pub declared_lexed : Outside → Sources → Stacked → ℕ → Result Lexed Reason → Result Piece Reason
declared_lexed outside k t size (Err r) = Err r
declared_lexed outside k t size (Ok x) = declared_by outside k t size x (declaration_at x.lexemes)

-- a second SGML declaration has no place
abbrev pub declaration_piece : Outside → Sources → Stacked → Text → Result Piece Reason
declaration_piece outside k t own =
    if has_keyword k.doctype.syntax.names (codes "SGML") own then Err (misplaced (sgml_piece own))
    else declared_lexed outside k t (length own) (lexed construct.Declaration outside k.doctype t own)

-- where the document type ends, each map that is used and each notation of data is declared (11.4, 11.6)
unfoldable pub at_type_end : Doctype → Option Reason
at_type_end d = final_reason d

-- THE END of a document type: an external subset is opened there; without one all has been declared
abbrev pub end_reason : Outside → State → Stacked → Option Reason
end_reason outside s t =
    option_or (subset_unopened outside (sources_in s) t)
    (if in_section s.texts s.sections then Some reason.SectionOpen
    else if is_some s.subset then None
    else at_type_end s.context.doctype)

abbrev pub end_by : Outside → State → Stacked → ℕ → Result Lexed Reason → Result Piece Reason
end_by outside s t n (Err r) = Err r
end_by outside s t n (Ok x) =
    unless_reason (end_reason outside s (with_spent t x.spent)) (sized_spent n (x.spent - t.spent) (SubsetEnd (is_some s.subset)))

-- only the document's own text has the subset
abbrev pub in_document : List ℕ → Bool
in_document [] = false
in_document (number ∷ ns) = number == 0

abbrev pub end_piece : Outside → State → Stacked → Text → Result Piece Reason
end_piece outside s t own =
    if in_document t.entities
    then end_by outside s t (length own) (lexed construct.SubsetEnd outside s.context.doctype t own)
    else Err reason.DeclarationSyntax

unfoldable pub subset_piece : Outside → State → Stacked → Mode → TokenKind → Text → Result Piece Reason
subset_piece outside s t mode.Ign kind.Chars own = Ok (sized (length own) (Skipped (first_of own)))
subset_piece outside s t m kind.Separators own = Ok (separator_piece own)
subset_piece outside s t m kind.Pi own = Ok (sized (length own) (Pi (instruction own) None))
subset_piece outside s t m kind.Comment own = Ok (sized (length own) Comment)
subset_piece outside s t m kind.ParameterRef own =
    sized_ok (length own) (parameter_kind outside (sources_in s) t (referred_name s.context.doctype (drop 1 own)))
subset_piece outside s t m kind.SectionStart own = section_piece outside s.context.doctype t m true own
subset_piece outside s t m kind.SectionEnd own = section_end s (length own)
subset_piece outside s t m kind.Declaration own = declaration_piece outside (sources_in s) t own
subset_piece outside s t m kind.SubsetEnd own = end_piece outside s t own
subset_piece outside s t m _ own = Err reason.DeclarationSyntax
