-- The piece that a token of content is (7.6, 9.1 to 9.5, 10.4), or why there is none.
use Rattle.std.specs.Prelude.{ℕ, Bool, true, false, ◌-◌, ◌&&◌, List, [], ◌∷◌, length, drop, take, Option, Some, None, is_none, Result, Ok, Err, codes, if◌then◌else◌}
use Rattle.sgml_scan.specs.text.declared.reason.Reason.{Reason}
use Rattle.sgml_scan.specs.text.declared.reason.Reason.TheVariants as reason
use Rattle.sgml_scan.specs.text.NameCharacters.{is_name_character}
use Rattle.sgml_scan.specs.syntax.declared.syntax.Syntax.{Syntax}
use Rattle.sgml_theory_reading.specs.names.Naming.{general_name, entity_name}
use Rattle.sgml_scan.specs.delim.declared.delim.Mode.{Mode}
use Rattle.sgml_scan.specs.delim.declared.delim.Mode.TheVariants as mode
use Rattle.sgml_scan.specs.shortref.Maps.{entity_in}
use Rattle.sgml_scan.specs.markup.declared.kinds.TokenKind.{TokenKind}
use Rattle.sgml_scan.specs.markup.declared.kinds.TokenKind.TheVariants as kind
use Rattle.sgml_scan.specs.markup.References.{run_of}
use Rattle.sgml_theory_reading.specs.marked.declared.status.Status.{Status}
use Rattle.sgml_theory_reading.specs.marked.declared.status.Status.TheVariants as status
use Rattle.sgml_theory_reading.specs.marked.Keywords.{status_by}
use Rattle.sgml_theory_reading.specs.decl_lexemes.declared.lexeme.Lexeme.{Lexeme}
use Rattle.sgml_theory_reading.specs.decl_lexemes.declared.lexeme.Lexeme.TheVariants as lexeme
use Rattle.sgml_theory_reading.specs.decl_lexemes.Lengths.{has_long_name}
use Rattle.sgml_theory_reading.specs.decl_lexemes.Readings.{first_due}
use Rattle.sgml_theory_reading.specs.decl_parts.declared.ends.Construct.TheVariants as construct
use Rattle.sgml_theory_reading.specs.decl_forms.declared.map.UsedMap.{UsedMap}
use Rattle.sgml_theory_reading.specs.decl_forms.declared.map.UsedMap.TheVariants as used
use Rattle.sgml_theory_reading.specs.decl_forms.declared.map.UsemapDeclaration.{UsemapDeclaration}
use Rattle.sgml_theory_reading.specs.decl_forms.declared.declaration.Declaration.{Declaration}
use Rattle.sgml_theory_reading.specs.decl_forms.declared.declaration.Declaration.TheVariants as form
use Rattle.sgml_theory_reading.specs.decl_forms.Declarations.{declaration_at}
use Rattle.sgml_theory_reading.specs.dtd_maps.declared.uses.MapOf.{MapOf}
use Rattle.sgml_theory_reading.specs.dtd_maps.declared.uses.MapOf.TheVariants as map_of
use Rattle.sgml_theory_reading.specs.dtd_maps.Rows.{use_reason}
use Rattle.sgml_theory_reading.specs.dtd.Doctypes.{Doctype}
use Rattle.sgml_theory_reading.specs.Names.{Name, Text}
use Rattle.sgml_theory_reading.specs.Types.{map_number, map_entries}
use Rattle.sgml_theory_reading.specs.Pieces.{Piece, Kind, Start, End, Char, ShortRef, SectionStart, SectionEnd, Skipped, Pi, Comment, UseMap, How, Tag, Short, Net, Meaning}
use Rattle.sgml_theory_reading.specs.Context.{Level}
use Rattle.sgml_theory_reading.specs.ShortTags.{empty_start_type, empty_end_type, net_type}
use Rattle.sgml_theory_reading.specs.Unread.{Outside}
use Rattle.sgml_theory_reading.specs.State.{State, sources_in}
use Rattle.sgml_theory_reading.specs.Characters.{separator_kind, ordinary}
use Rattle.sgml_scan.specs.text.Characters.{is_separator}
use Rattle.sgml_theory_spelling.specs.Stacked.{Stacked}
use Rattle.sgml_theory_spelling.specs.Sized.{sized, sized_spent, sized_ok, spent_ok}
use Rattle.sgml_theory_spelling.specs.Places.{map_at, in_section}
use Rattle.sgml_theory_spelling.specs.References.{meaning_of, referring_kind}
use Rattle.sgml_theory_spelling.specs.Declared.{Lexed, lexed, is_whole}
use Rattle.sgml_theory_spelling.specs.SgmlDeclared.{has_keyword, sgml_piece, misplaced}
use Rattle.sgml_theory_spelling.specs.Tags.{element_of, specifications_of, how_of}

-- CHARACTERS: in an ignored section each is passed over; a separator is data, a record end or start,
-- or ignored (7.6, 7.6.1, 10.4.2)
abbrev pub character_kind : State → Mode → ℕ → Kind
character_kind s mode.Ign b = Skipped b
character_kind s _ b = if is_separator b then separator_kind s b else Char b

-- REFERENCES to general entities (9.4.4), by the name after ERO; names of entities are folded by
-- NAMECASE ENTITY (13.4.5)
abbrev pub referred_name : Doctype → Text → Name
referred_name d bytes = entity_name d.syntax (run_of (is_name_character d.syntax.names) bytes)

abbrev pub is_rcdata : Mode → Bool
is_rcdata mode.Rcd = true
is_rcdata mode.Rcs = true
is_rcdata _ = false

abbrev pub kind_by_meaning : Bool → Result Meaning Reason → Result Kind Reason
kind_by_meaning rcdata (Ok m) = referring_kind rcdata m
kind_by_meaning rcdata (Err r) = Err r

abbrev pub reference_kind : Outside → State → Stacked → Mode → Name → Result Kind Reason
reference_kind outside s t m n = kind_by_meaning (is_rcdata m) (meaning_of outside (sources_in s) t n)

-- SHORT REFERENCES (9.4.6, 11.5, 11.6): a string that the map in force gives to no entity stands for
-- its bytes
abbrev pub entity_of_string : Doctype → MapOf → ℕ → Option Name
entity_of_string d (map_of.Map number) i = entity_in (map_entries d number) i
entity_of_string d _ i = None

abbrev pub kind_of_string : Text → Result Meaning Reason → Result Kind Reason
kind_of_string string (Ok m) = Ok (ShortRef string m)
kind_of_string string (Err r) = Err r

abbrev pub mapped_kind : Outside → State → Stacked → Text → Option Name → Result Kind Reason
mapped_kind outside s t string None = Ok (ShortRef string (ordinary s string))
mapped_kind outside s t string (Some n) = kind_of_string string (meaning_of outside (sources_in s) t n)

-- the string of this number
abbrev pub string_kind : Outside → State → Stacked → ℕ → Text → Result Kind Reason
string_kind outside s t i string = mapped_kind outside s t string (entity_of_string s.context.doctype (map_at s) i)

-- TAGS (7.4, 7.5)
abbrev pub start_piece : Outside → State → Stacked → Text → Piece
start_piece outside s t tag =
    let all = specifications_of outside s.context.doctype t tag in
    sized_spent (length tag) (all.spent - t.spent) (Start (element_of s.context.doctype tag) all.specifications (how_of tag) true false)

abbrev pub short_start : Option Name → Result Kind Reason
short_start None = Err reason.Undefined
short_start (Some n) = Ok (Start n [] Short true false)

abbrev pub ending_of : How → Option Name → Result Kind Reason
ending_of how None = Err reason.NotOpen
ending_of how (Some n) = Ok (End n how)

-- MARKED SECTIONS (10.4): a start, whose status keywords may come from entities; an end is that of a
-- section that began in the same text

-- before the document type was read no section has data for its content (profile)
abbrev pub is_data_status : Status → Bool
is_data_status status.Cdata = true
is_data_status status.Rcdata = true
is_data_status _ = false

-- a word that is none of the keywords may be too long besides, as it is before a reference (13.4)
abbrev pub status_reason : Syntax → List Lexeme → Reason
status_reason syntax xs = if has_long_name syntax (first_due construct.SectionStart) xs then reason.NameLength else reason.StatusUnknown

abbrev pub section_of : Syntax → List Lexeme → Bool → ℕ → ℕ → Result Status ℕ → Result Piece Reason
section_of syntax xs in_type n spent (Err i) = Err (status_reason syntax xs)
section_of syntax xs in_type n spent (Ok st) =
    if in_type && is_data_status st then Err reason.DeclarationPlace else Ok (sized_spent n spent (SectionStart st))

-- the names among the lexemes; the other one is the second `[`
abbrev pub keywords_in : List Lexeme → List Text
keywords_in [] = []
keywords_in (lexeme.Name n ∷ xs) = n ∷ keywords_in xs
keywords_in (x ∷ xs) = keywords_in xs

abbrev pub section_by : Syntax → Stacked → Bool → ℕ → Result Lexed Reason → Result Piece Reason
section_by syntax t in_type n (Err r) = Err r
section_by syntax t in_type n (Ok x) = section_of syntax x.lexemes in_type n (x.spent - t.spent) (status_by (keywords_in x.lexemes))

unfoldable pub section_start : Outside → Doctype → Stacked → Bool → Text → Result Piece Reason
section_start outside d t in_type own =
    section_by d.syntax t in_type (length own) (lexed construct.SectionStart outside d t own)

abbrev pub section_piece : Outside → Doctype → Stacked → Mode → Bool → Text → Result Piece Reason
section_piece outside d t mode.Ign in_type own = Ok (sized (length own) (SectionStart status.Ignore))
section_piece outside d t _ in_type own = section_start outside d t in_type own

abbrev pub section_end : State → ℕ → Result Piece Reason
section_end s n = if in_section s.texts s.sections then Ok (sized n SectionEnd) else Err reason.SectionNone

-- the text of a processing instruction (8)
abbrev pub instruction : Text → Text
instruction own = take (length own - 3) (drop 2 own)

-- DECLARATIONS IN CONTENT: the use of a map in the current element (11.6); no other has its place there
abbrev pub known_map : Option ℕ → Result (Option ℕ) Reason
known_map None = Err reason.MapUnknown
known_map (Some number) = Ok (Some number)

abbrev pub map_used : Doctype → UsedMap → Result (Option ℕ) Reason
map_used d used.Empty = Ok None
map_used d (used.Named n) = known_map (map_number d (general_name d.syntax n))

abbrev pub has_open : List Level → Bool
has_open [] = false
has_open (l ∷ ls) = true

abbrev pub use_of : Result (Option ℕ) Reason → Result Kind Reason
use_of (Ok m) = Ok (UseMap m)
use_of (Err r) = Err r

abbrev pub or_reason : Option Reason → Result Kind Reason → Result Kind Reason
or_reason (Some r) k = Err r
or_reason None k = k

abbrev pub use_kind : State → UsemapDeclaration → Result Kind Reason
use_kind s u =
    if is_none u.targets && has_open s.context.levels
    then or_reason (use_reason s.context.doctype.syntax u) (use_of (map_used s.context.doctype u.map))
    else Err reason.DeclarationPlace

abbrev pub declared_kind : State → Option Declaration → Result Kind Reason
declared_kind s None = Err reason.DeclarationSyntax
declared_kind s (Some (form.Usemap u)) = use_kind s u
declared_kind s (Some x) = Err reason.DeclarationPlace

-- that a whole declaration has no place ranks before a reference to no character in it
abbrev pub placed_reason : Outside → Doctype → Stacked → Text → Reason → Reason
placed_reason outside d t own reason.CharNumber =
    if is_whole outside d t own then reason.DeclarationPlace else reason.CharNumber
placed_reason outside d t own r = r

abbrev pub declared_piece : Outside → State → Stacked → Text → Result Lexed Reason → Result Piece Reason
declared_piece outside s t own (Err r) = Err (placed_reason outside s.context.doctype t own r)
declared_piece outside s t own (Ok x) = spent_ok (length own) (x.spent - t.spent) (declared_kind s (declaration_at x.lexemes))

-- an SGML declaration has no place
abbrev pub declaration_in_content : Outside → State → Stacked → Text → Result Piece Reason
declaration_in_content outside s t own =
    if has_keyword s.context.doctype.syntax.names (codes "SGML") own then Err (misplaced (sgml_piece own))
    else declared_piece outside s t own (lexed construct.Declaration outside s.context.doctype t own)

-- the character that a token is
abbrev pub first_of : Text → ℕ
first_of [] = 0
first_of (b ∷ bytes) = b

-- THE PIECE, by the kind of the token and its own bytes
unfoldable pub content_piece : Outside → State → Stacked → Mode → TokenKind → Text → Result Piece Reason
content_piece outside s t m kind.Chars own = Ok (sized (length own) (character_kind s m (first_of own)))
content_piece outside s t m kind.Re own = Ok (sized (length own) (separator_kind s 13))
content_piece outside s t m kind.Rs own = Ok (sized (length own) (separator_kind s 10))
content_piece outside s t m (kind.ShortRef i) own = sized_ok (length own) (string_kind outside s t i own)
content_piece outside s t m kind.StartTag own = Ok (start_piece outside s t own)
content_piece outside s t m kind.EmptyStart own = sized_ok (length own) (short_start (empty_start_type s.context s.ended))
content_piece outside s t m kind.EndTag own = Ok (sized (length own) (End (element_of s.context.doctype own) Tag))
content_piece outside s t m kind.EmptyEnd own = sized_ok (length own) (ending_of Short (empty_end_type s.context))
content_piece outside s t m kind.Net own = sized_ok (length own) (ending_of Net (net_type s.context))
content_piece outside s t m kind.EntityRef own =
    sized_ok (length own) (reference_kind outside s t m (referred_name s.context.doctype (drop 1 own)))
content_piece outside s t m (kind.CharRef b) own = Ok (sized (length own) (Char b))
content_piece outside s t m (kind.FunctionRef b) own = Ok (sized (length own) (separator_kind s b))
content_piece outside s t m kind.Pi own = Ok (sized (length own) (Pi (instruction own) None))
content_piece outside s t m kind.Comment own = Ok (sized (length own) Comment)
content_piece outside s t m kind.SectionStart own = section_piece outside s.context.doctype t m false own
content_piece outside s t m kind.SectionEnd own = section_end s (length own)
content_piece outside s t m kind.Declaration own = declaration_in_content outside s t own
content_piece outside s t m _ own = Err reason.DeclarationSyntax
