-- A small spelling for worked documents: in the prolog a document type declaration with declarations,
-- and then tags, empty tags, null end-tags, processing instructions and characters, in a text without
-- references (7.1, 7.4 to 7.6, 8, 11).
use Rattle.std.specs.Prelude.{ℕ, ◌+◌, ◌==◌, ◌&&◌, ◌||◌, Bool, true, false, not, Option, Some, None, Result, Ok, Err, List, [], ◌∷◌, ◌++◌, length, drop, map, take_while, if◌then◌else◌}
use Rattle.sgml_theory_reading.specs.text.Characters.{upper, is_separator, is_letter}
use Rattle.sgml_theory_reading.specs.text.declared.reason.Reason.{Reason}
use Rattle.sgml_theory_reading.specs.text.declared.reason.Reason.TheVariants.{NotBuilt, NotOpen, NoDoctype, Unclosed, DeclarationSyntax, DeclarationPlace}
use Rattle.sgml_theory_reading.specs.decl_lexemes.declared.lexeme.Lexeme.{Lexeme}
use Rattle.sgml_theory_reading.specs.decl_forms.declared.declaration.Declaration.{Declaration}
use Rattle.sgml_theory_reading.specs.decl_forms.declared.declaration.Declaration.TheVariants as form
use Rattle.sgml_theory_reading.specs.decl_forms.Declarations.{declaration_at}
use Rattle.sgml_theory_reading.specs.Names.{Name, Text}
use Rattle.sgml_theory_reading.specs.Pieces.{Piece, Kind, Head, Declare, SubsetEnd, Sep, Start, End, Char, Pi, EntityEnd, Finish, Tag, Short, Slash, Net}
use Rattle.sgml_theory_reading.specs.Facets.{Stage, BeforeSyntax, AtBeginning, BeforeDoctype, InSubset, AfterSubset, subset_number}
use Rattle.sgml_theory_reading.specs.ShortTags.{empty_start_type, empty_end_type, net_in_force, net_type}
use Rattle.sgml_theory_reading.specs.Unread.{Rest, Standing, Outside, base_in}
use Rattle.sgml_theory_reading.specs.State.{State, sources_in}
use Rattle.sgml_theory_reading.specs.Characters.{separator_kind}
use Rattle.sgml_theory_reading.specs.Reads.{Forms, Attribute}
use Rattle.sgml_theory_worked.specs.Declared.{lexemes_of}

abbrev pub of_size : ℕ → Kind → Result Piece Reason
of_size n kind = Ok (record { kind = kind; size = n; spent = 0 })

abbrev pub name_at : List ℕ → Name
name_at bs = take_while is_letter bs

abbrev pub begins_with : ℕ → List ℕ → Bool
begins_with b [] = false
begins_with b (c ∷ cs) = b == c

-- CONTENT

-- a character that is no part of markup
abbrev pub character : State → ℕ → Result Piece Reason
character s b = of_size 1 (if is_separator b then separator_kind s b else Char b)

abbrev pub of_type : ℕ → Option Name → (Name → Kind) → Result Piece Reason
of_type size None kind = Err NotOpen
of_type size (Some n) kind = of_size size (kind n)

-- after `</`, with the name that stands there and what is behind it
abbrev pub end_tag : State → Name → List ℕ → Result Piece Reason
end_tag s [] cs = if begins_with 62 cs then of_type 3 (empty_end_type s.context) (λ n. End n Short) else character s 60
end_tag s (b ∷ bs) cs = if begins_with 62 cs then of_size (length (b ∷ bs) + 3) (End (map upper (b ∷ bs)) Tag) else Err NotBuilt

-- after `<`
abbrev pub start_tag : Name → List ℕ → Result Piece Reason
start_tag n cs =
    if begins_with 62 cs then of_size (length n + 2) (Start (map upper n) [] Tag false false)
    else (if begins_with 47 cs then of_size (length n + 2) (Start (map upper n) [] Slash false false)
    else Err NotBuilt)

abbrev pub instruction : List ℕ → Result Piece Reason
instruction text = of_size (length text + 3) (Pi text None)

abbrev pub is_no_end : ℕ → Bool
is_no_end b = not (b == 62)

abbrev pub markup : State → List ℕ → Result Piece Reason
markup s [] = character s 60
markup s (c ∷ cs) =
    if c == 47 then end_tag s (name_at cs) (drop (length (name_at cs)) cs)
    else (if c == 63 then instruction (take_while is_no_end cs)
    else (if c == 62 then of_type 2 (empty_start_type s.context s.ended) (λ n. Start n [] Short false false)
    else (if is_letter c then start_tag (name_at (c ∷ cs)) (drop (length (name_at (c ∷ cs))) (c ∷ cs))
    else character s 60)))

abbrev pub content_at : State → List ℕ → Result Piece Reason
content_at s [] = of_size 0 Finish
content_at s (b ∷ bs) =
    if b == 60 then markup s bs
    else (if (b == 47) && net_in_force s.context then of_type 1 (net_type s.context) (λ n. End n Net)
    else character s b)

-- THE PROLOG

abbrev pub is_no_head_end : ℕ → Bool
is_no_head_end b = not ((b == 62) || (b == 91))

abbrev pub head_of : ℕ → Text → Option Declaration → Result Piece Reason
head_of size base (Some (form.Doctype head)) = of_size size (Head head base)
head_of size base _ = Err DeclarationSyntax

-- after `<!`, with the text of the head and what is behind it
abbrev pub head_at : Text → Text → List ℕ → Result Piece Reason
head_at base text [] = Err Unclosed
head_at base text (b ∷ bs) = head_of (length text + 3) base (declaration_at (lexemes_of (text ++ (if b == 91 then b ∷ [] else []))))

abbrev pub declaration_of : ℕ → Text → List Lexeme → Option Declaration → Result Piece Reason
declaration_of size base lexemes None = Err DeclarationSyntax
declaration_of size base lexemes (Some (form.Doctype head)) = Err DeclarationPlace
declaration_of size base lexemes (Some says) = of_size size (Declare lexemes says base)

-- after `<!`
abbrev pub declare : Text → Text → Result Piece Reason
declare base text = declaration_of (length text + 3) base (lexemes_of text) (declaration_at (lexemes_of text))

-- after `<`
abbrev pub before_doctype : Text → List ℕ → Result Piece Reason
before_doctype base bs =
    if begins_with 33 bs then head_at base (take_while is_no_head_end (drop 1 bs)) (drop (length (take_while is_no_head_end (drop 1 bs))) (drop 1 bs))
    else Err NoDoctype

abbrev pub prolog_at : Text → List ℕ → Result Piece Reason
prolog_at base [] = Err NoDoctype
prolog_at base (b ∷ bs) = if b == 60 then before_doctype base bs else (if is_separator b then of_size 1 (Sep b) else Err NoDoctype)

-- in the internal subset, or in the external one
abbrev pub subset_at : Bool → Text → List ℕ → Result Piece Reason
subset_at external base [] = if external then of_size 0 EntityEnd else Err Unclosed
subset_at external base (b ∷ bs) =
    if b == 60 then (if begins_with 33 bs then declare base (take_while is_no_end (drop 1 bs)) else Err NotBuilt)
    else (if is_separator b then of_size 1 (Sep b)
    else (if (b == 93) && begins_with 62 bs then of_size 2 (SubsetEnd false) else Err DeclarationSyntax))

abbrev pub in_stage : Stage → State → Text → List ℕ → Result Piece Reason
in_stage BeforeSyntax s base bs = prolog_at base bs
in_stage AtBeginning s base bs = prolog_at base bs
in_stage BeforeDoctype s base bs = prolog_at base bs
in_stage InSubset s base bs = subset_at false base bs
in_stage AfterSubset s base bs = content_at s bs

abbrev pub numbers : List Rest → List ℕ
numbers rs = map (λ (r : Rest). r.entity) rs

abbrev pub piece_at : Outside → State → List Rest → Result Piece Reason
piece_at outside s [] = of_size 0 Finish
piece_at outside s (r ∷ rs) =
    let base = base_in outside (sources_in s) (numbers (r ∷ rs)) in
    if r.entity == subset_number then subset_at true base r.bytes else in_stage s.stage s base r.bytes

unfoldable pub spelling : Outside → State → Standing → Result Piece Reason
spelling outside s t = piece_at outside s t.rests

abbrev pub some_bytes : List ℕ → Bool
some_bytes [] = false
some_bytes (b ∷ bs) = true

abbrev pub some_unread : List Rest → Bool
some_unread [] = false
some_unread (r ∷ rs) = some_bytes r.bytes

-- the end of the text alone is never decided
unfoldable pub not_at_end : Outside → State → Standing → Bool
not_at_end outside s t = some_unread t.rests

unfoldable pub without_attributes : State → Kind → Option Reason
without_attributes s kind = None

unfoldable pub with_none : State → Kind → List Attribute
with_none s kind = []

abbrev pub small : Forms
small = record { spelled = spelling; decided = not_at_end; unvalued = without_attributes; valued = with_none }
