-- A document has one document type (7.1): what says one reads only where none was named.
use Rattle.std.proofs.Common.{◌≡◌, ℕ, Bool, true, false, not, ◌==◌, ◌&&◌, ◌||◌, ◌-◌, List, [], ◌∷◌, Option, None, Some, is_some, is_none, Result, Ok, Err, length, take, drop, nat_lt, codes, refl, sym, ap, ◌∙◌, if◌then◌else◌}
use Rattle.std.specs.Option.{option_or}
use Rattle.sgml_theory_spelling.proofs.scan.Runs.{apart}
use Rattle.sgml_theory_spelling.specs.text.Characters.{is_separator, all_sgml}
use Rattle.sgml_theory_spelling.specs.text.declared.reason.Reason.{Reason}
use Rattle.sgml_theory_spelling.specs.text.declared.reason.Reason.TheVariants as reason
use Rattle.sgml_theory_spelling.specs.syntax.declared.syntax.Syntax.{Syntax}
use Rattle.sgml_theory_spelling.specs.delim.declared.delim.Mode.{Mode}
use Rattle.sgml_theory_spelling.specs.delim.declared.delim.Mode.TheVariants as mode
use Rattle.sgml_theory_spelling.specs.entity.declared.kinds.Body.{Body}
use Rattle.sgml_theory_spelling.specs.entity.declared.kinds.Body.TheVariants as body
use Rattle.sgml_theory_spelling.specs.entity.declared.kinds.Space.TheVariants as space
use Rattle.sgml_theory_spelling.specs.markup.declared.kinds.TokenKind.{TokenKind}
use Rattle.sgml_theory_spelling.specs.markup.declared.kinds.TokenKind.TheVariants as kind
use Rattle.sgml_theory_spelling.specs.marked.declared.status.Status.{Status}
use Rattle.sgml_theory_spelling.specs.marked.Keywords.{status_by}
use Rattle.sgml_theory_spelling.specs.decl_lexemes.declared.lexeme.Lexeme.{Lexeme}
use Rattle.sgml_theory_spelling.specs.decl_parts.declared.ends.Construct.TheVariants as construct
use Rattle.sgml_theory_spelling.specs.decl_parts.Ends.{is_doctype}
use Rattle.sgml_theory_spelling.specs.decl_forms.declared.declaration.Declaration.{Declaration}
use Rattle.sgml_theory_spelling.specs.decl_forms.declared.declaration.Declaration.TheVariants as form
use Rattle.sgml_theory_spelling.specs.decl_forms.Declarations.{declaration_at}
use Rattle.sgml_theory_spelling.specs.dtd_maps.Rows.{use_reason}
use Rattle.sgml_theory_spelling.specs.dtd.Doctypes.{Doctype, with_declared}
use Rattle.sgml_theory_spelling.specs.dtd.Rows.{declared_reason}
use Rattle.sgml_theory_spelling.specs.decl_forms.declared.doctype.DoctypeHead.{DoctypeHead}
use Rattle.sgml_theory_spelling.specs.scan.declared.state.Scanned.{Scanned}
use Rattle.sgml_theory_spelling.specs.scan.declared.state.Scanned.TheVariants.{Token, NeedMore, BadToken}
use Rattle.sgml_theory_spelling.specs.sgmldecl.declared.feature.DeclError.{DeclError}
use Rattle.sgml_theory_spelling.specs.sgmldecl.Machine.{Outcome, bad, whole, run, begin_state}
use Rattle.sgml_theory_spelling.specs.sgmldecl.Refusing.{answer}
use Rattle.sgml_theory_spelling.specs.theory_reading.Names.{Name, Text}
use Rattle.sgml_theory_spelling.specs.theory_reading.Types.{entity_number, body_of}
use Rattle.sgml_theory_spelling.specs.theory_reading.Pieces.{Piece, Kind, How, Short, Net, Meaning, Ordinary, ToText, ToData, ToExternalData, ToInstruction, Sgml, Head, Declare, SubsetEnd, Start, Re, ShortRef, DataRef, Ref, EntityEnd, Pi, History}
use Rattle.sgml_theory_spelling.specs.theory_reading.Facets.{Stage, BeforeSyntax, AtBeginning, BeforeDoctype, InSubset, AfterSubset, declares, subset_named}
use Rattle.sgml_theory_spelling.specs.theory_reading.Nest.{types}
use Rattle.sgml_theory_spelling.specs.theory_reading.Context.{Context, context}
use Rattle.sgml_theory_spelling.specs.theory_reading.ShortTags.{empty_start_type, empty_end_type, net_type}
use Rattle.sgml_theory_spelling.specs.theory_reading.Unread.{Outside, Sources, Rest, Standing, Input, standing, external_subset}
use Rattle.sgml_theory_spelling.specs.theory_reading.State.{State, state, sources_in}
use Rattle.sgml_theory_spelling.specs.theory_reading.Characters.{separator_kind, has_text, in_text_section, kind_noted}
use Rattle.sgml_theory_spelling.specs.theory_reading.Reads.{judged, answer_noted, unless_undecided, spelled_next, MovesTo, Reads}
use Rattle.sgml_theory_spelling.specs.Stacked.{Stacked, stacked}
use Rattle.sgml_theory_spelling.specs.Sized.{sized, sized_ok, spent_ok, unless_reason}
use Rattle.sgml_theory_spelling.specs.Places.{map_at, in_doctype, mode_at, in_section}
use Rattle.sgml_theory_spelling.specs.References.{subset_unopened, meaning_of, unless, unless_rcdata, referring_kind, parameter_text, parameter_of_number, parameter_kind}
use Rattle.sgml_theory_spelling.specs.Declared.{Lexed, lexed, reason_against, ambiguity}
use Rattle.sgml_theory_spelling.specs.SgmlDeclared.{has_keyword, begins_sgml, sgml_of, sgml_by, sgml_piece}
use Rattle.sgml_theory_spelling.specs.Content.{first_of, referred_name, character_kind, is_rcdata, kind_by_meaning, kind_of_string, mapped_kind, entity_of_string, short_start, ending_of, is_data_status, keywords_in, section_of, section_by, section_start, section_piece, section_end, has_open, map_used, use_of, or_reason, declared_kind, declared_piece, content_piece}
use Rattle.sgml_theory_spelling.specs.Prolog.{missing_subset, head_reason, head_by, head_lexed, piece_before, declared_by, declared_lexed, end_by, in_document, subset_piece}
use Rattle.sgml_theory_spelling.specs.Tags.{with_spent}
use Rattle.sgml_theory_spelling.specs.Decided.{is_early_end, decided}
use Rattle.sgml_theory_spelling.specs.Spelled.{type_end, document_end, entity_end, text_end, piece_in, by_token, by_token_before, token_here, sgml_bad, sgml_by_token, at_beginning, by_stage, spelled_in, spelled_of, spelled, forms}
use Rattle.sgml_theory_standing.specs.Prologs.{alone}

-- WHAT SAYS A DOCUMENT TYPE

abbrev pub says_doctype : Kind → Bool
says_doctype (Head head base) = true
says_doctype (Declare lexemes (form.Doctype head) base) = true
says_doctype _ = false

-- NOTHING ELSE DOES

abbrev Quiet : Result Piece Reason → Type 0
Quiet (Ok p) = says_doctype p.kind ≡ false
Quiet (Err r) = Unit {0}

abbrev KindQuiet : Result Kind Reason → Type 0
KindQuiet (Ok k) = says_doctype k ≡ false
KindQuiet (Err r) = Unit {0}

spent-quiet : (n spent : ℕ) (x : Result Kind Reason) → KindQuiet x → Quiet (spent_ok n spent x)
spent-quiet n spent (Ok k) e = e
spent-quiet n spent (Err r) e = tt

ok-quiet : (n : ℕ) (x : Result Kind Reason) → KindQuiet x → Quiet (sized_ok n x)
ok-quiet n x e = spent-quiet n 0 x e

if-quiet : (t : Bool) (x y : Result Piece Reason) → Quiet x → Quiet y → Quiet (if t then x else y)
if-quiet true x y p q = p
if-quiet false x y p q = q

if-kinds : (t : Bool) (x y : Result Kind Reason) → KindQuiet x → KindQuiet y → KindQuiet (if t then x else y)
if-kinds true x y p q = p
if-kinds false x y p q = q

if-kind : (t : Bool) (x y : Kind) → says_doctype x ≡ false → says_doctype y ≡ false → says_doctype (if t then x else y) ≡ false
if-kind true x y p q = p
if-kind false x y p q = q

unless-quiet : (o : Option Reason) (p : Piece) → says_doctype p.kind ≡ false → Quiet (unless_reason o p)
unless-quiet (Some r) p e = tt
unless-quiet None p e = e

unless-kind : (o : Option Reason) (k : Kind) → says_doctype k ≡ false → KindQuiet (unless o k)
unless-kind (Some r) k e = tt
unless-kind None k e = e

-- CHARACTERS

separator-quiet : (s : State) (b : ℕ) → says_doctype (separator_kind s b) ≡ false
unfolding separator_kind
separator-quiet s b =
    if-kind (b == 13) _ _ (if-kind (has_text s) _ _ refl refl)
    (if-kind (b == 10) _ _ (if-kind (has_text s) _ _ refl refl) (if-kind (has_text s || in_text_section s.sections) _ _ refl refl))

character-quiet : (s : State) (m : Mode) (b : ℕ) → says_doctype (character_kind s m b) ≡ false
character-quiet s mode.Ign b = refl
character-quiet s _ b = if-kind (is_separator b) _ _ (separator-quiet s b) refl

-- REFERENCES

rcdata-quiet : (t : Bool) (k : Kind) → says_doctype k ≡ false → KindQuiet (unless_rcdata t k)
rcdata-quiet true k e = tt
rcdata-quiet false k e = e

referring-quiet : (t : Bool) (m : Meaning) → KindQuiet (referring_kind t m)
referring-quiet t (ToText n) = refl
referring-quiet t (ToData n) = refl
referring-quiet t (ToExternalData n) = rcdata-quiet t (DataRef n) refl
referring-quiet t (ToInstruction n text) = rcdata-quiet t (Pi text (Some n)) refl
referring-quiet t (Ordinary x c) = tt

meaning-quiet : (t : Bool) (x : Result Meaning Reason) → KindQuiet (kind_by_meaning t x)
meaning-quiet t (Ok m) = referring-quiet t m
meaning-quiet t (Err r) = tt

string-quiet : (string : Text) (x : Result Meaning Reason) → KindQuiet (kind_of_string string x)
string-quiet string (Ok m) = refl
string-quiet string (Err r) = tt

mapped-quiet : (outside : Outside) (s : State) (t : Stacked) (string : Text) (o : Option Name) → KindQuiet (mapped_kind outside s t string o)
mapped-quiet outside s t string None = refl
mapped-quiet outside s t string (Some n) = string-quiet string (meaning_of outside (sources_in s) t n)

parameter-text-quiet : (outside : Outside) (k : Sources) (t : Stacked) (n : ℕ) (o : Option Body) → KindQuiet (parameter_text outside k t n o)
parameter-text-quiet outside k t n None = tt
parameter-text-quiet outside k t n (Some (body.Sgml text)) = unless-kind _ (Ref n) refl
parameter-text-quiet outside k t n (Some (body.External external)) = unless-kind _ (Ref n) refl
parameter-text-quiet outside k t n (Some (body.Pi text)) = if-kinds (nat_lt k.doctype.syntax.quantities.pilen (length text)) _ _ tt refl
parameter-text-quiet outside k t n (Some _) = tt

parameter-number-quiet : (outside : Outside) (k : Sources) (t : Stacked) (o : Option ℕ) → KindQuiet (parameter_of_number outside k t o)
parameter-number-quiet outside k t None = tt
parameter-number-quiet outside k t (Some n) = parameter-text-quiet outside k t n (body_of k.doctype n)

parameter-quiet : (outside : Outside) (k : Sources) (t : Stacked) (n : Name) → KindQuiet (parameter_kind outside k t n)
unfolding parameter_kind
parameter-quiet outside k t n = parameter-number-quiet outside k t (entity_number k.doctype space.Parameter n)

-- TAGS

short-quiet : (o : Option Name) → KindQuiet (short_start o)
short-quiet None = tt
short-quiet (Some n) = refl

ending-quiet : (how : How) (o : Option Name) → KindQuiet (ending_of how o)
ending-quiet how None = tt
ending-quiet how (Some n) = refl

-- SECTIONS

section-of-quiet : (syntax : Syntax) (xs : List Lexeme) (t : Bool) (n spent : ℕ) (x : Result Status ℕ) → Quiet (section_of syntax xs t n spent x)
section-of-quiet syntax xs t n spent (Err i) = tt
section-of-quiet syntax xs t n spent (Ok st) = if-quiet (t && is_data_status st) _ _ tt refl

section-by-quiet : (syntax : Syntax) (t : Stacked) (b : Bool) (n : ℕ) (x : Result Lexed Reason) → Quiet (section_by syntax t b n x)
section-by-quiet syntax t b n (Err r) = tt
section-by-quiet syntax t b n (Ok x) = section-of-quiet syntax x.lexemes b n (x.spent - t.spent) (status_by (keywords_in x.lexemes))

section-start-quiet : (outside : Outside) (d : Doctype) (t : Stacked) (b : Bool) (own : List ℕ) → Quiet (section_start outside d t b own)
unfolding section_start
section-start-quiet outside d t b own = section-by-quiet d.syntax t b (length own) (lexed construct.SectionStart outside d t own)

section-quiet : (outside : Outside) (d : Doctype) (t : Stacked) (m : Mode) (b : Bool) (own : List ℕ) → Quiet (section_piece outside d t m b own)
section-quiet outside d t mode.Ign b own = refl
section-quiet outside d t _ b own = section-start-quiet outside d t b own

section-end-quiet : (s : State) (n : ℕ) → Quiet (section_end s n)
section-end-quiet s n = if-quiet (in_section s.texts s.sections) _ _ refl tt

-- DECLARATIONS

use-quiet : (x : Result (Option ℕ) Reason) → KindQuiet (use_of x)
use-quiet (Ok m) = refl
use-quiet (Err r) = tt

or-quiet : (o : Option Reason) (x : Result Kind Reason) → KindQuiet x → KindQuiet (or_reason o x)
or-quiet (Some r) x e = tt
or-quiet None x e = e

declared-kind-quiet : (s : State) (o : Option Declaration) → KindQuiet (declared_kind s o)
declared-kind-quiet s None = tt
declared-kind-quiet s (Some (form.Usemap u)) =
    if-kinds (is_none u.targets && has_open s.context.levels) _ _
    (or-quiet (use_reason s.context.doctype.syntax u) _ (use-quiet (map_used s.context.doctype u.map))) tt
declared-kind-quiet s (Some _) = tt

declared-piece-quiet : (outside : Outside) (s : State) (t : Stacked) (own : List ℕ) (x : Result Lexed Reason) → Quiet (declared_piece outside s t own x)
declared-piece-quiet outside s t own (Err r) = tt
declared-piece-quiet outside s t own (Ok x) =
    spent-quiet (length own) (x.spent - t.spent) (declared_kind s (declaration_at x.lexemes)) (declared-kind-quiet s (declaration_at x.lexemes))

-- BY THE TOKEN

content-quiet : (outside : Outside) (s : State) (t : Stacked) (m : Mode) (k : TokenKind) (own : List ℕ) → Quiet (content_piece outside s t m k own)
unfolding content_piece
content-quiet outside s t m kind.Chars own = character-quiet s m (first_of own)
content-quiet outside s t m kind.Re own = separator-quiet s 13
content-quiet outside s t m kind.Rs own = separator-quiet s 10
content-quiet outside s t m (kind.ShortRef i) own = ok-quiet (length own) _ (mapped-quiet outside s t own (entity_of_string s.context.doctype (map_at s) i))
content-quiet outside s t m kind.StartTag own = refl
content-quiet outside s t m kind.EmptyStart own = ok-quiet (length own) _ (short-quiet (empty_start_type s.context s.ended))
content-quiet outside s t m kind.EndTag own = refl
content-quiet outside s t m kind.EmptyEnd own = ok-quiet (length own) _ (ending-quiet Short (empty_end_type s.context))
content-quiet outside s t m kind.Net own = ok-quiet (length own) _ (ending-quiet Net (net_type s.context))
content-quiet outside s t m kind.EntityRef own =
    ok-quiet (length own) _ (meaning-quiet (is_rcdata m) _)
content-quiet outside s t m (kind.CharRef b) own = refl
content-quiet outside s t m (kind.FunctionRef b) own = separator-quiet s b
content-quiet outside s t m kind.Pi own = refl
content-quiet outside s t m kind.Comment own = refl
content-quiet outside s t m kind.SectionStart own = section-quiet outside s.context.doctype t m false own
content-quiet outside s t m kind.SectionEnd own = section-end-quiet s (length own)
content-quiet outside s t m kind.Declaration own =
    if-quiet (has_keyword s.context.doctype.syntax.names (codes "SGML") own) _ _ tt
    (declared-piece-quiet outside s t own (lexed construct.Declaration outside s.context.doctype t own))
content-quiet outside s t m _ own = tt

-- IT READS where none was named

abbrev AsFirst : Doctype → Result Piece Reason → Type 0
AsFirst d (Ok p) = says_doctype p.kind ≡ true → d.name ≡ None
AsFirst d (Err r) = Unit {0}

quiet-first : (d : Doctype) (x : Result Piece Reason) → Quiet x → AsFirst d x
quiet-first d (Ok p) q = λ e. apart (says_doctype p.kind) e q
quiet-first d (Err r) q = tt

if-first : (d : Doctype) (t : Bool) (x y : Result Piece Reason) → AsFirst d x → AsFirst d y → AsFirst d (if t then x else y)
if-first d true x y p q = p
if-first d false x y p q = q

unless-first : (d : Doctype) (o : Option Reason) (p : Piece) → (o ≡ None → says_doctype p.kind ≡ true → d.name ≡ None) → AsFirst d (unless_reason o p)
unless-first d (Some r) p f = tt
unless-first d None p f = f refl

-- of two reasons none holds
none-first : (a b : Option Reason) → option_or a b ≡ None → a ≡ None
none-first None b e = refl
none-first (Some r) b e = e

none-second : (a b : Option Reason) → option_or a b ≡ None → b ≡ None
none-second None b e = e
none-second (Some r) b e = absurd (cc)

no-name : (name : Option Name) (rest : Option Reason) → (if is_some name then Some reason.DeclarationPlace else rest) ≡ None → name ≡ None
no-name None rest e = refl
no-name (Some n) rest e = absurd (cc)

head-unnamed : (d : Doctype) (lexemes : List Lexeme) (head : DoctypeHead) → reason_against d lexemes (form.Doctype head) ≡ None → d.name ≡ None
head-unnamed d lexemes head e =
    no-name d.name _ (none-first (declared_reason d lexemes (form.Doctype head)) (ambiguity d (form.Doctype head)) e)

against-head : (t : Bool) (outside : Outside) (k : Sources) (u : Stacked) (against : Option Reason) → head_reason t outside k u against ≡ None → against ≡ None
against-head true outside k u against e = e
against-head false outside k u against e = none-first against (subset_unopened outside k u) (none-second (missing_subset outside k) _ e)

head-by-first : (outside : Outside) (k : Sources) (t : Stacked) (n : ℕ) (x : Lexed) (o : Option Declaration) → AsFirst k.doctype (head_by outside k t n x o)
head-by-first outside k t n x (Some (form.Doctype head)) =
    unless-first k.doctype _ _ (λ e says. head-unnamed k.doctype x.lexemes head (against-head head.subset outside _ (with_spent t x.spent) (reason_against k.doctype x.lexemes (form.Doctype head)) e))
head-by-first outside k t n x _ = tt

head-first : (outside : Outside) (k : Sources) (t : Stacked) (n : ℕ) (x : Result Lexed Reason) → AsFirst k.doctype (head_lexed outside k t n x)
head-first outside k t n (Err r) = tt
head-first outside k t n (Ok x) = head-by-first outside k t n x (declaration_at x.lexemes)

says-first : (d : Doctype) (lexemes : List Lexeme) (says : Declaration) (base : Text) → reason_against d lexemes says ≡ None → says_doctype (Declare lexemes says base) ≡ true → d.name ≡ None
says-first d lexemes (form.Doctype head) base e says = head-unnamed d lexemes head e
says-first d lexemes _ base e says = apart false says refl

declared-by-first : (outside : Outside) (k : Sources) (t : Stacked) (n : ℕ) (x : Lexed) (o : Option Declaration) → AsFirst k.doctype (declared_by outside k t n x o)
declared-by-first outside k t n x None = tt
declared-by-first outside k t n x (Some says) =
    unless-first k.doctype (reason_against k.doctype x.lexemes says) _ (λ e f. says-first k.doctype x.lexemes says _ e f)

declared-first : (outside : Outside) (k : Sources) (t : Stacked) (n : ℕ) (x : Result Lexed Reason) → AsFirst k.doctype (declared_lexed outside k t n x)
declared-first outside k t n (Err r) = tt
declared-first outside k t n (Ok x) = declared-by-first outside k t n x (declaration_at x.lexemes)

end-by-quiet : (outside : Outside) (s : State) (t : Stacked) (n : ℕ) (x : Result Lexed Reason) → Quiet (end_by outside s t n x)
end-by-quiet outside s t n (Err r) = tt
end-by-quiet outside s t n (Ok x) = unless-quiet _ _ refl

before-first : (outside : Outside) (s : State) (t : Stacked) (k : TokenKind) (own : List ℕ) → AsFirst s.context.doctype (piece_before outside s t k own)
unfolding piece_before
before-first outside s t kind.Separators own = λ e. apart false e refl
before-first outside s t kind.Pi own = λ e. apart false e refl
before-first outside s t kind.Comment own = λ e. apart false e refl
before-first outside s t kind.Declaration own =
    if-first s.context.doctype (is_doctype s.context.doctype.syntax.names own) _ _
    (head-first outside (sources_in s) t (length own) (lexed construct.Declaration outside s.context.doctype t own)) tt
before-first outside s t _ own = tt

subset-first : (outside : Outside) (s : State) (t : Stacked) (m : Mode) (k : TokenKind) (own : List ℕ) → AsFirst s.context.doctype (subset_piece outside s t m k own)
unfolding subset_piece
subset-first outside s t mode.Ign kind.Chars own = λ e. apart false e refl
subset-first outside s t m kind.Separators own = λ e. apart false e refl
subset-first outside s t m kind.Pi own = λ e. apart false e refl
subset-first outside s t m kind.Comment own = λ e. apart false e refl
subset-first outside s t m kind.ParameterRef own =
    let x = parameter_kind outside (sources_in s) t (referred_name s.context.doctype (drop 1 own)) in
    quiet-first s.context.doctype (sized_ok (length own) x) (ok-quiet (length own) x (parameter-quiet outside (sources_in s) t (referred_name s.context.doctype (drop 1 own))))
subset-first outside s t m kind.SectionStart own = quiet-first s.context.doctype (section_piece outside s.context.doctype t m true own) (section-quiet outside s.context.doctype t m true own)
subset-first outside s t m kind.SectionEnd own = quiet-first s.context.doctype (section_end s (length own)) (section-end-quiet s (length own))
subset-first outside s t m kind.Declaration own =
    if-first s.context.doctype (has_keyword s.context.doctype.syntax.names (codes "SGML") own) _ _ tt
    (declared-first outside (sources_in s) t (length own) (lexed construct.Declaration outside s.context.doctype t own))
subset-first outside s t m kind.SubsetEnd own =
    if-first s.context.doctype (in_document t.entities) _ _
    (quiet-first s.context.doctype (end_by outside s t (length own) (lexed construct.SubsetEnd outside s.context.doctype t own)) (end-by-quiet outside s t (length own) (lexed construct.SubsetEnd outside s.context.doctype t own))) tt
subset-first outside s t m _ own = tt

-- IN EACH STAGE

piece-first : (t : Bool) (outside : Outside) (s : State) (u : Stacked) (m : Mode) (k : TokenKind) (own : List ℕ) → AsFirst s.context.doctype (piece_in t outside s u m k own)
piece-first true outside s u m k own = subset-first outside s u m k own
piece-first false outside s u m k own = quiet-first s.context.doctype (content_piece outside s u m k own) (content-quiet outside s u m k own)

token-first : (outside : Outside) (s : State) (t : Stacked) (bytes : List ℕ) (x : Scanned) → AsFirst s.context.doctype (by_token outside s t bytes x)
token-first outside s t bytes (Token x) = piece-first (in_doctype s.stage t.entities) outside s t (mode_at s t.entities) x.kind (take x.length bytes)
token-first outside s t bytes NeedMore = tt
token-first outside s t bytes (BadToken r) = tt

token-before-first : (outside : Outside) (s : State) (t : Stacked) (bytes : List ℕ) (x : Scanned) → AsFirst s.context.doctype (by_token_before outside s t bytes x)
token-before-first outside s t bytes (Token x) = before-first outside s t x.kind (take x.length bytes)
token-before-first outside s t bytes NeedMore = tt
token-before-first outside s t bytes (BadToken r) = tt

answer-quiet : (bytes : List ℕ) (x : Result (Syntax × ℕ) DeclError) → Quiet (sgml_of bytes x)
answer-quiet bytes (Err e) = tt
answer-quiet bytes (Ok a) = if-quiet (all_sgml (take a.1 bytes)) (Ok (sized a.1 (Sgml a.0))) (Err reason.NonSgml) refl tt

outcome-quiet : (bytes : List ℕ) (o : Outcome) → Quiet (sgml_by bytes o)
outcome-quiet bytes (bad at) = tt
outcome-quiet bytes (whole h n) = answer-quiet bytes (answer h n)

sgml-quiet : (bytes : List ℕ) → Quiet (sgml_piece bytes)
unfolding sgml_piece
sgml-quiet bytes = outcome-quiet bytes (run 0 begin_state bytes)

bad-quiet : (bytes : List ℕ) (r : Reason) → Quiet (sgml_bad bytes r)
bad-quiet bytes reason.Unclosed = sgml-quiet bytes
bad-quiet bytes _ = tt

sgml-token-quiet : (bytes : List ℕ) (x : Scanned) → Quiet (sgml_by_token bytes x)
sgml-token-quiet bytes (Token x) = sgml-quiet (take x.length bytes)
sgml-token-quiet bytes NeedMore = tt
sgml-token-quiet bytes (BadToken r) = bad-quiet bytes r

beginning-first : (w : Bool) (outside : Outside) (s : State) (t : Stacked) (bytes : List ℕ) → AsFirst s.context.doctype (at_beginning w outside s t bytes)
beginning-first true outside s t bytes = quiet-first s.context.doctype (sgml_by_token bytes (token_here s t bytes)) (sgml-token-quiet bytes (token_here s t bytes))
beginning-first false outside s t bytes = token-before-first outside s t bytes (token_here s t bytes)

stage-first : (outside : Outside) (s : State) (t : Stacked) (bytes : List ℕ) (g : Stage) → AsFirst s.context.doctype (by_stage outside s t bytes g)
stage-first outside s t bytes BeforeSyntax = token-before-first outside s t bytes (token_here s t bytes)
stage-first outside s t bytes AtBeginning = beginning-first (begins_sgml s.context.doctype.syntax.names bytes) outside s t bytes
stage-first outside s t bytes BeforeDoctype = token-before-first outside s t bytes (token_here s t bytes)
stage-first outside s t bytes InSubset = token-first outside s t bytes (token_here s t bytes)
stage-first outside s t bytes AfterSubset = token-first outside s t bytes (token_here s t bytes)

document-quiet : (g : Stage) (t : Bool) → Quiet (document_end g t)
document-quiet BeforeSyntax t = tt
document-quiet AtBeginning t = tt
document-quiet BeforeDoctype t = tt
document-quiet InSubset t = tt
document-quiet AfterSubset true = tt
document-quiet AfterSubset false = refl

entity-quiet : (s : State) (n : ℕ) (t : Bool) → Quiet (entity_end s n t)
entity-quiet s n true = tt
entity-quiet s n false = unless-quiet (type_end n s.context.doctype) (sized 0 EntityEnd) refl

in-first : (outside : Outside) (s : State) (t : Stacked) (n : ℕ) (bytes : List ℕ) → AsFirst s.context.doctype (spelled_in outside s t n bytes)
in-first outside s t n [] =
    quiet-first s.context.doctype (text_end s n)
    (if-quiet (n == 0) (document_end s.stage (in_section s.texts s.sections)) (entity_end s n (in_section s.texts s.sections))
    (document-quiet s.stage (in_section s.texts s.sections)) (entity-quiet s n (in_section s.texts s.sections)))
in-first outside s t n (b ∷ bytes) =
    if-first s.context.doctype (is_early_end s.stage b) (Err reason.NoDoctype) (by_stage outside s t (b ∷ bytes) s.stage) tt (stage-first outside s t (b ∷ bytes) s.stage)

of-first : (outside : Outside) (s : State) (t : Stacked) (rs : List Rest) → AsFirst s.context.doctype (spelled_of outside s t rs)
of-first outside s t [] = tt
of-first outside s t (r ∷ rs) = in-first outside s t r.entity r.bytes

spelled-first : (outside : Outside) (s : State) (t : Standing) → AsFirst s.context.doctype (spelled outside s t)
unfolding spelled
spelled-first outside s t = of-first outside s (stacked t) t.rests

-- what is noted of a piece says no other thing
noted-says : (s : State) (k : Kind) → says_doctype (kind_noted s k) ≡ says_doctype k
unfolding kind_noted
noted-says s (Re live) = refl
noted-says s (ShortRef string meaning) = refl
noted-says s (SubsetEnd reads) = refl
noted-says s _ = refl

judged-says : (c : Context) (k : Kind) → says_doctype (judged c k) ≡ says_doctype k
judged-says c (Start n specifications how proper at_once) = refl
judged-says c _ = refl

noted-first : (s : State) (x : Result Piece Reason) → AsFirst s.context.doctype x → AsFirst s.context.doctype (answer_noted s x)
noted-first s (Ok p) f = λ e. f (sym (noted-says s p.kind) ∙ e)
noted-first s (Err r) f = tt

unless-cut : (d : Doctype) (t : Bool) (x : Result Piece Reason) → AsFirst d x → AsFirst d (unless_undecided t x)
unless-cut d true x f = tt
unless-cut d false x f = f

next-first : (I : Input) (h : History) → AsFirst (types h) (spelled_next forms I h)
unfolding state context
next-first I h =
    let s = state h in
    let t = standing I h in
    unless-cut (types h) (I.was_cut && not (decided I.outside s t)) (answer_noted s (spelled I.outside s t)) (noted-first s (spelled I.outside s t) (spelled-first I.outside s t))

moves-first : (h : History) (x : Result Piece Reason) (p : Piece) → AsFirst (types h) x → MovesTo forms h x (alone p) → says_doctype p.kind ≡ true → (types h).name ≡ None
moves-first h (Err r) p f m e = absurd m
moves-first h (Ok q) p f m e = f (sym (ap (λ (y : Piece). says_doctype y.kind) m.visible ∙ judged-says (context h) q.kind) ∙ e)

pub reads-first : (I : Input) (h : History) (p : Piece) → Reads forms I h (alone p) → says_doctype p.kind ≡ true → (types h).name ≡ None
reads-first I h p r e = moves-first h (spelled_next forms I h) p (next-first I h) r.moves e

-- WHERE NONE WAS NAMED, no external subset was

declared-named : (base : Text) (d : Doctype) (x : Declaration) → (with_declared base d x).name ≡ None → d.name ≡ None
declared-named base d (form.Doctype y) e = absurd (cc)
declared-named base d (form.Entity y) e = e
declared-named base d (form.Element y) e = e
declared-named base d (form.Attlist y) e = e
declared-named base d (form.Notation y) e = e
declared-named base d (form.Shortref y) e = e
declared-named base d (form.Usemap y) e = e

unnamed-before : (k : Kind) (d : Doctype) → (declares k d).name ≡ None → (subset_named k ≡ None) × (d.name ≡ None)
unfolding declares subset_named
unnamed-before (Sgml syntax) d e = (refl, e)
unnamed-before (Head head base) d e = absurd (cc)
unnamed-before (Declare lexemes says base) d e = (refl, declared-named base d says e)
unnamed-before _ d e = (refl, e)

pub no-subset : (h : History) → (types h).name ≡ None → external_subset h ≡ None
unfolding types external_subset
no-subset [] e = refl
no-subset (p ∷ h) e =
    let before = unnamed-before p.kind (types h) e in
    ap (λ o. option_or o (external_subset h)) before.0 ∙ no-subset h before.1

-- what says no document type keeps the name
other-name : (base : Text) (lexemes : List Lexeme) (d : Doctype) (x : Declaration) → says_doctype (Declare lexemes x base) ≡ false → (with_declared base d x).name ≡ d.name
other-name base lexemes d (form.Doctype y) e = apart true refl e
other-name base lexemes d (form.Entity y) e = refl
other-name base lexemes d (form.Element y) e = refl
other-name base lexemes d (form.Attlist y) e = refl
other-name base lexemes d (form.Notation y) e = refl
other-name base lexemes d (form.Shortref y) e = refl
other-name base lexemes d (form.Usemap y) e = refl

pub same-name : (k : Kind) (d : Doctype) → says_doctype k ≡ false → (declares k d).name ≡ d.name
unfolding declares
same-name (Sgml syntax) d e = refl
same-name (Head head base) d e = apart true refl e
same-name (Declare lexemes says base) d e = other-name base lexemes d says e
same-name _ d e = refl
