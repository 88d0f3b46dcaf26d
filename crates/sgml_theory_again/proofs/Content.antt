-- What is spelled in the instance.
use Rattle.std.proofs.Common.{◌≡◌, inl, inr, ℕ, Bool, true, false, ◌==◌, ◌&&◌, ◌||◌, ◌-◌, List, [], ◌∷◌, Option, None, Some, is_none, Result, Ok, Err, length, take, drop, nat_lt, codes, unwrap_or, refl, sym, ap, ◌∙◌, subst, if◌then◌else◌}
use Rattle.sgml_theory_full.specs.text.Characters.{is_separator}
use Rattle.sgml_theory_full.specs.text.declared.reason.Reason.{Reason}
use Rattle.sgml_theory_full.specs.text.declared.reason.Reason.TheVariants as reason
use Rattle.sgml_theory_full.specs.syntax.declared.syntax.Syntax.{Syntax}
use Rattle.sgml_theory_full.specs.delim.declared.delim.Mode.{Mode}
use Rattle.sgml_theory_full.specs.delim.declared.delim.Mode.TheVariants as mode
use Rattle.sgml_theory_full.specs.entity.declared.kinds.Body.{Body}
use Rattle.sgml_theory_full.specs.entity.declared.kinds.Body.TheVariants as body
use Rattle.sgml_theory_full.specs.entity.declared.kinds.Space.TheVariants as space
use Rattle.sgml_theory_full.specs.markup.declared.kinds.TokenKind.{TokenKind}
use Rattle.sgml_theory_full.specs.markup.declared.kinds.TokenKind.TheVariants as kind
use Rattle.sgml_theory_full.specs.marked.declared.status.Status.{Status}
use Rattle.sgml_theory_full.specs.marked.declared.status.Status.TheVariants as status
use Rattle.sgml_theory_full.specs.marked.declared.sections.Section.{Section}
use Rattle.sgml_theory_full.specs.marked.Keywords.{status_by}
use Rattle.sgml_theory_full.specs.scan.declared.state.Scanned.{Scanned}
use Rattle.sgml_theory_full.specs.scan.declared.state.Scanned.TheVariants.{Token, NeedMore, BadToken}
use Rattle.sgml_theory_full.specs.decl_parts.declared.ends.Construct.TheVariants as construct
use Rattle.sgml_theory_full.specs.decl_lexemes.declared.lexeme.Lexeme.{Lexeme}
use Rattle.sgml_theory_full.specs.decl_forms.declared.map.UsemapDeclaration.{UsemapDeclaration}
use Rattle.sgml_theory_full.specs.decl_forms.declared.declaration.Declaration.{Declaration}
use Rattle.sgml_theory_full.specs.decl_forms.declared.declaration.Declaration.TheVariants as form
use Rattle.sgml_theory_full.specs.decl_forms.Declarations.{declaration_at}
use Rattle.sgml_theory_full.specs.dtd_maps.Rows.{use_reason}
use Rattle.sgml_theory_full.specs.dtd.Doctypes.{Doctype}
use Rattle.sgml_theory_full.specs.theory_reading.Names.{Name, Text}
use Rattle.sgml_theory_full.specs.theory_reading.Types.{Content, Model, Any, Cdata, Rcdata, Void, type_of, content_of, entity_number, body_of}
use Rattle.sgml_theory_full.specs.theory_reading.Pieces.{Piece, Kind, Sgml, Head, Declare, SubsetEnd, Start, Char, Data, DataRef, ShortRef, Ref, Pi, EntityEnd, SectionStart, SectionEnd, How, Short, Net, Meaning, Ordinary, ToText, ToData, ToExternalData, ToInstruction}
use Rattle.sgml_theory_full.specs.theory_reading.Facets.{is_start, Stage, BeforeSyntax, AtBeginning, BeforeDoctype, InSubset, AfterSubset}
use Rattle.sgml_theory_full.specs.theory_reading.Context.{Level}
use Rattle.sgml_theory_full.specs.theory_reading.ShortTags.{empty_start_type, empty_end_type, net_in_force, net_type}
use Rattle.sgml_theory_full.specs.theory_reading.Unread.{Outside, Sources, Rest, Standing}
use Rattle.sgml_theory_full.specs.theory_reading.State.{State, sources_in}
use Rattle.sgml_theory_full.specs.theory_reading.Characters.{separator_kind, has_text, in_text_section, ordinary}
use Rattle.sgml_theory_full.specs.theory_spelling.Stacked.{Stacked, stacked}
use Rattle.sgml_theory_full.specs.theory_spelling.Sized.{sized, sized_spent, sized_ok, spent_ok, unless_reason}
use Rattle.sgml_theory_full.specs.theory_spelling.Places.{mode_of_status, section_mode, in_doctype, content_mode, element_mode, mode_at, map_at, is_map, in_section}
use Rattle.sgml_theory_full.specs.theory_spelling.References.{missing, unopened, unless, general_meaning, meaning_of_body, meaning_of_number, meaning_of, unless_rcdata, referring_kind}
use Rattle.sgml_theory_full.specs.theory_spelling.Declared.{Lexed, lexed}
use Rattle.sgml_theory_full.specs.theory_spelling.SgmlDeclared.{has_keyword}
use Rattle.sgml_theory_full.specs.theory_spelling.Content.{reference_kind, referred_name, first_of, character_kind, is_rcdata, kind_by_meaning, entity_of_string, kind_of_string, mapped_kind, short_start, ending_of, is_data_status, keywords_in, section_of, section_by, section_start, section_piece, section_end, has_open, map_used, use_of, or_reason, use_kind, declared_kind, declared_piece, content_piece}
use Rattle.sgml_theory_full.specs.theory_spelling.Decided.{is_early_end}
use Rattle.sgml_theory_full.specs.theory_spelling.Spelled.{type_end, document_end, entity_end, text_end, piece_in, by_token, token_here, by_stage, spelled_in, spelled_of, spelled}
use Rattle.sgml_theory_full.specs.Conforming.{mode_in}
use Rattle.sgml_theory_full.specs.Named.{is_external_data}
use Rattle.sgml_theory_again.specs.Strings.{is_string}
use Rattle.sgml_theory_again.specs.Content.{IsInInstance, HasNoMap, IsReferred, is_data_body, ReferredIs, IsInstructionOf, IsMapped, IsOfInstance}
use Rattle.sgml_theory_again.proofs.Texts.{true-false}
use Rattle.sgml_theory_again.proofs.Tokens.{has_instructions, has_references, has_starts, token_in, ScannedIn, ScannedThere, token-in}

-- where start-tags are recognised, of the modes in which an instruction or a reference that isn't in replaceable character data is
abbrev has_tags : Mode → Bool
has_tags mode.Con = true
has_tags mode.Ds = true
has_tags mode.Lit = true
has_tags mode.Lita = true
has_tags _ = false

refers-tags : (m : Mode) → has_references m ≡ true → is_rcdata m ≡ false → has_tags m ≡ true
refers-tags mode.Con e f = refl
refers-tags mode.Rcd e f = true-false f
refers-tags mode.Rcs e f = true-false f
refers-tags mode.Lit e f = refl
refers-tags mode.Lita e f = refl
refers-tags _ e f = true-false (sym e)

instructs-tags : (m : Mode) → has_instructions m ≡ true → has_tags m ≡ true
instructs-tags mode.Con e = refl
instructs-tags mode.Ds e = refl
instructs-tags _ e = true-false (sym e)

-- as of the instance, by the mode; and starts stand where start-tags do
abbrev InMode : State → Mode → Kind → Type 0
InMode s m (Data e) = ReferredIs s.context.doctype e is_data_body
InMode s m (DataRef e) = (has_tags m ≡ true) × ReferredIs s.context.doctype e is_external_data
InMode s m (Ref e) = ReferredIs s.context.doctype e (λ b. true)
InMode s m (Pi text None) = has_tags m ≡ true
InMode s m (Pi text (Some e)) = (has_tags m ≡ true) × IsInstructionOf s.context.doctype text e
InMode s m (ShortRef string meaning) = (m ≡ mode.Con) × (is_map (map_at s) ≡ true) × IsMapped s.context.doctype meaning
InMode s m (Sgml syntax) = ⊥
InMode s m (Head head base) = ⊥
InMode s m (Declare lexemes says base) = ⊥
InMode s m (SubsetEnd reads_external) = ⊥
InMode s m (Start n ss how proper at_once) = has_starts m ≡ true
InMode s m kind = Unit {0}

abbrev KindHas : State → Mode → Result Kind Reason → Type 0
KindHas s m (Ok k) = InMode s m k
KindHas s m (Err r) = Unit {0}

abbrev Has : State → Mode → Result Piece Reason → Type 0
Has s m (Ok p) = InMode s m p.kind
Has s m (Err r) = Unit {0}

spent-has : (s : State) (m : Mode) (n inside : ℕ) (x : Result Kind Reason) → KindHas s m x → Has s m (spent_ok n inside x)
spent-has s m n inside (Ok k) a = a
spent-has s m n inside (Err r) a = tt

ok-has : (s : State) (m : Mode) (n : ℕ) (x : Result Kind Reason) → KindHas s m x → Has s m (sized_ok n x)
ok-has s m n x a = spent-has s m n 0 x a

if-has : (s : State) (m : Mode) (t : Bool) (x y : Result Piece Reason) → Has s m x → Has s m y → Has s m (if t then x else y)
if-has s m true x y p q = p
if-has s m false x y p q = q

if-kinds : (s : State) (m : Mode) (t : Bool) (x y : Result Kind Reason) → KindHas s m x → KindHas s m y → KindHas s m (if t then x else y)
if-kinds s m true x y p q = p
if-kinds s m false x y p q = q

if-kind : (s : State) (m : Mode) (t : Bool) (x y : Kind) → InMode s m x → InMode s m y → InMode s m (if t then x else y)
if-kind s m true x y p q = p
if-kind s m false x y p q = q

unless-has : (s : State) (m : Mode) (o : Option Reason) (p : Piece) → InMode s m p.kind → Has s m (unless_reason o p)
unless-has s m (Some r) p a = tt
unless-has s m None p a = a

-- CHARACTERS
separator-has : (s : State) (m : Mode) (b : ℕ) → InMode s m (separator_kind s b)
unfolding separator_kind
separator-has s m b =
    if-kind s m (b == 13) _ _ (if-kind s m (has_text s) _ _ tt tt)
    (if-kind s m (b == 10) _ _ (if-kind s m (has_text s) _ _ tt tt) (if-kind s m (has_text s || in_text_section s.sections) _ _ tt tt))

character-has : (s : State) (m k : Mode) (b : ℕ) → InMode s m (character_kind s k b)
character-has s m mode.Ign b = tt
character-has s m _ b = if-kind s m (is_separator b) (separator_kind s b) (Char b) (separator-has s m b) tt

-- REFERENCES
abbrev MeaningHas : Doctype → Result Meaning Reason → Type 0
MeaningHas d (Ok x) = IsMapped d x
MeaningHas d (Err r) = Unit {0}

unless-means : (d : Doctype) (o : Option Reason) (x : Meaning) → IsMapped d x → MeaningHas d (unless o x)
unless-means d (Some r) x a = tt
unless-means d None x a = a

of-referred : (d : Doctype) (e : ℕ) (b : Body) (test : Body → Bool) → IsReferred d e b → test b ≡ true → ReferredIs d e test
of-referred d e b test r p = record { b = b; referred = r; passes = p }

general-means : (outside : Outside) (k : Sources) (t : Stacked) (e : ℕ) (b : Body) → IsReferred k.doctype e b → MeaningHas k.doctype (general_meaning outside k t e b)
general-means outside k t e (body.Sgml text) r =
    unless-means k.doctype (unopened outside k t e None) (ToText e) (of-referred k.doctype e (body.Sgml text) (λ b. true) r refl)
general-means outside k t e (body.External external) r =
    unless-means k.doctype (unopened outside k t e (missing outside k e)) (ToText e) (of-referred k.doctype e (body.External external) (λ b. true) r refl)
general-means outside k t e (body.Cdata text) r = of-referred k.doctype e (body.Cdata text) is_data_body r refl
general-means outside k t e (body.Sdata text) r = of-referred k.doctype e (body.Sdata text) is_data_body r refl
general-means outside k t e (body.Pi text) r = by (nat_lt k.doctype.syntax.quantities.pilen (length text)) refl
  where
    by : (b : Bool) → nat_lt k.doctype.syntax.quantities.pilen (length text) ≡ b
        → MeaningHas k.doctype (if b then Err reason.PiLength else Ok (ToInstruction e text))
    by true h = tt
    by false h = (r, h)
general-means outside k t e (body.ExternalData kind external notation) r =
    of-referred k.doctype e (body.ExternalData kind external notation) is_external_data r refl

body-means : (outside : Outside) (k : Sources) (t : Stacked) (n : Name) (e : ℕ) (o : Option Body) → entity_number k.doctype space.General n ≡ Some e → body_of k.doctype e ≡ o
    → MeaningHas k.doctype (meaning_of_body outside k t e o)
body-means outside k t n e None f g = tt
body-means outside k t n e (Some b) f g = general-means outside k t e b (record { name = n; numbered = f; body_is = g })

number-means : (outside : Outside) (k : Sources) (t : Stacked) (n : Name) (o : Option ℕ) → entity_number k.doctype space.General n ≡ o → MeaningHas k.doctype (meaning_of_number outside k t o)
number-means outside k t n None f = tt
number-means outside k t n (Some e) f = body-means outside k t n e (body_of k.doctype e) f refl

means : (outside : Outside) (k : Sources) (t : Stacked) (n : Name) → MeaningHas k.doctype (meaning_of outside k t n)
unfolding meaning_of
means outside k t n = number-means outside k t n (entity_number k.doctype space.General n) refl

rcdata-has : (s : State) (m : Mode) (b : Bool) (k : Kind) → (b ≡ false → InMode s m k) → KindHas s m (unless_rcdata b k)
rcdata-has s m true k a = tt
rcdata-has s m false k a = a refl

referring-has : (s : State) (m : Mode) (x : Meaning) → has_references m ≡ true → IsMapped s.context.doctype x → KindHas s m (referring_kind (is_rcdata m) x)
referring-has s m (ToText e) f a = a
referring-has s m (ToData e) f a = a
referring-has s m (ToExternalData e) f a = rcdata-has s m (is_rcdata m) (DataRef e) (λ g. (refers-tags m f g, a))
referring-has s m (ToInstruction e text) f a = rcdata-has s m (is_rcdata m) (Pi text (Some e)) (λ g. (refers-tags m f g, a))
referring-has s m (Ordinary has_items content) f a = tt

meaning-has : (s : State) (m : Mode) (x : Result Meaning Reason) → has_references m ≡ true → MeaningHas s.context.doctype x → KindHas s m (kind_by_meaning (is_rcdata m) x)
meaning-has s m (Ok x) f a = referring-has s m x f a
meaning-has s m (Err r) f a = tt

-- SHORT REFERENCES
itself-mapped : (d : Doctype) (s : State) (string : Text) → IsMapped d (ordinary s string)
unfolding ordinary
itself-mapped d s string = tt

of-string-has : (s : State) (m : Mode) (string : Text) (x : Result Meaning Reason) → m ≡ mode.Con → is_map (map_at s) ≡ true → MeaningHas s.context.doctype x → KindHas s m (kind_of_string string x)
of-string-has s m string (Ok x) e f a = (e, f, a)
of-string-has s m string (Err r) e f a = tt

mapped-has : (outside : Outside) (s : State) (t : Stacked) (m : Mode) (string : Text) (o : Option Name) → m ≡ mode.Con → is_map (map_at s) ≡ true → KindHas s m (mapped_kind outside s t string o)
mapped-has outside s t m string None e f = (e, f, itself-mapped s.context.doctype s string)
mapped-has outside s t m string (Some n) e f =
    of-string-has s m string (meaning_of outside (sources_in s) t n) e f (means outside (sources_in s) t n)

string-has : (outside : Outside) (s : State) (t : Stacked) (m : Mode) (i : ℕ) (own : Text) → m ≡ mode.Con → is_map (map_at s) ≡ true → Has s m (content_piece outside s t m (kind.ShortRef i) own)
unfolding content_piece
string-has outside s t m i own e f =
    let o = entity_of_string s.context.doctype (map_at s) i in
    ok-has s m (length own) (mapped_kind outside s t own o) (mapped-has outside s t m own o e f)

-- TAGS, SECTIONS, DECLARATIONS
short-has : (s : State) (m : Mode) (o : Option Name) → has_starts m ≡ true → KindHas s m (short_start o)
short-has s m None e = tt
short-has s m (Some n) e = e

ending-has : (s : State) (m : Mode) (how : How) (o : Option Name) → KindHas s m (ending_of how o)
ending-has s m how None = tt
ending-has s m how (Some n) = tt

section-of-has : (s : State) (m : Mode) (syntax : Syntax) (xs : List Lexeme) (in_type : Bool) (n spent : ℕ) (x : Result Status ℕ) → Has s m (section_of syntax xs in_type n spent x)
section-of-has s m syntax xs in_type n spent (Err i) = tt
section-of-has s m syntax xs in_type n spent (Ok st) =
    if-has s m (in_type && is_data_status st) (Err reason.DeclarationPlace) (Ok (sized_spent n spent (SectionStart st))) tt tt

section-by-has : (s : State) (m : Mode) (syntax : Syntax) (t : Stacked) (in_type : Bool) (n : ℕ) (x : Result Lexed Reason) → Has s m (section_by syntax t in_type n x)
section-by-has s m syntax t in_type n (Err r) = tt
section-by-has s m syntax t in_type n (Ok x) = section-of-has s m syntax x.lexemes in_type n (x.spent - t.spent) (status_by (keywords_in x.lexemes))

section-start-has : (outside : Outside) (s : State) (m : Mode) (d : Doctype) (t : Stacked) (in_type : Bool) (own : Text) → Has s m (section_start outside d t in_type own)
unfolding section_start
section-start-has outside s m d t in_type own = section-by-has s m d.syntax t in_type (length own) (lexed construct.SectionStart outside d t own)

section-has : (outside : Outside) (s : State) (m k : Mode) (d : Doctype) (t : Stacked) (in_type : Bool) (own : Text) → Has s m (section_piece outside d t k in_type own)
section-has outside s m mode.Ign d t in_type own = tt
section-has outside s m _ d t in_type own = section-start-has outside s m d t in_type own

section-end-has : (s : State) (m : Mode) (n : ℕ) → Has s m (section_end s n)
section-end-has s m n = if-has s m (in_section s.texts s.sections) (Ok (sized n SectionEnd)) (Err reason.SectionNone) tt tt

use-of-has : (s : State) (m : Mode) (x : Result (Option ℕ) Reason) → KindHas s m (use_of x)
use-of-has s m (Ok o) = tt
use-of-has s m (Err r) = tt

or-has : (s : State) (m : Mode) (o : Option Reason) (x : Result Kind Reason) → KindHas s m x → KindHas s m (or_reason o x)
or-has s m (Some r) x a = tt
or-has s m None x a = a

use-has : (s : State) (m : Mode) (u : UsemapDeclaration) → KindHas s m (use_kind s u)
use-has s m u =
    if-kinds s m (is_none u.targets && has_open s.context.levels) (or_reason (use_reason s.context.doctype.syntax u) (use_of (map_used s.context.doctype u.map))) (Err reason.DeclarationPlace)
    (or-has s m (use_reason s.context.doctype.syntax u) (use_of (map_used s.context.doctype u.map)) (use-of-has s m (map_used s.context.doctype u.map))) tt

declared-kind-has : (s : State) (m : Mode) (o : Option Declaration) → KindHas s m (declared_kind s o)
declared-kind-has s m None = tt
declared-kind-has s m (Some (form.Usemap u)) = use-has s m u
declared-kind-has s m (Some _) = tt

declared-piece-has : (outside : Outside) (s : State) (m : Mode) (t : Stacked) (own : Text) (x : Result Lexed Reason) → Has s m (declared_piece outside s t own x)
declared-piece-has outside s m t own (Err r) = tt
declared-piece-has outside s m t own (Ok x) = spent-has s m (length own) (x.spent - t.spent) (declared_kind s (declaration_at x.lexemes)) (declared-kind-has s m (declaration_at x.lexemes))

-- BY THE TOKEN
content-has : (outside : Outside) (s : State) (t : Stacked) (m : Mode) (k : TokenKind) (own : Text) → token_in m k ≡ true → Has s m (content_piece outside s t m k own)
unfolding content_piece
content-has outside s t m kind.Chars own e = character-has s m m (first_of own)
content-has outside s t m kind.Re own e = separator-has s m 13
content-has outside s t m kind.Rs own e = separator-has s m 10
content-has outside s t m (kind.ShortRef i) own e = true-false (sym e)
content-has outside s t m kind.StartTag own e = e
content-has outside s t m kind.EmptyStart own e = ok-has s m (length own) (short_start (empty_start_type s.context s.ended)) (short-has s m (empty_start_type s.context s.ended) e)
content-has outside s t m kind.EndTag own e = tt
content-has outside s t m kind.EmptyEnd own e = ok-has s m (length own) (ending_of Short (empty_end_type s.context)) (ending-has s m Short (empty_end_type s.context))
content-has outside s t m kind.Net own e = ok-has s m (length own) (ending_of Net (net_type s.context)) (ending-has s m Net (net_type s.context))
content-has outside s t m kind.EntityRef own e =
    let name = referred_name s.context.doctype (drop 1 own) in
    ok-has s m (length own) (reference_kind outside s t m name) (meaning-has s m (meaning_of outside (sources_in s) t name) e (means outside (sources_in s) t name))
content-has outside s t m (kind.CharRef b) own e = tt
content-has outside s t m (kind.FunctionRef b) own e = separator-has s m b
content-has outside s t m kind.Pi own e = instructs-tags m e
content-has outside s t m kind.Comment own e = tt
content-has outside s t m kind.SectionStart own e = section-has outside s m m s.context.doctype t false own
content-has outside s t m kind.SectionEnd own e = section-end-has s m (length own)
content-has outside s t m kind.Declaration own e =
    if-has s m (has_keyword s.context.doctype.syntax.names (codes "SGML") own) _ _ tt
    (declared-piece-has outside s m t own (lexed construct.Declaration outside s.context.doctype t own))
content-has outside s t m _ own e = tt

-- AT A PLACE of the instance
in-has : (b : Bool) (outside : Outside) (s : State) (t : Stacked) (m : Mode) (k : TokenKind) (own : Text) → b ≡ false → token_in m k ≡ true → Has s m (piece_in b outside s t m k own)
in-has true outside s t m k own e f = true-false e
in-has false outside s t m k own e f = content-has outside s t m k own f

string-in-has : (b : Bool) (outside : Outside) (s : State) (t : Stacked) (m : Mode) (i : ℕ) (own : Text) → b ≡ false → m ≡ mode.Con → is_map (map_at s) ≡ true
    → Has s m (piece_in b outside s t m (kind.ShortRef i) own)
string-in-has true outside s t m i own e f g = true-false e
string-in-has false outside s t m i own e f g = string-has outside s t m i own f g

scanned-has : (outside : Outside) (s : State) (t : Stacked) (bytes : Text) (x : Scanned) → in_doctype s.stage t.entities ≡ false → ScannedIn (mode_at s t.entities) x
    → Has s (mode_at s t.entities) (by_token outside s t bytes x)
scanned-has outside s t bytes (Token x) e f = in-has (in_doctype s.stage t.entities) outside s t (mode_at s t.entities) x.kind (take x.length bytes) e f
scanned-has outside s t bytes NeedMore e f = tt
scanned-has outside s t bytes (BadToken r) e f = tt

token-has : (outside : Outside) (s : State) (t : Stacked) (bytes : Text) (x : Scanned) → in_doctype s.stage t.entities ≡ false → ScannedThere (mode_at s t.entities) (is_map (map_at s)) x
    → Has s (mode_at s t.entities) (by_token outside s t bytes x)
token-has outside s t bytes x e (inl f) = scanned-has outside s t bytes x e f
token-has outside s t bytes x e (inr f) =
    subst (λ y. Has s (mode_at s t.entities) (by_token outside s t bytes y)) (sym f.is)
    (string-in-has (in_doctype s.stage t.entities) outside s t (mode_at s t.entities) f.number (take f.size bytes) e f.content f.in_force)

stage-has : (outside : Outside) (s : State) (t : Stacked) (bytes : Text) (g : Stage) → s.stage ≡ g → in_doctype s.stage t.entities ≡ false
    → Has s (mode_at s t.entities) (by_stage outside s t bytes g)
stage-has outside s t bytes AfterSubset g e =
    token-has outside s t bytes (token_here s t bytes) e
    (token-in s.context.doctype.syntax (mode_at s t.entities) (net_in_force s.context) (is_map (map_at s)) bytes)
stage-has outside s t bytes BeforeSyntax g e = true-false (sym (ap (λ x. in_doctype x t.entities) g) ∙ e)
stage-has outside s t bytes AtBeginning g e = true-false (sym (ap (λ x. in_doctype x t.entities) g) ∙ e)
stage-has outside s t bytes BeforeDoctype g e = true-false (sym (ap (λ x. in_doctype x t.entities) g) ∙ e)
stage-has outside s t bytes InSubset g e = true-false (sym (ap (λ x. in_doctype x t.entities) g) ∙ e)

document-has : (s : State) (m : Mode) (g : Stage) (b : Bool) → Has s m (document_end g b)
document-has s m BeforeSyntax b = tt
document-has s m AtBeginning b = tt
document-has s m BeforeDoctype b = tt
document-has s m InSubset b = tt
document-has s m AfterSubset true = tt
document-has s m AfterSubset false = tt

entity-end-has : (s : State) (m : Mode) (n : ℕ) (b : Bool) → Has s m (entity_end s n b)
entity-end-has s m n true = tt
entity-end-has s m n false = unless-has s m (type_end n s.context.doctype) (sized 0 EntityEnd) tt

text-end-has : (s : State) (m : Mode) (n : ℕ) → Has s m (text_end s n)
text-end-has s m n =
    if-has s m (n == 0) (document_end s.stage (in_section s.texts s.sections)) (entity_end s n (in_section s.texts s.sections))
    (document-has s m s.stage (in_section s.texts s.sections)) (entity-end-has s m n (in_section s.texts s.sections))

here-has : (outside : Outside) (s : State) (t : Stacked) (n : ℕ) (bytes : Text) → in_doctype s.stage t.entities ≡ false
    → Has s (mode_at s t.entities) (spelled_in outside s t n bytes)
here-has outside s t n [] e = text-end-has s (mode_at s t.entities) n
here-has outside s t n (b ∷ bytes) e =
    if-has s (mode_at s t.entities) (is_early_end s.stage b) (Err reason.NoDoctype) (by_stage outside s t (b ∷ bytes) s.stage) tt
    (stage-has outside s t (b ∷ bytes) s.stage refl e)

all-has : (outside : Outside) (s : State) (t : Stacked) (rs : List Rest) → in_doctype s.stage t.entities ≡ false
    → Has s (mode_at s t.entities) (spelled_of outside s t rs)
all-has outside s t [] e = tt
all-has outside s t (r ∷ rs) e = here-has outside s t r.entity r.bytes e

-- THE MODE OF THE PLACE has tags only where that of the innermost element has
content-tags : (content : Content) → has_tags (content_mode content) ≡ true → content_mode content ≡ mode.Con
content-tags (Model term) e = refl
content-tags Any e = refl
content-tags Cdata e = true-false (sym e)
content-tags Rcdata e = true-false (sym e)
content-tags Void e = refl

element-tags : (d : Doctype) (ls : List Level) → has_tags (element_mode d ls) ≡ true → element_mode d ls ≡ mode.Con
element-tags d [] e = refl
element-tags d (l ∷ ls) e = content-tags (content_of (type_of d l.element)) e

abbrev mode_by : Option Mode → Bool → Mode → Mode
mode_by o b m = unwrap_or o (if b then mode.Ds else m)

status-tags : (st : Status) (b : Bool) (m : Mode) → b ≡ false → has_tags (mode_by (mode_of_status st) b m) ≡ true → has_tags m ≡ true
status-tags status.Ignore b m e f = true-false (sym f)
status-tags status.Cdata b m e f = true-false (sym f)
status-tags status.Rcdata b m e f = true-false (sym f)
status-tags status.Include true m e f = true-false e
status-tags status.Include false m e f = f

section-tags : (ss : List Section) (b : Bool) (m : Mode) → b ≡ false → has_tags (mode_by (section_mode ss) b m) ≡ true → has_tags m ≡ true
section-tags [] true m e f = true-false e
section-tags [] false m e f = f
section-tags (x ∷ xs) b m e f = status-tags x.status b m e f

mode-con : (s : State) (entities : List ℕ) → in_doctype s.stage entities ≡ false → has_tags (mode_at s entities) ≡ true → mode_in s ≡ mode.Con
unfolding mode_at
mode-con s entities e f =
    element-tags s.context.doctype s.context.levels
    (section-tags s.sections (in_doctype s.stage entities) (element_mode s.context.doctype s.context.levels) e f)

of-instance : (s : State) (entities : List ℕ) (k : Kind) → in_doctype s.stage entities ≡ false → InMode s (mode_at s entities) k → IsOfInstance s k
of-instance s entities (DataRef n) e a = (mode-con s entities e a.0, a.1)
of-instance s entities (Pi text None) e a = mode-con s entities e a
of-instance s entities (Pi text (Some n)) e a = (mode-con s entities e a.0, a.1)
of-instance s entities (Data n) e a = a
of-instance s entities (Ref n) e a = a
of-instance s entities (ShortRef string meaning) e a = (mode-con s entities e (ap has_tags a.0), a.2)
of-instance s entities (Sgml syntax) e a = a
of-instance s entities (Head head base) e a = a
of-instance s entities (Declare lexemes says base) e a = a
of-instance s entities (SubsetEnd reads) e a = a
of-instance s entities k e a = tt

one-has : (s : State) (m : Mode) (x : Result Piece Reason) (p : Piece) → Has s m x → x ≡ Ok p → InMode s m p.kind
one-has s m x p h e = subst (λ (y : Result Piece Reason). Has s m y) e h

pub spelled-of-instance : (outside : Outside) (s : State) (t : Standing) (p : Piece) → IsInInstance s t → spelled outside s t ≡ Ok p → IsOfInstance s p.kind
unfolding spelled
spelled-of-instance outside s t p e h =
    let k = stacked t in
    of-instance s k.entities p.kind e (one-has s (mode_at s k.entities) (spelled outside s t) p (all-has outside s k t.rests e) h)

-- SHORT REFERENCES are recognised only where a map is in force
kind-mapped : (s : State) (m : Mode) (k : Kind) → InMode s m k → is_map (map_at s) ≡ false → is_string k ≡ false
kind-mapped s m (ShortRef string meaning) h e = true-false (sym h.1 ∙ e)
kind-mapped s m k h e = refl

pub strings-are-mapped : (outside : Outside) (s : State) (t : Standing) (p : Piece) → IsInInstance s t → HasNoMap s → spelled outside s t ≡ Ok p → is_string p.kind ≡ false
unfolding spelled
strings-are-mapped outside s t p e none h =
    let k = stacked t in
    kind-mapped s (mode_at s k.entities) p.kind (one-has s (mode_at s k.entities) (spelled outside s t) p (all-has outside s k t.rests e) h) none

-- WHERE A START IS SPELLED no section has a mode of its own
status-none : (st : Status) (b : Bool) (m : Mode) → has_starts (mode_by (mode_of_status st) b m) ≡ true → mode_of_status st ≡ None
status-none status.Ignore b m f = true-false (sym f)
status-none status.Cdata b m f = true-false (sym f)
status-none status.Rcdata b m f = true-false (sym f)
status-none status.Include b m f = refl

section-none : (ss : List Section) (b : Bool) (m : Mode) → has_starts (mode_by (section_mode ss) b m) ≡ true → section_mode ss ≡ None
section-none [] b m f = refl
section-none (x ∷ xs) b m f = status-none x.status b m f

start-none : (s : State) (entities : List ℕ) → has_starts (mode_at s entities) ≡ true → section_mode s.sections ≡ None
unfolding mode_at
start-none s entities f = section-none s.sections (in_doctype s.stage entities) (element_mode s.context.doctype s.context.levels) f

kind-starts : (s : State) (m : Mode) (k : Kind) → is_start k ≡ true → InMode s m k → has_starts m ≡ true
unfolding is_start
kind-starts s m (Start n ss how proper at_once) e h = h
kind-starts s m _ e h = true-false (sym e)

pub start-section : (outside : Outside) (s : State) (t : Standing) (p : Piece) → IsInInstance s t → spelled outside s t ≡ Ok p → is_start p.kind ≡ true → section_mode s.sections ≡ None
unfolding spelled
start-section outside s t p e h start =
    let k = stacked t in
    start-none s k.entities (kind-starts s (mode_at s k.entities) p.kind start (one-has s (mode_at s k.entities) (spelled outside s t) p (all-has outside s k t.rests e) h))
