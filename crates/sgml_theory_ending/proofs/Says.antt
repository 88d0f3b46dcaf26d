-- What each piece that is spelled says of the place where it stands.
use Rattle.std.proofs.Common.{◌≡◌, ℕ, Bool, true, false, ◌==◌, ◌&&◌, ◌||◌, ◌+◌, ◌-◌, ◌<◌, ◌≤◌, List, [], ◌∷◌, Option, None, Some, is_some, is_none, option_map, Result, Ok, Err, length, take, drop, nat_lt, codes, refl, subst, if◌then◌else◌, arith}
use Rattle.std.specs.Option.{option_or}
use Rattle.std.proofs.lemmas.Bool.{ltb-false}
use Rattle.sgml_io.specs.text.Characters.{is_separator, all_sgml}
use Rattle.sgml_io.specs.text.declared.reason.Reason.{Reason}
use Rattle.sgml_io.specs.text.declared.reason.Reason.TheVariants as reason
use Rattle.sgml_theory_spelling.specs.syntax.declared.syntax.Syntax.{Syntax}
use Rattle.sgml_theory_spelling.specs.delim.declared.delim.Mode.{Mode}
use Rattle.sgml_theory_spelling.specs.delim.declared.delim.Mode.TheVariants as mode
use Rattle.sgml_theory_spelling.specs.entity.declared.kinds.Body.{Body}
use Rattle.sgml_theory_spelling.specs.entity.declared.kinds.Body.TheVariants as body
use Rattle.sgml_theory_spelling.specs.entity.declared.kinds.Entity.{Entity}
use Rattle.sgml_theory_spelling.specs.entity.declared.kinds.External.{External}
use Rattle.sgml_theory_spelling.specs.entity.declared.kinds.Space.TheVariants as space
use Rattle.sgml_theory_spelling.specs.markup.declared.kinds.TokenKind.{TokenKind}
use Rattle.sgml_theory_spelling.specs.markup.declared.kinds.TokenKind.TheVariants as kind
use Rattle.sgml_theory_spelling.specs.marked.declared.status.Status.{Status}
use Rattle.sgml_theory_spelling.specs.marked.Keywords.{status_by}
use Rattle.sgml_theory_spelling.specs.scan.declared.state.Scanned.{Scanned}
use Rattle.sgml_theory_spelling.specs.scan.declared.state.Scanned.TheVariants.{Token, NeedMore, BadToken}
use Rattle.sgml_theory_spelling.specs.sgmldecl.Machine.{Outcome, bad, whole, run, begin_state}
use Rattle.sgml_theory_spelling.specs.sgmldecl.Refusing.{answer}
use Rattle.sgml_theory_spelling.specs.sgmldecl.declared.feature.DeclError.{DeclError}
use Rattle.sgml_theory_spelling.specs.decl_parts.declared.ends.Construct.TheVariants as construct
use Rattle.sgml_theory_spelling.specs.decl_parts.Ends.{is_doctype}
use Rattle.sgml_theory_spelling.specs.decl_lexemes.declared.lexeme.Lexeme.{Lexeme}
use Rattle.sgml_theory_spelling.specs.decl_forms.declared.doctype.DoctypeHead.{DoctypeHead}
use Rattle.sgml_theory_spelling.specs.decl_forms.declared.declaration.Declaration.{Declaration}
use Rattle.sgml_theory_spelling.specs.decl_forms.declared.declaration.Declaration.TheVariants as form
use Rattle.sgml_theory_spelling.specs.decl_forms.Declarations.{declaration_at}
use Rattle.sgml_theory_spelling.specs.dtd_maps.Rows.{use_reason}
use Rattle.sgml_theory_spelling.specs.dtd.Doctypes.{Doctype}
use Rattle.sgml_theory_spelling.specs.dtd.Rows.{declared_reason}
use Rattle.sgml_theory_spelling.specs.theory_reading.Names.{Name, Text}
use Rattle.sgml_theory_spelling.specs.theory_reading.Types.{entity_number, entity, body_of}
use Rattle.sgml_theory_spelling.specs.theory_reading.Pieces.{Piece, Kind, ShortRef, Head, Declare, SubsetEnd, How, Short, Net, Meaning, Ordinary, ToText, ToData, ToExternalData, ToInstruction, DataRef, Ref, Pi, Sgml, EntityEnd}
use Rattle.sgml_theory_spelling.specs.theory_reading.Facets.{Stage, BeforeSyntax, AtBeginning, BeforeDoctype, InSubset, AfterSubset, Turn, OpensText, StaysInText, turn_of_head, turn_of_external, turn_of_end, declares, subset_named, ExternalSubset}
use Rattle.sgml_theory_spelling.specs.theory_reading.ShortTags.{empty_start_type, empty_end_type, net_type}
use Rattle.sgml_theory_spelling.specs.theory_reading.Unread.{Outside, Sources, Rest, Standing, text_of, file_of, base_in}
use Rattle.sgml_theory_spelling.specs.theory_reading.State.{State, sources_in}
use Rattle.sgml_theory_spelling.specs.theory_reading.Characters.{separator_kind, has_text, in_text_section, ordinary}
use Rattle.sgml_theory_spelling.specs.Stacked.{Stacked, stacked}
use Rattle.sgml_theory_spelling.specs.Sized.{sized, sized_spent, sized_ok, spent_ok, unless_reason}
use Rattle.sgml_theory_spelling.specs.Places.{in_doctype, mode_at, map_at, in_section}
use Rattle.sgml_theory_spelling.specs.References.{missing_file, missing, is_being_read, past_limits, unopened, unless, general_meaning, meaning_of_body, meaning_of_number, meaning_of, unless_rcdata, referring_kind, parameter_text, parameter_of_number, parameter_kind, unopened_subset, subset_unopened}
use Rattle.sgml_theory_spelling.specs.Declared.{Lexed, lexed, reason_against}
use Rattle.sgml_theory_spelling.specs.SgmlDeclared.{begins_sgml, has_keyword, sgml_of, sgml_by, sgml_piece}
use Rattle.sgml_theory_spelling.specs.Tags.{with_spent}
use Rattle.sgml_theory_spelling.specs.Content.{reference_kind, string_kind, referred_name, first_of, character_kind, is_rcdata, kind_by_meaning, kind_of_string, mapped_kind, entity_of_string, short_start, ending_of, is_data_status, keywords_in, section_of, section_by, section_start, section_piece, section_end, has_open, map_used, use_of, or_reason, declared_kind, declared_piece, content_piece}
use Rattle.sgml_theory_spelling.specs.Prolog.{missing_subset, sources_after, head_reason, head_by, head_lexed, piece_before, declared_by, declared_lexed, end_by, end_reason, in_document, subset_piece}
use Rattle.sgml_theory_spelling.specs.Decided.{is_early_end}
use Rattle.sgml_theory_spelling.specs.Spelled.{type_end, document_end, entity_end, text_end, piece_in, by_token, by_token_before, token_here, sgml_bad, sgml_by_token, at_beginning, by_stage, spelled_in, spelled_of, spelled}
use Rattle.sgml_theory_ending.proofs.Lexed.{LexedMore, lexed-more}

-- what entities are after a piece of this kind
abbrev pub sources_with : Sources → Kind → Sources
sources_with k kind = record { doctype = declares kind k.doctype; subset = option_or (subset_named kind) k.subset }

-- a text is opened only where the lengths of all that was opened stay within the limit, inside the piece and before it:
-- that of an entity that is declared, or the external subset where it has a file

pub record Opens (outside : Outside) (k : Sources) (spent inside e : ℕ) : Type 0 where
  pub declared : is_some (entity k.doctype e) ≡ true
  pub within : spent + (inside + length (text_of outside k e)) ≤ outside.expand

pub record OpensSubset (outside : Outside) (k : Sources) (spent inside : ℕ) : Type 0 where
  pub there : is_some (file_of outside k 1) ≡ true
  pub within : spent + (inside + length (text_of outside k 1)) ≤ outside.expand

abbrev pub SubsetSays : Outside → Sources → ℕ → ℕ → Turn → Type 0
SubsetSays outside k spent inside (OpensText e) = OpensSubset outside k spent inside
SubsetSays outside k spent inside _ = Unit {0}

abbrev pub MeaningSays : Outside → Sources → ℕ → ℕ → Meaning → Type 0
MeaningSays outside k spent inside (ToText e) = Opens outside k spent inside e
MeaningSays outside k spent inside _ = Unit {0}

-- and a document type is named once
abbrev pub DeclarationSays : Doctype → Declaration → Type 0
DeclarationSays d (form.Doctype head) = is_some d.name ≡ false
DeclarationSays d _ = Unit {0}

-- WHAT A SPELLED PIECE SAYS of the state where it stands, by its kind and what was opened inside it
abbrev pub Says : Outside → State → Stacked → ℕ → Kind → Type 0
Says outside s t inside (Ref e) = Opens outside (sources_in s) t.spent inside e
Says outside s t inside (ShortRef string m) = MeaningSays outside (sources_in s) t.spent inside m
Says outside s t inside (Head head base) =
    (is_some s.context.doctype.name ≡ false) × SubsetSays outside (sources_with (sources_in s) (Head head base)) t.spent inside (turn_of_head head)
Says outside s t inside (SubsetEnd reads_external) = SubsetSays outside (sources_in s) t.spent inside (turn_of_end (is_some s.subset))
Says outside s t inside (Declare lexemes says base) = DeclarationSays s.context.doctype says
Says outside s t inside _ = Unit {0}

abbrev KindFits : Outside → State → Stacked → ℕ → Result Kind Reason → Type 0
KindFits outside s u inside (Ok k) = Says outside s u inside k
KindFits outside s u inside (Err r) = Unit {0}

abbrev pub Fits : Outside → State → Stacked → Result Piece Reason → Type 0
Fits outside s u (Ok p) = Says outside s u p.spent p.kind
Fits outside s u (Err r) = Unit {0}

spent-fits : (outside : Outside) (s : State) (u : Stacked) (n inside : ℕ) (x : Result Kind Reason) → KindFits outside s u inside x → Fits outside s u (spent_ok n inside x)
spent-fits outside s u n inside (Ok k) a = a
spent-fits outside s u n inside (Err r) a = tt

ok-fits : (outside : Outside) (s : State) (u : Stacked) (n : ℕ) (x : Result Kind Reason) → KindFits outside s u 0 x → Fits outside s u (sized_ok n x)
ok-fits outside s u n x a = spent-fits outside s u n 0 x a

if-fits : (outside : Outside) (s : State) (u : Stacked) (t : Bool) (x y : Result Piece Reason) → Fits outside s u x → Fits outside s u y → Fits outside s u (if t then x else y)
if-fits outside s u true x y p q = p
if-fits outside s u false x y p q = q

if-kinds : (outside : Outside) (s : State) (u : Stacked) (inside : ℕ) (t : Bool) (x y : Result Kind Reason)
    → KindFits outside s u inside x → KindFits outside s u inside y → KindFits outside s u inside (if t then x else y)
if-kinds outside s u inside true x y p q = p
if-kinds outside s u inside false x y p q = q

if-kind : (outside : Outside) (s : State) (u : Stacked) (inside : ℕ) (t : Bool) (x y : Kind)
    → Says outside s u inside x → Says outside s u inside y → Says outside s u inside (if t then x else y)
if-kind outside s u inside true x y p q = p
if-kind outside s u inside false x y p q = q

unless-fits : (outside : Outside) (s : State) (u : Stacked) (o : Option Reason) (p : Piece) → (o ≡ None → Says outside s u p.spent p.kind) → Fits outside s u (unless_reason o p)
unless-fits outside s u (Some r) p f = tt
unless-fits outside s u None p f = f refl

-- WHAT ISN'T REFUSED

under-limit : (a b : Bool) (n m : ℕ) → nat_lt n m ≡ b
    → (if a then Some reason.EntityLevel else if b then Some reason.Expansion else None) ≡ None → m ≤ n
under-limit true b n m e f = absurd (cc)
under-limit false true n m e f = absurd (cc)
under-limit false false n m e f = ltb-false n m e

none-after : (o q : Option Reason) → option_or o q ≡ None → q ≡ None
none-after None q e = e
none-after (Some r) q e = absurd (cc)

first-none : (o q : Option Reason) → option_or o q ≡ None → o ≡ None
first-none None q e = refl
first-none (Some r) q e = absurd (cc)

within-limits : (outside : Outside) (d : Doctype) (t : Stacked) (size : ℕ) → past_limits outside d t size ≡ None → t.spent + size ≤ outside.expand
within-limits outside d t size e =
    under-limit (nat_lt d.syntax.quantities.entlvl (length t.entities)) (nat_lt outside.expand (t.spent + size)) outside.expand (t.spent + size) refl e

not-read : (t : Bool) (o : Option Reason) → (if t then Some reason.Recursive else o) ≡ None → o ≡ None
not-read true o e = absurd (cc)
not-read false o e = e

first-opened : (outside : Outside) (k : Sources) (t : Stacked) (number : ℕ) (absent : Option Reason) → unopened outside k t number absent ≡ None
    → option_or absent (past_limits outside k.doctype t (length (text_of outside k number))) ≡ None
first-opened outside k t number absent e = not-read (is_being_read number t) (option_or absent (past_limits outside k.doctype t (length (text_of outside k number)))) e

opened-within : (outside : Outside) (k : Sources) (t : Stacked) (number : ℕ) (absent : Option Reason) → unopened outside k t number absent ≡ None
    → t.spent + length (text_of outside k number) ≤ outside.expand
opened-within outside k t number absent e =
    within-limits outside k.doctype t (length (text_of outside k number)) (none-after absent _ (first-opened outside k t number absent e))

-- REFERENCES

opens : (outside : Outside) (k : Sources) (t : Stacked) (e : ℕ) (absent : Option Reason) → is_some (entity k.doctype e) ≡ true → unopened outside k t e absent ≡ None
    → Opens outside k t.spent 0 e
opens outside k t e absent d u = let l = opened-within outside k t e absent u in record { declared = d; within = omega (arith, l) }

has-body : (o : Option Entity) (b : Body) → option_map (λ (e : Entity). e.body) o ≡ Some b → is_some o ≡ true
has-body (Some e) b f = refl
has-body None b f = absurd (cc)

abbrev MeansFits : Outside → Sources → Stacked → Result Meaning Reason → Type 0
MeansFits outside k u (Ok m) = MeaningSays outside k u.spent 0 m
MeansFits outside k u (Err r) = Unit {0}

unless-means : (outside : Outside) (k : Sources) (u : Stacked) (o : Option Reason) (m : Meaning) → (o ≡ None → MeaningSays outside k u.spent 0 m) → MeansFits outside k u (unless o m)
unless-means outside k u (Some r) m f = tt
unless-means outside k u None m f = f refl

if-means : (outside : Outside) (k : Sources) (u : Stacked) (t : Bool) (x y : Result Meaning Reason) → MeansFits outside k u x → MeansFits outside k u y
    → MeansFits outside k u (if t then x else y)
if-means outside k u true x y p q = p
if-means outside k u false x y p q = q

general-means : (outside : Outside) (k : Sources) (t : Stacked) (n : ℕ) (b : Body) → is_some (entity k.doctype n) ≡ true → MeansFits outside k t (general_meaning outside k t n b)
general-means outside k t n (body.Sgml text) d = unless-means outside k t (unopened outside k t n None) (ToText n) (λ e. opens outside k t n None d e)
general-means outside k t n (body.External external) d =
    unless-means outside k t (unopened outside k t n (missing outside k n)) (ToText n) (λ e. opens outside k t n (missing outside k n) d e)
general-means outside k t n (body.Cdata text) d = tt
general-means outside k t n (body.Sdata text) d = tt
general-means outside k t n (body.Pi text) d =
    if-means outside k t (nat_lt k.doctype.syntax.quantities.pilen (length text)) (Err reason.PiLength) (Ok (ToInstruction n text)) tt tt
general-means outside k t n (body.ExternalData kind external notation) d = tt

body-means : (outside : Outside) (k : Sources) (t : Stacked) (n : ℕ) (o : Option Body) → body_of k.doctype n ≡ o → MeansFits outside k t (meaning_of_body outside k t n o)
body-means outside k t n None d = tt
body-means outside k t n (Some b) d = general-means outside k t n b (has-body (entity k.doctype n) b d)

number-means : (outside : Outside) (k : Sources) (t : Stacked) (o : Option ℕ) → MeansFits outside k t (meaning_of_number outside k t o)
number-means outside k t None = tt
number-means outside k t (Some n) = body-means outside k t n (body_of k.doctype n) refl

meaning-means : (outside : Outside) (k : Sources) (t : Stacked) (n : Name) → MeansFits outside k t (meaning_of outside k t n)
unfolding meaning_of
meaning-means outside k t n = number-means outside k t (entity_number k.doctype space.General n)

string-fits : (outside : Outside) (s : State) (u : Stacked) (string : Text) (x : Result Meaning Reason) → MeansFits outside (sources_in s) u x
    → KindFits outside s u 0 (kind_of_string string x)
string-fits outside s u string (Ok m) l = l
string-fits outside s u string (Err r) l = tt

mapped-fits : (outside : Outside) (s : State) (t : Stacked) (string : Text) (o : Option Name) → KindFits outside s t 0 (mapped_kind outside s t string o)
unfolding ordinary
mapped-fits outside s t string None = tt
mapped-fits outside s t string (Some n) = string-fits outside s t string (meaning_of outside (sources_in s) t n) (meaning-means outside (sources_in s) t n)

rcdata-fits : (outside : Outside) (s : State) (u : Stacked) (t : Bool) (k : Kind) → Says outside s u 0 k → KindFits outside s u 0 (unless_rcdata t k)
rcdata-fits outside s u true k a = tt
rcdata-fits outside s u false k a = a

referring-fits : (outside : Outside) (s : State) (u : Stacked) (t : Bool) (m : Meaning) → MeaningSays outside (sources_in s) u.spent 0 m → KindFits outside s u 0 (referring_kind t m)
referring-fits outside s u t (ToText e) l = l
referring-fits outside s u t (ToData e) l = tt
referring-fits outside s u t (ToExternalData e) l = rcdata-fits outside s u t (DataRef e) tt
referring-fits outside s u t (ToInstruction e text) l = rcdata-fits outside s u t (Pi text (Some e)) tt
referring-fits outside s u t (Ordinary has_items content) l = tt

meaning-fits : (outside : Outside) (s : State) (u : Stacked) (t : Bool) (x : Result Meaning Reason) → MeansFits outside (sources_in s) u x → KindFits outside s u 0 (kind_by_meaning t x)
meaning-fits outside s u t (Ok m) l = referring-fits outside s u t m l
meaning-fits outside s u t (Err r) l = tt

unless-kind : (outside : Outside) (s : State) (u : Stacked) (o : Option Reason) (k : Kind) → (o ≡ None → Says outside s u 0 k) → KindFits outside s u 0 (unless o k)
unless-kind outside s u (Some r) k f = tt
unless-kind outside s u None k f = f refl

parameter-body-fits : (outside : Outside) (s : State) (t : Stacked) (n : ℕ) (b : Body) → is_some (entity s.context.doctype n) ≡ true
    → KindFits outside s t 0 (parameter_text outside (sources_in s) t n (Some b))
parameter-body-fits outside s t n (body.Sgml text) d =
    unless-kind outside s t (unopened outside (sources_in s) t n None) (Ref n) (λ e. opens outside (sources_in s) t n None d e)
parameter-body-fits outside s t n (body.External external) d =
    unless-kind outside s t (unopened outside (sources_in s) t n (missing outside (sources_in s) n)) (Ref n)
    (λ e. opens outside (sources_in s) t n (missing outside (sources_in s) n) d e)
parameter-body-fits outside s t n (body.Pi text) d =
    if-kinds outside s t 0 (nat_lt s.context.doctype.syntax.quantities.pilen (length text)) (Err reason.PiLength) (Ok (Pi text (Some n))) tt tt
parameter-body-fits outside s t n _ d = tt

parameter-text-fits : (outside : Outside) (s : State) (t : Stacked) (n : ℕ) (o : Option Body) → body_of s.context.doctype n ≡ o → KindFits outside s t 0 (parameter_text outside (sources_in s) t n o)
parameter-text-fits outside s t n None d = tt
parameter-text-fits outside s t n (Some b) d = parameter-body-fits outside s t n b (has-body (entity s.context.doctype n) b d)

parameter-number-fits : (outside : Outside) (s : State) (t : Stacked) (o : Option ℕ) → KindFits outside s t 0 (parameter_of_number outside (sources_in s) t o)
parameter-number-fits outside s t None = tt
parameter-number-fits outside s t (Some n) = parameter-text-fits outside s t n (body_of s.context.doctype n) refl

parameter-fits : (outside : Outside) (s : State) (t : Stacked) (n : Name) → KindFits outside s t 0 (parameter_kind outside (sources_in s) t n)
unfolding parameter_kind
parameter-fits outside s t n = parameter-number-fits outside s t (entity_number s.context.doctype space.Parameter n)

-- CHARACTERS

separator-fits : (outside : Outside) (s : State) (u : Stacked) (b : ℕ) → Says outside s u 0 (separator_kind s b)
unfolding separator_kind
separator-fits outside s u b =
    if-kind outside s u 0 (b == 13) _ _ (if-kind outside s u 0 (has_text s) _ _ tt tt)
    (if-kind outside s u 0 (b == 10) _ _ (if-kind outside s u 0 (has_text s) _ _ tt tt) (if-kind outside s u 0 (has_text s || in_text_section s.sections) _ _ tt tt))

character-fits : (outside : Outside) (s : State) (u : Stacked) (m : Mode) (b : ℕ) → Says outside s u 0 (character_kind s m b)
character-fits outside s u mode.Ign b = tt
character-fits outside s u _ b = if-kind outside s u 0 (is_separator b) _ _ (separator-fits outside s u b) tt

-- TAGS

short-fits : (outside : Outside) (s : State) (u : Stacked) (o : Option Name) → KindFits outside s u 0 (short_start o)
short-fits outside s u None = tt
short-fits outside s u (Some n) = tt

ending-fits : (outside : Outside) (s : State) (u : Stacked) (how : How) (o : Option Name) → KindFits outside s u 0 (ending_of how o)
ending-fits outside s u how None = tt
ending-fits outside s u how (Some n) = tt

-- SECTIONS

section-of-fits : (outside : Outside) (s : State) (u : Stacked) (syntax : Syntax) (xs : List Lexeme) (t : Bool) (n spent : ℕ) (x : Result Status ℕ) → Fits outside s u (section_of syntax xs t n spent x)
section-of-fits outside s u syntax xs t n spent (Err i) = tt
section-of-fits outside s u syntax xs t n spent (Ok st) = if-fits outside s u (t && is_data_status st) _ _ tt tt

section-by-fits : (outside : Outside) (s : State) (u : Stacked) (syntax : Syntax) (t : Stacked) (b : Bool) (n : ℕ) (x : Result Lexed Reason) → Fits outside s u (section_by syntax t b n x)
section-by-fits outside s u syntax t b n (Err r) = tt
section-by-fits outside s u syntax t b n (Ok x) = section-of-fits outside s u syntax x.lexemes b n (x.spent - t.spent) (status_by (keywords_in x.lexemes))

section-start-fits : (outside : Outside) (s : State) (u : Stacked) (d : Doctype) (t : Stacked) (b : Bool) (own : List ℕ) → Fits outside s u (section_start outside d t b own)
unfolding section_start
section-start-fits outside s u d t b own = section-by-fits outside s u d.syntax t b (length own) (lexed construct.SectionStart outside d t own)

section-fits : (outside : Outside) (s : State) (u : Stacked) (d : Doctype) (t : Stacked) (m : Mode) (b : Bool) (own : List ℕ) → Fits outside s u (section_piece outside d t m b own)
section-fits outside s u d t mode.Ign b own = tt
section-fits outside s u d t _ b own = section-start-fits outside s u d t b own

section-end-fits : (outside : Outside) (s : State) (u : Stacked) (n : ℕ) → Fits outside s u (section_end s n)
section-end-fits outside s u n = if-fits outside s u (in_section s.texts s.sections) _ _ tt tt

-- DECLARATIONS

use-fits : (outside : Outside) (s : State) (u : Stacked) (inside : ℕ) (x : Result (Option ℕ) Reason) → KindFits outside s u inside (use_of x)
use-fits outside s u inside (Ok m) = tt
use-fits outside s u inside (Err r) = tt

or-fits : (outside : Outside) (s : State) (u : Stacked) (inside : ℕ) (o : Option Reason) (x : Result Kind Reason) → KindFits outside s u inside x → KindFits outside s u inside (or_reason o x)
or-fits outside s u inside (Some r) x a = tt
or-fits outside s u inside None x a = a

declared-kind-fits : (outside : Outside) (s : State) (u : Stacked) (inside : ℕ) (o : Option Declaration) → KindFits outside s u inside (declared_kind s o)
declared-kind-fits outside s u inside None = tt
declared-kind-fits outside s u inside (Some (form.Usemap x)) =
    if-kinds outside s u inside (is_none x.targets && has_open s.context.levels) _ _
    (or-fits outside s u inside (use_reason s.context.doctype.syntax x) _ (use-fits outside s u inside (map_used s.context.doctype x.map))) tt
declared-kind-fits outside s u inside (Some _) = tt

declared-piece-fits : (outside : Outside) (s : State) (t : Stacked) (own : List ℕ) (x : Result Lexed Reason) → Fits outside s t (declared_piece outside s t own x)
declared-piece-fits outside s t own (Err r) = tt
declared-piece-fits outside s t own (Ok x) =
    spent-fits outside s t (length own) (x.spent - t.spent) (declared_kind s (declaration_at x.lexemes)) (declared-kind-fits outside s t (x.spent - t.spent) (declaration_at x.lexemes))

-- a second head is among what is refused
head-once : (b : Bool) (o : Option Reason) → (if b then Some reason.DeclarationPlace else o) ≡ None → b ≡ false
head-once true o e = absurd (cc)
head-once false o e = refl

once : (d : Doctype) (lexemes : List Lexeme) (x : Declaration) → reason_against d lexemes x ≡ None → DeclarationSays d x
once d lexemes (form.Doctype head) e = head-once (is_some d.name) _ (first-none (declared_reason d lexemes (form.Doctype head)) _ e)
once d lexemes _ e = tt

declared-by-fits : (outside : Outside) (s : State) (t : Stacked) (n : ℕ) (x : Lexed) (o : Option Declaration) → Fits outside s t (declared_by outside (sources_in s) t n x o)
declared-by-fits outside s t n x None = tt
declared-by-fits outside s t n x (Some says) =
    unless-fits outside s t (reason_against s.context.doctype x.lexemes says)
    (sized_spent n (x.spent - t.spent) (Declare x.lexemes says (base_in outside (sources_in s) t.entities))) (λ e. once s.context.doctype x.lexemes says e)

declared-fits : (outside : Outside) (s : State) (t : Stacked) (n : ℕ) (x : Result Lexed Reason) → Fits outside s t (declared_lexed outside (sources_in s) t n x)
declared-fits outside s t n (Err r) = tt
declared-fits outside s t n (Ok x) = declared-by-fits outside s t n x (declaration_at x.lexemes)

-- THE EXTERNAL SUBSET

has-file : (outside : Outside) (o : Option Name) → missing_file outside o ≡ None → is_some o ≡ true
has-file outside (Some n) e = refl
has-file outside None e = absurd (cc)

inside-within : (spent new size limit : ℕ) → spent ≤ new → new + size ≤ limit → spent + (new - spent + size) ≤ limit
inside-within spent new size limit l m = omega (arith, l, m)

-- where one is named
subset-opened : (outside : Outside) (k : Sources) (t : Stacked) (new : ℕ) (o : Option ExternalSubset) → t.spent ≤ new → is_some o ≡ true → unopened_subset outside k (with_spent t new) o ≡ None
    → OpensSubset outside k t.spent (new - t.spent)
subset-opened outside k t new None l s e = absurd (cc)
subset-opened outside k t new (Some subset) l s e = record {
  there = has-file outside (file_of outside k 1) (first-none (missing outside k 1) _ (first-opened outside k (with_spent t new) 1 (missing outside k 1) e));
  within = inside-within t.spent new (length (text_of outside k 1)) outside.expand l (opened-within outside k (with_spent t new) 1 (missing outside k 1) e);
}

subset-within : (outside : Outside) (k : Sources) (t : Stacked) (new : ℕ) → t.spent ≤ new → is_some k.subset ≡ true → subset_unopened outside k (with_spent t new) ≡ None
    → OpensSubset outside k t.spent (new - t.spent)
unfolding subset_unopened
subset-within outside k t new l s e = subset-opened outside k t new k.subset l s e

-- a head without a subset
external-fits : (outside : Outside) (s : State) (t : Stacked) (head : DoctypeHead) (base : Text) (new : ℕ) (o : Option External) → head.external ≡ o → t.spent ≤ new
    → subset_unopened outside (sources_with (sources_in s) (Head head base)) (with_spent t new) ≡ None
    → SubsetSays outside (sources_with (sources_in s) (Head head base)) t.spent (new - t.spent) (turn_of_external o)
unfolding subset_named
external-fits outside s t head base new None f l e = tt
external-fits outside s t head base new (Some external) f l e = subset-within outside (sources_with (sources_in s) (Head head base)) t new l (named head.external f) e
  where
    named : (o : Option External) → o ≡ Some external
        → is_some (option_or (option_map (λ (x : External). let y : ExternalSubset = record { external = x; base = base } in y) o) s.subset) ≡ true
    named (Some x) g = refl
    named None g = absurd (cc)

head-fits : (outside : Outside) (s : State) (t : Stacked) (head : DoctypeHead) (base : Text) (new : ℕ) (b : Bool) (against : Option Reason) → t.spent ≤ new
    → head_reason b outside (sources_with (sources_in s) (Head head base)) (with_spent t new) against ≡ None
    → (against ≡ None) × SubsetSays outside (sources_with (sources_in s) (Head head base)) t.spent (new - t.spent) (if b then StaysInText else turn_of_external head.external)
head-fits outside s t head base new true against l e = (e, tt)
head-fits outside s t head base new false against l e =
    let rest = none-after (missing_subset outside (sources_with (sources_in s) (Head head base))) _ e in
    (first-none against _ rest, external-fits outside s t head base new head.external refl l (none-after against _ rest))

head-by-fits : (outside : Outside) (s : State) (t : Stacked) (n : ℕ) (x : Lexed) (o : Option Declaration) → t.spent ≤ x.spent → Fits outside s t (head_by outside (sources_in s) t n x o)
unfolding declares subset_named
head-by-fits outside s t n x (Some (form.Doctype head)) l =
    let base = base_in outside (sources_in s) t.entities in
    let against = reason_against s.context.doctype x.lexemes (form.Doctype head) in
    unless-fits outside s t
    (head_reason head.subset outside (sources_after (sources_in s) base head) (with_spent t x.spent) against)
    (sized_spent n (x.spent - t.spent) (Head head base))
    (λ e. let y = head-fits outside s t head base x.spent head.subset against l e in (once s.context.doctype x.lexemes (form.Doctype head) y.0, y.1))
head-by-fits outside s t n x _ l = tt

head-lexed-fits : (outside : Outside) (s : State) (t : Stacked) (n : ℕ) (x : Result Lexed Reason) → LexedMore t.spent x → Fits outside s t (head_lexed outside (sources_in s) t n x)
head-lexed-fits outside s t n (Err r) l = tt
head-lexed-fits outside s t n (Ok x) l = head-by-fits outside s t n x (declaration_at x.lexemes) l

-- the end of a document type
end-says : (outside : Outside) (s : State) (t : Stacked) (new : ℕ) (b : Bool) → (b ≡ true → OpensSubset outside (sources_in s) t.spent (new - t.spent))
    → SubsetSays outside (sources_in s) t.spent (new - t.spent) (turn_of_end b)
end-says outside s t new true f = f refl
end-says outside s t new false f = tt

end-by-fits : (outside : Outside) (s : State) (t : Stacked) (n : ℕ) (x : Result Lexed Reason) → LexedMore t.spent x → Fits outside s t (end_by outside s t n x)
end-by-fits outside s t n (Err r) l = tt
end-by-fits outside s t n (Ok x) l =
    unless-fits outside s t (end_reason outside s (with_spent t x.spent)) (sized_spent n (x.spent - t.spent) (SubsetEnd (is_some s.subset)))
    (λ e. end-says outside s t x.spent (is_some s.subset)
    (λ f. subset-within outside (sources_in s) t x.spent l f (first-none (subset_unopened outside (sources_in s) (with_spent t x.spent)) _ e)))

-- BY THE TOKEN

content-fits : (outside : Outside) (s : State) (t : Stacked) (m : Mode) (k : TokenKind) (own : List ℕ) → Fits outside s t (content_piece outside s t m k own)
unfolding content_piece
content-fits outside s t m kind.Chars own = character-fits outside s t m (first_of own)
content-fits outside s t m kind.Re own = separator-fits outside s t 13
content-fits outside s t m kind.Rs own = separator-fits outside s t 10
content-fits outside s t m (kind.ShortRef i) own = ok-fits outside s t (length own) (string_kind outside s t i own) (mapped-fits outside s t own (entity_of_string s.context.doctype (map_at s) i))
content-fits outside s t m kind.StartTag own = tt
content-fits outside s t m kind.EmptyStart own = ok-fits outside s t (length own) (short_start (empty_start_type s.context s.ended)) (short-fits outside s t (empty_start_type s.context s.ended))
content-fits outside s t m kind.EndTag own = tt
content-fits outside s t m kind.EmptyEnd own = ok-fits outside s t (length own) (ending_of Short (empty_end_type s.context)) (ending-fits outside s t Short (empty_end_type s.context))
content-fits outside s t m kind.Net own = ok-fits outside s t (length own) (ending_of Net (net_type s.context)) (ending-fits outside s t Net (net_type s.context))
content-fits outside s t m kind.EntityRef own =
    let name = referred_name s.context.doctype (drop 1 own) in
    ok-fits outside s t (length own) (reference_kind outside s t m name) (meaning-fits outside s t (is_rcdata m) (meaning_of outside (sources_in s) t name) (meaning-means outside (sources_in s) t name))
content-fits outside s t m (kind.CharRef b) own = tt
content-fits outside s t m (kind.FunctionRef b) own = separator-fits outside s t b
content-fits outside s t m kind.Pi own = tt
content-fits outside s t m kind.Comment own = tt
content-fits outside s t m kind.SectionStart own = section-fits outside s t s.context.doctype t m false own
content-fits outside s t m kind.SectionEnd own = section-end-fits outside s t (length own)
content-fits outside s t m kind.Declaration own =
    if-fits outside s t (has_keyword s.context.doctype.syntax.names (codes "SGML") own) _ _ tt
    (declared-piece-fits outside s t own (lexed construct.Declaration outside s.context.doctype t own))
content-fits outside s t m _ own = tt

before-fits : (outside : Outside) (s : State) (t : Stacked) (k : TokenKind) (own : List ℕ) → Fits outside s t (piece_before outside s t k own)
unfolding piece_before
before-fits outside s t kind.Separators own = tt
before-fits outside s t kind.Pi own = tt
before-fits outside s t kind.Comment own = tt
before-fits outside s t kind.Declaration own =
    if-fits outside s t (is_doctype s.context.doctype.syntax.names own) _ _
    (head-lexed-fits outside s t (length own) (lexed construct.Declaration outside s.context.doctype t own) (lexed-more construct.Declaration outside s.context.doctype t own)) tt
before-fits outside s t _ own = tt

subset-fits : (outside : Outside) (s : State) (t : Stacked) (m : Mode) (k : TokenKind) (own : List ℕ) → Fits outside s t (subset_piece outside s t m k own)
unfolding subset_piece
subset-fits outside s t mode.Ign kind.Chars own = tt
subset-fits outside s t m kind.Separators own = tt
subset-fits outside s t m kind.Pi own = tt
subset-fits outside s t m kind.Comment own = tt
subset-fits outside s t m kind.ParameterRef own =
    let name = referred_name s.context.doctype (drop 1 own) in
    ok-fits outside s t (length own) (parameter_kind outside (sources_in s) t name) (parameter-fits outside s t name)
subset-fits outside s t m kind.SectionStart own = section-fits outside s t s.context.doctype t m true own
subset-fits outside s t m kind.SectionEnd own = section-end-fits outside s t (length own)
subset-fits outside s t m kind.Declaration own =
    if-fits outside s t (has_keyword s.context.doctype.syntax.names (codes "SGML") own) _ _ tt
    (declared-fits outside s t (length own) (lexed construct.Declaration outside s.context.doctype t own))
subset-fits outside s t m kind.SubsetEnd own =
    if-fits outside s t (in_document t.entities) _ _
    (end-by-fits outside s t (length own) (lexed construct.SubsetEnd outside s.context.doctype t own) (lexed-more construct.SubsetEnd outside s.context.doctype t own)) tt
subset-fits outside s t m _ own = tt

-- WHAT IS SPELLED

in-fits : (b : Bool) (outside : Outside) (s : State) (t : Stacked) (m : Mode) (k : TokenKind) (own : List ℕ) → Fits outside s t (piece_in b outside s t m k own)
in-fits true outside s t m k own = subset-fits outside s t m k own
in-fits false outside s t m k own = content-fits outside s t m k own

token-fits : (outside : Outside) (s : State) (t : Stacked) (bytes : List ℕ) (x : Scanned) → Fits outside s t (by_token outside s t bytes x)
token-fits outside s t bytes (Token x) = in-fits (in_doctype s.stage t.entities) outside s t (mode_at s t.entities) x.kind (take x.length bytes)
token-fits outside s t bytes NeedMore = tt
token-fits outside s t bytes (BadToken r) = tt

token-before-fits : (outside : Outside) (s : State) (t : Stacked) (bytes : List ℕ) (x : Scanned) → Fits outside s t (by_token_before outside s t bytes x)
token-before-fits outside s t bytes (Token x) = before-fits outside s t x.kind (take x.length bytes)
token-before-fits outside s t bytes NeedMore = tt
token-before-fits outside s t bytes (BadToken r) = tt

-- an SGML declaration opens nothing
sgml-of-fits : (outside : Outside) (s : State) (u : Stacked) (bytes : List ℕ) (x : Result (Syntax × ℕ) DeclError) → Fits outside s u (sgml_of bytes x)
sgml-of-fits outside s u bytes (Err e) = tt
sgml-of-fits outside s u bytes (Ok a) = if-fits outside s u (all_sgml (take a.1 bytes)) (Ok (sized a.1 (Sgml a.0))) (Err reason.NonSgml) tt tt

sgml-by-fits : (outside : Outside) (s : State) (u : Stacked) (bytes : List ℕ) (o : Outcome) → Fits outside s u (sgml_by bytes o)
sgml-by-fits outside s u bytes (bad at) = tt
sgml-by-fits outside s u bytes (whole h n) = sgml-of-fits outside s u bytes (answer h n)

sgml-fits : (outside : Outside) (s : State) (u : Stacked) (bytes : List ℕ) → Fits outside s u (sgml_piece bytes)
unfolding sgml_piece
sgml-fits outside s u bytes = sgml-by-fits outside s u bytes (run 0 begin_state bytes)

sgml-bad-fits : (outside : Outside) (s : State) (u : Stacked) (bytes : List ℕ) (r : Reason) → Fits outside s u (sgml_bad bytes r)
sgml-bad-fits outside s u bytes reason.Unclosed = sgml-fits outside s u bytes
sgml-bad-fits outside s u bytes _ = tt

sgml-token-fits : (outside : Outside) (s : State) (u : Stacked) (bytes : List ℕ) (x : Scanned) → Fits outside s u (sgml_by_token bytes x)
sgml-token-fits outside s u bytes (Token x) = sgml-fits outside s u (take x.length bytes)
sgml-token-fits outside s u bytes NeedMore = tt
sgml-token-fits outside s u bytes (BadToken r) = sgml-bad-fits outside s u bytes r

beginning-fits : (b : Bool) (outside : Outside) (s : State) (t : Stacked) (bytes : List ℕ) → Fits outside s t (at_beginning b outside s t bytes)
beginning-fits true outside s t bytes = sgml-token-fits outside s t bytes (token_here s t bytes)
beginning-fits false outside s t bytes = token-before-fits outside s t bytes (token_here s t bytes)

stage-fits : (outside : Outside) (s : State) (t : Stacked) (bytes : List ℕ) (g : Stage) → Fits outside s t (by_stage outside s t bytes g)
stage-fits outside s t bytes BeforeSyntax = token-before-fits outside s t bytes (token_here s t bytes)
stage-fits outside s t bytes AtBeginning = beginning-fits (begins_sgml s.context.doctype.syntax.names bytes) outside s t bytes
stage-fits outside s t bytes BeforeDoctype = token-before-fits outside s t bytes (token_here s t bytes)
stage-fits outside s t bytes InSubset = token-fits outside s t bytes (token_here s t bytes)
stage-fits outside s t bytes AfterSubset = token-fits outside s t bytes (token_here s t bytes)

-- nor does the end of a text
document-end-fits : (outside : Outside) (s : State) (u : Stacked) (g : Stage) (b : Bool) → Fits outside s u (document_end g b)
document-end-fits outside s u BeforeSyntax b = tt
document-end-fits outside s u AtBeginning b = tt
document-end-fits outside s u BeforeDoctype b = tt
document-end-fits outside s u InSubset b = tt
document-end-fits outside s u AfterSubset true = tt
document-end-fits outside s u AfterSubset false = tt

entity-end-fits : (outside : Outside) (s : State) (u : Stacked) (n : ℕ) (b : Bool) → Fits outside s u (entity_end s n b)
entity-end-fits outside s u n true = tt
entity-end-fits outside s u n false = unless-fits outside s u (type_end n s.context.doctype) (sized 0 EntityEnd) (λ e. tt)

end-fits : (outside : Outside) (s : State) (u : Stacked) (n : ℕ) → Fits outside s u (text_end s n)
end-fits outside s u n =
    if-fits outside s u (n == 0) (document_end s.stage (in_section s.texts s.sections)) (entity_end s n (in_section s.texts s.sections))
    (document-end-fits outside s u s.stage (in_section s.texts s.sections)) (entity-end-fits outside s u n (in_section s.texts s.sections))

spelled-in-fits : (outside : Outside) (s : State) (t : Stacked) (n : ℕ) (bytes : List ℕ) → Fits outside s t (spelled_in outside s t n bytes)
spelled-in-fits outside s t n [] = end-fits outside s t n
spelled-in-fits outside s t n (b ∷ bytes) =
    if-fits outside s t (is_early_end s.stage b) (Err reason.NoDoctype) (by_stage outside s t (b ∷ bytes) s.stage) tt (stage-fits outside s t (b ∷ bytes) s.stage)

-- and some text is on the stack
abbrev FitsIn : Outside → State → Stacked → List Rest → Result Piece Reason → Type 0
FitsIn outside s u rs (Ok p) = Says outside s u p.spent p.kind × (0 < length rs)
FitsIn outside s u rs (Err r) = Unit {0}

both : (outside : Outside) (s : State) (u : Stacked) (r : Rest) (rs : List Rest) (x : Result Piece Reason) → Fits outside s u x → FitsIn outside s u (r ∷ rs) x
both outside s u r rs (Ok p) a = (a, omega arith)
both outside s u r rs (Err e) a = tt

spelled-of-fits : (outside : Outside) (s : State) (t : Stacked) (rs : List Rest) → FitsIn outside s t rs (spelled_of outside s t rs)
spelled-of-fits outside s t [] = tt
spelled-of-fits outside s t (r ∷ rs) = both outside s t r rs (spelled_in outside s t r.entity r.bytes) (spelled-in-fits outside s t r.entity r.bytes)

pub spelled-says : (outside : Outside) (s : State) (t : Standing) (p : Piece) → spelled outside s t ≡ Ok p
    → Says outside s (stacked t) p.spent p.kind × (0 < length t.rests)
unfolding spelled
spelled-says outside s t p e = subst (FitsIn outside s (stacked t) t.rests) e (spelled-of-fits outside s (stacked t) t.rests)
