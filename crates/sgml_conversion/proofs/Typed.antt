-- In the instance the document type stays as it is.
use Rattle.std.proofs.Common.{◌≡◌, ℕ, suc, ◌+◌, ◌<◌, Bool, true, false, not, ◌==◌, ◌&&◌, ◌||◌, ◌-◌, List, [], ◌∷◌, map, length, Option, None, Some, is_none, Result, Ok, Err, nat_lt, codes, take, refl, sym, ap, ◌∙◌, subst, inl, inr, arith, rules, tests, if◌then◌else◌}
use Rattle.std.specs.List.{list_any}
use Rattle.sgml_text.specs.Characters.{is_separator}
use Rattle.sgml_text.specs.declared.place.Place.{Place}
use Rattle.sgml_text.specs.declared.reason.Reason.{Reason}
use Rattle.sgml_syntax.specs.declared.syntax.Syntax.{Syntax}
use Rattle.sgml_dtd.specs.delim.declared.delim.Mode.{Mode}
use Rattle.sgml_dtd.specs.delim.declared.delim.Mode.TheVariants as mode
use Rattle.sgml_dtd.specs.entity.declared.kinds.Body.{Body}
use Rattle.sgml_dtd.specs.entity.declared.kinds.Body.TheVariants as body
use Rattle.sgml_dtd.specs.entity.declared.kinds.Entity.{Entity}
use Rattle.sgml_dtd.specs.entity.declared.kinds.Space.{Space}
use Rattle.sgml_dtd.specs.entity.declared.kinds.Space.TheVariants as space
use Rattle.sgml_dtd.specs.entity.Entities.{first_entity, is_entity, number_from}
use Rattle.sgml_dtd.specs.entity.Stack.{is_on, moved, place_at}
use Rattle.sgml_source.specs.markup.declared.kinds.TokenKind.{TokenKind}
use Rattle.sgml_source.specs.markup.declared.kinds.TokenKind.TheVariants as kind
use Rattle.sgml_theory_ending.specs.scan.declared.state.Scanned.{Scanned}
use Rattle.sgml_theory_ending.specs.scan.declared.state.Scanned.TheVariants.{Token, NeedMore, BadToken}
use Rattle.sgml_theory_ending.proofs.scan.Runs.{apart}
use Rattle.sgml_source.specs.decl_parts.declared.ends.Construct.TheVariants as construct
use Rattle.sgml_dtd.specs.decl_forms.declared.declaration.Declaration.{Declaration}
use Rattle.sgml_dtd.specs.decl_forms.declared.declaration.Declaration.TheVariants as form
use Rattle.sgml_dtd.specs.Doctypes.{Doctype}
use Rattle.sgml_said.specs.theory_reading.Names.{Name, Text}
use Rattle.sgml_said.specs.theory_reading.Types.{entity_number, body_of}
use Rattle.sgml_said.specs.theory_reading.Pieces.{Piece, Kind, Sgml, Head, Declare, SubsetEnd, Start, Re, DataRef, Pi, EntityEnd, How, Short, Net, Meaning, Ordinary, ToText, ToData, ToExternalData, ToInstruction, ShortRef, Ref, History}
use Rattle.sgml_said.specs.theory_reading.Facets.{Turn, OpensText, EndsText, StaysInText, turn, turn_of_meaning, turn_of_external, Stage, BeforeSyntax, AtBeginning, BeforeDoctype, InSubset, AfterSubset, stage_after, declares, subset_number}
use Rattle.sgml_said.specs.theory_reading.Nest.{types}
use Rattle.sgml_said.specs.theory_reading.Context.{Context, context}
use Rattle.sgml_said.specs.theory_reading.ShortTags.{empty_start_type, empty_end_type, net_type}
use Rattle.sgml_said.specs.theory_reading.Omission.{MayStand}
use Rattle.sgml_said.specs.theory_reading.Runs.{LongestRun, after_run}
use Rattle.sgml_said.specs.theory_reading.Unread.{Outside, Sources, Input, Rest, Standing, standing, opening, turned, unread, rests, texts, opened, AreAlong}
use Rattle.sgml_said.specs.theory_reading.State.{State, state, stage, sources_in}
use Rattle.sgml_said.specs.theory_reading.Characters.{separator_kind, has_text, in_text_section, ordinary, kind_noted, piece_noted}
use Rattle.sgml_said.specs.theory_reading.Reads.{Move, Moves, MovesTo, Reads, ReadOn, ReadsFromStart, judged, answer_noted, unless_undecided, moved_on, after_moves, read_by, is_after_subset, is_border, ends_in_finish}
use Rattle.sgml_said.proofs.theory_reading.Stack.{unread-along, length-unread}
use Rattle.sgml_conversion.specs.Showing.{IsPastProlog}
use Rattle.sgml_theory_ending.specs.theory_spelling.Stacked.{Stacked, stacked}
use Rattle.sgml_theory_ending.specs.theory_spelling.Sized.{sized, sized_ok, spent_ok, unless_reason}
use Rattle.sgml_theory_ending.specs.theory_spelling.Places.{in_doctype, mode_at, map_at, in_section}
use Rattle.sgml_theory_ending.specs.theory_spelling.References.{unless, unopened, missing, general_meaning, meaning_of_body, meaning_of_number, meaning_of, unless_rcdata, referring_kind}
use Rattle.sgml_theory_ending.specs.theory_spelling.Declared.{Lexed, lexed}
use Rattle.sgml_theory_ending.specs.theory_spelling.SgmlDeclared.{has_keyword}
use Rattle.sgml_theory_ending.specs.theory_spelling.Content.{first_of, character_kind, is_rcdata, kind_by_meaning, kind_of_string, mapped_kind, entity_of_string, short_start, ending_of, is_data_status, section_of, section_by, section_start, section_piece, section_end, has_open, map_used, use_of, or_reason, declared_kind, declared_piece, content_piece}
use Rattle.sgml_theory_ending.specs.theory_spelling.Decided.{decided, is_early_end}
use Rattle.sgml_theory_ending.specs.theory_spelling.Spelled.{type_end, document_end, entity_end, text_end, piece_in, by_token, token_here, by_stage, spelled_in, spelled_of, spelled, forms}
use Rattle.sgml_theory_ending.specs.theory_spelling.Taken.{is_text_end}
use Rattle.sgml_theory_ending.proofs.theory_spelling.Taken.{Takes, byte-takes}
use Rattle.sgml_source.specs.theory_standing.Kept.{Kept, Stands}
use Rattle.sgml_source.specs.theory_standing.Held.{Held, Parses}
use Rattle.sgml_source.specs.declaring.Taking.{stacked_on}

-- A PIECE OF THE INSTANCE: it declares nothing, and opens no external subset

abbrev IsPlainMeaning : Meaning → Type 0
IsPlainMeaning (ToText e) = (e == subset_number) ≡ false
IsPlainMeaning _ = Unit {0}

abbrev IsPlain : Kind → Type 0
IsPlain (Sgml syntax) = ⊥
IsPlain (Head head base) = ⊥
IsPlain (Declare lexemes says base) = ⊥
IsPlain (SubsetEnd reads) = ⊥
IsPlain (Ref e) = (e == subset_number) ≡ false
IsPlain (ShortRef string meaning) = IsPlainMeaning meaning
IsPlain _ = Unit {0}

plain-declares : (k : Kind) (d : Doctype) → IsPlain k → declares k d ≡ d
unfolding declares
plain-declares (Sgml syntax) d h = absurd h
plain-declares (Head head base) d h = absurd h
plain-declares (Declare lexemes says base) d h = absurd h
plain-declares _ d h = refl

plain-stays : (k : Kind) → IsPlain k → stage_after k AfterSubset ≡ AfterSubset
unfolding stage_after
plain-stays (Sgml syntax) h = absurd h
plain-stays (Head head base) h = absurd h
plain-stays _ h = refl

-- of what a piece does to the stack of texts
abbrev OpensOther : Turn → Type 0
OpensOther (OpensText e) = (e == subset_number) ≡ false
OpensOther _ = Unit {0}

other-to : (t : Bool) (e : ℕ) → (e == subset_number) ≡ false → OpensOther (if t then StaysInText else OpensText e)
other-to true e h = tt
other-to false e h = h

other-meaning : (m : Meaning) → IsPlainMeaning m → OpensOther (turn_of_meaning m)
other-meaning (ToText e) h = other-to (e == 0) e h
other-meaning _ h = tt

plain-opens : (k : Kind) → IsPlain k → OpensOther (turn k)
unfolding turn
plain-opens (Head head base) h = absurd h
plain-opens (SubsetEnd reads) h = absurd h
plain-opens (Ref e) h = other-to (e == 0) e h
plain-opens (ShortRef string meaning) h = other-meaning meaning h
plain-opens _ h = tt

-- what is noted of it changes nothing
plain-meaning-noted : (s : State) (string : Text) (m : Meaning) → IsPlainMeaning m → IsPlain (kind_noted s (ShortRef string m))
unfolding kind_noted ordinary
plain-meaning-noted s string (Ordinary has_items content) h = tt
plain-meaning-noted s string (ToText e) h = h
plain-meaning-noted s string _ h = tt

plain-noted : (s : State) (k : Kind) → IsPlain k → IsPlain (kind_noted s k)
unfolding kind_noted
plain-noted s (SubsetEnd reads) h = absurd h
plain-noted s (Re live) h = tt
plain-noted s (ShortRef string meaning) h = plain-meaning-noted s string meaning h
plain-noted s _ h = h

plain-judged : (c : Context) (k : Kind) → IsPlain k → IsPlain (judged c k)
plain-judged c (Start n specifications how proper at_once) h = tt
plain-judged c _ h = h

-- WHAT IS SPELLED in content is plain

abbrev Plain : Result Piece Reason → Type 0
Plain (Ok p) = IsPlain p.kind
Plain (Err r) = Unit {0}

abbrev KindPlain : Result Kind Reason → Type 0
KindPlain (Ok k) = IsPlain k
KindPlain (Err r) = Unit {0}

abbrev MeaningPlain : Result Meaning Reason → Type 0
MeaningPlain (Ok m) = IsPlainMeaning m
MeaningPlain (Err r) = Unit {0}

spent-plain : (n spent : ℕ) (x : Result Kind Reason) → KindPlain x → Plain (spent_ok n spent x)
spent-plain n spent (Ok k) e = e
spent-plain n spent (Err r) e = tt

ok-plain : (n : ℕ) (x : Result Kind Reason) → KindPlain x → Plain (sized_ok n x)
ok-plain n x e = spent-plain n 0 x e

if-plain : (t : Bool) (x y : Result Piece Reason) → Plain x → Plain y → Plain (if t then x else y)
if-plain true x y p q = p
if-plain false x y p q = q

if-kinds : (t : Bool) (x y : Result Kind Reason) → KindPlain x → KindPlain y → KindPlain (if t then x else y)
if-kinds true x y p q = p
if-kinds false x y p q = q

if-kind : (t : Bool) (x y : Kind) → IsPlain x → IsPlain y → IsPlain (if t then x else y)
if-kind true x y p q = p
if-kind false x y p q = q

if-meanings : (t : Bool) (x y : Result Meaning Reason) → MeaningPlain x → MeaningPlain y → MeaningPlain (if t then x else y)
if-meanings true x y p q = p
if-meanings false x y p q = q

unless-plain : (o : Option Reason) (p : Piece) → IsPlain p.kind → Plain (unless_reason o p)
unless-plain (Some r) p e = tt
unless-plain None p e = e

unless-meaning : (o : Option Reason) (m : Meaning) → IsPlainMeaning m → MeaningPlain (unless o m)
unless-meaning (Some r) m e = tt
unless-meaning None m e = e

-- characters
separator-plain : (s : State) (b : ℕ) → IsPlain (separator_kind s b)
unfolding separator_kind
separator-plain s b =
    if-kind (b == 13) _ _ (if-kind (has_text s) _ _ tt tt)
    (if-kind (b == 10) _ _ (if-kind (has_text s) _ _ tt tt) (if-kind (has_text s || in_text_section s.sections) _ _ tt tt))

character-plain : (s : State) (m : Mode) (b : ℕ) → IsPlain (character_kind s m b)
character-plain s mode.Ign b = tt
character-plain s _ b = if-kind (is_separator b) _ _ (separator-plain s b) tt

-- REFERENCES: declared entities are numbered from 2 on

abbrev IsOther : Option ℕ → Type 0
IsOther None = Unit {0}
IsOther (Some n) = (n == subset_number) ≡ false

if-other : (t : Bool) (x y : Option ℕ) → IsOther x → IsOther y → IsOther (if t then x else y)
if-other true x y p q = p
if-other false x y p q = q

above : (n : ℕ) → 1 < n → (n == subset_number) ≡ false
above n l = search (rules, tests)

number-other : (n : ℕ) (es : List Entity) (sort : Space) (name : Name) → 1 < n → IsOther (number_from n es sort name)
number-other n [] sort name l = tt
number-other n (e ∷ es) sort name l =
    if-other (is_entity sort name e) (Some n) (number_from (n + 1) es sort name) (above n l) (number-other (n + 1) es sort name (omega (arith, l)))

general-plain : (outside : Outside) (k : Sources) (t : Stacked) (n : ℕ) (b : Body) → (n == subset_number) ≡ false → MeaningPlain (general_meaning outside k t n b)
general-plain outside k t n (body.Sgml text) e = unless-meaning (unopened outside k t n None) (ToText n) e
general-plain outside k t n (body.External external) e = unless-meaning (unopened outside k t n (missing outside k n)) (ToText n) e
general-plain outside k t n (body.Cdata text) e = tt
general-plain outside k t n (body.Sdata text) e = tt
general-plain outside k t n (body.Pi text) e = if-meanings (nat_lt k.doctype.syntax.quantities.pilen (length text)) _ _ tt tt
general-plain outside k t n (body.ExternalData sort external notation) e = tt

body-plain : (outside : Outside) (k : Sources) (t : Stacked) (n : ℕ) (o : Option Body) → (n == subset_number) ≡ false → MeaningPlain (meaning_of_body outside k t n o)
body-plain outside k t n None e = tt
body-plain outside k t n (Some b) e = general-plain outside k t n b e

by-number-plain : (outside : Outside) (k : Sources) (t : Stacked) (o : Option ℕ) → IsOther o → MeaningPlain (meaning_of_number outside k t o)
by-number-plain outside k t None e = tt
by-number-plain outside k t (Some n) e = body-plain outside k t n (body_of k.doctype n) e

meaning-plain : (outside : Outside) (k : Sources) (t : Stacked) (n : Name) → MeaningPlain (meaning_of outside k t n)
unfolding meaning_of entity_number
meaning-plain outside k t n =
    by-number-plain outside k t (number_from first_entity k.doctype.entities space.General n) (number-other first_entity k.doctype.entities space.General n (omega arith))

rcdata-plain : (t : Bool) (k : Kind) → IsPlain k → KindPlain (unless_rcdata t k)
rcdata-plain true k e = tt
rcdata-plain false k e = e

referring-plain : (t : Bool) (m : Meaning) → IsPlainMeaning m → KindPlain (referring_kind t m)
referring-plain t (ToText n) e = e
referring-plain t (ToData n) e = tt
referring-plain t (ToExternalData n) e = rcdata-plain t (DataRef n) tt
referring-plain t (ToInstruction n text) e = rcdata-plain t (Pi text (Some n)) tt
referring-plain t (Ordinary has_items content) e = tt

reference-plain : (t : Bool) (x : Result Meaning Reason) → MeaningPlain x → KindPlain (kind_by_meaning t x)
reference-plain t (Ok m) e = referring-plain t m e
reference-plain t (Err r) e = tt

string-plain : (string : Text) (x : Result Meaning Reason) → MeaningPlain x → KindPlain (kind_of_string string x)
string-plain string (Ok m) e = e
string-plain string (Err r) e = tt

mapped-plain : (outside : Outside) (s : State) (t : Stacked) (string : Text) (o : Option Name) → KindPlain (mapped_kind outside s t string o)
unfolding ordinary
mapped-plain outside s t string None = tt
mapped-plain outside s t string (Some n) = string-plain string (meaning_of outside (sources_in s) t n) (meaning-plain outside (sources_in s) t n)

-- tags
short-plain : (o : Option Name) → KindPlain (short_start o)
short-plain None = tt
short-plain (Some n) = tt

ending-plain : (how : How) (o : Option Name) → KindPlain (ending_of how o)
ending-plain how None = tt
ending-plain how (Some n) = tt

-- sections
section-of-plain : (syntax : Syntax) (xs : List _) (t : Bool) (n spent : ℕ) (x : Result _ ℕ) → Plain (section_of syntax xs t n spent x)
section-of-plain syntax xs t n spent (Err i) = tt
section-of-plain syntax xs t n spent (Ok status) = if-plain (t && is_data_status status) _ _ tt tt

section-by-plain : (syntax : Syntax) (t : Stacked) (b : Bool) (n : ℕ) (x : Result Lexed Reason) → Plain (section_by syntax t b n x)
section-by-plain syntax t b n (Err r) = tt
section-by-plain syntax t b n (Ok x) = section-of-plain syntax x.lexemes b n (x.spent - t.spent) _

section-start-plain : (outside : Outside) (d : Doctype) (t : Stacked) (b : Bool) (own : List ℕ) → Plain (section_start outside d t b own)
unfolding section_start
section-start-plain outside d t b own = section-by-plain d.syntax t b (length own) (lexed construct.SectionStart outside d t own)

section-plain : (outside : Outside) (d : Doctype) (t : Stacked) (m : Mode) (b : Bool) (own : List ℕ) → Plain (section_piece outside d t m b own)
section-plain outside d t mode.Ign b own = tt
section-plain outside d t _ b own = section-start-plain outside d t b own

section-end-plain : (s : State) (n : ℕ) → Plain (section_end s n)
section-end-plain s n = if-plain (in_section s.texts s.sections) _ _ tt tt

-- declarations: the use of a map alone has a place
use-plain : (x : Result (Option ℕ) Reason) → KindPlain (use_of x)
use-plain (Ok m) = tt
use-plain (Err r) = tt

or-plain : (o : Option Reason) (x : Result Kind Reason) → KindPlain x → KindPlain (or_reason o x)
or-plain (Some r) x e = tt
or-plain None x e = e

declared-kind-plain : (s : State) (o : Option Declaration) → KindPlain (declared_kind s o)
declared-kind-plain s None = tt
declared-kind-plain s (Some (form.Usemap u)) =
    if-kinds (is_none u.targets && has_open s.context.levels) _ _
    (or-plain _ _ (use-plain (map_used s.context.doctype u.map))) tt
declared-kind-plain s (Some _) = tt

declared-plain : (outside : Outside) (s : State) (t : Stacked) (own : List ℕ) (x : Result Lexed Reason) → Plain (declared_piece outside s t own x)
declared-plain outside s t own (Err r) = tt
declared-plain outside s t own (Ok x) =
    spent-plain (length own) (x.spent - t.spent) _ (declared-kind-plain s _)

content-plain : (outside : Outside) (s : State) (t : Stacked) (m : Mode) (k : TokenKind) (own : List ℕ) → Plain (content_piece outside s t m k own)
unfolding content_piece
content-plain outside s t m kind.Chars own = character-plain s m (first_of own)
content-plain outside s t m kind.Re own = separator-plain s 13
content-plain outside s t m kind.Rs own = separator-plain s 10
content-plain outside s t m (kind.ShortRef i) own = ok-plain (length own) _ (mapped-plain outside s t own (entity_of_string s.context.doctype (map_at s) i))
content-plain outside s t m kind.StartTag own = tt
content-plain outside s t m kind.EmptyStart own = ok-plain (length own) _ (short-plain (empty_start_type s.context s.ended))
content-plain outside s t m kind.EndTag own = tt
content-plain outside s t m kind.EmptyEnd own = ok-plain (length own) _ (ending-plain Short (empty_end_type s.context))
content-plain outside s t m kind.Net own = ok-plain (length own) _ (ending-plain Net (net_type s.context))
content-plain outside s t m kind.EntityRef own =
    ok-plain (length own) _ (reference-plain (is_rcdata m) _ (meaning-plain outside (sources_in s) t _))
content-plain outside s t m (kind.CharRef b) own = tt
content-plain outside s t m (kind.FunctionRef b) own = separator-plain s b
content-plain outside s t m kind.Pi own = tt
content-plain outside s t m kind.Comment own = tt
content-plain outside s t m kind.SectionStart own = section-plain outside s.context.doctype t m false own
content-plain outside s t m kind.SectionEnd own = section-end-plain s (length own)
content-plain outside s t m kind.Declaration own =
    if-plain (has_keyword s.context.doctype.syntax.names (codes "SGML") own) _ _ tt
    (declared-plain outside s t own (lexed construct.Declaration outside s.context.doctype t own))
content-plain outside s t m _ own = tt

-- where a text ends
document-plain : (g : Stage) (t : Bool) → Plain (document_end g t)
document-plain BeforeSyntax t = tt
document-plain AtBeginning t = tt
document-plain BeforeDoctype t = tt
document-plain InSubset t = tt
document-plain AfterSubset true = tt
document-plain AfterSubset false = tt

entity-end-plain : (s : State) (n : ℕ) (t : Bool) → Plain (entity_end s n t)
entity-end-plain s n true = tt
entity-end-plain s n false = unless-plain (type_end n s.context.doctype) (sized 0 EntityEnd) tt

text-end-plain : (s : State) (n : ℕ) → Plain (text_end s n)
text-end-plain s n =
    if-plain (n == 0) _ _ (document-plain s.stage (in_section s.texts s.sections)) (entity-end-plain s n (in_section s.texts s.sections))

-- no text of the document type is being read
record IsOutsideType (s : State) (t : Stacked) : Type 0 where
  stage : s.stage ≡ AfterSubset
  no_subset : in_doctype AfterSubset t.entities ≡ false

token-plain : (outside : Outside) (s : State) (t : Stacked) (bytes : Text) (x : Scanned) → IsOutsideType s t → Plain (by_token outside s t bytes x)
token-plain outside s t bytes (Token x) e =
    let m = mode_at s t.entities in
    let own = take x.length bytes in
    let content : in_doctype s.stage t.entities ≡ false = ap (λ g. in_doctype g t.entities) e.stage ∙ e.no_subset in
    subst (λ b. Plain (piece_in b outside s t m x.kind own)) (sym content) (content-plain outside s t m x.kind own)
token-plain outside s t bytes NeedMore e = tt
token-plain outside s t bytes (BadToken r) e = tt

here-plain : (outside : Outside) (s : State) (t : Stacked) (n : ℕ) (bytes : Text) → IsOutsideType s t → Plain (spelled_in outside s t n bytes)
here-plain outside s t n [] e = text-end-plain s n
here-plain outside s t n (b ∷ bytes) e =
    if-plain (is_early_end s.stage b) _ _ tt
    (subst (λ g. Plain (by_stage outside s t (b ∷ bytes) g)) (sym e.stage) (token-plain outside s t (b ∷ bytes) (token_here s t (b ∷ bytes)) e))

all-plain : (outside : Outside) (s : State) (t : Stacked) (rs : List Rest) → IsOutsideType s t → Plain (spelled_of outside s t rs)
all-plain outside s t [] e = tt
all-plain outside s t (r ∷ rs) e = here-plain outside s t r.entity r.bytes e

spelled-plain : (outside : Outside) (s : State) (t : Standing) → IsOutsideType s (stacked t) → Plain (spelled outside s t)
unfolding spelled
spelled-plain outside s t e = all-plain outside s (stacked t) t.rests e

-- THE TEXTS that are being read

along-on : (I : Input) (ks : List History) (ps : List Place) (rs : List Rest) → AreAlong I ks ps rs
    → list_any (λ n. n == subset_number) (map (λ (r : Rest). r.entity) rs) ≡ is_on subset_number ps
along-on I [] [] [] a = refl
along-on I (k ∷ ks) (p ∷ ps) (r ∷ rs) a = λ i. (a.1 i == subset_number) || along-on I ks ps rs a.3 i
along-on I [] [] (r ∷ rs) a = absurd a
along-on I [] (p ∷ ps) rs a = absurd a
along-on I (k ∷ ks) [] rs a = absurd a
along-on I (k ∷ ks) (p ∷ ps) [] a = absurd a

on-moved : (n : ℕ) (ps : List Place) → is_on subset_number (moved n ps) ≡ is_on subset_number ps
on-moved n [] = refl
on-moved n (p ∷ ps) = refl

or-right : (a b : Bool) → (a || b) ≡ false → b ≡ false
or-right true b e = apart true refl e
or-right false b e = e

on-turned : (t : Turn) (n : ℕ) (ps : List Place) → OpensOther t → is_on subset_number ps ≡ false → is_on subset_number (turned t (moved n ps)) ≡ false
on-turned (OpensText e) n ps o h = ap (λ b. b || is_on subset_number (moved n ps)) o ∙ (on-moved n ps ∙ h)
on-turned EndsText n [] o h = refl
on-turned EndsText n (p ∷ ps) o h = or-right (p.entity == subset_number) (is_on subset_number ps) h
on-turned StaysInText n ps o h = on-moved n ps ∙ h

-- AFTER EACH PIECE: in the instance still, with the document type of the beginning

-- the prolog has been read, and no text of the document type is being read (7.1, 11.1)
pub record Keeps (h later : History) : Type 0 where
  pub instance : IsPastProlog later
  pub types_are : types later ≡ types h

keeps-piece : (h : History) (p : Piece) (k : History) → IsPlain p.kind → Keeps h k → Keeps h (p ∷ k)
unfolding stage unread types
keeps-piece h p k plain e = record {
  instance = record {
    stage_is = ap (stage_after p.kind) e.instance.stage_is ∙ plain-stays p.kind plain;
    no_subset = on-turned (turn p.kind) p.size (unread k) (plain-opens p.kind plain) e.instance.no_subset;
  };
  types_are = plain-declares p.kind (types k) plain ∙ e.types_are;
}

-- a tag that is left out
omitted-plain : (c : Context) (o : Piece) (x : Kind) → MayStand c o x → IsPlain o.kind
omitted-plain c o x (inl (n, is, may)) = subst (λ (p : Piece). IsPlain p.kind) (sym is) tt
omitted-plain c o x (inr (n, is, may)) = subst (λ (p : Piece). IsPlain p.kind) (sym is) tt

keeps-run : (h : History) (k : History) (x : Kind) (os : List Piece) → LongestRun k x os → Keeps h k → Keeps h (after_run k os)
keeps-run h k x [] run e = e
keeps-run h k x (o ∷ os) run e = keeps-run h (o ∷ k) x os run.1 (keeps-piece h o k (omitted-plain (context k) o x run.0) e)

keeps-visible : (h : History) (k : History) (m : Move) (p : Piece) → IsPlain p.kind → Moves forms k (piece_noted (state k) p) m → Keeps h k → Keeps h (moved_on k m)
keeps-visible h k m p plain moves e =
    let g = after_run k m.omitted in
    let noted = piece_noted (state k) p in
    let visible : IsPlain m.visible.kind =
    subst (λ (v : Piece). IsPlain v.kind) (sym moves.visible) (plain-judged (context g) noted.kind (plain-noted (state k) p.kind plain)) in
    keeps-piece h m.visible g visible (keeps-run h k noted.kind m.omitted moves.longest e)

keeps-answer : (h : History) (k : History) (m : Move) (cut : Bool) (x : Result Piece Reason) → Plain x
    → MovesTo forms k (unless_undecided cut (answer_noted (state k) x)) m → Keeps h k → Keeps h (moved_on k m)
keeps-answer h k m true x plain moves e = absurd moves
keeps-answer h k m false (Err r) plain moves e = absurd moves
keeps-answer h k m false (Ok p) plain moves e = keeps-visible h k m p plain moves e

outside-type : (I : Input) (h : History) → IsPastProlog h → IsOutsideType (state h) (stacked (standing I h))
unfolding state
outside-type I h e = record {
  stage = e.stage_is;
  no_subset = along-on I (opened h) (unread h) (rests I h) (unread-along I h) ∙ e.no_subset;
}

keeps-move : (I : Input) (h : History) (k : History) (m : Move) → Reads forms I k m → Keeps h k → Keeps h (moved_on k m)
keeps-move I h k m reads e =
    keeps-answer h k m (I.was_cut && not (decided I.outside (state k) (standing I k))) (spelled I.outside (state k) (standing I k))
    (spelled-plain I.outside (state k) (standing I k) (outside-type I k e.instance)) reads.moves e

keeps-moves : (I : Input) (h : History) (k : History) (ms : List Move) → ReadOn forms I k ms → Keeps h k → Keeps h (after_moves k ms)
keeps-moves I h k [] reads e = e
keeps-moves I h k (m ∷ ms) reads e = keeps-moves I h (moved_on k m) ms reads.1 (keeps-move I h k m reads.0 e)

pub instance-goes-on : (I : Input) (h : History) (ms : List Move) → IsPastProlog h → ReadOn forms I h ms → Keeps h (after_moves h ms)
instance-goes-on I h ms e reads = keeps-moves I h h ms reads (record { instance = e; types_are = refl })

-- IN THE INSTANCE nothing is declared
pub instance-keeps-types : (I : Input) (h : History) (ms : List Move) → stage h ≡ AfterSubset → is_on subset_number (unread h) ≡ false
    → ReadOn forms I h ms → types (after_moves h ms) ≡ types h
instance-keeps-types I h ms stage_is no_subset reads =
    (instance-goes-on I h ms (record { stage_is = stage_is; no_subset = no_subset }) reads).types_are

-- a document that has ended is read no further
pub ended-keeps-types : (I : Input) (h : History) (ms : List Move) → ends_in_finish h ≡ true → ReadOn forms I h ms → types (after_moves h ms) ≡ types h
ended-keeps-types I h [] ended reads = refl
ended-keeps-types I h (m ∷ ms) ended reads = apart (ends_in_finish h) ended reads.0.goes_on

-- WHERE A PARSER IS IN THE INSTANCE

pub entities-on : (ps : List Place) → list_any (λ n. n == subset_number) (map (λ (p : Place). p.entity) ps) ≡ is_on subset_number ps
entities-on [] = refl
entities-on (p ∷ ps) = ap (λ b. (p.entity == subset_number) || b) (entities-on ps)

pub stands-past-prolog : (k : Kept) (given : List (ℕ × Text)) (I : Input) (more : Text) (h : History) → Stands k given I more h
    → k.stage ≡ AfterSubset → in_doctype k.stage (stacked_on k.stack).entities ≡ false → IsPastProlog h
stands-past-prolog k given I more h x after none = record {
  stage_is = sym x.stage_is ∙ after;
  no_subset =
      ap (is_on subset_number) (sym x.places_are) ∙ (sym (entities-on k.stack.places)
      ∙ (ap (λ g. in_doctype g (stacked_on k.stack).entities) (sym after) ∙ none));
}

pub parses-past-prolog : (held : Held) (given : List (ℕ × Text)) (I : Input) (more : Text) (h : History) → Parses held given I more h
    → in_doctype held.kept.stage (stacked_on held.kept.stack).entities ≡ false → IsPastProlog h
parses-past-prolog held given I more h x none = stands-past-prolog held.kept given I more h x.stands x.in_content none

pub parses-keeps-types : (held : Held) (given : List (ℕ × Text)) (I : Input) (more : Text) (h : History) (ms : List Move) → Parses held given I more h
    → in_doctype held.kept.stage (stacked_on held.kept.stack).entities ≡ false → ReadOn forms I h ms → types (after_moves h ms) ≡ types h
parses-keeps-types held given I more h ms x none reads =
    (instance-goes-on I h ms (parses-past-prolog held given I more h x none) reads).types_are

-- THE DOCUMENT LIES UNDER ALL TEXTS: it ends in no piece but the last

abbrev is_entity_end : Kind → Bool
is_entity_end EntityEnd = true
is_entity_end _ = false

abbrev first_number : List Rest → ℕ
first_number [] = 0
first_number (r ∷ rs) = r.entity

-- where it is the end of an entity, then not of the document
abbrev EndsEntity : ℕ → Result Piece Reason → Type 0
EndsEntity n (Ok p) = is_entity_end p.kind ≡ true → (n == 0) ≡ false
EndsEntity n (Err r) = Unit {0}

end-is-text-end : (k : Kind) → is_entity_end k ≡ true → is_text_end k ≡ true
end-is-text-end EntityEnd e = refl
end-is-text-end _ e = apart false e refl

taken-ends : (n : ℕ) (x : Result Piece Reason) → Takes x → EndsEntity n x
taken-ends n (Ok p) h = λ e. apart (is_text_end p.kind) (end-is-text-end p.kind e) h.1
taken-ends n (Err r) h = tt

document-ends : (n : ℕ) (g : Stage) (t : Bool) → EndsEntity n (document_end g t)
document-ends n BeforeSyntax t = tt
document-ends n AtBeginning t = tt
document-ends n BeforeDoctype t = tt
document-ends n InSubset t = tt
document-ends n AfterSubset true = tt
document-ends n AfterSubset false = λ e. apart false e refl

other-ends : (n : ℕ) (x : Result Piece Reason) → (n == 0) ≡ false → EndsEntity n x
other-ends n (Ok p) e = λ _. e
other-ends n (Err r) e = tt

if-ends : (n : ℕ) (t : Bool) (x y : Result Piece Reason) → (n == 0) ≡ t → EndsEntity n x → EndsEntity n (if t then x else y)
if-ends n true x y e h = h
if-ends n false x y e h = other-ends n y e

in-ends : (outside : Outside) (s : State) (t : Stacked) (n : ℕ) (bytes : Text) → EndsEntity n (spelled_in outside s t n bytes)
in-ends outside s t n [] = if-ends n (n == 0) _ _ refl (document-ends n s.stage (in_section s.texts s.sections))
in-ends outside s t n (b ∷ bytes) = taken-ends n (spelled_in outside s t n (b ∷ bytes)) (byte-takes outside s t n b bytes)

of-ends : (outside : Outside) (s : State) (t : Stacked) (rs : List Rest) → EndsEntity (first_number rs) (spelled_of outside s t rs)
of-ends outside s t [] = tt
of-ends outside s t (r ∷ rs) = in-ends outside s t r.entity r.bytes

spelled-ends : (outside : Outside) (s : State) (t : Standing) → EndsEntity (first_number t.rests) (spelled outside s t)
unfolding spelled
spelled-ends outside s t = of-ends outside s (stacked t) t.rests

-- the piece alone tells
abbrev is_end : Turn → Bool
is_end EndsText = true
is_end _ = false

no-end-external : (o : Option _) → is_end (turn_of_external o) ≡ false
no-end-external None = refl
no-end-external (Some x) = refl

no-end-if : (t : Bool) (x : Turn) → is_end x ≡ false → is_end (if t then StaysInText else x) ≡ false
no-end-if true x e = refl
no-end-if false x e = e

no-end-meaning : (m : Meaning) → is_end (turn_of_meaning m) ≡ false
no-end-meaning (ToText e) = no-end-if (e == 0) (OpensText e) refl
no-end-meaning _ = refl

end-turns : (k : Kind) → is_end (turn k) ≡ is_entity_end k
unfolding turn
end-turns (Ref e) = no-end-if (e == 0) (OpensText e) refl
end-turns (ShortRef string meaning) = no-end-meaning meaning
end-turns (Head head base) = no-end-if head.subset _ (no-end-external head.external)
end-turns (SubsetEnd true) = refl
end-turns (SubsetEnd false) = refl
end-turns _ = refl

end-noted : (s : State) (k : Kind) → is_entity_end (kind_noted s k) ≡ is_entity_end k
unfolding kind_noted
end-noted s (Re live) = refl
end-noted s (ShortRef string meaning) = refl
end-noted s (SubsetEnd reads) = refl
end-noted s _ = refl

end-judged : (c : Context) (k : Kind) → is_entity_end (judged c k) ≡ is_entity_end k
end-judged c (Start n specifications how proper at_once) = refl
end-judged c _ = refl

-- the stack
abbrev first_place : List Place → ℕ
first_place [] = 0
first_place (p ∷ ps) = p.entity

abbrev pub DocumentLast : List Place → Type 0
DocumentLast [] = ⊥
DocumentLast (p ∷ []) = p.entity ≡ 0
DocumentLast (p ∷ q ∷ ps) = DocumentLast (q ∷ ps)

along-first : (I : Input) (ks : List History) (ps : List Place) (rs : List Rest) → AreAlong I ks ps rs → first_number rs ≡ first_place ps
along-first I [] [] [] a = refl
along-first I (k ∷ ks) (p ∷ ps) (r ∷ rs) a = a.1
along-first I [] [] (r ∷ rs) a = absurd a
along-first I [] (p ∷ ps) rs a = absurd a
along-first I (k ∷ ks) [] rs a = absurd a
along-first I (k ∷ ks) (p ∷ ps) [] a = absurd a

pub last-moved : (n : ℕ) (ps : List Place) → DocumentLast ps → DocumentLast (moved n ps)
last-moved n [] l = l
last-moved n (p ∷ []) l = l
last-moved n (p ∷ q ∷ ps) l = l

first-moved : (n : ℕ) (ps : List Place) → first_place (moved n ps) ≡ first_place ps
first-moved n [] = refl
first-moved n (p ∷ ps) = refl

last-over : (e : ℕ) (ps : List Place) → DocumentLast ps → DocumentLast (place_at e 0 ∷ ps)
last-over e [] l = absurd l
last-over e (p ∷ ps) l = l

last-turned : (t : Turn) (n : ℕ) (ps : List Place) → (is_end t ≡ true → (first_place ps == 0) ≡ false) → DocumentLast ps → DocumentLast (turned t (moved n ps))
last-turned (OpensText e) n ps h l = last-over e (moved n ps) (last-moved n ps l)
last-turned EndsText n [] h l = l
last-turned EndsText n (p ∷ []) h l = apart (p.entity == 0) (ap (λ m. m == 0) l) (h refl)
last-turned EndsText n (p ∷ q ∷ ps) h l = l
last-turned StaysInText n ps h l = last-moved n ps l

-- what was read, whose stack has the document as its last, and this text at its top
record HasLast (n : ℕ) (h : History) : Type 0 where
  last : DocumentLast (unread h)
  first : first_place (unread h) ≡ n

omitted-last : (n : ℕ) (h : History) (o : Piece) (x : Kind) → MayStand (context h) o x → HasLast n h → HasLast n (o ∷ h)
unfolding unread turn
omitted-last n h o x (inl (name, is, may)) e = subst (λ (p : Piece). HasLast n (p ∷ h)) (sym is) (record { last = last-moved 0 (unread h) e.last; first = first-moved 0 (unread h) ∙ e.first })
omitted-last n h o x (inr (name, is, may)) e = subst (λ (p : Piece). HasLast n (p ∷ h)) (sym is) (record { last = last-moved 0 (unread h) e.last; first = first-moved 0 (unread h) ∙ e.first })

run-last : (n : ℕ) (h : History) (x : Kind) (os : List Piece) → LongestRun h x os → HasLast n h → HasLast n (after_run h os)
run-last n h x [] run e = e
run-last n h x (o ∷ os) run e = run-last n (o ∷ h) x os run.1 (omitted-last n h o x run.0 e)

piece-last : (h : History) (p : Piece) → (is_entity_end p.kind ≡ true → (first_place (unread h) == 0) ≡ false) → DocumentLast (unread h) → DocumentLast (unread (p ∷ h))
unfolding unread
piece-last h p ends l = last-turned (turn p.kind) p.size (unread h) (λ e. ends (sym (end-turns p.kind) ∙ e)) l

visible-last : (h : History) (m : Move) (p : Piece) → (is_entity_end p.kind ≡ true → (first_place (unread h) == 0) ≡ false)
    → Moves forms h (piece_noted (state h) p) m → DocumentLast (unread h) → DocumentLast (unread (moved_on h m))
visible-last h m p ends moves l =
    let g = after_run h m.omitted in
    let noted = piece_noted (state h) p in
    let there : HasLast (first_place (unread h)) g = run-last (first_place (unread h)) h noted.kind m.omitted moves.longest (record { last = l; first = refl }) in
    let same : is_entity_end m.visible.kind ≡ is_entity_end p.kind =
    ap (λ (v : Piece). is_entity_end v.kind) moves.visible ∙ (end-judged (context g) noted.kind ∙ end-noted (state h) p.kind) in
    piece-last g m.visible (λ e. ap (λ n. n == 0) there.first ∙ ends (sym same ∙ e)) there.last

answer-last : (h : History) (m : Move) (cut : Bool) (x : Result Piece Reason) → EndsEntity (first_place (unread h)) x
    → MovesTo forms h (unless_undecided cut (answer_noted (state h) x)) m → DocumentLast (unread h) → DocumentLast (unread (moved_on h m))
answer-last h m true x ends moves l = absurd moves
answer-last h m false (Err r) ends moves l = absurd moves
answer-last h m false (Ok p) ends moves l = visible-last h m p ends moves l

move-last : (I : Input) (h : History) (m : Move) → Reads forms I h m → DocumentLast (unread h) → DocumentLast (unread (moved_on h m))
move-last I h m reads l =
    let x = spelled I.outside (state h) (standing I h) in
    answer-last h m (I.was_cut && not (decided I.outside (state h) (standing I h))) x
    (subst (λ n. EndsEntity n x) (along-first I (opened h) (unread h) (rests I h) (unread-along I h)) (spelled-ends I.outside (state h) (standing I h)))
    reads.moves l

pub moves-last : (I : Input) (h : History) (ms : List Move) → ReadOn forms I h ms → DocumentLast (unread h) → DocumentLast (unread (after_moves h ms))
moves-last I h [] reads l = l
moves-last I h (m ∷ ms) reads l = moves-last I (moved_on h m) ms reads.1 (move-last I h m reads.0 l)

pub opening-last : (outside : Outside) → DocumentLast (unread (opening outside))
unfolding unread turn
opening-last outside = refl

-- AT A BORDER the document alone is read

pub more-than-one : (n : ℕ) → (suc (suc n) == 1) ≡ false
more-than-one n = search (rules, tests)

alone-last : (ps : List Place) → DocumentLast ps → (length ps == 1) ≡ true → is_on subset_number ps ≡ false
alone-last [] l e = absurd l
alone-last (p ∷ []) l e = ap (λ n. (n == subset_number) || false) l
alone-last (p ∷ q ∷ ps) l e = apart (length (p ∷ q ∷ ps) == 1) e (more-than-one (length ps))

pub record AtBorder (g : Stage) (n : ℕ) : Type 0 where
  pub stage : g ≡ AfterSubset
  pub alone : (n == 1) ≡ true

pub at-border : (g : Stage) (n : ℕ) (ended : Bool) → (is_after_subset g && ((n == 1) && not ended)) ≡ true → AtBorder g n
at-border AfterSubset n ended e = by (n == 1) refl e
  where
    by : (t : Bool) → (n == 1) ≡ t → (t && not ended) ≡ true → AtBorder AfterSubset n
    by true is e = record { stage = refl; alone = is }
    by false is e = apart false e refl
at-border _ n ended e = apart false e refl

border-by : (h : History) → is_border h ≡ true → DocumentLast (unread h) → IsPastProlog h
unfolding state
border-by h e l =
    let x = at-border (stage h) (texts h) (ends_in_finish h) e in record {
      stage_is = x.stage;
      no_subset = alone-last (unread h) l (ap (λ n. n == 1) (length-unread h) ∙ x.alone);
    }

pub border-past-prolog : (I : Input) (ms : List Move) → ReadsFromStart forms I ms → is_border (read_by I ms) ≡ true → IsPastProlog (read_by I ms)
border-past-prolog I ms reads e = border-by (read_by I ms) e (moves-last I (opening I.outside) ms reads (opening-last I.outside))

pub stands-at-border : (k : Kept) (given : List (ℕ × Text)) (I : Input) (more : Text) (h : History) → Stands k given I more h → is_border h ≡ true → IsPastProlog h
stands-at-border k given I more h x e =
    let ms = x.read.0 in
    subst IsPastProlog (sym x.read.2) (border-past-prolog I ms x.read.1 (ap is_border (sym x.read.2) ∙ e))

-- as after a prolog that has been read
pub border-keeps-types : (I : Input) (before ms : List Move) → ReadsFromStart forms I before → is_border (read_by I before) ≡ true
    → ReadOn forms I (read_by I before) ms → types (after_moves (read_by I before) ms) ≡ types (read_by I before)
border-keeps-types I before ms start e reads =
    (instance-goes-on I (read_by I before) ms (border-past-prolog I before start e) reads).types_are

pub border-keeps-types-of : (k : Kept) (given : List (ℕ × Text)) (I : Input) (more : Text) (h : History) (ms : List Move) → Stands k given I more h
    → is_border h ≡ true → ReadOn forms I h ms → types (after_moves h ms) ≡ types h
border-keeps-types-of k given I more h ms x e reads = (instance-goes-on I h ms (stands-at-border k given I more h x e) reads).types_are
