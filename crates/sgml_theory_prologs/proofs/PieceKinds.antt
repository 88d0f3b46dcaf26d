-- Which pieces are spelled before the document type, in it, and at the ends of texts.
use Rattle.std.proofs.Common.{◌≡◌, ℕ, Bool, true, false, ◌==◌, ◌-◌, List, [], ◌∷◌, Option, None, Some, Result, Ok, Err, length, take, drop, map, nat_lt, codes, refl, sym, subst, if◌then◌else◌}
use Rattle.std.specs.Option.{option_or}
use Rattle.sgml_io.specs.text.Characters.{all_sgml}
use Rattle.sgml_io.specs.text.declared.reason.Reason.{Reason}
use Rattle.sgml_io.specs.text.declared.reason.Reason.TheVariants as reason
use Rattle.sgml_theory_standing.specs.syntax.declared.syntax.Syntax.{Syntax}
use Rattle.sgml_theory_standing.specs.delim.declared.delim.Mode.{Mode}
use Rattle.sgml_theory_standing.specs.delim.declared.delim.Mode.TheVariants as mode
use Rattle.sgml_theory_standing.specs.entity.declared.kinds.Body.{Body}
use Rattle.sgml_theory_standing.specs.entity.declared.kinds.Body.TheVariants as body
use Rattle.sgml_theory_standing.specs.entity.declared.kinds.Space.TheVariants as space
use Rattle.sgml_theory_standing.specs.markup.declared.kinds.TokenKind.{TokenKind}
use Rattle.sgml_theory_standing.specs.markup.declared.kinds.TokenKind.TheVariants as kind
use Rattle.sgml_theory_standing.specs.marked.declared.status.Status.{Status}
use Rattle.sgml_theory_standing.specs.marked.Keywords.{status_by}
use Rattle.sgml_theory_standing.specs.scan.declared.state.Scanned.{Scanned}
use Rattle.sgml_theory_standing.specs.scan.declared.state.Scanned.TheVariants.{Token, NeedMore, BadToken}
use Rattle.sgml_theory_standing.specs.sgmldecl.declared.feature.DeclError.{DeclError}
use Rattle.sgml_theory_standing.specs.sgmldecl.Machine.{Outcome, bad, whole, run, begin_state}
use Rattle.sgml_theory_standing.specs.sgmldecl.Refusing.{answer}
use Rattle.sgml_theory_standing.specs.decl_lexemes.declared.lexeme.Lexeme.{Lexeme}
use Rattle.sgml_theory_standing.specs.decl_parts.declared.ends.Construct.TheVariants as construct
use Rattle.sgml_theory_standing.specs.decl_parts.Ends.{is_doctype}
use Rattle.sgml_theory_standing.specs.decl_forms.declared.declaration.Declaration.{Declaration}
use Rattle.sgml_theory_standing.specs.decl_forms.declared.declaration.Declaration.TheVariants as form
use Rattle.sgml_theory_standing.specs.decl_forms.Declarations.{declaration_at}
use Rattle.sgml_theory_standing.specs.dtd.Doctypes.{Doctype}
use Rattle.sgml_theory_standing.specs.theory_reading.Names.{Name}
use Rattle.sgml_theory_standing.specs.theory_reading.Types.{entity_number, body_of}
use Rattle.sgml_theory_standing.specs.theory_reading.Pieces.{Piece, Kind, Sgml, Head, Declare, SubsetEnd, Sep, Ref, EntityEnd, SectionStart, SectionEnd, Skipped, Pi, Comment}
use Rattle.sgml_theory_standing.specs.theory_reading.Facets.{Stage, BeforeSyntax, AtBeginning, BeforeDoctype, InSubset, AfterSubset}
use Rattle.sgml_theory_standing.specs.theory_reading.Context.{Context}
use Rattle.sgml_theory_standing.specs.theory_reading.Unread.{Outside, Sources, Rest, Standing}
use Rattle.sgml_theory_standing.specs.theory_reading.State.{State, sources_in}
use Rattle.sgml_theory_standing.specs.theory_reading.Characters.{kind_noted}
use Rattle.sgml_theory_standing.specs.theory_reading.Reads.{judged}
use Rattle.sgml_theory_standing.specs.theory_spelling.Stacked.{Stacked, stacked}
use Rattle.sgml_theory_standing.specs.theory_spelling.Sized.{sized, spent_ok, unless_reason}
use Rattle.sgml_theory_standing.specs.theory_spelling.Places.{in_doctype, mode_at, in_section}
use Rattle.sgml_theory_standing.specs.theory_spelling.References.{subset_unopened, unless, parameter_text, parameter_of_number, parameter_kind}
use Rattle.sgml_theory_standing.specs.theory_spelling.Declared.{Lexed, lexed}
use Rattle.sgml_theory_standing.specs.theory_spelling.SgmlDeclared.{has_keyword, begins_sgml, sgml_of, sgml_by, sgml_piece}
use Rattle.sgml_theory_standing.specs.theory_spelling.Tags.{with_spent}
use Rattle.sgml_theory_standing.specs.theory_spelling.Content.{referred_name, is_data_status, keywords_in, section_of, section_by, section_start, section_piece, section_end}
use Rattle.sgml_theory_standing.specs.theory_spelling.Prolog.{head_by, head_lexed, piece_before, declared_by, declared_lexed, end_reason, end_by, in_document, subset_piece}
use Rattle.sgml_theory_standing.specs.theory_spelling.Decided.{is_early_end}
use Rattle.sgml_theory_standing.specs.theory_spelling.Spelled.{type_end, document_end, entity_end, piece_in, by_token, by_token_before, token_here, sgml_bad, sgml_by_token, at_beginning, by_stage, spelled_in, spelled_of, spelled}
use Rattle.sgml_theory_standing.specs.Prologs.{is_of_prolog}
use Rattle.sgml_theory_prologs.proofs.Recognised.{never}

-- A PROPERTY of the kind that is spelled, if one is

abbrev pub Holds : (Kind → Type 0) → Result Piece Reason → Type 0
Holds P (Ok p) = P p.kind
Holds P (Err r) = Unit {0}

pub holds-ok : (P : Kind → Type 0) (x : Result Piece Reason) (p : Piece) → Holds P x → x ≡ Ok p → P p.kind
holds-ok P x p h e = subst (Holds P) e h

if-holds : (P : Kind → Type 0) (t : Bool) (x y : Result Piece Reason) → (t ≡ true → Holds P x) → (t ≡ false → Holds P y) → Holds P (if t then x else y)
if-holds P true x y f g = f refl
if-holds P false x y f g = g refl

unless-holds : (P : Kind → Type 0) (o : Option Reason) (p : Piece) → (o ≡ None → P p.kind) → Holds P (unless_reason o p)
unless-holds P (Some r) p f = tt
unless-holds P None p f = f refl

-- BEFORE THE DOCUMENT TYPE

abbrev pub is_before : Kind → Bool
is_before (Sep b) = true
is_before (Pi text e) = true
is_before Comment = true
is_before (Head head base) = true
is_before _ = false

abbrev pub is_first : Kind → Bool
is_first (Sgml syntax) = true
is_first k = is_before k

abbrev Before : Kind → Type 0
Before k = is_before k ≡ true

abbrev First : Kind → Type 0
First k = is_first k ≡ true

before-first : (k : Kind) → is_before k ≡ true → is_first k ≡ true
before-first (Sgml syntax) e = refl
before-first _ e = e

holds-on : (P Q : Kind → Type 0) (x : Result Piece Reason) → ((k : Kind) → P k → Q k) → Holds P x → Holds Q x
holds-on P Q (Ok p) f h = f p.kind h
holds-on P Q (Err r) f h = tt

head-by-before : (outside : Outside) (k : Sources) (t : Stacked) (n : ℕ) (x : Lexed) (o : Option Declaration) → Holds Before (head_by outside k t n x o)
head-by-before outside k t n x (Some (form.Doctype h)) = unless-holds Before _ _ (λ e. refl)
head-by-before outside k t n x _ = tt

head-before : (outside : Outside) (k : Sources) (t : Stacked) (n : ℕ) (x : Result Lexed Reason) → Holds Before (head_lexed outside k t n x)
head-before outside k t n (Err r) = tt
head-before outside k t n (Ok x) = head-by-before outside k t n x (declaration_at x.lexemes)

piece-before : (outside : Outside) (s : State) (t : Stacked) (k : TokenKind) (own : List ℕ) → Holds Before (piece_before outside s t k own)
unfolding piece_before
piece-before outside s t kind.Separators own = refl
piece-before outside s t kind.Pi own = refl
piece-before outside s t kind.Comment own = refl
piece-before outside s t kind.Declaration own =
    if-holds Before (is_doctype s.context.doctype.syntax.names own) _ _
    (λ e. head-before outside (sources_in s) t (length own) (lexed construct.Declaration outside s.context.doctype t own)) (λ e. tt)
piece-before outside s t _ own = tt

token-before : (outside : Outside) (s : State) (t : Stacked) (bytes : List ℕ) (x : Scanned) → Holds Before (by_token_before outside s t bytes x)
token-before outside s t bytes (Token x) = piece-before outside s t x.kind (take x.length bytes)
token-before outside s t bytes NeedMore = tt
token-before outside s t bytes (BadToken r) = tt

answer-first : (bytes : List ℕ) (x : Result (Syntax × ℕ) DeclError) → Holds First (sgml_of bytes x)
answer-first bytes (Err e) = tt
answer-first bytes (Ok a) = if-holds First (all_sgml (take a.1 bytes)) _ _ (λ e. refl) (λ e. tt)

outcome-first : (bytes : List ℕ) (o : Outcome) → Holds First (sgml_by bytes o)
outcome-first bytes (bad at) = tt
outcome-first bytes (whole h n) = answer-first bytes (answer h n)

sgml-first : (bytes : List ℕ) → Holds First (sgml_piece bytes)
unfolding sgml_piece
sgml-first bytes = outcome-first bytes (run 0 begin_state bytes)

bad-first : (bytes : List ℕ) (r : Reason) → Holds First (sgml_bad bytes r)
bad-first bytes reason.Unclosed = sgml-first bytes
bad-first bytes _ = tt

sgml-token-first : (bytes : List ℕ) (x : Scanned) → Holds First (sgml_by_token bytes x)
sgml-token-first bytes (Token x) = sgml-first (take x.length bytes)
sgml-token-first bytes NeedMore = tt
sgml-token-first bytes (BadToken r) = bad-first bytes r

beginning-first : (w : Bool) (outside : Outside) (s : State) (t : Stacked) (bytes : List ℕ) → Holds First (at_beginning w outside s t bytes)
beginning-first true outside s t bytes = sgml-token-first bytes (token_here s t bytes)
beginning-first false outside s t bytes =
    holds-on Before First (by_token_before outside s t bytes (token_here s t bytes)) before-first (token-before outside s t bytes (token_here s t bytes))

-- IN THE DOCUMENT TYPE: no section has data for its content there, and what ends it stands in the document itself, where no
-- section is open

abbrev pub InType : State → List ℕ → Kind → Type 0
InType s es (Declare lexemes says base) = Unit {0}
InType s es (SubsetEnd reads) = (in_document es ≡ true) × (in_section s.texts s.sections ≡ false)
InType s es (Sep b) = Unit {0}
InType s es (Ref n) = Unit {0}
InType s es EntityEnd = (in_document es ≡ false) × (in_section s.texts s.sections ≡ false)
InType s es (SectionStart st) = is_data_status st ≡ false
InType s es SectionEnd = Unit {0}
InType s es (Skipped b) = Unit {0}
InType s es (Pi text e) = Unit {0}
InType s es Comment = Unit {0}
InType s es _ = ⊥

spent-holds : (P : Kind → Type 0) (n spent : ℕ) (x : Result Kind Reason) → ((k : Kind) → x ≡ Ok k → P k) → Holds P (spent_ok n spent x)
spent-holds P n spent (Ok k) f = f k refl
spent-holds P n spent (Err r) f = tt

abbrev pub IsReference : Result Kind Reason → Type 0
IsReference (Ok (Ref n)) = Unit {0}
IsReference (Ok (Pi text e)) = Unit {0}
IsReference (Ok _) = ⊥
IsReference (Err r) = Unit {0}

unless-reference : (o : Option Reason) (n : ℕ) → IsReference (unless o (Ref n))
unless-reference (Some r) n = tt
unless-reference None n = tt

if-reference : (t : Bool) (x y : Result Kind Reason) → IsReference x → IsReference y → IsReference (if t then x else y)
if-reference true x y p q = p
if-reference false x y p q = q

parameter-text-reference : (outside : Outside) (k : Sources) (t : Stacked) (n : ℕ) (o : Option Body) → IsReference (parameter_text outside k t n o)
parameter-text-reference outside k t n None = tt
parameter-text-reference outside k t n (Some (body.Sgml text)) = unless-reference _ n
parameter-text-reference outside k t n (Some (body.External external)) = unless-reference _ n
parameter-text-reference outside k t n (Some (body.Pi text)) = if-reference (nat_lt k.doctype.syntax.quantities.pilen (length text)) _ _ tt tt
parameter-text-reference outside k t n (Some _) = tt

parameter-number-reference : (outside : Outside) (k : Sources) (t : Stacked) (o : Option ℕ) → IsReference (parameter_of_number outside k t o)
parameter-number-reference outside k t None = tt
parameter-number-reference outside k t (Some n) = parameter-text-reference outside k t n (body_of k.doctype n)

pub parameter-reference : (outside : Outside) (k : Sources) (t : Stacked) (n : Name) → IsReference (parameter_kind outside k t n)
unfolding parameter_kind
parameter-reference outside k t n = parameter-number-reference outside k t (entity_number k.doctype space.Parameter n)

reference-in : (s : State) (es : List ℕ) (k : Kind) → IsReference (Ok k) → InType s es k
reference-in s es (Ref n) h = tt
reference-in s es (Pi text e) h = tt
reference-in s es (Sgml syntax) h = absurd h
reference-in s es (Head head base) h = absurd h
reference-in s es (Declare lexemes says base) h = tt
reference-in s es (SubsetEnd reads) h = absurd h
reference-in s es (Sep b) h = tt
reference-in s es EntityEnd h = absurd h
reference-in s es (SectionStart st) h = absurd h
reference-in s es SectionEnd h = tt
reference-in s es (Skipped b) h = tt
reference-in s es Comment h = tt
reference-in s es _ h = absurd h

section-of-in : (s : State) (es : List ℕ) (syntax : Syntax) (xs : List Lexeme) (n spent : ℕ) (x : Result Status ℕ) → Holds (InType s es) (section_of syntax xs true n spent x)
section-of-in s es syntax xs n spent (Err i) = tt
section-of-in s es syntax xs n spent (Ok st) = if-holds (InType s es) (is_data_status st) _ _ (λ e. tt) (λ e. e)

section-by-in : (s : State) (es : List ℕ) (syntax : Syntax) (t : Stacked) (n : ℕ) (x : Result Lexed Reason) → Holds (InType s es) (section_by syntax t true n x)
section-by-in s es syntax t n (Err r) = tt
section-by-in s es syntax t n (Ok x) = section-of-in s es syntax x.lexemes n (x.spent - t.spent) (status_by (keywords_in x.lexemes))

section-start-in : (s : State) (es : List ℕ) (outside : Outside) (d : Doctype) (t : Stacked) (own : List ℕ) → Holds (InType s es) (section_start outside d t true own)
unfolding section_start
section-start-in s es outside d t own = section-by-in s es d.syntax t (length own) (lexed construct.SectionStart outside d t own)

section-in : (s : State) (es : List ℕ) (outside : Outside) (d : Doctype) (t : Stacked) (m : Mode) (own : List ℕ) → Holds (InType s es) (section_piece outside d t m true own)
section-in s es outside d t mode.Ign own = refl
section-in s es outside d t _ own = section-start-in s es outside d t own

section-end-in : (s : State) (es : List ℕ) (n : ℕ) → Holds (InType s es) (section_end s n)
section-end-in s es n = if-holds (InType s es) (in_section s.texts s.sections) _ _ (λ e. tt) (λ e. tt)

declared-by-in : (s : State) (es : List ℕ) (outside : Outside) (k : Sources) (t : Stacked) (n : ℕ) (x : Lexed) (o : Option Declaration) → Holds (InType s es) (declared_by outside k t n x o)
declared-by-in s es outside k t n x None = tt
declared-by-in s es outside k t n x (Some says) = unless-holds (InType s es) _ _ (λ e. tt)

declared-in : (s : State) (es : List ℕ) (outside : Outside) (k : Sources) (t : Stacked) (n : ℕ) (x : Result Lexed Reason) → Holds (InType s es) (declared_lexed outside k t n x)
declared-in s es outside k t n (Err r) = tt
declared-in s es outside k t n (Ok x) = declared-by-in s es outside k t n x (declaration_at x.lexemes)

none-second : (a b : Option Reason) → option_or a b ≡ None → b ≡ None
none-second None b e = e
none-second (Some r) b e = absurd (cc)

not-open : (t : Bool) (rest : Option Reason) → (if t then Some reason.SectionOpen else rest) ≡ None → t ≡ false
not-open true rest e = absurd (cc)
not-open false rest e = refl

end-by-in : (outside : Outside) (s : State) (t : Stacked) (n : ℕ) (x : Result Lexed Reason) → in_document t.entities ≡ true → Holds (InType s t.entities) (end_by outside s t n x)
end-by-in outside s t n (Err r) e = tt
end-by-in outside s t n (Ok x) e =
    unless-holds (InType s t.entities) (end_reason outside s (with_spent t x.spent)) _
    (λ none. (e, not-open (in_section s.texts s.sections) _ (none-second (subset_unopened outside (sources_in s) (with_spent t x.spent)) _ none)))

subset-in : (outside : Outside) (s : State) (t : Stacked) (m : Mode) (k : TokenKind) (own : List ℕ) → Holds (InType s t.entities) (subset_piece outside s t m k own)
unfolding subset_piece
subset-in outside s t mode.Ign kind.Chars own = tt
subset-in outside s t m kind.Separators own = tt
subset-in outside s t m kind.Pi own = tt
subset-in outside s t m kind.Comment own = tt
subset-in outside s t m kind.ParameterRef own =
    let x = parameter_kind outside (sources_in s) t (referred_name s.context.doctype (drop 1 own)) in
    spent-holds (InType s t.entities) (length own) 0 x
    (λ k e. reference-in s t.entities k (subst IsReference e (parameter-reference outside (sources_in s) t (referred_name s.context.doctype (drop 1 own)))))
subset-in outside s t m kind.SectionStart own = section-in s t.entities outside s.context.doctype t m own
subset-in outside s t m kind.SectionEnd own = section-end-in s t.entities (length own)
subset-in outside s t m kind.Declaration own =
    if-holds (InType s t.entities) (has_keyword s.context.doctype.syntax.names (codes "SGML") own) _ _ (λ e. tt)
    (λ e. declared-in s t.entities outside (sources_in s) t (length own) (lexed construct.Declaration outside s.context.doctype t own))
subset-in outside s t m kind.SubsetEnd own =
    if-holds (InType s t.entities) (in_document t.entities) _ _
    (λ e. end-by-in outside s t (length own) (lexed construct.SubsetEnd outside s.context.doctype t own) e) (λ e. tt)
subset-in outside s t m _ own = tt

piece-in : (t : Bool) (outside : Outside) (s : State) (u : Stacked) (m : Mode) (k : TokenKind) (own : List ℕ) → t ≡ true → Holds (InType s u.entities) (piece_in t outside s u m k own)
piece-in true outside s u m k own e = subset-in outside s u m k own
piece-in false outside s u m k own e = never false e refl

token-in : (outside : Outside) (s : State) (t : Stacked) (bytes : List ℕ) (x : Scanned) → in_doctype s.stage t.entities ≡ true → Holds (InType s t.entities) (by_token outside s t bytes x)
token-in outside s t bytes (Token x) e = piece-in (in_doctype s.stage t.entities) outside s t (mode_at s t.entities) x.kind (take x.length bytes) e
token-in outside s t bytes NeedMore e = tt
token-in outside s t bytes (BadToken r) e = tt

-- IN EACH STAGE

abbrev pub KindAt : Stage → State → List ℕ → Kind → Type 0
KindAt BeforeSyntax s es k = is_before k ≡ true
KindAt AtBeginning s es k = is_first k ≡ true
KindAt BeforeDoctype s es k = is_before k ≡ true
KindAt InSubset s es k = InType s es k
KindAt AfterSubset s es k = InType s es k

stage-at : (outside : Outside) (s : State) (t : Stacked) (bytes : List ℕ) (g : Stage) → in_doctype s.stage t.entities ≡ true → Holds (KindAt g s t.entities) (by_stage outside s t bytes g)
stage-at outside s t bytes BeforeSyntax e = token-before outside s t bytes (token_here s t bytes)
stage-at outside s t bytes AtBeginning e = beginning-first (begins_sgml s.context.doctype.syntax.names bytes) outside s t bytes
stage-at outside s t bytes BeforeDoctype e = token-before outside s t bytes (token_here s t bytes)
stage-at outside s t bytes InSubset e = token-in outside s t bytes (token_here s t bytes) e
stage-at outside s t bytes AfterSubset e = token-in outside s t bytes (token_here s t bytes) e

-- whether a text other than the document may end, and the document
abbrev pub MayEnd : Stage → Bool → Type 0
MayEnd BeforeSyntax is_document = is_document ≡ true
MayEnd AtBeginning is_document = is_document ≡ true
MayEnd BeforeDoctype is_document = is_document ≡ true
MayEnd InSubset is_document = Unit {0}
MayEnd AfterSubset is_document = is_document ≡ false

entity-ended : (s : State) (es : List ℕ) (n : ℕ) (t : Bool) → in_section s.texts s.sections ≡ t → in_document es ≡ false → Holds (InType s es) (entity_end s n t)
entity-ended s es n true e f = tt
entity-ended s es n false e f = unless-holds (InType s es) (type_end n s.context.doctype) (sized 0 EntityEnd) (λ none. (f, e))

end-at : (s : State) (es : List ℕ) (n : ℕ) (g : Stage) (t : Bool) → in_document es ≡ t → MayEnd g t → (u : Bool) → in_section s.texts s.sections ≡ u
    → Holds (KindAt g s es) (if t then document_end g u else entity_end s n u)
end-at s es n BeforeSyntax true d m u e = tt
end-at s es n BeforeSyntax false d m u e = never false m refl
end-at s es n AtBeginning true d m u e = tt
end-at s es n AtBeginning false d m u e = never false m refl
end-at s es n BeforeDoctype true d m u e = tt
end-at s es n BeforeDoctype false d m u e = never false m refl
end-at s es n InSubset true d m u e = tt
end-at s es n InSubset false d m u e = entity-ended s es n u e d
end-at s es n AfterSubset true d m u e = never true refl m
end-at s es n AfterSubset false d m u e = entity-ended s es n u e d

in-at : (outside : Outside) (s : State) (t : Stacked) (n : ℕ) (bytes : List ℕ) → in_doctype s.stage t.entities ≡ true → (n == 0) ≡ in_document t.entities → MayEnd s.stage (in_document t.entities)
    → Holds (KindAt s.stage s t.entities) (spelled_in outside s t n bytes)
in-at outside s t n [] e f m =
    subst (λ u. Holds (KindAt s.stage s t.entities) (if u then document_end s.stage (in_section s.texts s.sections) else entity_end s n (in_section s.texts s.sections))) (sym f)
    (end-at s t.entities n s.stage (in_document t.entities) refl m (in_section s.texts s.sections) refl)
in-at outside s t n (b ∷ bytes) e f m =
    if-holds (KindAt s.stage s t.entities) (is_early_end s.stage b) (Err reason.NoDoctype) (by_stage outside s t (b ∷ bytes) s.stage) (λ h. tt) (λ h. stage-at outside s t (b ∷ bytes) s.stage e)

abbrev pub entities_of : List Rest → List ℕ
entities_of rs = map (λ (r : Rest). r.entity) rs

of-at : (outside : Outside) (s : State) (spent : ℕ) (rs : List Rest) → in_doctype s.stage (entities_of rs) ≡ true → MayEnd s.stage (in_document (entities_of rs))
    → Holds (KindAt s.stage s (entities_of rs)) (spelled_of outside s (record { entities = entities_of rs; spent = spent }) rs)
of-at outside s spent [] e m = tt
of-at outside s spent (r ∷ rs) e m = in-at outside s (record { entities = entities_of (r ∷ rs); spent = spent }) r.entity r.bytes e refl m

pub spelled-at : (outside : Outside) (s : State) (t : Standing) (p : Piece) → in_doctype s.stage (entities_of t.rests) ≡ true → MayEnd s.stage (in_document (entities_of t.rests))
    → spelled outside s t ≡ Ok p → KindAt s.stage s (entities_of t.rests) p.kind
unfolding spelled
spelled-at outside s t p e m h = holds-ok (KindAt s.stage s (entities_of t.rests)) (spelled_of outside s (stacked t) t.rests) p (of-at outside s t.spent t.rests e m) h

-- WHAT IS NOTED of it leaves it such a one

noted-before : (c : Context) (s : State) (k : Kind) → is_before k ≡ true → is_before (judged c (kind_noted s k)) ≡ true
unfolding kind_noted
noted-before c s (Sep b) e = refl
noted-before c s (Pi text n) e = refl
noted-before c s Comment e = refl
noted-before c s (Head head base) e = refl
noted-before c s _ e = never false e refl

noted-first : (c : Context) (s : State) (k : Kind) → is_first k ≡ true → is_first (judged c (kind_noted s k)) ≡ true
unfolding kind_noted
noted-first c s (Sgml syntax) e = refl
noted-first c s (Sep b) e = refl
noted-first c s (Pi text n) e = refl
noted-first c s Comment e = refl
noted-first c s (Head head base) e = refl
noted-first c s _ e = never false e refl

noted-in : (c : Context) (s : State) (es : List ℕ) (k : Kind) → InType s es k → InType s es (judged c (kind_noted s k))
unfolding kind_noted
noted-in c s es (Declare lexemes says base) h = tt
noted-in c s es (SubsetEnd reads) h = h
noted-in c s es (Sep b) h = tt
noted-in c s es (Ref n) h = tt
noted-in c s es EntityEnd h = h
noted-in c s es (SectionStart st) h = h
noted-in c s es SectionEnd h = tt
noted-in c s es (Skipped b) h = tt
noted-in c s es (Pi text e) h = tt
noted-in c s es Comment h = tt
noted-in c s es _ h = absurd h

pub noted-at : (g : Stage) (c : Context) (s : State) (es : List ℕ) (k : Kind) → KindAt g s es k → KindAt g s es (judged c (kind_noted s k))
noted-at BeforeSyntax c s es k h = noted-before c s k h
noted-at AtBeginning c s es k h = noted-first c s k h
noted-at BeforeDoctype c s es k h = noted-before c s k h
noted-at InSubset c s es k h = noted-in c s es k h
noted-at AfterSubset c s es k h = noted-in c s es k h

-- it is of the prolog
before-of : (k : Kind) → is_before k ≡ true → is_of_prolog k ≡ true
before-of (Sep b) e = refl
before-of (Pi text n) e = refl
before-of Comment e = refl
before-of (Head head base) e = refl
before-of _ e = never false e refl

first-of : (k : Kind) → is_first k ≡ true → is_of_prolog k ≡ true
first-of (Sgml syntax) e = refl
first-of (Sep b) e = refl
first-of (Pi text n) e = refl
first-of Comment e = refl
first-of (Head head base) e = refl
first-of _ e = never false e refl

in-of : (s : State) (es : List ℕ) (k : Kind) → InType s es k → is_of_prolog k ≡ true
in-of s es (Declare lexemes says base) h = refl
in-of s es (SubsetEnd reads) h = refl
in-of s es (Sep b) h = refl
in-of s es (Ref n) h = refl
in-of s es EntityEnd h = refl
in-of s es (SectionStart st) h = refl
in-of s es SectionEnd h = refl
in-of s es (Skipped b) h = refl
in-of s es (Pi text e) h = refl
in-of s es Comment h = refl
in-of s es _ h = absurd h

pub at-of : (g : Stage) (s : State) (es : List ℕ) (k : Kind) → KindAt g s es k → is_of_prolog k ≡ true
at-of BeforeSyntax s es k h = before-of k h
at-of AtBeginning s es k h = first-of k h
at-of BeforeDoctype s es k h = before-of k h
at-of InSubset s es k h = in-of s es k h
at-of AfterSubset s es k h = in-of s es k h
