-- Of what is spelled only a declaration in a document type adds names, and they are words. The number of an external
-- data entity is that of an entity that is declared.
use Rattle.std.proofs.Common.{◌≡◌, ℕ, Bool, true, false, List, Option, None, Some, is_some, option_map, Result, Ok, Err, length, nat_lt, refl, sym, subst, inl, inr, if◌then◌else◌}
use Rattle.sgml_event_lines.specs.text.declared.reason.Reason.{Reason}
use Rattle.sgml_event_lines.specs.text.declared.reason.Reason.TheVariants as reason
use Rattle.sgml_event_lines.specs.entity.declared.kinds.Body.{Body}
use Rattle.sgml_event_lines.specs.entity.declared.kinds.Body.TheVariants as body
use Rattle.sgml_event_lines.specs.entity.declared.kinds.Entity.{Entity}
use Rattle.sgml_event_lines.specs.entity.declared.kinds.Space.TheVariants as space
use Rattle.sgml_event_lines.specs.decl_parts.declared.ends.Construct.TheVariants as construct
use Rattle.sgml_event_lines.specs.decl_lexemes.declared.lexeme.Lexeme.{Lexeme}
use Rattle.sgml_event_lines.specs.decl_forms.declared.declaration.Declaration.{Declaration}
use Rattle.sgml_event_lines.specs.dtd.Doctypes.{Doctype}
use Rattle.sgml_event_lines.specs.theory_reading.Names.{Name}
use Rattle.sgml_event_lines.specs.theory_reading.Types.{entity, entity_number, body_of}
use Rattle.sgml_event_lines.specs.theory_reading.Pieces.{Piece, Kind, Declare, ShortRef, Meaning, ToText, ToExternalData, ToInstruction, DataRef}
use Rattle.sgml_event_lines.specs.theory_reading.Unread.{Outside, Sources, Standing}
use Rattle.sgml_event_lines.specs.theory_reading.State.{State, sources_in}
use Rattle.sgml_event_lines.specs.theory_reading.Characters.{ordinary}
use Rattle.sgml_theory_kinds.specs.theory_spelling.Stacked.{Stacked, stacked}
use Rattle.sgml_theory_kinds.specs.theory_spelling.References.{missing, unopened, unless, general_meaning, meaning_of_body, meaning_of_number, meaning_of}
use Rattle.sgml_theory_kinds.specs.theory_spelling.Spelled.{spelled}
use Rattle.sgml_theory_kinds.specs.Kinds.{IsDeclared, HasItsPlace}
use Rattle.sgml_theory_kinds.proofs.Placed.{spelled-pieces-have-their-places}
use Rattle.sgml_theory_words.proofs.Lexed.{IsLexed, lexed-worded}
use Rattle.sgml_theory_words.proofs.Says.{SaysWords, Found, declaration-found}

-- in a document type
abbrev pub MeansEntity : Doctype → Meaning → Type 0
MeansEntity d (ToExternalData e) = is_some (entity d e) ≡ true
MeansEntity d _ = Unit {0}

abbrev pub AddsWords : Doctype → Kind → Type 0
AddsWords d (Declare lexemes says base) = SaysWords says
AddsWords d (DataRef e) = is_some (entity d e) ≡ true
AddsWords d (ShortRef string m) = MeansEntity d m
AddsWords d _ = Unit {0}

-- WHAT A REFERENCE MEANS

abbrev Means : Doctype → Result Meaning Reason → Type 0
Means d (Ok m) = MeansEntity d m
Means d (Err r) = Unit {0}

unless-means : (here : Doctype) (o : Option Reason) (n : ℕ) → Means here (unless o (ToText n))
unless-means here (Some r) n = tt
unless-means here None n = tt

if-means : (here : Doctype) (t : Bool) (x y : Result Meaning Reason) → Means here x → Means here y → Means here (if t then x else y)
if-means here true x y p q = p
if-means here false x y p q = q

general-means : (outside : Outside) (k : Sources) (t : Stacked) (n : ℕ) (b : Body) → is_some (entity k.doctype n) ≡ true → Means k.doctype (general_meaning outside k t n b)
general-means outside k t n (body.Sgml text) h = unless-means k.doctype (unopened outside k t n None) n
general-means outside k t n (body.External external) h = unless-means k.doctype (unopened outside k t n (missing outside k n)) n
general-means outside k t n (body.Cdata text) h = tt
general-means outside k t n (body.Sdata text) h = tt
general-means outside k t n (body.Pi text) h =
    if-means k.doctype (nat_lt k.doctype.syntax.quantities.pilen (length text)) (Err reason.PiLength) (Ok (ToInstruction n text)) tt tt
general-means outside k t n (body.ExternalData kind external notation) h = h

has-body : (o : Option Entity) (b : Body) → option_map (λ (e : Entity). e.body) o ≡ Some b → is_some o ≡ true
has-body (Some e) b h = refl
has-body None b h = absurd (cc)

body-means : (outside : Outside) (k : Sources) (t : Stacked) (n : ℕ) (o : Option Body) → body_of k.doctype n ≡ o → Means k.doctype (meaning_of_body outside k t n o)
body-means outside k t n None h = tt
body-means outside k t n (Some b) h = general-means outside k t n b (has-body (entity k.doctype n) b h)

number-means : (outside : Outside) (k : Sources) (t : Stacked) (o : Option ℕ) → Means k.doctype (meaning_of_number outside k t o)
number-means outside k t None = tt
number-means outside k t (Some n) = body-means outside k t n (body_of k.doctype n) refl

name-means : (outside : Outside) (k : Sources) (t : Stacked) (n : Name) → Means k.doctype (meaning_of outside k t n)
unfolding meaning_of
name-means outside k t n = number-means outside k t (entity_number k.doctype space.General n)

meant-means : (outside : Outside) (k : Sources) (t : Stacked) (n : Name) (m : Meaning) → meaning_of outside k t n ≡ Ok m → MeansEntity k.doctype m
meant-means outside k t n m e = subst (Means k.doctype) e (name-means outside k t n)

bytes-mean : (d : Doctype) (s : State) (string : List ℕ) → MeansEntity d (ordinary s string)
unfolding ordinary
bytes-mean d s string = tt

-- WHAT A DECLARATION SAYS

declared-words : (outside : Outside) (s : State) (t : Stacked) (lexemes : List Lexeme) (says : Declaration) → IsDeclared outside s t lexemes says → SaysWords says
declared-words outside s t lexemes says h =
    let worded = subst IsLexed h.read (lexed-worded construct.Declaration outside s.context.doctype t h.own) in
    subst (Found SaysWords) h.says_so (declaration-found lexemes worded)

-- WHAT IS SPELLED

placed-adds : (outside : Outside) (s : State) (t : Stacked) (k : Kind) → HasItsPlace outside s t k → AddsWords s.context.doctype k
placed-adds outside s t (Declare lexemes says base) h = declared-words outside s t lexemes says h
placed-adds outside s t (DataRef e) h = meant-means outside (sources_in s) t h.0 (ToExternalData e) h.1
placed-adds outside s t (ShortRef string m) (inl e) = subst (MeansEntity s.context.doctype) (sym e) (bytes-mean s.context.doctype s string)
placed-adds outside s t (ShortRef string m) (inr h) = meant-means outside (sources_in s) t h.0 m h.1
placed-adds outside s t _ h = tt

pub spelled-adds : (outside : Outside) (s : State) (t : Standing) (p : Piece) → spelled outside s t ≡ Ok p → AddsWords s.context.doctype p.kind
spelled-adds outside s t p e = placed-adds outside s (stacked t) p.kind (spelled-pieces-have-their-places outside s t p e)
