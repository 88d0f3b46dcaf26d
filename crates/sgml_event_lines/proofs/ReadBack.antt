-- The lines of events are a file of lines.
use Rattle.std.proofs.Common.{◌≡◌, ℕ, ◌-◌, ◌&&◌, not, Bool, true, false, if◌then◌else◌, zero, suc, Option, None, Some, is_some, option_map, unwrap_or, List, [], ◌∷◌, ◌++◌, map, slice_get, refl, sym, ap, ◌∙◌, nat_lt, ◌⊎◌, inl, inr}
use Rattle.std.specs.Prelude.{option_and_then, Vec, Result, Ok, Err}
use Rattle.std.specs.List.{list_all}
use Rattle.std.specs.declared.alloc.Global.{Global}
use Rattle.std.proofs.lemmas.List.Folds.{list_all-append}
use Rattle.sgml_esis.specs.declared.line.Line.{Line as FileLine}
use Rattle.sgml_esis.specs.declared.read.LinesError.{LinesError}
use Rattle.sgml_esis.specs.declared.read.LinesError.TheVariants as errors
use Rattle.sgml_esis.specs.Grammar.{is_word, is_none, IsFile}
use Rattle.sgml_esis.specs.Spelling.{spell_lines, spell_escaped}
use Rattle.sgml_esis.specs.Outcome.{Reads, AreLines}
use Rattle.sgml_esis.proofs.Units.{guard}
use Rattle.sgml_esis.proofs.Tokens.{both}
use Rattle.sgml_esis.proofs.Files.{reading, both_ways}
use Rattle.sgml_text.specs.declared.unit.Unit.{Unit as AnyUnit}
use Rattle.sgml_text.specs.declared.unit.Unit.TheVariants as unit
use Rattle.sgml_entity.specs.declared.kinds.Space.TheVariants.{General}
use Rattle.sgml_entity.specs.declared.kinds.External.{External}
use Rattle.sgml_entity.specs.declared.kinds.Body.{Body}
use Rattle.sgml_entity.specs.declared.kinds.Body.TheVariants as body
use Rattle.sgml_entity.specs.declared.kinds.Entity.{Entity}
use Rattle.sgml_entity.specs.Entities.{entity_at}
use Rattle.sgml_attr.specs.declared.definition.Definition.{Definition}
use Rattle.sgml_attr.specs.declared.value.AttrValue.{AttrValue}
use Rattle.sgml_attr.specs.declared.value.AttrValue.TheVariants as value
use Rattle.sgml_dtd.specs.dtd_elements.Types.{ElementType, types}
use Rattle.sgml_dtd.specs.dtd_attlists.declared.list.AttributeList.{AttributeList}
use Rattle.sgml_dtd.specs.dtd_attlists.Tables.{list_of}
use Rattle.sgml_dtd.specs.dtd_attlists.Tables as tables
use Rattle.sgml_dtd.specs.Doctypes.{Doctype}
use Rattle.sgml_dtd.specs.Doctypes as doctypes
use Rattle.sgml_theory_reading.specs.Names.{Name, Text}
use Rattle.sgml_theory_reading.specs.Types.{entity, entity_number, entity_named, name_of_entity, notation, is_in}
use Rattle.sgml_theory_reading.specs.Lines.{Line, Shape, StartLine, FinishLine, CharsLine, DataRefLine, PiLine, ImpliedLine, CdataLine, NotationLine, EntityLine, TokenLine, DefineNotation, DefineExternal, DefineInternal, PublicLine, SystemLine, AppInfoLine, ConformingLine, Known, Defined, none_known, value_line, attribute_lines, lines_of, joined, joined_to, public_lines, system_lines, external_lines, optional_lines, define_notation, define_as, define_body, define_entity, define_entities, defined_for, with_definitions, appinfo_lines, conforming_lines}
use Rattle.sgml_events.specs.declared.event.Event.{Event}
use Rattle.sgml_events.specs.declared.event.Event.TheVariants as event
use Rattle.sgml_said.specs.Told.{name_in, name_at, definitions_in, definitions_at, attributes_with, said, said_data, all_said}
use Rattle.sgml_event_lines.specs.Shown.{all_shown, text_units}
use Rattle.sgml_event_lines.specs.ReadBack.{body_words, list_words, entity_words, HasWords, is_some_type, is_some_entity, value_words, event_words, IsRead, IsReadBack, AreReadBack}
use Rattle.sgml_event_lines.proofs.Joining.{Other, kind, data_front, behind_front, joined_front}
use Rattle.sgml_event_lines.proofs.Standing.{lines_append}
use Rattle.sgml_event_lines.proofs.Written.{are_words, is_written, line_form, plain_text}

abbrev pub all_written : List Line → Type 0
all_written ls = list_all is_written ls ≡ true

and : (a b : Bool) → a ≡ true → b ≡ true → (a && b) ≡ true
and a b h k = rw h k

pub all_append : (xs ys : List Line) → all_written xs → all_written ys → all_written (xs ++ ys)
all_append xs ys h k = list_all-append is_written xs ys ∙ and (list_all is_written xs) (list_all is_written ys) h k

-- WHAT STANDS AT A NUMBER
all_at : {X : Type 0} (p : X → Bool) (xs : List X) (i : ℕ) (x : X) → list_all p xs ≡ true → slice_get xs i ≡ Some x → p x ≡ true
all_at p [] i x h is = absurd (cc)
all_at p (y ∷ ys) zero x h is = let same : y ≡ x = cc in ap p (sym same) ∙ (both (p y) (list_all p ys) h).0
all_at p (y ∷ ys) (suc i) x h is = all_at p ys i x (both (p y) (list_all p ys) h).1 is

entity_word : (es : List Entity) (n : ℕ) (x : Entity) → list_all entity_words es ≡ true → entity_at es n ≡ Some x → entity_words x ≡ true
entity_word es n x h is =
    let p = guard (nat_lt n 2) x (slice_get es (n - 2)) is in
    all_at entity_words es (n - 2) x h p.1

name_word : (o : Option Entity) → ((x : Entity) → o ≡ Some x → entity_words x ≡ true) → is_some o ≡ true → is_word (unwrap_or (option_map (λ (e : Entity). e.name) o) []) ≡ true
name_word None f h = absurd (cc)
name_word (Some x) f h = (both (is_word x.name) (body_words x.body) (f x refl)).0

pub entity_name_word : (d : Doctype) (n : ℕ) → HasWords d → is_some_entity d n ≡ true → is_word (name_of_entity d n) ≡ true
unfolding entity
entity_name_word d n w h = name_word (entity_at d.entities n) (λ x is. entity_word d.entities n x w.entities is) h

entity_names_words : (d : Doctype) (ns : List ℕ) → HasWords d → list_all (is_some_entity d) ns ≡ true → list_all is_word (map (name_of_entity d) ns) ≡ true
entity_names_words d [] w h = refl
entity_names_words d (n ∷ ns) w h =
    let p = both (is_some_entity d n) (list_all (is_some_entity d) ns) h in
    and (is_word (name_of_entity d n)) (list_all is_word (map (name_of_entity d) ns)) (entity_name_word d n w p.0) (entity_names_words d ns w p.1)

type_word : (o : Option ElementType) → ((t : ElementType) → o ≡ Some t → is_word t.name ≡ true) → is_some o ≡ true → is_word (name_in o) ≡ true
type_word None f h = absurd (cc)
type_word (Some t) f h = f t refl

element_word : (d : Doctype) (n : ℕ) → HasWords d → is_some_type d n ≡ true → is_word (name_at d n) ≡ true
element_word d n w h = type_word (slice_get (types d.elements) n) (λ t is. all_at (λ (x : ElementType). is_word x.name) (types d.elements) n t w.elements is) h

abbrev pub words_defined : List Definition → Type 0
words_defined xs = list_all (λ (x : Definition). is_word x.name) xs ≡ true

words_of_list : (o : Option AttributeList) → ((l : AttributeList) → o ≡ Some l → list_words l ≡ true) → words_defined (tables.definitions_in o)
words_of_list None f = refl
words_of_list (Some l) f = f l refl

pub words_of_lists : (ls : List AttributeList) (o : Option ℕ) → list_all list_words ls ≡ true → words_defined (doctypes.definitions_at ls o)
words_of_lists ls None h = refl
words_of_lists ls (Some n) h = words_of_list (slice_get ls n) (λ l is. all_at list_words ls n l h is)

words_of_type : (d : Doctype) (o : Option ElementType) → HasWords d → words_defined (definitions_in d o)
words_of_type d None w = refl
words_of_type d (Some t) w = words_of_lists d.lists (list_of d.lists t.name) w.lists

-- DEFINITIONS
public_written : (o : Option Text) → all_written (public_lines o)
public_written None = refl
public_written (Some t) = refl

system_written : (o : Option Text) → all_written (system_lines o)
system_written None = refl
system_written (Some t) = refl

external_written : (e : External) → all_written (external_lines e)
external_written e = all_append (public_lines e.public) (system_lines e.system) (public_written e.public) (system_written e.system)

optional_written : (o : Option External) → all_written (optional_lines o)
optional_written None = refl
optional_written (Some e) = external_written e

when : (t : Bool) (x y : Defined) → all_written x.lines → all_written y.lines → all_written (if t then x else y).lines
when true x y h k = h
when false x y h k = k

pub one_written : (l : Line) → is_written l ≡ true → all_written (l ∷ [])
one_written l h = and (is_written l) true h refl

notation_written : (d : Doctype) (known : Known) (n : Name) → is_word n ≡ true → all_written (define_notation d known n).lines
notation_written d known n h =
    when (is_in n known.notations) (record { lines = []; known = known })
    (record { lines = optional_lines (notation d n) ++ (DefineNotation n ∷ []); known = record { notations = n ∷ known.notations; entities = known.entities } })
    refl (all_append (optional_lines (notation d n)) (DefineNotation n ∷ []) (optional_written (notation d n)) (one_written (DefineNotation n) h))

as_written : (d : Doctype) (known : Known) (e : Name) (b : Body) → is_word e ≡ true → body_words b ≡ true → all_written (define_as d known e b).lines
as_written d known e (body.Sgml t) h k = refl
as_written d known e (body.Cdata t) h k = and (is_word e && true) true (and (is_word e) true h refl) refl
as_written d known e (body.Sdata t) h k = and (is_word e && true) true (and (is_word e) true h refl) refl
as_written d known e (body.Pi t) h k = refl
as_written d known e (body.External x) h k = refl
as_written d known e (body.ExternalData kind x n) h k =
    all_append (define_notation d known n).lines (external_lines x ++ (DefineExternal e kind n ∷ [])) (notation_written d known n k)
    (all_append (external_lines x) (DefineExternal e kind n ∷ []) (external_written x) (one_written (DefineExternal e kind n) (and (is_word e) (is_word n) h k)))

body_written : (d : Doctype) (known : Known) (e : Name) (o : Option Entity) → is_word e ≡ true → ((x : Entity) → o ≡ Some x → entity_words x ≡ true) → all_written (define_body d known e o).lines
body_written d known e None h f = refl
body_written d known e (Some x) h f = as_written d known e x.body h (both (is_word x.name) (body_words x.body) (f x refl)).1

named_word : (d : Doctype) (o : Option ℕ) (x : Entity) → HasWords d → option_and_then (entity d) o ≡ Some x → entity_words x ≡ true
unfolding entity
named_word d None x w is = absurd (cc)
named_word d (Some n) x w is = entity_word d.entities n x w.entities is

entity_written : (d : Doctype) (known : Known) (e : Name) → HasWords d → is_word e ≡ true → all_written (define_entity d known e).lines
entity_written d known e w h =
    when (is_in e known.entities) (record { lines = []; known = known }) (define_body d known e (entity_named d General e))
    refl (body_written d known e (entity_named d General e) h (λ x is. named_word d (entity_number d General e) x w is))

entities_written : (d : Doctype) (known : Known) (es : List Name) → HasWords d → list_all is_word es ≡ true → all_written (define_entities d known es).lines
entities_written d known [] w h = refl
entities_written d known (e ∷ es) w h =
    let p = both (is_word e) (list_all is_word es) h in
    all_append (define_entity d known e).lines (define_entities d (define_entity d known e).known es).lines (entity_written d known e w p.0) (entities_written d (define_entity d known e).known es w p.1)

some_words : (ns : List Name) → are_words ns ≡ true → list_all is_word ns ≡ true
some_words ns h = (both (not (is_none ns)) (list_all is_word ns) h).1

for_written : (d : Doctype) (known : Known) (l : Line) → HasWords d → is_written l ≡ true → all_written (defined_for d known l).lines
for_written d known (StartLine n) w h = refl
for_written d known (FinishLine n) w h = refl
for_written d known (CharsLine s) w h = refl
for_written d known (DataRefLine e) w h = entity_written d known e w h
for_written d known (PiLine t) w h = refl
for_written d known (ImpliedLine a) w h = refl
for_written d known (CdataLine a s) w h = refl
for_written d known (NotationLine a n) w h = notation_written d known n (both (is_word a) (is_word n) h).1
for_written d known (EntityLine a es) w h = entities_written d known es w (some_words es (both (is_word a) (are_words es) h).1)
for_written d known (TokenLine a ts) w h = refl
for_written d known (DefineNotation n) w h = refl
for_written d known (DefineExternal e k n) w h = refl
for_written d known (DefineInternal e k t) w h = refl
for_written d known (PublicLine t) w h = refl
for_written d known (SystemLine t) w h = refl
for_written d known (AppInfoLine t) w h = refl
for_written d known ConformingLine w h = refl

definitions_written : (d : Doctype) (known : Known) (ls : List Line) → HasWords d → all_written ls → all_written (with_definitions d known ls)
definitions_written d known [] w h = refl
definitions_written d known (l ∷ ls) w h =
    let p = both (is_written l) (list_all is_written ls) h in
    let first = defined_for d known l in
    all_append first.lines (l ∷ with_definitions d first.known ls) (for_written d known l w p.0) (and (is_written l) (list_all is_written (with_definitions d first.known ls)) p.0 (definitions_written d first.known ls w p.1))

-- JOINED LINES
behind_written : (js : List Line) → all_written js → all_written (behind_front js)
behind_written [] h = refl
behind_written (CharsLine s ∷ js) h = (both (not (is_none s)) (list_all is_written js) h).1
behind_written (StartLine n ∷ js) h = h
behind_written (FinishLine n ∷ js) h = h
behind_written (DataRefLine n ∷ js) h = h
behind_written (PiLine t ∷ js) h = h
behind_written (ImpliedLine a ∷ js) h = h
behind_written (CdataLine a s ∷ js) h = h
behind_written (NotationLine a n ∷ js) h = h
behind_written (EntityLine a es ∷ js) h = h
behind_written (TokenLine a ts ∷ js) h = h
behind_written (DefineNotation n ∷ js) h = h
behind_written (DefineExternal x k n ∷ js) h = h
behind_written (DefineInternal x k t ∷ js) h = h
behind_written (PublicLine t ∷ js) h = h
behind_written (SystemLine t ∷ js) h = h
behind_written (AppInfoLine t ∷ js) h = h
behind_written (ConformingLine ∷ js) h = h

some_more : (us vs : List Shape) → not (is_none us) ≡ true → not (is_none (us ++ vs)) ≡ true
some_more [] vs h = absurd (cc)
some_more (u ∷ us) vs h = refl

one_joined_written : (d : Doctype) (l : Line) (js : List Line) → ((shapes : List Shape) × (l ≡ CharsLine shapes)) ⊎ Other d l → is_written l ≡ true → all_written js → all_written (joined_to l js)
one_joined_written d l js (inl is) h k =
    let us : List Shape = is.0 in
    let is_data : is_written (CharsLine us) ≡ true = ap is_written (sym is.1) ∙ h in
    let whole : all_written (CharsLine (us ++ data_front js) ∷ behind_front js) = and (not (is_none (us ++ data_front js))) (list_all is_written (behind_front js)) (some_more us (data_front js) is_data) (behind_written js k) in
    ap (λ v. list_all is_written (joined_to v js)) is.1 ∙ ap (list_all is_written) (joined_front us js) ∙ whole
one_joined_written d l js (inr o) h k = ap (list_all is_written) (o.joins js) ∙ and (is_written l) (list_all is_written js) h k

joined_written : (d : Doctype) (ls : List Line) → all_written ls → all_written (joined ls)
joined_written d [] h = refl
joined_written d (l ∷ ls) h =
    let p = both (is_written l) (list_all is_written ls) h in
    one_joined_written d l (joined ls) (kind d l) p.0 (joined_written d ls p.1)

-- EVENTS
pub value_written : (d : Doctype) (a : Name) (v : AttrValue) → HasWords d → is_word a ≡ true → value_words d v ≡ true → is_written (value_line d a v) ≡ true
value_written d a value.Implied w h k = h
value_written d a (value.Cdata us) w h k = h
value_written d a (value.Notation n) w h k = and (is_word a) (is_word n) h k
value_written d a (value.Entities []) w h k = absurd (cc)
value_written d a (value.Entities (e ∷ es)) w h k = and (is_word a) (are_words (map (name_of_entity d) (e ∷ es))) h (entity_names_words d (e ∷ es) w k)
value_written d a (value.Tokens ts) w h k = and (is_word a) (are_words ts) h k

attributes_written : (d : Doctype) (xs : List Definition) (vs : List AttrValue) → HasWords d → words_defined xs → list_all (value_words d) vs ≡ true → all_written (attribute_lines d (attributes_with xs vs))
attributes_written d [] vs w h k = refl
attributes_written d (x ∷ xs) [] w h k = refl
attributes_written d (x ∷ xs) (v ∷ vs) w h k =
    let p = both (is_word x.name) (list_all (λ (y : Definition). is_word y.name) xs) h in
    let q = both (value_words d v) (list_all (value_words d) vs) k in
    and (is_written (value_line d x.name v)) (list_all is_written (attribute_lines d (attributes_with xs vs))) (value_written d x.name v w p.0 q.0) (attributes_written d xs vs w p.1 q.1)

data_written : (d : Doctype) (us : List AnyUnit) → all_written (lines_of d (said_data d us))
data_written d [] = refl
data_written d (unit.Byte b ∷ us) = data_written d us
data_written d (unit.Coded b ∷ us) = data_written d us
data_written d (unit.Sdata e ∷ us) = data_written d us

lone : (ls : List Line) → all_written ls → all_written (ls ++ [])
lone ls h = all_append ls [] h refl

event_written : (d : Doctype) (e : Event) → HasWords d → event_words d e ≡ true → all_written (lines_of d (said d e))
event_written d (event.Start element place values) w h =
    let p = both (is_some_type d element) (list_all (value_words d) values) h in
    let attributes : List Line = attribute_lines d (attributes_with (definitions_at d element) values) in
    let are : all_written attributes = attributes_written d (definitions_at d element) values w (words_of_type d (slice_get (types d.elements) element) w) p.1 in
    lone (attributes ++ (StartLine (name_at d element) ∷ [])) (all_append attributes (StartLine (name_at d element) ∷ []) are (one_written (StartLine (name_at d element)) (element_word d element w p.0)))
event_written d (event.End element) w h = one_written (FinishLine (name_at d element)) (element_word d element w h)
event_written d (event.Chars us) w h = data_written d us
event_written d (event.Pi text entity place) w h = refl
event_written d (event.DataRef e) w h = one_written (DataRefLine (name_of_entity d e)) (entity_name_word d e w h)

events_written : (d : Doctype) (es : List Event) → HasWords d → list_all (event_words d) es ≡ true → all_written (lines_of d (all_said d es))
events_written d [] w h = refl
events_written d (e ∷ es) w h =
    let p = both (event_words d e) (list_all (event_words d) es) h in
    ap (list_all is_written) (lines_append d (said d e) (all_said d es)) ∙ all_append (lines_of d (said d e)) (lines_of d (all_said d es)) (event_written d e w p.0) (events_written d es w p.1)

-- THE WHOLE FILE
are_lines : (ls : List Line) (c first : Bool) → all_written ls → AreLines first (all_shown (ls ++ conforming_lines c))
are_lines [] true first h = ((67 ∷ [], (refl, refl)), tt)
are_lines [] false first h = tt
are_lines (l ∷ ls) c first h =
    let p = both (is_written l) (list_all is_written ls) h in
    (line_form first (is_none (all_shown (ls ++ conforming_lines c))) l p.0, are_lines ls c false p.1)

are_all_lines : (info : Option Text) (ls : List Line) (c : Bool) → all_written ls → AreLines true (all_shown (appinfo_lines info ++ (ls ++ conforming_lines c)))
are_all_lines None ls c h = are_lines ls c true h
are_all_lines (Some text) ls c h =
    let tail : List ℕ = spell_escaped (text_units text) in
    ((35 ∷ tail, (refl, (tail, plain_text text, refl))), are_lines ls c false h)

answered : (ls : List FileLine) (bytes : List ℕ) (answer : Result (Vec FileLine Global) LinesError) → IsFile ls bytes → Reads bytes answer → IsRead ls answer
answered ls bytes (Ok v) file reads = reading.file v.items ls bytes reads file
answered ls bytes (Err (errors.BadLine n)) file reads = reading.apart ls n bytes file reads
answered ls bytes (Err errors.Memory) file reads = tt

-- lines that may stand anywhere, with the definitions of what they name
pub lines_are_read_back : (d : Doctype) (ls : List Line) (conforming : Bool) → HasWords d → all_written ls
    → IsReadBack (all_shown (appinfo_lines d.syntax.appinfo ++ (with_definitions d none_known (joined ls) ++ conforming_lines conforming)))
lines_are_read_back d ls conforming w h =
    let defined = with_definitions d none_known (joined ls) in
    let shown = all_shown (appinfo_lines d.syntax.appinfo ++ (defined ++ conforming_lines conforming)) in
    let file : IsFile shown (spell_lines shown) = both_ways.read shown (are_all_lines d.syntax.appinfo defined conforming (definitions_written d none_known (joined ls) w (joined_written d ls h))) in
    record { file = file; read = λ answer reads. answered shown (spell_lines shown) answer file reads }

pub are_read_back : AreReadBack
are_read_back d es conforming w h = lines_are_read_back d (lines_of d (all_said d es)) conforming w (events_written d es w h)
