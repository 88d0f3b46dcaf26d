-- What is said of what was read is in words, and so its lines are a file of lines.
use Rattle.std.proofs.Common.{◌≡◌, ℕ, zero, suc, Bool, true, false, ◌&&◌, inl, inr, List, [], ◌∷◌, ◌++◌, Option, None, Some, is_some, option_and_then, unwrap_or, slice_get, map, refl, sym, ap, subst, if◌then◌else◌}
use Rattle.std.specs.List.{list_all}
use Rattle.std.specs.Option.{option_or}
use Rattle.sgml_event_lines.specs.text.declared.reason.Reason.{Reason}
use Rattle.sgml_event_lines.specs.text.declared.reason.Reason.TheVariants.{Undefined}
use Rattle.sgml_event_lines.specs.esis.Grammar.{is_word}
use Rattle.sgml_event_lines.proofs.esis.Tokens.{both}
use Rattle.sgml_event_lines.specs.records.Items.{Item, RecordEnd, RecordStart, Data as DataItem, Subelement, Markup}
use Rattle.sgml_event_lines.specs.entity.declared.kinds.Body.{Body}
use Rattle.sgml_event_lines.specs.entity.declared.kinds.Body.TheVariants as body
use Rattle.sgml_event_lines.specs.dtd_elements.Types.{ElementType}
use Rattle.sgml_event_lines.specs.dtd_elements.Types as elements
use Rattle.sgml_event_lines.specs.dtd.Doctypes.{Doctype}
use Rattle.sgml_event_lines.specs.theory_reading.Names.{Name, Text}
use Rattle.sgml_event_lines.specs.theory_reading.Types.{element_type, is_declared, undeclared, type_of, entity, body_of}
use Rattle.sgml_event_lines.specs.theory_reading.Pieces.{Piece, Kind, Start, End, Char, Data, DataRef, Pi, ShortRef, Meaning, Ordinary, ToText, ToData, ToExternalData, ToInstruction, History}
use Rattle.sgml_event_lines.specs.theory_reading.Facets.{declares, specified, items_of, sub_or_mark, start_item, byte_item}
use Rattle.sgml_event_lines.specs.theory_reading.Nest.{types, nest}
use Rattle.sgml_event_lines.specs.theory_reading.Context.{Context, context}
use Rattle.sgml_event_lines.specs.theory_reading.Omission.{omitted_end, omitted_start, MayStand}
use Rattle.sgml_event_lines.specs.theory_reading.Runs.{LongestRun, after_run}
use Rattle.sgml_event_lines.specs.theory_reading.Unread.{Outside, Input, opening, standing}
use Rattle.sgml_event_lines.specs.theory_reading.State.{State, state}
use Rattle.sgml_event_lines.specs.theory_reading.Currents.{currents}
use Rattle.sgml_event_lines.specs.theory_reading.Characters.{kind_noted, piece_noted}
use Rattle.sgml_event_lines.specs.theory_reading.Reads.{Move, Reads, ReadOn, undefined, refusal, judged, moved_on, after_moves, read_by, ends_in_finish}
use Rattle.sgml_event_lines.specs.theory_reading.Events.{Started, Ended, Byte, Shown, ended_at_once, body_events, shown_bytes, shown_byte, silent, shown_data, shown_external, shown_instruction, shown_meaning, shown, items_in, told, events}
use Rattle.sgml_event_lines.specs.theory_reading.Lines.{lines}
use Rattle.sgml_event_lines.proofs.theory_reading.ElementNumbers.{stands-at}
use Rattle.sgml_theory_kinds.specs.theory_spelling.Spelled.{forms}
use Rattle.sgml_theory_kinds.specs.theory_spelling.Attributes.{valued}
use Rattle.sgml_theory_ending.proofs.Falling.{move-spelled, run-same}
use Rattle.sgml_event_lines.specs.ReadBack.{HasWords, is_some_entity}
use Rattle.sgml_theory_words.specs.Words.{LinesAreAFile}
use Rattle.sgml_theory_words.proofs.Bytes.{and}
use Rattle.sgml_theory_words.proofs.Spelled.{MeansEntity, AddsWords, spelled-adds}
use Rattle.sgml_theory_words.proofs.Reading.{noted-adds, move-words, start-words}
use Rattle.sgml_theory_words.proofs.Said.{all_said_words, shown_words, attribute_words, all-stay, all-append, told-words}
use Rattle.sgml_theory_words.proofs.Values.{CurrentsWords, currents-words, valued-words}
use Rattle.sgml_theory_words.proofs.Filed.{said-is-read-back}

-- A DECLARED ELEMENT TYPE has a word for its name

all-get : (ts : List ElementType) (i : ℕ) (t : ElementType) → list_all (λ (x : ElementType). is_word x.name) ts ≡ true → slice_get ts i ≡ Some t → is_word t.name ≡ true
all-get [] i t h e = absurd (cc)
all-get (x ∷ ts) zero t h e = let same : x ≡ t = cc in subst (λ (y : ElementType). is_word y.name ≡ true) same (both (is_word x.name) _ h).0
all-get (x ∷ ts) (suc i) t h e = all-get ts i t (both (is_word x.name) (list_all (λ (y : ElementType). is_word y.name) ts) h).1 e

number-word : (d : Doctype) (n : Name) (o : Option ℕ) → HasWords d → elements.number_of d.elements n ≡ o → is_some (option_and_then (λ i. slice_get (elements.types d.elements) i) o) ≡ true → is_word n ≡ true
number-word d n None w e h = absurd (cc)
number-word d n (Some i) w e h =
    let at = stands-at d.elements n i e in
    subst (λ (m : Name). is_word m ≡ true) at.name (all-get (elements.types d.elements) i at.type w.elements at.stands)

declared-word : (d : Doctype) (n : Name) → HasWords d → is_declared d n ≡ true → is_word n ≡ true
unfolding element_type
declared-word d n w h = number-word d n (elements.number_of d.elements n) w refl h

-- a type that stands for one without a declaration omits no end-tag
omits-declared : (o : Option ElementType) → (unwrap_or o undeclared).omits.end ≡ true → is_some o ≡ true
omits-declared None h = absurd (cc)
omits-declared (Some t) h = refl

omits-word : (d : Doctype) (n : Name) → HasWords d → (type_of d n).omits.end ≡ true → is_word n ≡ true
unfolding type_of
omits-word d n w h = declared-word d n w (omits-declared (element_type d n) h)

-- WHAT A PIECE NAMES
abbrev Names : Doctype → Kind → Type 0
Names d (Start n specifications how proper at_once) = is_word n ≡ true
Names d (End n how) = is_word n ≡ true
Names d (DataRef e) = is_some (entity d e) ≡ true
Names d (ShortRef string m) = MeansEntity d m
Names d _ = Unit {0}

-- WHAT IT SHOWS
abbrev AllShown : Doctype → List Shown → Type 0
AllShown d ss = list_all (shown_words d) ss ≡ true

silent-words : (d : Doctype) (is : List Item) → AllShown d (silent is)
silent-words d [] = refl
silent-words d (i ∷ is) = silent-words d is

byte-words : (d : Doctype) (b : ℕ) (i : Item) → shown_words d (shown_byte b i) ≡ true
byte-words d b RecordEnd = refl
byte-words d b RecordStart = refl
byte-words d b DataItem = refl
byte-words d b Subelement = refl
byte-words d b Markup = refl

bytes-words : (d : Doctype) (bs : List ℕ) → AllShown d (shown_bytes bs)
bytes-words d [] = refl
bytes-words d (b ∷ bs) = and (shown_words d (shown_byte b (byte_item b))) (list_all (shown_words d) (shown_bytes bs)) (byte-words d b (byte_item b)) (bytes-words d bs)

one-shown : (d : Doctype) (s : Shown) → shown_words d s ≡ true → AllShown d (s ∷ [])
one-shown d s h = and (shown_words d s) true h refl

behind-silent : (d : Doctype) (is : List Item) (s : Shown) → shown_words d s ≡ true → AllShown d (silent is ++ s ∷ [])
behind-silent d [] s h = one-shown d s h
behind-silent d (i ∷ is) s h = behind-silent d is s h

text-words : (d : Doctype) (bs : Text) → all_said_words d (map (λ b. Byte b) bs) ≡ true
text-words d [] = refl
text-words d (b ∷ bs) = text-words d bs

body-events-words : (d : Doctype) (e : ℕ) (o : Option Body) → all_said_words d (body_events e o) ≡ true
body-events-words d e (Some (body.Cdata text)) = text-words d text
body-events-words d e (Some (body.Sdata text)) = refl
body-events-words d e _ = refl

external-words : (d : Doctype) (e : ℕ) → is_some (entity d e) ≡ true → shown_words d (shown_external e) ≡ true
unfolding entity
external-words d e h = and (is_some_entity d e) true h refl

meaning-words : (d : Doctype) (string : List ℕ) (m : Meaning) → MeansEntity d m → AllShown d (shown_meaning d string m)
meaning-words d string (Ordinary true content) h = bytes-words d string
meaning-words d string (Ordinary false content) h = refl
meaning-words d string (ToText e) h = silent-words d (start_item string)
meaning-words d string (ToData e) h = behind-silent d (start_item string) (shown_data d e) (body-events-words d e (body_of d e))
meaning-words d string (ToExternalData e) h = behind-silent d (start_item string) (shown_external e) (external-words d e h)
meaning-words d string (ToInstruction e text) h = behind-silent d (start_item string) (shown_instruction text (Some e)) refl

ended-words : (d : Doctype) (n : Name) (b : Bool) → is_word n ≡ true → all_said_words d (ended_at_once n b) ≡ true
ended-words d n true h = and (is_word n) true h refl
ended-words d n false h = refl

piece-words : (s : State) (k : Kind) → HasWords s.context.doctype → CurrentsWords s.context.doctype s.currents → Names s.context.doctype k
    → AllShown s.context.doctype (shown forms s k)
unfolding shown
piece-words s (Start n specifications how proper at_once) w c h =
    let d = s.context.doctype in
    let attributes = valued s (Start n specifications how proper at_once) in
    let started : (is_word n && list_all (attribute_words d) attributes) ≡ true =
    and (is_word n) (list_all (attribute_words d) attributes) h (valued-words s (Start n specifications how proper at_once) w c) in
    one-shown d (record { item = Some (sub_or_mark proper); events = Started n attributes ∷ ended_at_once n at_once })
    (and (is_word n && list_all (attribute_words d) attributes) (all_said_words d (ended_at_once n at_once)) started (ended-words d n at_once h))
piece-words s (End n how) w c h = one-shown s.context.doctype (record { item = None; events = Ended n ∷ [] }) (and (is_word n) true h refl)
piece-words s (Char b) w c h = refl
piece-words s (Data e) w c h = one-shown s.context.doctype (shown_data s.context.doctype e) (body-events-words s.context.doctype e (body_of s.context.doctype e))
piece-words s (DataRef e) w c h = one-shown s.context.doctype (shown_external e) (external-words s.context.doctype e h)
piece-words s (Pi text entity) w c h = refl
piece-words s (ShortRef string m) w c h = meaning-words s.context.doctype string m h
piece-words s k w c h = silent-words s.context.doctype (items_of k)

-- AFTER WHAT READS
record Good (h : History) : Type 0 where
  words : HasWords (types h)
  currents : CurrentsWords (types h) (currents h)
  events : all_said_words (types h) (events forms h) ≡ true

good-piece : (p : Piece) (h : History) → HasWords (types (p ∷ h)) → Names (types h) p.kind → Good h → Good (p ∷ h)
unfolding types currents events state context
good-piece p h w n g =
    let told_here = told (items_in (nest h)) (shown forms (state h) p.kind) in
    let are : all_said_words (types h) told_here ≡ true = told-words (types h) (items_in (nest h)) (shown forms (state h) p.kind) (piece-words (state h) p.kind g.words g.currents n) in record {
      words = w;
      currents = currents-words (types h) p.kind (currents h) g.currents;
      events = all-stay (types h) p.kind (events forms h ++ told_here) (all-append (types h) (events forms h) told_here g.events are);
    }

-- a tag that is left out
good-end : (n : Name) (h : History) → (type_of (types h) n).omits.end ≡ true → Good h → Good (omitted_end n ∷ h)
unfolding types declares
good-end n h e g = good-piece (omitted_end n) h g.words (omits-word (types h) n g.words e) g

good-start : (n : Name) (h : History) → is_declared (types h) n ≡ true → Good h → Good (omitted_start n ∷ h)
unfolding types declares
good-start n h e g = good-piece (omitted_start n) h g.words (declared-word (types h) n g.words e) g

good-omitted : (h : History) (o : Piece) (x : Kind) → MayStand (context h) o x → Good h → Good (o ∷ h)
unfolding context
good-omitted h o x (inl m) g = subst (λ (p : Piece). Good (p ∷ h)) (sym m.1) (good-end m.0 h m.2.has_o g)
good-omitted h o x (inr m) g = subst (λ (p : Piece). Good (p ∷ h)) (sym m.1) (good-start m.0 h m.2.declared g)

good-run : (h : History) (x : Kind) (os : List Piece) → LongestRun h x os → Good h → Good (after_run h os)
good-run h x [] r g = g
good-run h x (o ∷ os) r g = good-run (o ∷ h) x os r.1 (good-omitted h o x r.0 g)

-- the visible piece
first-none : (o q : Option Reason) → option_or o q ≡ None → o ≡ None
first-none None q e = refl
first-none (Some r) q e = absurd (cc)

unless-word : (d : Doctype) (n : Name) (b : Bool) → is_declared d n ≡ b → (if b then None else Some Undefined) ≡ None → is_declared d n ≡ true
unless-word d n true e h = e
unless-word d n false e h = absurd (cc)

names-here : (c : Context) (k : Kind) → HasWords c.doctype → undefined c k ≡ None → AddsWords c.doctype k → Names c.doctype k
names-here c (Start n specifications how proper at_once) w u a = declared-word c.doctype n w (unless-word c.doctype n (is_declared c.doctype n) refl u)
names-here c (End n how) w u a = declared-word c.doctype n w (unless-word c.doctype n (is_declared c.doctype n) refl u)
names-here c (DataRef e) w u a = a
names-here c (ShortRef string m) w u a = a
names-here c _ w u a = tt

judged-names : (d : Doctype) (c : Context) (k : Kind) → Names d k → Names d (judged c k)
judged-names d c (Start n specifications how proper at_once) h = h
judged-names d c k h = h

defined-here : (h : History) (os : List Piece) (p : Piece) → refusal forms h os p ≡ None → undefined (context h) p.kind ≡ None
unfolding refusal
defined-here h os p e = first-none (undefined (context h) p.kind) _ e

kind-names : (h : History) (k : Kind) → HasWords (types h) → undefined (context h) k ≡ None → AddsWords (state h).context.doctype k → Names (types h) k
unfolding state context
kind-names h k w u a = names-here (context h) k w u a

good-move : (I : Input) (h : History) (m : Move) → Reads forms I h m → Good h → Good (moved_on h m)
good-move I h m r g =
    let x = move-spelled I h m r in
    let k = kind_noted (state h) x.piece.kind in
    let old = after_run h m.omitted in
    let c = context old in
    let adds = noted-adds (state h) (state h).context.doctype x.piece.kind (spelled-adds I.outside (state h) (standing I h) x.piece x.is_spelled) in
    let names : Names (types h) k = kind-names h k g.words (defined-here h m.omitted (piece_noted (state h) x.piece) x.moves.no_reason) adds in
    let there : Names (types old) (judged c k) =
    subst (λ (d : Doctype). Names d (judged c k)) (sym (run-same I h k m.omitted x.moves.longest).types_are) (judged-names (types h) c k names) in
    let visible : Names (types old) m.visible.kind = subst (Names (types old)) (sym (ap (λ (p : Piece). p.kind) x.moves.visible)) there in
    good-piece m.visible old (move-words I h m r g.words) visible (good-run h k m.omitted x.moves.longest g)

good-moves : (I : Input) (h : History) (ms : List Move) → ReadOn forms I h ms → Good h → Good (after_moves h ms)
good-moves I h [] r g = g
good-moves I h (m ∷ ms) r g = good-moves I (moved_on h m) ms r.1 (good-move I h m r.0 g)

good-opening : (outside : Outside) → Good (opening outside)
unfolding types declares currents specified events shown items_of
good-opening outside = record { words = start-words outside; currents = λ n a. tt; events = refl }

pub lines-are-a-file : LinesAreAFile
unfolding lines
lines-are-a-file I ms r =
    let h = read_by I ms in
    let g = good-moves I (opening I.outside) ms r (good-opening I.outside) in
    said-is-read-back (types h) (events forms h) (ends_in_finish h) g.words g.events
