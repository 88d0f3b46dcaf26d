-- What may be written is read, and tells the events that were written.
use Rattle.std.proofs.Common.{◌≡◌, inl, ℕ, Bool, true, false, not, IsFalse, List, [], ◌∷◌, ◌++◌, Option, Some, None, Ok, length, nat_lt, refl, sym, ◌∙◌, ap, subst, append_assoc, append-nil, if◌then◌else◌}
use Rattle.std.specs.Prelude.{codes}
use Rattle.sgml_theory_values.specs.records.Items.{Item, Data as DataItem, Markup}
use Rattle.sgml_theory_values.specs.records.Facts.{Facts, no_facts}
use Rattle.sgml_theory_values.specs.entity.declared.kinds.Body.{Body}
use Rattle.sgml_theory_values.specs.entity.declared.kinds.Body.TheVariants as body
use Rattle.sgml_theory_values.specs.delim.declared.delim.Mode.{Mode}
use Rattle.sgml_theory_values.specs.delim.declared.delim.Mode.TheVariants as mode
use Rattle.sgml_theory_values.specs.dtd.Doctypes.{Doctype}
use Rattle.sgml_theory_values.specs.theory_reading.Names.{Name, Text}
use Rattle.sgml_theory_values.specs.theory_reading.Types.{Content, Model, Any, Cdata, Rcdata, Void, content_of, type_of, name_of_entity}
use Rattle.sgml_theory_values.specs.theory_reading.Pieces.{Piece, Kind, History, Specification, ToData, ToExternalData, Start, End, Char, Data, DataRef, Pi, Tag}
use Rattle.sgml_theory_values.specs.theory_reading.Facets.{effect, declares, items_of, sub_or_mark}
use Rattle.sgml_theory_values.specs.theory_reading.Context.{context_after, levels_after}
use Rattle.sgml_theory_values.specs.theory_reading.Unread.{Outside, Input, standing}
use Rattle.sgml_theory_values.specs.theory_reading.State.{State, state, after_piece, ends_after, first_noted, sources_in}
use Rattle.sgml_theory_values.specs.theory_reading.Characters.{kind_noted, ends_at_once, facts_in}
use Rattle.sgml_theory_values.specs.theory_reading.Reads.{Attribute, judged, is_proper_in, ends_in_finish, pieces}
use Rattle.sgml_theory_values.specs.theory_reading.Events.{Event as Said, Started, Ended, Byte, SpecificData, External, Instruction, Shown, shown, told_by, ended_at_once, body_events, events, events_at, events_of_run}
use Rattle.sgml_theory_values.proofs.theory_reading.Told.{moves-told}
use Rattle.sgml_theory_values.specs.theory_spelling.Attributes.{valued}
use Rattle.sgml_theory_values.specs.theory_spelling.Places.{content_mode, element_mode}
use Rattle.sgml_theory_values.specs.theory_spelling.References.{meaning_of, meaning_of_number, meaning_of_body, general_meaning}
use Rattle.sgml_theory_values.specs.theory_spelling.Content.{reference_kind, kind_by_meaning, is_rcdata}
use Rattle.sgml_theory_values.specs.theory_spelling.Spelled.{forms}
use Rattle.sgml_theory_values.specs.full.declared.inside.Inside.TheVariants as inside
use Rattle.sgml_theory_values.specs.full.Spelled.{has_map, spelled_byte, start_tag, end_tag, entity_reference}
use Rattle.sgml_theory_values.specs.full.Full.{after_said}
use Rattle.sgml_theory_full.specs.Named.{AllAre, IsEntity, is_external_data, is_short_text, IsWritten}
use Rattle.sgml_theory_values.specs.Full.{value_read}
use Rattle.sgml_theory_values.specs.Starts.{specifications}
use Rattle.sgml_theory_full.specs.Spellings.{Spelling, spelling, line_end, raw, text_of, spellings_of, spellings}
use Rattle.sgml_theory_full.specs.Raw.{AllRawStand}
use Rattle.sgml_theory_full.specs.Points.{stacked_at}
use Rattle.sgml_theory_full.specs.Written.{StandsThere, at_document, piece_in, IsReadThere, moves_of, state_by}
use Rattle.sgml_theory_full.specs.Conforming.{IsPlain, mode_in, start_kind, StartMayBe, EndMayBe, DataMayBe, OtherMayBe, MayBeWritten, Within, InContent, AtEnd, InCdata, inside_for, within_content, within_after, EventsMayBe, EventsRead}
use Rattle.sgml_theory_full.proofs.Plain.{true-false, if-false}
use Rattle.sgml_theory_full.proofs.Characters.{characters-are-spelled}
use Rattle.sgml_theory_full.proofs.Referring.{references-are-spelled}
use Rattle.sgml_theory_full.proofs.Starts.{start-tags-are-spelled, end-tags-are-spelled}
use Rattle.sgml_theory_full.proofs.Instructions.{instructions-are-spelled}
use Rattle.sgml_theory_full.proofs.Written.{written-reads}
use Rattle.sgml_theory_full.proofs.RawParts.{put, InRaw, Goes, then-part, then-goes, line-part, line-after, raw-datum, end-part, end-after, end-types}
use Rattle.sgml_theory_full.proofs.Conforming.{point, settled, in-content, maps-declared, Plainly, stays-plain, same-types, char-plainly, specific-plainly, external-plainly, instruction-plainly, end-plainly, start-plainly}

-- WHAT AN ENTITY'S REFERENCE IS (9.4.4, 10.5)

entity-kind : (outside : Outside) (s : State) (spent : ℕ) (m : Mode) (e : ℕ) (b : Body) (k : Kind) → IsEntity s.context.doctype e b
    → kind_by_meaning (is_rcdata m) (general_meaning outside (sources_in s) (stacked_at (point outside s spent)) e b) ≡ Ok k
    → reference_kind outside s (stacked_at (point outside s spent)) m (name_of_entity s.context.doctype e) ≡ Ok k
unfolding meaning_of
entity-kind outside s spent m e b k h is =
    let t = stacked_at (point outside s spent) in
    ap (λ o. kind_by_meaning (is_rcdata m) (meaning_of_number outside (sources_in s) t o)) h.numbered
    ∙ ap (λ o. kind_by_meaning (is_rcdata m) (meaning_of_body outside (sources_in s) t e o)) h.body
    ∙ is

-- WHAT ONE PIECE TELLS where no record end waits
abbrev one_shown : Item → List Said → List Shown
one_shown item es = record { item = Some item; events = es } ∷ []

told-data : (f : Facts) (es : List Said) → f.waiting ≡ false → told_by f (one_shown DataItem es) ≡ es
told-data f es h = rw h (append-nil es)

told-start : (f : Facts) (proper : Bool) (es : List Said) → f.waiting ≡ false → told_by f (one_shown (sub_or_mark proper) es) ≡ es
told-start f true es h = rw h (append-nil es)
told-start f false es h = append-nil es

told-markup : (f : Facts) (es : List Said) → told_by f (one_shown Markup es) ≡ es
told-markup f es = append-nil es

first-quiet : (fs : List Facts) → AllAre (λ (f : Facts). f.waiting ≡ false) fs → (facts_in fs).waiting ≡ false
first-quiet [] h = refl
first-quiet (f ∷ fs) h = h.0

-- ONE EVENT
abbrev entity_spelling : Doctype → Kind → ℕ → Spelling
entity_spelling d k e = spelling k (entity_reference (name_of_entity d e))

abbrev instruction_of : Doctype → Text → Option ℕ → Spelling
instruction_of d text None = spelling (Pi text None) (codes "<?" ++ (text ++ 62 ∷ []))
instruction_of d text (Some e) = entity_spelling d (Pi text (Some e)) e

abbrev pub one_of : Doctype → Said → Spelling
one_of d (Started n as') = spelling (start_kind d n as') (start_tag d n as')
one_of d (Ended n) = spelling (End n Tag) (end_tag n)
one_of d (Byte b) = spelling (Char b) (spelled_byte (has_map d) b)
one_of d (SpecificData e text) = entity_spelling d (Data e) e
one_of d (External e) = entity_spelling d (DataRef e) e
one_of d (Instruction text entity) = instruction_of d text entity

one-instruction : (d : Doctype) (text : Text) (entity : Option ℕ) → spellings_of d inside.Mixed (Instruction text entity) ≡ instruction_of d text entity ∷ []
one-instruction d text None = refl
one-instruction d text (Some e) = refl

one-is : (d : Doctype) (e : Said) → spellings_of d inside.Mixed e ≡ one_of d e ∷ []
one-is d (Started n as') = refl
one-is d (Ended n) = refl
one-is d (Byte b) = refl
one-is d (SpecificData e text) = refl
one-is d (External e) = refl
one-is d (Instruction text entity) = one-instruction d text entity

abbrev ended_events : Within → List Said
ended_events (AtEnd n) = Ended n ∷ []
ended_events InContent = []
ended_events (InCdata begun) = []

-- with the end of an element that ends at once
abbrev pub told_with : Doctype → Said → List Said
told_with d e = e ∷ ended_events (within_after d e)

pub record EventRead (outside : Outside) (spent : ℕ) (s : State) (e : Said) : Type 0 where
  pub read : (rest : Text) → IsReadThere outside spent s (one_of s.context.doctype e) rest
  pub told : events_at forms s (piece_in s (one_of s.context.doctype e)) ≡ told_with s.context.doctype e
  pub plainly : Plainly (piece_in s (one_of s.context.doctype e)).kind

-- a start
at-once : (n : Name) (t : Bool) (c : Content) → ended_at_once n t ≡ ended_events (if t then AtEnd n else within_content c)
at-once n true c = refl
at-once n false (Model term) = refl
at-once n false Any = refl
at-once n false Cdata = refl
at-once n false Rcdata = refl
at-once n false Void = refl

start-told : (s : State) (n : Name) (as' : List Attribute) → IsPlain s → valued s (start_kind s.context.doctype n as') ≡ as'
    → events_at forms s (piece_in s (one_of s.context.doctype (Started n as'))) ≡ told_with s.context.doctype (Started n as')
unfolding shown kind_noted valued
start-told s n as' h v =
    let d = s.context.doctype in
    let ss = specifications (value_read d) as' in
    let once = ends_at_once d n ss in
    told-start (facts_in s.record_ends) (is_proper_in s.context s.context.levels (Some n)) (Started n (valued s (start_kind d n as')) ∷ ended_at_once n once) (first-quiet s.record_ends h.none_waits)
    ∙ ap (λ vs. Started n vs ∷ ended_at_once n once) v
    ∙ ap (λ es. Started n as' ∷ es) (at-once n once (content_of (type_of d n)))

start-noted : (s : State) (n : Name) (as' : List Attribute) → StandsThere s (start_kind s.context.doctype n as') → StandsThere s (kind_noted s (start_kind s.context.doctype n as'))
unfolding kind_noted
start-noted s n as' h = h

start-kept : (s : State) (n : Name) (as' : List Attribute) → Plainly (piece_in s (one_of s.context.doctype (Started n as'))).kind
unfolding kind_noted
start-kept s n as' = start-plainly n (specifications (value_read s.context.doctype) as') (is_proper_in s.context s.context.levels (Some n)) (ends_at_once s.context.doctype n (specifications (value_read s.context.doctype) as'))

start-read : (outside : Outside) (spent : ℕ) (s : State) (n : Name) (as' : List Attribute) → IsPlain s → IsWritten s.context.doctype (Started n as') → StartMayBe s n as' → EventRead outside spent s (Started n as')
start-read outside spent s n as' h w k = record {
  read = λ rest. record { spelled_is = start-tags-are-spelled (point outside s spent) n as' (in-content outside s spent mode.Con h k.mode) w.0 w.1 rest; stands = start-noted s n as' k.stands };
  told = start-told s n as' h k.values;
  plainly = start-kept s n as';
}

-- an end, and other pieces, of which nothing more is noted
end-read : (outside : Outside) (spent : ℕ) (s : State) (n : Name) → IsPlain s → IsWritten s.context.doctype (Ended n) → EndMayBe s n → EventRead outside spent s (Ended n)
unfolding kind_noted shown
end-read outside spent s n h w k = record {
  read = λ rest. record { spelled_is = end-tags-are-spelled (point outside s spent) (mode_in s) n (in-content outside s spent (mode_in s) h refl) k.mode w rest; stands = k.stands };
  told = refl;
  plainly = end-plainly n;
}

byte-read : (outside : Outside) (spent : ℕ) (s : State) (b : ℕ) → IsPlain s → DataMayBe s (Char b) → EventRead outside spent s (Byte b)
unfolding kind_noted shown
byte-read outside spent s b h k = record {
  read = λ rest. record { spelled_is = characters-are-spelled (point outside s spent) (mode_in s) b (in-content outside s spent (mode_in s) h refl) k.mode (maps-declared outside s spent h) k.text rest; stands = k.stands };
  told = told-data (facts_in s.record_ends) (Byte b ∷ []) (first-quiet s.record_ends h.none_waits);
  plainly = char-plainly b;
}

specific-meaning : (m : Mode) (e : ℕ) → kind_by_meaning (is_rcdata m) (Ok (ToData e)) ≡ Ok (Data e)
specific-meaning m e = refl

specific-read : (outside : Outside) (spent : ℕ) (s : State) (e : ℕ) (text : Text) → IsPlain s → IsWritten s.context.doctype (SpecificData e text) → DataMayBe s (Data e) → EventRead outside spent s (SpecificData e text)
unfolding kind_noted shown
specific-read outside spent s e text h w k = record {
  read = λ rest. record {
    spelled_is = references-are-spelled (point outside s spent) (mode_in s) (name_of_entity s.context.doctype e) (Data e) (in-content outside s spent (mode_in s) h refl) k.mode w.name
        (entity-kind outside s spent (mode_in s) e (body.Sdata text) (Data e) w refl) rest;
    stands = k.stands;
  };
  told = ap (λ o. told_by (facts_in s.record_ends) (one_shown DataItem (body_events e o))) w.body
      ∙ told-data (facts_in s.record_ends) (SpecificData e text ∷ []) (first-quiet s.record_ends h.none_waits);
  plainly = specific-plainly e;
}

external-kind : (outside : Outside) (s : State) (spent : ℕ) (m : Mode) (e : ℕ) (b : Body) → m ≡ mode.Con → is_external_data b ≡ true
    → kind_by_meaning (is_rcdata m) (general_meaning outside (sources_in s) (stacked_at (point outside s spent)) e b) ≡ Ok (DataRef e)
external-kind outside s spent m e (body.ExternalData kind external notation) k h = ap (λ x. kind_by_meaning (is_rcdata x) (Ok (ToExternalData e))) k
external-kind outside s spent m e _ k h = true-false (sym h)

external-read : (outside : Outside) (spent : ℕ) (s : State) (e : ℕ) → IsPlain s → IsWritten s.context.doctype (External e) → OtherMayBe s (DataRef e) → EventRead outside spent s (External e)
unfolding kind_noted shown
external-read outside spent s e h w k = record {
  read = λ rest. record {
    spelled_is = references-are-spelled (point outside s spent) (mode_in s) (name_of_entity s.context.doctype e) (DataRef e) (in-content outside s spent (mode_in s) h refl) (inl k.mode) w.is.name
        (entity-kind outside s spent (mode_in s) e w.b (DataRef e) w.is (external-kind outside s spent (mode_in s) e w.b k.mode w.external)) rest;
    stands = k.stands;
  };
  told = told-data (facts_in s.record_ends) (External e ∷ []) (first-quiet s.record_ends h.none_waits);
  plainly = external-plainly e;
}

not-long : (t : Bool) → not t ≡ true → t ≡ false
not-long true h = true-false (sym h)
not-long false h = refl

instruction-kind : (outside : Outside) (s : State) (spent : ℕ) (m : Mode) (e : ℕ) (text : Text) → m ≡ mode.Con → is_short_text s.context.doctype.syntax text ≡ true
    → kind_by_meaning (is_rcdata m) (general_meaning outside (sources_in s) (stacked_at (point outside s spent)) e (body.Pi text)) ≡ Ok (Pi text (Some e))
instruction-kind outside s spent m e text k short =
    ap (λ x. kind_by_meaning (is_rcdata x) (general_meaning outside (sources_in s) (stacked_at (point outside s spent)) e (body.Pi text))) k
    ∙ ap (kind_by_meaning false) (if-false (nat_lt s.context.doctype.syntax.quantities.pilen (length text)) _ _ (not-long (nat_lt s.context.doctype.syntax.quantities.pilen (length text)) short))

instruction-read : (outside : Outside) (spent : ℕ) (s : State) (text : Text) (entity : Option ℕ) → IsPlain s → IsWritten s.context.doctype (Instruction text entity) → OtherMayBe s (Pi text entity)
    → EventRead outside spent s (Instruction text entity)
unfolding kind_noted shown
instruction-read outside spent s text None h w k = record {
  read = λ rest. record { spelled_is = instructions-are-spelled (point outside s spent) text (in-content outside s spent mode.Con h k.mode) w rest; stands = k.stands };
  told = told-markup (facts_in s.record_ends) (Instruction text None ∷ []);
  plainly = instruction-plainly text None;
}
instruction-read outside spent s text (Some e) h w k = record {
  read = λ rest. record {
    spelled_is = references-are-spelled (point outside s spent) (mode_in s) (name_of_entity s.context.doctype e) (Pi text (Some e)) (in-content outside s spent (mode_in s) h refl) (inl k.mode) w.0.name
        (entity-kind outside s spent (mode_in s) e (body.Pi text) (Pi text (Some e)) w.0 (instruction-kind outside s spent (mode_in s) e text k.mode w.1)) rest;
    stands = k.stands;
  };
  told = told-markup (facts_in s.record_ends) (Instruction text (Some e) ∷ []);
  plainly = instruction-plainly text (Some e);
}

event-read : (outside : Outside) (spent : ℕ) (s : State) (e : Said) → IsPlain s → IsWritten s.context.doctype e → MayBeWritten s e → EventRead outside spent s e
event-read outside spent s (Started n as') h w k = start-read outside spent s n as' h w k
event-read outside spent s (Ended n) h w k = end-read outside spent s n h w k
event-read outside spent s (Byte b) h w k = byte-read outside spent s b h k
event-read outside spent s (SpecificData e text) h w k = specific-read outside spent s e text h w k
event-read outside spent s (External e) h w k = external-read outside spent s e h w k
event-read outside spent s (Instruction text entity) h w k = instruction-read outside spent s text entity h w k

-- by the document type
pub record EventFor (outside : Outside) (spent : ℕ) (s : State) (d : Doctype) (e : Said) : Type 0 where
  pub read : (rest : Text) → IsReadThere outside spent s (one_of d e) rest
  pub told : events_at forms s (piece_in s (one_of d e)) ≡ told_with d e
  pub plainly : Plainly (piece_in s (one_of d e)).kind

event-for : (outside : Outside) (spent : ℕ) (s : State) (d : Doctype) (e : Said) → s.context.doctype ≡ d → EventRead outside spent s e → EventFor outside spent s d e
event-for outside spent s d e t one =
    subst (λ d. EventFor outside spent s d e) t (record { read = one.read; told = one.told; plainly = one.plainly })

-- THE STATE where an event is written, and whether a record end waits there
abbrev At : Doctype → Within → Bool → State → Type 0
At d InContent v s = IsPlain s × (s.context.doctype ≡ d) × (v ≡ false)
At d (AtEnd n) v s = IsPlain s × (s.context.doctype ≡ d) × (v ≡ false)
At d (InCdata begun) v s = InRaw d s begun v × (begun ≡ false → v ≡ false)

-- an element with CDATA content is begun
written-noted : (s : State) (d : Doctype) (n : Name) (vs : List Attribute) → kind_noted s (start_kind d n vs) ≡ start_kind d n vs
unfolding kind_noted
written-noted s d n vs = refl

pub written-kind : (s : State) (d : Doctype) (n : Name) (vs : List Attribute) (once : Bool) → s.context.doctype ≡ d → ends_at_once d n (specifications (value_read d) vs) ≡ once
    → (piece_in s (one_of d (Started n vs))).kind ≡ Start n (specifications (value_read d) vs) Tag (is_proper_in s.context s.context.levels (Some n)) once
written-kind s d n vs once t o =
    ap (judged s.context) (written-noted s d n vs)
    ∙ ap (λ x. Start n (specifications (value_read d) vs) Tag (is_proper_in s.context s.context.levels (Some n)) (ends_at_once x n (specifications (value_read d) vs))) t
    ∙ ap (Start n (specifications (value_read d) vs) Tag (is_proper_in s.context s.context.levels (Some n))) o

started-inner : (s : State) (p : Piece) (n : Name) (ss : List Specification) (x : Bool) → p.kind ≡ Start n ss Tag x false → mode_in (after_piece p s) ≡ content_mode (content_of (type_of s.context.doctype n))
unfolding after_piece context_after effect declares
started-inner s p n ss x e = ap (λ k. element_mode (declares k s.context.doctype) (levels_after s.context.doctype (effect k) k s.context.levels)) e

started-ends : (s : State) (p : Piece) (n : Name) (ss : List Specification) (x : Bool) → p.kind ≡ Start n ss Tag x false → (after_piece p s).record_ends ≡ no_facts ∷ first_noted (sub_or_mark x ∷ []) s.record_ends
unfolding after_piece effect items_of
started-ends s p n ss x e = ap (λ k. ends_after (effect k) k s.record_ends) e

cdata-begun : (d : Doctype) (s : State) (p : Piece) (n : Name) (ss : List Specification) (x : Bool) → p.kind ≡ Start n ss Tag x false → s.context.doctype ≡ d → content_of (type_of d n) ≡ Cdata
    → (after_piece p s).context.doctype ≡ d → IsPlain (after_piece p s) → InRaw d (after_piece p s) false false
cdata-begun d s p n ss x e t c t' plain =
    let ends = started-ends s p n ss x e in record {
      types = t';
      settled = settled (after_piece p s) plain;
      mode = started-inner s p n ss x e ∙ ap (λ y. content_mode (content_of (type_of y n))) t ∙ ap content_mode c;
      facts = no_facts;
      outer = first_noted (sub_or_mark x ∷ []) s.record_ends;
      ends = ends;
      quiet = (subst (AllAre (λ (f : Facts). f.waiting ≡ false)) ends plain.none_waits).1;
      waits = refl;
      live = refl;
    }

started-at : (d : Doctype) (s : State) (n : Name) (vs : List Attribute) (once : Bool) (c : Content) → ends_at_once d n (specifications (value_read d) vs) ≡ once → content_of (type_of d n) ≡ c
    → s.context.doctype ≡ d → let t = after_piece (piece_in s (one_of d (Started n vs))) s in t.context.doctype ≡ d → IsPlain t → At d (if once then AtEnd n else within_content c) false t
started-at d s n vs true c o e t t' plain = (plain, t', refl)
started-at d s n vs false Cdata o e t t' plain =
    (cdata-begun d s (piece_in s (one_of d (Started n vs))) n (specifications (value_read d) vs) (is_proper_in s.context s.context.levels (Some n)) (written-kind s d n vs false t o) t e t' plain, λ x. refl)
started-at d s n vs false (Model term) o e t t' plain = (plain, t', refl)
started-at d s n vs false Any o e t t' plain = (plain, t', refl)
started-at d s n vs false Rcdata o e t t' plain = (plain, t', refl)
started-at d s n vs false Void o e t t' plain = (plain, t', refl)

next-at : (d : Doctype) (s : State) (e : Said) → s.context.doctype ≡ d → let t = after_piece (piece_in s (one_of d e)) s in t.context.doctype ≡ d → IsPlain t → At d (within_after d e) false t
next-at d s (Started n vs) t t' plain = started-at d s n vs (ends_at_once d n (specifications (value_read d) vs)) (content_of (type_of d n)) refl refl t t' plain
next-at d s (Ended n) t t' plain = (plain, t', refl)
next-at d s (Byte b) t t' plain = (plain, t', refl)
next-at d s (SpecificData e text) t t' plain = (plain, t', refl)
next-at d s (External e) t t' plain = (plain, t', refl)
next-at d s (Instruction text entity) t t' plain = (plain, t', refl)

-- ALL OF THEM
abbrev expected : Within → List Said → List Said
expected (AtEnd n) [] = []
expected (AtEnd n) (e ∷ es) = es
expected InContent es = es
expected (InCdata begun) es = es

joined : (d : Doctype) (e : Said) (o : Within) (s : State) (es : List Said) → EventsMayBe d o s es → (e ∷ ended_events o) ++ expected o es ≡ e ∷ es
joined d e InContent s es k = refl
joined d e (InCdata begun) s es k = refl
joined d e (AtEnd n) s [] k = absurd (never k)
  where
    never : AtEnd n ≡ InContent → ⊥
    never k = cc
joined d e (AtEnd n) s (f ∷ es) k = ap (λ x. e ∷ x ∷ es) (sym k.0)

none-left : (outside : Outside) (spent : ℕ) (d : Doctype) (w : Within) (v : Bool) (s : State) (rest : Text) → At d w v s → w ≡ InContent → Goes outside spent s [] rest (put v ++ expected w [])
none-left outside spent d InContent v s rest a k = record { are = tt; told = sym (ap (λ t. put t ++ []) a.2); plain = a.0 }
none-left outside spent d (AtEnd n) v s rest a k = absurd (never k)
  where
    never : AtEnd n ≡ InContent → ⊥
    never k = cc
none-left outside spent d (InCdata begun) v s rest a k = absurd (never k)
  where
    never : InCdata begun ≡ InContent → ⊥
    never k = cc

goes : (outside : Outside) (spent : ℕ) (d : Doctype) (w : Within) (v : Bool) (s : State) (es : List Said) (rest : Text) → At d w v s → AllAre (IsWritten d) es → AllRawStand d (inside_for w) es → EventsMayBe d w s es
    → Goes outside spent s (spellings d (inside_for w) es) rest (put v ++ expected w es)
goes outside spent d w v s [] rest a h r k = none-left outside spent d w v s rest a k
goes outside spent d (AtEnd n) v s (e ∷ es) rest a h r k =
    subst (λ x. Goes outside spent s (spellings d inside.Nothing (x ∷ es)) rest (put v ++ es)) (sym k.0)
    (goes outside spent d InContent v s es rest a h.1 (subst (λ x. AllRawStand d (after_said d inside.Nothing x) es) k.0 r.1) k.1)
goes outside spent d InContent v s (e ∷ es) rest a h r k =
    let one = event-read outside spent s e a.0 (subst (λ x. IsWritten x e) (sym a.1) h.0) k.0 in
    let x = one_of d e in
    let first : EventFor outside spent s d e = event-for outside spent s d e a.1 one in
    let p = piece_in s x in
    let next = after_piece p s in
    let at : state_by s (spellings_of d inside.Mixed e) ≡ next = ap (state_by s) (one-is d e) in
    let o = within_after d e in
    let may = subst (λ u. EventsMayBe d o u es) at k.2 in
    let more = goes outside spent d o false next es rest (next-at d s e a.1 (same-types p s first.plainly ∙ a.1) (stays-plain p s first.plainly a.0)) h.1 (subst (λ i. AllRawStand d i es) k.1 r.1) may in
    let xs = spellings d (inside_for o) es in
    let list : x ∷ xs ≡ spellings d inside.Mixed (e ∷ es) =
    ap (λ i. x ∷ spellings d i es) (sym k.1) ∙ ap (λ ys. ys ++ spellings d (after_said d inside.Mixed e) es) (sym (one-is d e)) in
    subst (λ ys. Goes outside spent s ys rest (put v ++ (e ∷ es))) list (record {
      are = (first.read (text_of xs ++ rest), more.are);
      told = ap (λ a. a ++ events_of_run forms next (pieces (moves_of next xs))) first.told
          ∙ ap (λ b. told_with d e ++ b) more.told
          ∙ joined d e o next es may
          ∙ sym (ap (λ t. put t ++ (e ∷ es)) a.2);
      plain = more.plain;
    })
goes outside spent d (InCdata true) v s (Byte b ∷ es) rest a h r k =
    let ys = spellings d inside.Lines es in
    let one = raw-datum d outside spent s v b (text_of ys ++ rest) k.0.character a.0 (r.0 rest) in
    let more = goes outside spent d (InCdata true) one.waits_now (state_by s (raw b)) es rest (one.after, λ e. true-false e) h.1 r.1 k.1 in
    subst (Goes outside spent s (raw b ++ ys) rest) (one.all_told es) (then-goes outside spent s (raw b) ys rest one.told_now (put one.waits_now ++ es) one.part more)
goes outside spent d (InCdata false) v s (Byte b ∷ es) rest a h r k =
    let ys = spellings d inside.Lines es in
    let t = state_by s line_end in
    let line = line-part d outside spent s false v (text_of (raw b) ++ (text_of ys ++ rest)) a.0 in
    let one = raw-datum d outside spent t v b (text_of ys ++ rest) k.0.character (line-after d s false v a.0) (r.0 rest) in
    let more = goes outside spent d (InCdata true) one.waits_now (state_by t (raw b)) es rest (one.after, λ e. true-false e) h.1 r.1 k.1 in
    subst (Goes outside spent s ((line_end ++ raw b) ++ ys) rest) (one.all_told es)
    (then-goes outside spent s (line_end ++ raw b) ys rest one.told_now (put one.waits_now ++ es) (then-part outside spent s line_end (raw b) (text_of ys ++ rest) [] one.told_now line one.part) more)
goes outside spent d (InCdata true) v s (Ended n ∷ es) rest a h r k =
    let ys = spellings d inside.Mixed es in
    let t = state_by s line_end in
    let x = spelling (End n Tag) (end_tag n) in
    let inner = line-after d s true v a.0 in
    let line = line-part d outside spent s true v (text_of (x ∷ []) ++ (text_of ys ++ rest)) a.0 in
    let end = end-part d outside spent t true true n (text_of ys ++ rest) inner h.0 k.0 in
    let more = goes outside spent d InContent false (state_by t (x ∷ [])) es rest (end-after d t true true n inner, end-types d t true true n inner, refl) h.1 r.1 k.1 in
    subst (Goes outside spent s ((line_end ++ x ∷ []) ++ ys) rest) (append_assoc (put v) (Ended n ∷ []) es)
    (then-goes outside spent s (line_end ++ x ∷ []) ys rest (put v ++ Ended n ∷ []) es (then-part outside spent s line_end (x ∷ []) (text_of ys ++ rest) (put v) (Ended n ∷ []) line end) more)
goes outside spent d (InCdata false) v s (Ended n ∷ es) rest a h r k =
    let ys = spellings d inside.Mixed es in
    let x = spelling (End n Tag) (end_tag n) in
    let end = end-part d outside spent s false v n (text_of ys ++ rest) a.0 h.0 k.0 in
    let more = goes outside spent d InContent false (state_by s (x ∷ [])) es rest (end-after d s false v n a.0, end-types d s false v n a.0, refl) h.1 r.1 k.1 in
    subst (Goes outside spent s (x ∷ ys) rest) (sym (ap (λ t. put t ++ (Ended n ∷ es)) (a.1 refl)))
    (then-goes outside spent s (x ∷ []) ys rest (Ended n ∷ []) es end more)
goes outside spent d (InCdata begun) v s (Started n vs ∷ es) rest a h r k = absurd k
goes outside spent d (InCdata begun) v s (SpecificData e text ∷ es) rest a h r k = absurd k
goes outside spent d (InCdata begun) v s (External e ∷ es) rest a h r k = absurd k
goes outside spent d (InCdata begun) v s (Instruction text entity ∷ es) rest a h r k = absurd k

pub events-are-read : (I : Input) (h : History) (spent : ℕ) (es : List Said) (rest : Text) → I.was_cut ≡ false → IsFalse (ends_in_finish h) → IsPlain (state h)
    → AllAre (IsWritten (state h).context.doctype) es → AllRawStand (state h).context.doctype inside.Mixed es → EventsMayBe (state h).context.doctype InContent (state h) es
    → standing I h ≡ at_document spent (text_of (spellings (state h).context.doctype inside.Mixed es) ++ rest)
    → EventsRead I h spent (state h).context.doctype es rest
events-are-read I h spent es rest whole on plain w r k at =
    let d = (state h).context.doctype in
    let g = goes I.outside spent d InContent false (state h) es rest (plain, refl, refl) w r k in record {
      written = written-reads I h spent (spellings d inside.Mixed es) rest whole on at g.are;
      told = moves-told forms h (moves_of (state h) (spellings d inside.Mixed es)) ∙ ap (λ x. events forms h ++ x) g.told;
      plain = g.plain;
    }
