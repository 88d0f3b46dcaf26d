-- Where the writer stands, one step after another.
use Rattle.std.specs.Prelude.{flat_map}
use Rattle.sgml_events.specs.Stretches.{is_none}
use Rattle.std.proofs.Common.{◌≡◌, ℕ, ◌<◌, length, Bool, true, false, Option, None, List, [], ◌∷◌, ◌++◌, map, refl, sym, ap, subst, ◌∙◌, ◌==◌, append_assoc, append-nil, inl, inr}
use Rattle.std.proofs.lemmas.Grind.{flat_map-append}
use Rattle.sgml_text.specs.declared.unit.Unit.{Unit as AnyUnit}
use Rattle.sgml_text.specs.declared.unit.Unit.TheVariants as unit
use Rattle.sgml_esis.specs.Spelling.{spell_lines}
use Rattle.sgml_esis.specs.Writing.{Stands, Puts}
use Rattle.sgml_esis.proofs.Holding.{puts_as, puts_then, begins, stopped}
use Rattle.sgml_io.specs.Causes.{Rose}
use Rattle.sgml_io.specs.Writes.{AppendsFront, Front-first}
use Rattle.sgml_attr.specs.declared.value.AttrValue.{AttrValue}
use Rattle.sgml_attr.specs.declared.value.AttrValue.TheVariants as value
use Rattle.sgml_dtd.specs.Doctypes.{Doctype}
use Rattle.sgml_theory_reading.specs.Reads.{Attribute}
use Rattle.sgml_theory_reading.specs.Events.{Event as Said}
use Rattle.sgml_attr.specs.declared.definition.Definition.{Definition}
use Rattle.sgml_text.specs.declared.place.Place.{Place}
use Rattle.sgml_theory_reading.specs.Lines.{Line, Known, Defined, none_known, StartLine, FinishLine, lines_of, event_lines, attribute_lines, value_line, appinfo_lines, unit_shape, joined, with_definitions, conforming_lines}
use Rattle.sgml_events.specs.declared.event.Event.{Event}
use Rattle.sgml_events.specs.declared.event.Event.TheVariants as event
use Rattle.sgml_event_lines.specs.declared.writer.Writer.{Writer}
use Rattle.sgml_said.specs.Told.{said, said_data, said_unit, all_said, attributes_with, definitions_at, name_at, start_attributes, attributes_of}
use Rattle.sgml_event_lines.specs.Shown.{all_shown}
use Rattle.sgml_event_lines.specs.Lines.{lines_said, lines_told}
use Rattle.sgml_event_lines.specs.Placed.{placed}
use Rattle.sgml_event_lines.specs.Spelled.{spelled, Open, closing, beginning, all_added, opened}
use Rattle.sgml_event_lines.specs.Marks.{AreMarks}
use Rattle.sgml_event_lines.specs.Standing.{StandsAfterLines, StandsAfter, Defines, Goes, SameMarks, AreLines, nothing_open, mark_lines, is_chars, is_other, text_bytes, unit_bytes}
use Rattle.sgml_event_lines.proofs.Joining.{spelled_append, all_added_append, opened_append, are_joined, Other, AreOther, Adds, other_lines_add, data_lines, AddsData, data_adds}
use Rattle.sgml_text.specs.Units.{characters}
use Rattle.sgml_event_lines.proofs.Bytes.{units_spelled, name_line, characters_bytes, none_of}
use Rattle.sgml_said.proofs.Paired.{nothing_with}
use Rattle.sgml_event_lines.proofs.Placing.{marks_kept, start_put}

-- THE LINES OF EVENTS, one after another

pub lines_append : (d : Doctype) (xs ys : List Said) → lines_of d (xs ++ ys) ≡ lines_of d xs ++ lines_of d ys
lines_append d [] ys = refl
lines_append d (x ∷ xs) ys = ap (λ v. event_lines d x ++ v) (lines_append d xs ys) ∙ sym (append_assoc (event_lines d x) (lines_of d xs) (lines_of d ys))

pub one_more_said : (d : Doctype) (es : List Event) (e : Event) → lines_of d (all_said d (es ++ e ∷ [])) ≡ lines_of d (all_said d es) ++ lines_of d (said d e)
one_more_said d es e =
    ap (lines_of d) (flat_map-append (said d) es (e ∷ []) ∙ ap (λ v. all_said d es ++ v) (append-nil (said d e)))
    ∙ lines_append d (all_said d es) (said d e)

-- DATA
unit_line : (d : Doctype) (u : AnyUnit) (us : List AnyUnit) → lines_of d (said_data d us) ≡ data_lines (map (unit_shape d) us) → lines_of d (said_data d (u ∷ us)) ≡ data_lines (map (unit_shape d) (u ∷ us))
unit_line d (unit.Byte b) us again = ap (λ v. event_lines d (said_unit d (unit.Byte b)) ++ v) again
unit_line d (unit.Coded b) us again = ap (λ v. event_lines d (said_unit d (unit.Coded b)) ++ v) again
unit_line d (unit.Sdata e) us again = ap (λ v. event_lines d (said_unit d (unit.Sdata e)) ++ v) again

pub data_said : (d : Doctype) (us : List AnyUnit) → lines_of d (said_data d us) ≡ data_lines (map (unit_shape d) us)
data_said d [] = refl
data_said d (u ∷ us) = unit_line d u us (data_said d us)

-- OTHER EVENTS
other_value : (d : Doctype) (a : List ℕ) (v : AttrValue) → Other d (value_line d a v)
other_value d a value.Implied = record { adds = λ o. refl; leaves = λ o. refl; joins = λ ls. refl; front = λ known ls. refl }
other_value d a (value.Cdata us) = record { adds = λ o. refl; leaves = λ o. refl; joins = λ ls. refl; front = λ known ls. refl }
other_value d a (value.Notation n) = record { adds = λ o. refl; leaves = λ o. refl; joins = λ ls. refl; front = λ known ls. refl }
other_value d a (value.Entities es) = record { adds = λ o. refl; leaves = λ o. refl; joins = λ ls. refl; front = λ known ls. refl }
other_value d a (value.Tokens ts) = record { adds = λ o. refl; leaves = λ o. refl; joins = λ ls. refl; front = λ known ls. refl }

other_start : (d : Doctype) (n : List ℕ) (as' : List Attribute) → AreOther d (attribute_lines d as' ++ StartLine n ∷ [])
other_start d n [] = (record { adds = λ o. refl; leaves = λ o. refl; joins = λ ls. refl; front = λ known ls. refl }, tt)
other_start d n (a ∷ as') = (other_value d a.attribute a.value, other_start d n as')

start_adds : (d : Doctype) (known : Known) (within : Bool) (n : List ℕ) (as' : List Attribute) → Adds d known within (attribute_lines d as' ++ StartLine n ∷ [])
start_adds d known within n [] = other_lines_add d known within _ _ (other_start d n [])
start_adds d known within n (a ∷ as') = other_lines_add d known within _ _ (other_start d n (a ∷ as'))

pub mark_adds : (d : Doctype) (known : Known) (within : Bool) (e : Event) → is_chars e ≡ false → Adds d known within (mark_lines d e)
mark_adds d known within (event.Start element place values) h = start_adds d known within (name_at d element) (attributes_with (definitions_at d element) values)
mark_adds d known within (event.End element) h = other_lines_add d known within _ [] (record { adds = λ o. refl; leaves = λ o. refl; joins = λ ls. refl; front = λ known ls. refl }, tt)
mark_adds d known within (event.Chars us) h = cc
mark_adds d known within (event.Pi text entity place) h = other_lines_add d known within _ [] (record { adds = λ o. refl; leaves = λ o. refl; joins = λ ls. refl; front = λ known ls. refl }, tt)
mark_adds d known within (event.DataRef e) h = other_lines_add d known within _ [] (record { adds = λ o. refl; leaves = λ o. refl; joins = λ ls. refl; front = λ known ls. refl }, tt)

pub mark_said : (d : Doctype) (e : Event) → is_chars e ≡ false → lines_of d (said d e) ≡ mark_lines d e
mark_said d (event.Start element place values) h = append-nil _
mark_said d (event.End element) h = refl
mark_said d (event.Chars us) h = cc
mark_said d (event.Pi text entity place) h = refl
mark_said d (event.DataRef e) h = refl

-- STEPS

-- the line of APPINFO
pub head_put : (start : Option (List ℕ)) (count : ℕ) (t : Option (List ℕ)) (m : ℕ) (w : Writer) (u : Option (List ℕ)) (n : ℕ) (v : Writer) (d : Doctype) (ls : List Line) → Puts t m w.pen.held u n v.pen.held (spelled (appinfo_lines w.head)) → v.head ≡ None → v.within ≡ w.within → SameMarks w.pen v.pen → v.lines ≡ w.lines → StandsAfterLines start count t m w d ls → StandsAfterLines start count u n v d ls
head_put start count t m w u n v d ls puts head within same lines s = record {
  bytes = s.bytes ++ spelled (appinfo_lines w.head);
  stands = puts.goes_on start count s.bytes s.stands;
  added = ap (λ (x : Option (List ℕ)). (s.bytes ++ spelled (appinfo_lines w.head)) ++ spelled (appinfo_lines x)) head ∙ append-nil _ ∙ s.added;
  fresh = inl head;
  within = within ∙ s.within;
  marks = marks_kept d _ w.pen v.pen same s.marks;
  lines = rw lines s.lines;
}

-- some bytes more, which are those of some lines more
pub stands_more : (start : Option (List ℕ)) (count : ℕ) (t : Option (List ℕ)) (m : ℕ) (w : Writer) (u : Option (List ℕ)) (n : ℕ) (v : Writer) (d : Doctype) (ls more : List Line) (bytes : List ℕ) → StandsAfterLines start count t m w d ls → w.head ≡ None → v.head ≡ None → Puts t m w.pen.held u n v.pen.held bytes → all_added d (opened d nothing_open ls) more ≡ bytes → v.within ≡ (opened d (opened d nothing_open ls) more).within → AreMarks d (opened d (opened d nothing_open ls) more).known v.pen.entities.items v.pen.notations.items → v.lines ≡ w.lines → StandsAfterLines start count u n v d (ls ++ more)
stands_more start count t m w u n v d ls more bytes s old new puts are within marks lines =
    let was : s.bytes ≡ spelled (appinfo_lines d.syntax.appinfo) ++ all_added d nothing_open ls =
    sym (append-nil s.bytes) ∙ ap (λ (x : Option (List ℕ)). s.bytes ++ spelled (appinfo_lines x)) (sym old) ∙ s.added in
    let is_opened : opened d (opened d nothing_open ls) more ≡ opened d nothing_open (ls ++ more) = sym (opened_append d nothing_open ls more) in
    record {
      bytes = s.bytes ++ bytes;
      stands = puts.goes_on start count s.bytes s.stands;
      added =
          ap (λ (x : Option (List ℕ)). (s.bytes ++ bytes) ++ spelled (appinfo_lines x)) new
          ∙ append-nil (s.bytes ++ bytes)
          ∙ ap (λ x. x ++ bytes) was
          ∙ append_assoc (spelled (appinfo_lines d.syntax.appinfo)) (all_added d nothing_open ls) bytes
          ∙ ap (λ x. spelled (appinfo_lines d.syntax.appinfo) ++ x) (ap (λ x. all_added d nothing_open ls ++ x) (sym are) ∙ sym (all_added_append d nothing_open ls more));
      fresh = inl new;
      within = within ∙ ap (λ (o : Open). o.within) is_opened;
      marks = rw (← is_opened) marks;
      lines = rw lines s.lines;
    }

-- nothing
pub goes_nowhere : (d : Doctype) (t : Option (List ℕ)) (m : ℕ) (w : Writer) → Goes d [] t m w t m w
goes_nowhere d t m w = record { goes_on = λ start count ls s. rw (append-nil ls) s }

pub goes_as : (d : Doctype) (xs ys : List Line) (t : Option (List ℕ)) (m : ℕ) (w : Writer) (u : Option (List ℕ)) (n : ℕ) (v : Writer) → xs ≡ ys → Goes d xs t m w u n v → Goes d ys t m w u n v
goes_as d xs ys t m w u n v e g = rw (← e) g

-- data
data_stands : (start : Option (List ℕ)) (count : ℕ) (t : Option (List ℕ)) (m : ℕ) (w : Writer) (u : Option (List ℕ)) (n : ℕ) (v : Writer) (d : Doctype) (x : AnyUnit) (xs : List AnyUnit) (ls : List Line) → w.head ≡ None → v.head ≡ None → v.within ≡ true → SameMarks w.pen v.pen → v.lines ≡ w.lines → Puts t m w.pen.held u n v.pen.held (beginning w.within ++ flat_map (unit_bytes d) (x ∷ xs)) → StandsAfterLines start count t m w d ls → StandsAfterLines start count u n v d (ls ++ data_lines (map (unit_shape d) (x ∷ xs)))
data_stands start count t m w u n v d x xs ls old new within same lines puts s =
    let o : Open = opened d nothing_open ls in
    let adds : AddsData d o.known o.within (map (unit_shape d) (x ∷ xs)) = data_adds d o.known o.within (unit_shape d x) (map (unit_shape d) xs) in
    stands_more start count t m w u n v d ls (data_lines (map (unit_shape d) (x ∷ xs))) (beginning w.within ++ flat_map (unit_bytes d) (x ∷ xs)) s old new puts
    (adds.bytes ∙ ap (λ y. beginning o.within ++ y) (units_spelled d (x ∷ xs)) ∙ ap (λ b. beginning b ++ flat_map (unit_bytes d) (x ∷ xs)) (sym s.within))
    (within ∙ sym (ap (λ (y : Open). y.within) adds.leaves))
    (rw adds.leaves (marks_kept d o.known w.pen v.pen same s.marks)) lines

pub data_goes : (d : Doctype) (us : List AnyUnit) (t : Option (List ℕ)) (m : ℕ) (w : Writer) (u : Option (List ℕ)) (n : ℕ) (v : Writer) → is_none us ≡ false → w.head ≡ None → v.head ≡ None → v.within ≡ true → SameMarks w.pen v.pen → v.lines ≡ w.lines → Puts t m w.pen.held u n v.pen.held (beginning w.within ++ flat_map (unit_bytes d) us) → Goes d (lines_of d (said_data d us)) t m w u n v
data_goes d [] t m w u n v some old new within same lines puts = cc
data_goes d (x ∷ xs) t m w u n v some old new within same lines puts =
    goes_as d _ _ t m w u n v (sym (data_said d (x ∷ xs)))
    (record { goes_on = λ start count ls s. data_stands start count t m w u n v d x xs ls old new within same lines puts s })

pub some_of : {X : Type 0} (xs : List X) → (length xs == 0) ≡ false → is_none xs ≡ false
some_of [] e = cc
some_of (x ∷ xs) e = refl

-- characters as they stand
pub bytes_go : (d : Doctype) (bytes : List ℕ) (t : Option (List ℕ)) (m : ℕ) (w : Writer) (u : Option (List ℕ)) (n : ℕ) (v : Writer) → is_none bytes ≡ false → w.head ≡ None → v.head ≡ None → v.within ≡ true → SameMarks w.pen v.pen → v.lines ≡ w.lines → Puts t m w.pen.held u n v.pen.held (beginning w.within ++ text_bytes bytes) → Goes d (lines_of d (said_data d (characters bytes))) t m w u n v
bytes_go d [] t m w u n v some old new within same lines puts = cc
bytes_go d (b ∷ bs) t m w u n v some old new within same lines puts =
    data_goes d (characters (b ∷ bs)) t m w u n v refl old new within same lines (puts_as _ _ _ _ _ _ (beginning w.within ++ text_bytes (b ∷ bs)) _ (ap (λ z. beginning w.within ++ z) (sym (characters_bytes d (b ∷ bs)))) puts)

pub no_bytes_go : (d : Doctype) (bytes : List ℕ) (t : Option (List ℕ)) (m : ℕ) (w : Writer) → (length bytes == 0) ≡ true → Goes d (lines_of d (said_data d (characters bytes))) t m w t m w
no_bytes_go d bytes t m w none = goes_as d [] _ t m w t m w (ap (λ (x : List ℕ). lines_of d (said_data d (characters x))) (sym (none_of bytes none))) (goes_nowhere d t m w)

pub no_units_go : (d : Doctype) (us : List AnyUnit) (t : Option (List ℕ)) (m : ℕ) (w : Writer) → (length us == 0) ≡ true → Goes d (lines_of d (said_data d us)) t m w t m w
no_units_go d us t m w none = goes_as d [] _ t m w t m w (ap (λ (x : List AnyUnit). lines_of d (said_data d x)) (sym (none_of us none))) (goes_nowhere d t m w)

-- lines that aren't data, behind the end of an open line of data
others_stand : (start : Option (List ℕ)) (count : ℕ) (t : Option (List ℕ)) (m : ℕ) (w : Writer) (h : Option (List ℕ)) (k : ℕ) (x : Writer) (u : Option (List ℕ)) (n : ℕ) (v : Writer) (d : Doctype) (more ls : List Line) → ((known : Known) (within : Bool) → Adds d known within more) → w.head ≡ None → v.head ≡ None → v.within ≡ false → Puts t m w.pen.held h k x.pen.held (closing w.within) → SameMarks w.pen x.pen → Defines d (placed d more) h k x.pen u n v.pen → v.lines ≡ w.lines → StandsAfterLines start count t m w d ls → StandsAfterLines start count u n v d (ls ++ more)
others_stand start count t m w h k x u n v d more ls add old new within close same defines lines s =
    let o : Open = opened d nothing_open ls in
    let adds : Adds d o.known o.within more = add o.known o.within in
    let are : AreMarks d o.known x.pen.entities.items x.pen.notations.items = marks_kept d o.known w.pen x.pen same s.marks in
    stands_more start count t m w u n v d ls more (closing w.within ++ spelled (placed d more o.known).lines) s old new
    (puts_then _ _ _ _ _ _ _ _ _ (closing w.within) (spelled (placed d more o.known).lines) close (defines.puts o.known are))
    (adds.bytes ∙ ap (λ b. closing b ++ spelled (placed d more o.known).lines) (sym s.within))
    (within ∙ sym (ap (λ (y : Open). y.within) adds.leaves))
    (rw adds.leaves (defines.marks o.known are))
    lines

pub mark_goes : (d : Doctype) (e : Event) (t : Option (List ℕ)) (m : ℕ) (w : Writer) (h : Option (List ℕ)) (k : ℕ) (x : Writer) (u : Option (List ℕ)) (n : ℕ) (v : Writer) → is_other e ≡ true → w.head ≡ None → v.head ≡ None → v.within ≡ false → Puts t m w.pen.held h k x.pen.held (closing w.within) → SameMarks w.pen x.pen → Defines d (placed d (mark_lines d e)) h k x.pen u n v.pen → v.lines ≡ w.lines → Goes d (lines_of d (said d e)) t m w u n v
mark_goes d e t m w h k x u n v other old new within close same defines lines =
    let mark : is_chars e ≡ false = not_chars e other in
    goes_as d _ _ t m w u n v (sym (mark_said d e mark))
    (record { goes_on = λ start count ls s. others_stand start count t m w h k x u n v d (mark_lines d e) ls (λ known within. mark_adds d known within e mark) old new within close same defines lines s })
  where
    not_chars : (e : Event) → is_other e ≡ true → is_chars e ≡ false
    not_chars (event.Start element place values) h = refl
    not_chars (event.End element) h = refl
    not_chars (event.Chars us) h = cc
    not_chars (event.Pi text entity place) h = refl
    not_chars (event.DataRef e) h = refl

-- the line of a mark and the name of an element type, whose line is kept
abbrev pub PutsName : Doctype → ℕ → ℕ → Option (List ℕ) → ℕ → Writer → Option (List ℕ) → ℕ → Writer → Type 0
PutsName d mark element t m w u n v = AreLines d w.lines.items → Puts t m w.pen.held u n v.pen.held (closing w.within ++ (mark ∷ name_at d element ++ 10 ∷ []))

name_stands : (start : Option (List ℕ)) (count : ℕ) (t : Option (List ℕ)) (m : ℕ) (w : Writer) (u : Option (List ℕ)) (n : ℕ) (v : Writer) (d : Doctype) (l : Line) (mark element : ℕ) (ls : List Line) → ((known : Known) (within : Bool) → Adds d known within (l ∷ [])) → ((known : Known) → placed d (l ∷ []) known ≡ record { lines = l ∷ []; known = known }) → mark ∷ name_at d element ++ 10 ∷ [] ≡ spelled (l ∷ []) → w.head ≡ None → v.head ≡ None → v.within ≡ false → PutsName d mark element t m w u n v → SameMarks w.pen v.pen → v.lines ≡ w.lines → StandsAfterLines start count t m w d ls → StandsAfterLines start count u n v d (ls ++ (l ∷ []))
name_stands start count t m w u n v d l mark element ls add plain is old new within puts same lines s =
    let o : Open = opened d nothing_open ls in
    let adds : Adds d o.known o.within (l ∷ []) = add o.known o.within in
    let bytes = mark ∷ name_at d element ++ 10 ∷ [] in
    stands_more start count t m w u n v d ls (l ∷ []) (closing w.within ++ bytes) s old new
    (puts s.lines)
    (adds.bytes ∙ ap (λ (x : Defined). closing o.within ++ spelled x.lines) (plain o.known) ∙ ap (λ x. closing o.within ++ x) (sym is) ∙ ap (λ b. closing b ++ bytes) (sym s.within))
    (within ∙ sym (ap (λ (y : Open). y.within) adds.leaves))
    (subst (λ (k : Known). AreMarks d k v.pen.entities.items v.pen.notations.items) (sym (ap (λ (y : Open). y.known) adds.leaves ∙ ap (λ (x : Defined). x.known) (plain o.known))) (marks_kept d o.known w.pen v.pen same s.marks))
    lines

pub finish_goes : (d : Doctype) (element : ℕ) (t : Option (List ℕ)) (m : ℕ) (w : Writer) (u : Option (List ℕ)) (n : ℕ) (v : Writer) → w.head ≡ None → v.head ≡ None → v.within ≡ false → PutsName d 41 element t m w u n v → SameMarks w.pen v.pen → v.lines ≡ w.lines → Goes d (FinishLine (name_at d element) ∷ []) t m w u n v
finish_goes d element t m w u n v old new within puts same lines = record {
  goes_on = λ start count ls s. name_stands start count t m w u n v d (FinishLine (name_at d element)) 41 element ls
      (λ known now. other_lines_add d known now _ [] (record { adds = λ o. refl; leaves = λ o. refl; joins = λ ls. refl; front = λ known ls. refl }, tt)) (λ known. refl) (name_line 41 (name_at d element)) old new within puts same lines s;
}

pub bare_goes : (d : Doctype) (element : ℕ) (t : Option (List ℕ)) (m : ℕ) (w : Writer) (u : Option (List ℕ)) (n : ℕ) (v : Writer) → w.head ≡ None → v.head ≡ None → v.within ≡ false → PutsName d 40 element t m w u n v → SameMarks w.pen v.pen → v.lines ≡ w.lines → Goes d (StartLine (name_at d element) ∷ []) t m w u n v
bare_goes d element t m w u n v old new within puts same lines = record {
  goes_on = λ start count ls s. name_stands start count t m w u n v d (StartLine (name_at d element)) 40 element ls
      (λ known now. start_adds d known now (name_at d element) []) (λ known. refl) (name_line 40 (name_at d element)) old new within puts same lines s;
}

-- the line of a start behind those of its values
pub full_goes : (d : Doctype) (as' : List Attribute) (element : ℕ) (t : Option (List ℕ)) (m : ℕ) (w : Writer) (h : Option (List ℕ)) (k : ℕ) (x : Writer) (i : Option (List ℕ)) (j : ℕ) (y : Writer) (u : Option (List ℕ)) (n : ℕ) (v : Writer) → w.head ≡ None → v.head ≡ None → v.within ≡ false → Puts t m w.pen.held h k x.pen.held (closing w.within) → SameMarks w.pen x.pen → Defines d (placed d (attribute_lines d as')) h k x.pen i j y.pen → y.within ≡ false → PutsName d 40 element i j y u n v → SameMarks y.pen v.pen → y.lines ≡ w.lines → v.lines ≡ w.lines → Goes d (attribute_lines d as' ++ (StartLine (name_at d element) ∷ [])) t m w u n v
full_goes d as' element t m w h k x i j y u n v old new within close same values shut puts marks was lines = record {
  goes_on = λ start count ls s.
      let name : Puts i j y.pen.held u n v.pen.held (40 ∷ name_at d element ++ 10 ∷ []) = ap_closing shut (puts (rw was s.lines)) in
      others_stand start count t m w h k x u n v d (attribute_lines d as' ++ (StartLine (name_at d element) ∷ [])) ls
      (λ known now. start_adds d known now (name_at d element) as') old new within close same
      (start_put d (attribute_lines d as') (name_at d element) h k x.pen i j y.pen u n v.pen values name marks) lines s;
}
  where
    ap_closing : {t u : Option (List ℕ)} {m n : ℕ} {a b : List ℕ × Bool} {within : Bool} {bytes : List ℕ} → within ≡ false → Puts t m a u n b (closing within ++ bytes) → Puts t m a u n b bytes
    ap_closing {t} {u} {m} {n} {a} {b} {within} {bytes} e p = puts_as _ _ _ _ _ _ (closing within ++ bytes) bytes (ap (λ z. closing z ++ bytes) e) p

-- behind the line of APPINFO
pub goes_headed : (d : Doctype) (more : List Line) (t : Option (List ℕ)) (m : ℕ) (w : Writer) (h : Option (List ℕ)) (k : ℕ) (x : Writer) (u : Option (List ℕ)) (n : ℕ) (v : Writer) → Puts t m w.pen.held h k x.pen.held (spelled (appinfo_lines w.head)) → x.head ≡ None → x.within ≡ w.within → SameMarks w.pen x.pen → x.lines ≡ w.lines → Goes d more h k x u n v → Goes d more t m w u n v
goes_headed d more t m w h k x u n v puts head within same lines goes = record {
  goes_on = λ start count ls s. goes.goes_on start count ls (head_put start count t m w h k x d ls puts head within same lines s);
}

-- a start whose definitions were found
pub start_said : (d : Doctype) (ds : List Definition) (e : Event) (element : ℕ) (place : Place) (values vs : List AttrValue) → e ≡ event.Start element place values → vs ≡ values → start_attributes ds e ≡ attributes_of d e → attribute_lines d (attributes_with ds vs) ++ (StartLine (name_at d element) ∷ []) ≡ lines_of d (said d e)
start_said d ds e element place values vs is items same =
    let named : attributes_with ds vs ≡ attributes_with (definitions_at d element) values = ap (attributes_with ds) items ∙ sym (ap (start_attributes ds) is) ∙ same ∙ ap (attributes_of d) is in
    ap (λ (v : List Attribute). attribute_lines d v ++ (StartLine (name_at d element) ∷ [])) named ∙ sym (append-nil _) ∙ sym (ap (λ (x : Event). lines_of d (said d x)) is)

-- a start without values
pub bare_is : (d : Doctype) (ds : List Definition) (vs : List AttrValue) (element : ℕ) → length vs < 1 → StartLine (name_at d element) ∷ [] ≡ attribute_lines d (attributes_with ds vs) ++ (StartLine (name_at d element) ∷ [])
bare_is d ds vs element none = ap (λ (v : List Attribute). attribute_lines d v ++ (StartLine (name_at d element) ∷ [])) (nothing_with ds vs none)

-- THE END
pub all_spelled : (d : Doctype) (es : List Said) (conforming : Bool) →
    (spelled (appinfo_lines d.syntax.appinfo) ++ all_added d nothing_open (lines_of d es)) ++ (closing (opened d nothing_open (lines_of d es)).within ++ spelled (conforming_lines conforming))
    ≡ spell_lines (all_shown (lines_said d es conforming))
all_spelled d es conforming =
    let head = spelled (appinfo_lines d.syntax.appinfo) in
    let ls = lines_of d es in
    let body = with_definitions d none_known (joined ls) in
    append_assoc head (all_added d nothing_open ls) _
    ∙ ap (λ v. head ++ v)
    (sym (append_assoc (all_added d nothing_open ls) (closing (opened d nothing_open ls).within) (spelled (conforming_lines conforming)))
    ∙ ap (λ v. v ++ spelled (conforming_lines conforming)) (are_joined d ls none_known false)
    ∙ sym (spelled_append body (conforming_lines conforming)))
    ∙ sym (spelled_append (appinfo_lines d.syntax.appinfo) (body ++ conforming_lines conforming))

-- WHOLE CALLS
pub wrote_more : (start : Option (List ℕ)) (count : ℕ) (t : Option (List ℕ)) (m : ℕ) (w : Writer) (u : Option (List ℕ)) (n : ℕ) (v : Writer) (d : Doctype) (es : List Event) (e : Event) → Goes d (lines_of d (said d e)) t m w u n v → StandsAfter start count t m w d es → StandsAfter start count u n v d (es ++ e ∷ [])
wrote_more start count t m w u n v d es e goes s = rw (one_more_said d es e) (goes.goes_on start count (lines_of d (all_said d es)) s)

-- at the end nothing is held back
pub finished : (start : Option (List ℕ)) (count : ℕ) (t : Option (List ℕ)) (m : ℕ) (w : Writer) (h : Option (List ℕ)) (k : ℕ) (x : Writer) (u : Option (List ℕ)) (n : ℕ) (i : List ℕ × Bool) (v : Option (List ℕ)) (o : ℕ) (j : List ℕ × Bool) (y : Option (List ℕ)) (q : ℕ) (z : List ℕ × Bool) (d : Doctype) (es : List Event) (conforming : Bool) → Puts t m w.pen.held h k x.pen.held (spelled (appinfo_lines w.head)) → x.within ≡ w.within → Puts h k x.pen.held u n i (closing x.within) → Puts u n i v o j (spelled (conforming_lines conforming)) → Puts v o j y q z [] → StandsAfter start count t m w d es → Stands start count y q z (spell_lines (lines_told d es conforming))
finished start count t m w h k x u n i v o j y q z d es conforming head within close last flushed s =
    let ls = lines_of d (all_said d es) in
    let whole : (((s.bytes ++ spelled (appinfo_lines w.head)) ++ closing x.within) ++ spelled (conforming_lines conforming)) ++ [] ≡ spell_lines (lines_told d es conforming) =
    append-nil _
    ∙ append_assoc (s.bytes ++ spelled (appinfo_lines w.head)) (closing x.within) (spelled (conforming_lines conforming))
    ∙ ap (λ b. (s.bytes ++ spelled (appinfo_lines w.head)) ++ (closing b ++ spelled (conforming_lines conforming))) (within ∙ s.within)
    ∙ ap (λ b. b ++ (closing (opened d nothing_open ls).within ++ spelled (conforming_lines conforming))) s.added
    ∙ all_spelled d (all_said d es) conforming in
    rw (← whole) (flushed.goes_on start count _ (last.goes_on start count _ (close.goes_on start count _ (head.goes_on start count s.bytes s.stands))))

-- before the first line nothing was put
pub begun : (start : Option (List ℕ)) (count : ℕ) (w : Writer) (d : Doctype) → w.pen.held ≡ ([], false) → w.head ≡ d.syntax.appinfo → w.within ≡ false → AreMarks d none_known w.pen.entities.items w.pen.notations.items → AreLines d w.lines.items → StandsAfter start count start count w d []
begun start count w d held head within marks lines = record {
  bytes = [];
  stands = rw held (begins start count);
  added = ap (λ (x : Option (List ℕ)). spelled (appinfo_lines x)) head ∙ sym (append-nil (spelled (appinfo_lines d.syntax.appinfo)));
  fresh = inr refl;
  within = within;
  marks = marks;
  lines = lines;
}

-- after a fault the sink has a front of all lines
pub faulted : (start : Option (List ℕ)) (count : ℕ) (t : Option (List ℕ)) (m : ℕ) (w : Writer) (d : Doctype) (es rest : List Event) (conforming : Bool) → w.pen.held.1 ≡ true → StandsAfter start count t m w d es → AppendsFront start t (spell_lines (lines_told d (es ++ rest) conforming)) × Rose count m
faulted start count t m w d es rest conforming failed s =
    let head = spelled (appinfo_lines d.syntax.appinfo) in
    let ls = lines_of d (all_said d es) in
    let more = lines_of d (all_said d rest) in
    let all : lines_of d (all_said d (es ++ rest)) ≡ ls ++ more = ap (lines_of d) (flat_map-append (said d) es rest) ∙ lines_append d (all_said d es) (all_said d rest) in
    let last = closing (opened d nothing_open (lines_of d (all_said d (es ++ rest)))).within ++ spelled (conforming_lines conforming) in
    let front : AppendsFront start t ((s.bytes ++ spelled (appinfo_lines w.head)) ++ (all_added d (opened d nothing_open ls) more ++ last)) =
    Front-first start t _ (all_added d (opened d nothing_open ls) more ++ last) (Front-first start t s.bytes (spelled (appinfo_lines w.head)) (stopped start t count m w.pen.held s.bytes failed s.stands)) in
    let whole : (s.bytes ++ spelled (appinfo_lines w.head)) ++ (all_added d (opened d nothing_open ls) more ++ last) ≡ spell_lines (lines_told d (es ++ rest) conforming) =
    ap (λ b. b ++ (all_added d (opened d nothing_open ls) more ++ last)) s.added
    ∙ sym (append_assoc (head ++ all_added d nothing_open ls) (all_added d (opened d nothing_open ls) more) last)
    ∙ ap (λ b. b ++ last) (append_assoc head (all_added d nothing_open ls) (all_added d (opened d nothing_open ls) more) ∙ ap (λ b. head ++ b) (sym (all_added_append d nothing_open ls more) ∙ ap (all_added d nothing_open) (sym all)))
    ∙ all_spelled d (all_said d (es ++ rest)) conforming in
    (rw (← whole) front, s.stands.failed failed)
