-- What the events of a parser say is spelled as the events are.
use Rattle.std.proofs.Common.{◌≡◌, ℕ, suc, zero, ◌+◌, Bool, true, false, ◌&&◌, ◌||◌, Option, Some, None, List, [], ◌∷◌, ◌++◌, length, map, take, slice_get, option_map, refl, sym, ap, ◌∙◌, append-nil, append_assoc, arith, if◌then◌else◌}
use Rattle.std.specs.Prelude.{flat_map}
use Rattle.std.specs.List.{list_all}
use Rattle.sgml_text.specs.declared.unit.Unit.{Unit as AnyUnit}
use Rattle.sgml_text.specs.declared.unit.Unit.TheVariants as unit
use Rattle.sgml_attr.specs.declared.definition.Definition.{Definition}
use Rattle.sgml_attr.specs.declared.value.AttrValue.{AttrValue}
use Rattle.sgml_dtd_elements.specs.Types.{ElementType, types}
use Rattle.sgml_dtd.specs.Doctypes.{Doctype, definitions_for}
use Rattle.sgml_said.specs.theory_reading.Reads.{Attribute}
use Rattle.sgml_said.specs.theory_reading.Events.{Event as Said, Started, Ended, Byte, SpecificData, External, Instruction, instructions}
use Rattle.sgml_events.specs.declared.event.Event.{Event}
use Rattle.sgml_events.specs.declared.event.Event.TheVariants as event
use Rattle.sgml_said.specs.Told.{name_in, definitions_in, name_at, definitions_at, attributes_with, said_unit, said_data, said, all_said}
use Rattle.sgml_full.specs.declared.inside.Inside.{Inside}
use Rattle.sgml_full.specs.declared.inside.Inside.TheVariants as inside
use Rattle.sgml_full.specs.Spelled.{is_paired, raw_data, spelled_data, raw_unit, spelled_unit}
use Rattle.sgml_full.specs.Full.{refers, is_conref, is_given, content_of, inside_of, inside_after, spelled_said, after_said, spelled_from, full_document, first_unspelled}
use Rattle.sgml_full.specs.Events.{inside_at, data_in, after_data, spelled_event, after_event, spelled_events, is_spelled, IsFirstUnspelled}
use Rattle.sgml_full.proofs.Specified.{no_reference}

-- ONE LIST AFTER ANOTHER
abbrev after_all : Doctype → Inside → List Said → Inside
after_all d i [] = i
after_all d i (e ∷ es) = after_all d (after_said d i e) es

from-append : (d : Doctype) (i : Inside) (xs ys : List Said) → spelled_from d i (xs ++ ys) ≡ spelled_from d i xs ++ spelled_from d (after_all d i xs) ys
from-append d i [] ys = refl
from-append d i (x ∷ xs) ys =
    ap (λ zs. spelled_said d i x ++ zs) (from-append d (after_said d i x) xs ys)
    ∙ sym (append_assoc (spelled_said d i x) (spelled_from d (after_said d i x) xs) (spelled_from d (after_all d (after_said d i x) xs) ys))

-- DATA
unit-mixed : (d : Doctype) (u : AnyUnit) → spelled_said d inside.Mixed (said_unit d u) ≡ spelled_unit d u
unit-mixed d (unit.Byte b) = refl
unit-mixed d (unit.Coded b) = refl
unit-mixed d (unit.Sdata e) = refl

unit-nothing : (d : Doctype) (u : AnyUnit) → spelled_said d inside.Nothing (said_unit d u) ≡ spelled_unit d u
unit-nothing d (unit.Byte b) = refl
unit-nothing d (unit.Coded b) = refl
unit-nothing d (unit.Sdata e) = refl

unit-lines : (d : Doctype) (u : AnyUnit) → spelled_said d inside.Lines (said_unit d u) ≡ raw_unit d u
unit-lines d (unit.Byte b) = refl
unit-lines d (unit.Coded b) = refl
unit-lines d (unit.Sdata e) = refl

unit-first : (d : Doctype) (u : AnyUnit) → spelled_said d inside.Characters (said_unit d u) ≡ 10 ∷ raw_unit d u
unit-first d (unit.Byte b) = refl
unit-first d (unit.Coded b) = refl
unit-first d (unit.Sdata e) = refl

after-mixed : (d : Doctype) (u : AnyUnit) → after_said d inside.Mixed (said_unit d u) ≡ inside.Mixed
after-mixed d (unit.Byte b) = refl
after-mixed d (unit.Coded b) = refl
after-mixed d (unit.Sdata e) = refl

after-nothing : (d : Doctype) (u : AnyUnit) → after_said d inside.Nothing (said_unit d u) ≡ inside.Nothing
after-nothing d (unit.Byte b) = refl
after-nothing d (unit.Coded b) = refl
after-nothing d (unit.Sdata e) = refl

after-lines : (d : Doctype) (u : AnyUnit) → after_said d inside.Lines (said_unit d u) ≡ inside.Lines
after-lines d (unit.Byte b) = refl
after-lines d (unit.Coded b) = refl
after-lines d (unit.Sdata e) = refl

after-first : (d : Doctype) (u : AnyUnit) → after_said d inside.Characters (said_unit d u) ≡ inside.Lines
after-first d (unit.Byte b) = refl
after-first d (unit.Coded b) = refl
after-first d (unit.Sdata e) = refl

data-mixed : (d : Doctype) (us : List AnyUnit) → spelled_data d us ≡ spelled_from d inside.Mixed (said_data d us)
data-mixed d [] = refl
data-mixed d (u ∷ us) = λ i. sym (unit-mixed d u) i ++ (data-mixed d us ∙ ap (λ x. spelled_from d x (said_data d us)) (sym (after-mixed d u))) i

data-nothing : (d : Doctype) (us : List AnyUnit) → spelled_data d us ≡ spelled_from d inside.Nothing (said_data d us)
data-nothing d [] = refl
data-nothing d (u ∷ us) = λ i. sym (unit-nothing d u) i ++ (data-nothing d us ∙ ap (λ x. spelled_from d x (said_data d us)) (sym (after-nothing d u))) i

data-lines : (d : Doctype) (us : List AnyUnit) → raw_data d us ≡ spelled_from d inside.Lines (said_data d us)
data-lines d [] = refl
data-lines d (u ∷ us) = λ i. sym (unit-lines d u) i ++ (data-lines d us ∙ ap (λ x. spelled_from d x (said_data d us)) (sym (after-lines d u))) i

data-said : (d : Doctype) (i : Inside) (us : List AnyUnit) → data_in d i us ≡ spelled_from d i (said_data d us)
data-said d inside.Mixed us = data-mixed d us
data-said d inside.Nothing us = data-nothing d us
data-said d inside.Lines us = data-lines d us
data-said d inside.Characters [] = refl
data-said d inside.Characters (u ∷ us) = λ i. sym (unit-first d u) i ++ (data-lines d us ∙ ap (λ x. spelled_from d x (said_data d us)) (sym (after-first d u))) i

mixed-stays : (d : Doctype) (us : List AnyUnit) → inside.Mixed ≡ after_all d inside.Mixed (said_data d us)
mixed-stays d [] = refl
mixed-stays d (u ∷ us) = mixed-stays d us ∙ ap (λ x. after_all d x (said_data d us)) (sym (after-mixed d u))

nothing-stays : (d : Doctype) (us : List AnyUnit) → inside.Nothing ≡ after_all d inside.Nothing (said_data d us)
nothing-stays d [] = refl
nothing-stays d (u ∷ us) = nothing-stays d us ∙ ap (λ x. after_all d x (said_data d us)) (sym (after-nothing d u))

lines-stay : (d : Doctype) (us : List AnyUnit) → inside.Lines ≡ after_all d inside.Lines (said_data d us)
lines-stay d [] = refl
lines-stay d (u ∷ us) = lines-stay d us ∙ ap (λ x. after_all d x (said_data d us)) (sym (after-lines d u))

data-after : (d : Doctype) (i : Inside) (us : List AnyUnit) → after_data i us ≡ after_all d i (said_data d us)
data-after d inside.Mixed us = mixed-stays d us
data-after d inside.Nothing us = nothing-stays d us
data-after d inside.Lines us = lines-stay d us
data-after d inside.Characters [] = refl
data-after d inside.Characters (u ∷ us) = lines-stay d us ∙ ap (λ x. after_all d x (said_data d us)) (sym (after-first d u))

-- STARTS
abbrev values_of : List Attribute → List AttrValue
values_of xs = map (λ (a : Attribute). a.value) xs

refers-with : (ds : List Definition) (vs : List AttrValue) → refers ds vs ≡ refers ds (values_of (attributes_with ds vs))
refers-with [] vs = refl
refers-with (a ∷ ds) [] = refl
refers-with (a ∷ ds) (v ∷ vs) = ap (λ t. (is_conref a.default && is_given v) || t) (refers-with ds vs)

refers-in : (d : Doctype) (o : Option ElementType) (vs : List AttrValue) → refers (definitions_in d o) vs ≡ refers (definitions_for d.lists (name_in o)) (values_of (attributes_with (definitions_in d o) vs))
refers-in d None vs = sym (no_reference (definitions_for d.lists []))
refers-in d (Some t) vs = refers-with (definitions_for d.lists t.name) vs

-- ONE EVENT
event-said : (d : Doctype) (i : Inside) (e : Event) → spelled_event d i e ≡ spelled_from d i (said d e)
event-said d i (event.Start element place values) = sym (append-nil (spelled_event d i (event.Start element place values)))
event-said d i (event.End element) = sym (append-nil (spelled_event d i (event.End element)))
event-said d i (event.Chars us) = data-said d i us
event-said d i (event.Pi text entity place) = sym (append-nil (spelled_event d i (event.Pi text entity place)))
event-said d i (event.DataRef e) = sym (append-nil (spelled_event d i (event.DataRef e)))

event-after : (d : Doctype) (i : Inside) (e : Event) → after_event d i e ≡ after_all d i (said d e)
event-after d i (event.Start element place values) =
    ap (λ b. inside_of b (content_of d (name_at d element))) (refers-in d (slice_get (types d.elements) element) values)
event-after d i (event.End element) = refl
event-after d i (event.Chars us) = data-after d i us
event-after d i (event.Pi text entity place) = refl
event-after d i (event.DataRef e) = refl

-- ALL
events-said : (d : Doctype) (i : Inside) (es : List Event) → spelled_events d i es ≡ spelled_from d i (all_said d es)
events-said d i [] = refl
events-said d i (e ∷ es) =
    (λ j. event-said d i e j ++ (events-said d (after_event d i e) es ∙ ap (λ x. spelled_from d x (all_said d es)) (event-after d i e)) j)
    ∙ sym (from-append d i (said d e) (all_said d es))

pub document-said : (prolog : List ℕ) (d : Doctype) (es : List Event) → prolog ++ (spelled_events d inside.Mixed es ++ 10 ∷ []) ≡ full_document prolog d (all_said d es)
document-said prolog d es = ap (λ zs. prolog ++ (zs ++ 10 ∷ [])) (events-said d inside.Mixed es)

-- WHAT CAN'T BE SPELLED
data-spells : (d : Doctype) (us : List AnyUnit) (n : ℕ) (es : List Said) → first_unspelled n (said_data d us ++ es) ≡ first_unspelled n es
data-spells d [] n es = refl
data-spells d (unit.Byte b ∷ us) n es = data-spells d us n es
data-spells d (unit.Coded b ∷ us) n es = data-spells d us n es
data-spells d (unit.Sdata e ∷ us) n es = data-spells d us n es

data-instructs : (d : Doctype) (us : List AnyUnit) (es : List Said) → instructions (said_data d us ++ es) ≡ instructions es
data-instructs d [] es = refl
data-instructs d (unit.Byte b ∷ us) es = data-instructs d us es
data-instructs d (unit.Coded b ∷ us) es = data-instructs d us es
data-instructs d (unit.Sdata e ∷ us) es = data-instructs d us es

spells : (b : Bool) (n : ℕ) (o : Option ℕ) → b ≡ true → (if b then o else Some n) ≡ o
spells true n o e = refl
spells false n o e = absurd (cc)

left-true : (a b : Bool) → (a && b) ≡ true → a ≡ true
left-true true b e = refl
left-true false b e = absurd (cc)

right-true : (a b : Bool) → (a && b) ≡ true → b ≡ true
right-true true b e = e
right-true false b e = absurd (cc)

pub none-unspelled : (d : Doctype) (es : List Event) (n : ℕ) → list_all is_spelled es ≡ true → first_unspelled n (all_said d es) ≡ None
none-unspelled d [] n a = refl
none-unspelled d (event.Start element place values ∷ es) n a = none-unspelled d es n a
none-unspelled d (event.End element ∷ es) n a = none-unspelled d es n a
none-unspelled d (event.Chars us ∷ es) n a = data-spells d us n (all_said d es) ∙ none-unspelled d es n a
none-unspelled d (event.Pi text None place ∷ es) n a =
    spells (is_paired false text) n (first_unspelled (suc n) (all_said d es)) (left-true (is_paired false text) (list_all is_spelled es) a)
    ∙ none-unspelled d es (suc n) (right-true (is_paired false text) (list_all is_spelled es) a)
none-unspelled d (event.Pi text (Some e) place ∷ es) n a = none-unspelled d es (suc n) a
none-unspelled d (event.DataRef e ∷ es) n a = none-unspelled d es n a

stops : (b : Bool) (n : ℕ) (o : Option ℕ) → Some b ≡ Some false → (if b then o else Some n) ≡ Some (n + 0)
stops true n o e = absurd (cc)
stops false n o e = ap Some (omega arith)

further : (n m : ℕ) (o : Option ℕ) → o ≡ Some (suc n + m) → o ≡ Some (n + suc m)
further n m o e = e ∙ ap Some (omega arith)

never : {A : Type 0} → Some true ≡ Some false → A
never e = absurd (cc)

-- it is that of the first event, among the instructions
pub first-said : (d : Doctype) (es : List Event) (index n : ℕ) → IsFirstUnspelled es index → first_unspelled n (all_said d es) ≡ Some (n + length (instructions (all_said d (take index es))))
first-said d [] index n f = absurd (cc (f.isnt))
first-said d (event.Pi text None place ∷ es) zero n f = stops (is_paired false text) n (first_unspelled (suc n) (all_said d es)) f.isnt
first-said d (event.Pi text (Some e) place ∷ es) zero n f = never f.isnt
first-said d (event.Start element place values ∷ es) zero n f = never f.isnt
first-said d (event.End element ∷ es) zero n f = never f.isnt
first-said d (event.Chars us ∷ es) zero n f = never f.isnt
first-said d (event.DataRef e ∷ es) zero n f = never f.isnt
first-said d (event.Start element place values ∷ es) (suc index) n f = first-said d es index n (record { all = f.all; isnt = f.isnt })
first-said d (event.End element ∷ es) (suc index) n f = first-said d es index n (record { all = f.all; isnt = f.isnt })
first-said d (event.Chars us ∷ es) (suc index) n f =
    data-spells d us n (all_said d es)
    ∙ (first-said d es index n (record { all = f.all; isnt = f.isnt })
    ∙ ap (λ zs. Some (n + length zs)) (sym (data-instructs d us (all_said d (take index es)))))
first-said d (event.Pi text None place ∷ es) (suc index) n f =
    let here = left-true (is_paired false text) (list_all is_spelled (take index es)) f.all in
    let there = right-true (is_paired false text) (list_all is_spelled (take index es)) f.all in
    further n (length (instructions (all_said d (take index es)))) _
    (spells (is_paired false text) n (first_unspelled (suc n) (all_said d es)) here ∙ first-said d es index (suc n) (record { all = there; isnt = f.isnt }))
first-said d (event.Pi text (Some e) place ∷ es) (suc index) n f =
    further n (length (instructions (all_said d (take index es)))) _ (first-said d es index (suc n) (record { all = f.all; isnt = f.isnt }))
first-said d (event.DataRef e ∷ es) (suc index) n f = first-said d es index n (record { all = f.all; isnt = f.isnt })
