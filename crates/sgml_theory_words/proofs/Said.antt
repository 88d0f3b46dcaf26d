-- What is said in words: the names of element types and attributes are words, and the numbers of entities are of those
-- that are declared. It stays so.
use Rattle.std.proofs.Common.{◌≡◌, ℕ, Bool, true, false, ◌&&◌, List, [], ◌∷◌, ◌++◌, Option, None, Some, is_some, refl, ap, ◌∙◌, if◌then◌else◌}
use Rattle.std.specs.List.{list_all}
use Rattle.std.proofs.lemmas.List.Folds.{list_all-append}
use Rattle.sgml_event_lines.specs.esis.Grammar.{is_word}
use Rattle.sgml_event_lines.proofs.esis.Tokens.{both}
use Rattle.sgml_event_lines.specs.entity.declared.kinds.Entity.{Entity}
use Rattle.sgml_event_lines.specs.attr.declared.value.AttrValue.{AttrValue}
use Rattle.sgml_event_lines.specs.attr.declared.value.AttrValue.TheVariants as value
use Rattle.sgml_event_lines.specs.records.Items.{Item}
use Rattle.sgml_event_lines.specs.records.Facts.{releases, one_waits}
use Rattle.sgml_event_lines.specs.dtd.Doctypes.{Doctype}
use Rattle.sgml_event_lines.specs.theory_reading.Types.{entity}
use Rattle.sgml_event_lines.specs.theory_reading.Pieces.{Kind}
use Rattle.sgml_event_lines.specs.theory_reading.Facets.{declares}
use Rattle.sgml_event_lines.specs.theory_reading.Reads.{Attribute}
use Rattle.sgml_event_lines.specs.theory_reading.Events.{Event, Started, Ended, Byte, SpecificData, External, Instruction, Shown, told_item, with_item, told}
use Rattle.sgml_event_lines.proofs.theory_reading.Numbered.{number-stays}
use Rattle.sgml_event_lines.specs.ReadBack.{is_some_entity, value_words}
use Rattle.sgml_theory_words.proofs.Bytes.{and}

abbrev pub attribute_words : Doctype → Attribute → Bool
attribute_words d a = is_word a.attribute && value_words d a.value

abbrev pub said_words : Doctype → Event → Bool
said_words d (Started n attributes) = is_word n && list_all (attribute_words d) attributes
said_words d (Ended n) = is_word n
said_words d (External e) = is_some_entity d e
said_words d _ = true

abbrev pub all_said_words : Doctype → List Event → Bool
all_said_words d es = list_all (said_words d) es

pub all-of : {A : Type 0} (p q : A → Bool) → ((x : A) → p x ≡ true → q x ≡ true) → (xs : List A) → list_all p xs ≡ true → list_all q xs ≡ true
all-of p q f [] h = refl
all-of p q f (x ∷ xs) h =
    let t = both (p x) (list_all p xs) h in
    and (q x) (list_all q xs) (f x t.0) (all-of p q f xs t.1)

-- A DECLARATION MORE

some-stays : (d : Doctype) (k : Kind) (n : ℕ) (o : Option Entity) → entity d n ≡ o → is_some o ≡ true → is_some (entity (declares k d) n) ≡ true
some-stays d k n None e h = absurd (cc)
some-stays d k n (Some x) e h = ap is_some (number-stays d k n x e)

entity-stays : (d : Doctype) (k : Kind) (n : ℕ) → is_some_entity d n ≡ true → is_some_entity (declares k d) n ≡ true
unfolding entity
entity-stays d k n h = some-stays d k n (entity d n) refl h

pub value-stays : (d : Doctype) (k : Kind) (v : AttrValue) → value_words d v ≡ true → value_words (declares k d) v ≡ true
value-stays d k value.Implied h = h
value-stays d k (value.Cdata us) h = h
value-stays d k (value.Notation n) h = h
value-stays d k (value.Entities []) h = h
value-stays d k (value.Entities (e ∷ es)) h = all-of (is_some_entity d) (is_some_entity (declares k d)) (entity-stays d k) (e ∷ es) h
value-stays d k (value.Tokens ts) h = h

attribute-stays : (d : Doctype) (k : Kind) (a : Attribute) → attribute_words d a ≡ true → attribute_words (declares k d) a ≡ true
attribute-stays d k a h =
    let p = both (is_word a.attribute) (value_words d a.value) h in
    and (is_word a.attribute) (value_words (declares k d) a.value) p.0 (value-stays d k a.value p.1)

said-stays : (d : Doctype) (k : Kind) (e : Event) → said_words d e ≡ true → said_words (declares k d) e ≡ true
said-stays d k (Started n attributes) h =
    let p = both (is_word n) (list_all (attribute_words d) attributes) h in
    and (is_word n) (list_all (attribute_words (declares k d)) attributes) p.0 (all-of (attribute_words d) (attribute_words (declares k d)) (attribute-stays d k) attributes p.1)
said-stays d k (Ended n) h = h
said-stays d k (Byte b) h = h
said-stays d k (SpecificData e text) h = h
said-stays d k (External e) h = entity-stays d k e h
said-stays d k (Instruction text e) h = h

pub all-stay : (d : Doctype) (k : Kind) (es : List Event) → all_said_words d es ≡ true → all_said_words (declares k d) es ≡ true
all-stay d k es h = all-of (said_words d) (said_words (declares k d)) (said-stays d k) es h

-- WHAT A PIECE TELLS

pub all-append : (d : Doctype) (es fs : List Event) → all_said_words d es ≡ true → all_said_words d fs ≡ true → all_said_words d (es ++ fs) ≡ true
all-append d es fs h k = list_all-append (said_words d) es fs ∙ and (all_said_words d es) (all_said_words d fs) h k

abbrev pub shown_words : Doctype → Shown → Bool
shown_words d s = all_said_words d s.events

put-out-words : (d : Doctype) (t : Bool) → all_said_words d (if t then Byte 13 ∷ [] else []) ≡ true
put-out-words d true = refl
put-out-words d false = refl

item-words : (d : Doctype) (earlier : List Item) (o : Option Item) → all_said_words d (told_item earlier o) ≡ true
item-words d earlier None = refl
item-words d earlier (Some item) = put-out-words d (releases item earlier && one_waits earlier)

pub told-words : (d : Doctype) (earlier : List Item) (ss : List Shown) → list_all (shown_words d) ss ≡ true → all_said_words d (told earlier ss) ≡ true
told-words d earlier [] h = refl
told-words d earlier (s ∷ ss) h =
    let p = both (shown_words d s) (list_all (shown_words d) ss) h in
    all-append d (told_item earlier s.item ++ s.events) (told (with_item s.item earlier) ss)
    (all-append d (told_item earlier s.item) s.events (item-words d earlier s.item) p.0) (told-words d (with_item s.item earlier) ss p.1)
