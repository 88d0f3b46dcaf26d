-- A start, by whether its element ends at once: what it makes of the record ends, the maps and the element that
-- ended last, and what it tells.
use Rattle.std.specs.Prelude.{◌≡◌, ℕ, Bool, true, false, not, option_map, IfSome, All, List, [], ◌∷◌, ◌++◌, map, if◌then◌else◌}
use Rattle.std.proofs.Common.{refl, sym, ap, ◌∙◌, append-nil}
use Rattle.std.proofs.lemmas.Grind.{flat_map-append}
use Rattle.std.proofs.lemmas.List.Elements.{All-append}
use Rattle.sgml_text.specs.declared.place.Place.{Place}
use Rattle.sgml_inside.specs.records.Items.{Item}
use Rattle.sgml_inside.specs.records.Facts.{Facts, no_facts}
use Rattle.sgml_attr.specs.declared.value.AttrValue.{AttrValue}
use Rattle.sgml_dtd.specs.dtd_maps.declared.uses.MapOf.{MapOf}
use Rattle.sgml_dtd.specs.dtd_maps.declared.uses.MapOf.TheVariants as map_of
use Rattle.sgml_dtd.specs.Doctypes.{Doctype}
use Rattle.sgml_events.specs.declared.event.Event.TheVariants as event
use Rattle.sgml_content_steps.specs.said.Told.{said, all_said, attributes_with, definitions_at}
use Rattle.sgml_theory_spelling.specs.theory_reading.Names.{Name}
use Rattle.sgml_theory_spelling.specs.theory_reading.Types.{map_of_type}
use Rattle.sgml_theory_spelling.specs.theory_reading.Pieces.{Piece, Kind, Specification, How}
use Rattle.sgml_theory_spelling.specs.theory_reading.Facets.{effect, items_of, map_set, ended_type, is_slash}
use Rattle.sgml_theory_spelling.specs.theory_reading.Context.{Context, Level, levels_with, begun_level, context_after}
use Rattle.sgml_theory_spelling.specs.theory_reading.Maps.{first_set}
use Rattle.sgml_theory_spelling.specs.theory_reading.State.{State, first_noted, after_piece}
use Rattle.sgml_theory_spelling.specs.theory_reading.Characters.{facts_in}
use Rattle.sgml_theory_spelling.specs.theory_reading.Events.{Started, Ended, Byte, ended_at_once, releases_by, shown, events_at}
use Rattle.sgml_theory_spelling.specs.theory_reading.Events as reading
use Rattle.sgml_theory_spelling.specs.Attributes.{valued}
use Rattle.sgml_theory_spelling.specs.Spelled.{forms}
use Rattle.sgml_infer.specs.Tables.{name_at, IsNumber}
use Rattle.sgml_infer.specs.Visibles.{start_of}
use Rattle.sgml_inside.specs.declared.inside.Inner.{Inner}
use Rattle.sgml_inside.specs.Inside.{Inside, ends_in, settings_in, facts_of, noted_in}
use Rattle.sgml_inside.specs.Laws.{AreInForce}
use Rattle.sgml_inside.proofs.Forced.{noted-is-after, opened-is-after, stays}
use Rattle.sgml_content_steps.specs.Steps.{entities_told, IsAt}
use Rattle.sgml_content_steps.specs.Begun.{record_end_told}
use Rattle.sgml_content_tags.specs.Starts.{start_item, inside_noted, inside_begun, released_told, end_told, begin_told}
use Rattle.sgml_content_tags.proofs.Numbered.{name-said}
use Rattle.sgml_content_tags.proofs.Stopping.{at-none, at-one}

-- THE START of an element of the type of this number
abbrev pub begun_piece : Doctype → ℕ → List Specification → How → Bool → Bool → ℕ → ℕ → Piece
begun_piece d number ss how included at_once size spent = start_of (name_at d number) ss how (not included) at_once size spent

abbrev pub inside_after : Doctype → ℕ → Bool → Bool → Inside → Inside
inside_after d number included at_once v = inside_begun d number at_once (inside_noted included v)

-- it sets no map
first-parent : (ss : List MapOf) → first_set map_of.Parent ss ≡ ss
first-parent [] = refl
first-parent (s ∷ ss) = refl

module _ (d : Doctype) (number : ℕ) (ss : List Specification) (how : How) (included : Bool) (size spent : ℕ) (v : Inside) (s : State) where
  abbrev item : Item
  item = start_item included

  noted-ends : s.record_ends ≡ ends_in v.elements → first_noted (item ∷ []) s.record_ends ≡ ends_in (noted_in item v.elements)
  noted-ends e = ap (first_noted (item ∷ [])) e ∙ sym (noted-is-after item v.elements).0

  noted-settings : s.map_settings ≡ settings_in v.elements → first_set map_of.Parent s.map_settings ≡ settings_in (noted_in item v.elements)
  noted-settings e = first-parent s.map_settings ∙ (e ∙ sym (noted-is-after item v.elements).1)

  pub begun-ends : (b : Bool) → s.record_ends ≡ ends_in v.elements
      → (after_piece (begun_piece d number ss how included b size spent) s).record_ends ≡ ends_in (inside_after d number included b v).elements
  unfolding after_piece effect items_of
  begun-ends true e = noted-ends e
  begun-ends false e =
      ap (λ (fs : List Facts). no_facts ∷ fs) (noted-ends e) ∙ sym (opened-is-after (map_of_type d (name_at d number)) (noted_in item v.elements)).0

  pub begun-settings : (b : Bool) → s.map_settings ≡ settings_in v.elements
      → (after_piece (begun_piece d number ss how included b size spent) s).map_settings ≡ settings_in (inside_after d number included b v).elements
  unfolding after_piece effect map_set
  begun-settings true e = noted-settings e
  begun-settings false e =
      ap (λ (ms : List MapOf). map_of.Parent ∷ ms) (noted-settings e) ∙ sym (opened-is-after (map_of_type d (name_at d number)) (noted_in item v.elements)).1

  pub begun-ended : (b : Bool) → s.ended ≡ option_map (name_at d) v.ended
      → (after_piece (begun_piece d number ss how included b size spent) s).ended ≡ option_map (name_at d) (inside_after d number included b v).ended
  unfolding after_piece ended_type
  begun-ended true e = refl
  begun-ended false e = e

-- WHAT STANDS INSIDE stays in bounds, and the maps that are kept are in force
pub begun-room : (d : Doctype) (number : ℕ) (included b : Bool) (v : Inside) → (inside_after d number included b v).room ≡ v.room
begun-room d number included true v = refl
begun-room d number included false v = refl

pub begun-number : (d : Doctype) (number : ℕ) (included b : Bool) (v : Inside) → IsNumber d number → IfSome v.ended (IsNumber d)
    → IfSome (inside_after d number included b v).ended (IsNumber d)
begun-number d number included true v n h = n
begun-number d number included false v n h = h

abbrev types_open : List Level → List Name
types_open ls = map (λ (l : Level). l.element) ls

same-types : (kind : Kind) (ls : List Level) → types_open (levels_with kind ls) ≡ types_open ls
same-types kind [] = refl
same-types kind (l ∷ ls) = refl

module _ (d : Doctype) (number : ℕ) (ss : List Specification) (how : How) (included : Bool) (size spent : ℕ) (v : Inside) (c : Context) (maps : AreInForce d c.levels v.elements) where
  noted-maps : (b : Bool) → AreInForce d (levels_with (begun_piece d number ss how included b size spent).kind c.levels) (noted_in (start_item included) v.elements)
  noted-maps b =
      let kind = (begun_piece d number ss how included b size spent).kind in
      (stays d c.levels (noted_in (start_item included) v.elements) ((stays d c.levels v.elements maps).noted (start_item included))).same
      (levels_with kind c.levels) (same-types kind c.levels)

  pub begun-maps : (b : Bool) → AreInForce d (context_after (begun_piece d number ss how included b size spent) c).levels (inside_after d number included b v).elements
  unfolding context_after effect
  begun-maps true = noted-maps true
  begun-maps false =
      (stays d (levels_with (begun_piece d number ss how included false size spent).kind c.levels) (noted_in (start_item included) v.elements) (noted-maps false)).opened
      (begun_level c.doctype (name_at d number) (is_slash how))

-- WHAT IT TELLS
facts-first : (xs : List Inner) → facts_in (ends_in xs) ≡ facts_of xs
facts-first [] = refl
facts-first (x ∷ xs) = refl

released-said : (d : Doctype) (r : Bool) → all_said d (record_end_told r) ≡ (if r then Byte 13 ∷ [] else [])
released-said d true = refl
released-said d false = refl

end-said : (d : Doctype) (number : ℕ) (b : Bool) → all_said d (end_told number b) ≡ ended_at_once (name_at d number) b
end-said d number true = ap (λ (n : Name). Ended n ∷ []) (name-said d number)
end-said d number false = refl

module _ (d : Doctype) (number : ℕ) (ss : List Specification) (how : How) (included b : Bool) (size spent : ℕ) (v : Inside) (s : State) (place : Place) (values : List AttrValue) where
  abbrev visible : Piece
  visible = begun_piece d number ss how included b size spent

  abbrev own_events : List reading.Event
  own_events = Started (name_at d number) (valued s visible.kind) ∷ ended_at_once (name_at d number) b

  start-said : attributes_with (definitions_at d number) values ≡ valued s visible.kind → all_said d (event.Start number place values ∷ end_told number b) ≡ own_events
  start-said e = λ i. Started (name-said d number i) (e i) ∷ end-said d number b i

  start-shown : events_at forms s visible ≡ ((if releases_by (facts_in s.record_ends) (start_item included) then Byte 13 ∷ [] else []) ++ own_events) ++ []
  unfolding shown
  start-shown = refl

  pub begun-said : s.record_ends ≡ ends_in v.elements → attributes_with (definitions_at d number) values ≡ valued s visible.kind
      → all_said d (begin_told place v number included b values) ≡ events_at forms s visible
  begun-said e f =
      let r = releases_by (facts_of v.elements) (start_item included) in
      flat_map-append (said d) (record_end_told r) (event.Start number place values ∷ end_told number b)
      ∙ ((λ i. released-said d r i ++ start-said f i)
      ∙ (ap (λ (f : Facts). (if releases_by f (start_item included) then Byte 13 ∷ [] else []) ++ own_events) (sym (ap facts_in e ∙ facts-first v.elements))
      ∙ (sym (append-nil ((if releases_by (facts_in s.record_ends) (start_item included) then Byte 13 ∷ [] else []) ++ own_events)) ∙ sym start-shown)))

entities-none : (place : Place) (number : ℕ) (values : List AttrValue) (r b : Bool) → entities_told (record_end_told r ++ (event.Start number place values ∷ end_told number b)) ≡ []
entities-none place number values true true = refl
entities-none place number values true false = refl
entities-none place number values false true = refl
entities-none place number values false false = refl

pub begun-entities : (place : Place) (v : Inside) (number : ℕ) (included b : Bool) (values : List AttrValue) → entities_told (begin_told place v number included b values) ≡ []
begun-entities place v number included b values = entities-none place number values (releases_by (facts_of v.elements) (start_item included)) b

at-released : (place : Place) (r : Bool) → All (IsAt place) (record_end_told r)
at-released place true = at-one place _ tt
at-released place false = at-none place

at-end : (place : Place) (number : ℕ) (b : Bool) → All (IsAt place) (end_told number b)
at-end place number true = at-one place (event.End number) tt
at-end place number false = at-none place

pub begun-at : (place : Place) (v : Inside) (number : ℕ) (included b : Bool) (values : List AttrValue) → All (IsAt place) (begin_told place v number included b values)
begun-at place v number included b values =
    All-append (IsAt place) (released_told v included) (event.Start number place values ∷ end_told number b) (at-released place (releases_by (facts_of v.elements) (start_item included)))
    (All-append (IsAt place) (event.Start number place values ∷ []) (end_told number b) (at-one place (event.Start number place values) refl) (at-end place number b))
