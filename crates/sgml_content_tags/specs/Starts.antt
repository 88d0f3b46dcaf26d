-- Starts of elements (7.4, 11.3.4): what a start makes of what is kept, and what it tells.
use Rattle.std.specs.Prelude.{◌≡◌, ◌<◌, ◌||◌, ℕ, length, Bool, true, false, not, Some, List, [], ◌∷◌, ◌++◌}
use Rattle.sgml_text.specs.declared.place.Place.{Place}
use Rattle.sgml_inside.specs.records.Items.{Item}
use Rattle.sgml_attr.specs.declared.value.AttrValue.{AttrValue}
use Rattle.sgml_dtd.specs.Doctypes.{Doctype}
use Rattle.sgml_dtd.specs.dtd_maps.declared.uses.MapOf.{MapOf}
use Rattle.sgml_events.specs.declared.event.Event.{Event}
use Rattle.sgml_events.specs.declared.event.Event.TheVariants as event
use Rattle.sgml_theory_spelling.specs.theory_reading.Names.{Name}
use Rattle.sgml_theory_spelling.specs.theory_reading.Types.{content_of, map_of_type}
use Rattle.sgml_theory_spelling.specs.theory_reading.Pieces.{Specification, How}
use Rattle.sgml_theory_spelling.specs.theory_reading.Facets.{is_slash, sub_or_mark}
use Rattle.sgml_theory_spelling.specs.theory_reading.Context.{Context, context_after}
use Rattle.sgml_theory_spelling.specs.theory_reading.Characters.{is_void}
use Rattle.sgml_theory_spelling.specs.theory_reading.Events.{releases_by}
use Rattle.sgml_infer.specs.Tables.{name_at, type_at}
use Rattle.sgml_infer.specs.declared.tree.Tree.{Tree}
use Rattle.sgml_infer.specs.Trees.{context_in, IsTreeOf}
use Rattle.sgml_infer.specs.declared.visible.Visible.TheVariants as visible
use Rattle.sgml_infer.specs.Visibles.{plain, start_of}
use Rattle.sgml_inside.specs.Inside.{Inside, facts_of, noted_in, opened_in}
use Rattle.sgml_starts.specs.declared.starts.StartValues.{StartValues}
use Rattle.sgml_theory_spelling.specs.theory_reading.Reads.{top_place}
use Rattle.sgml_content_steps.specs.Content.{Content}
use Rattle.sgml_content_steps.specs.declared.run.Run.{Run}
use Rattle.sgml_content_steps.specs.Runs.{IsRun}
use Rattle.sgml_content_steps.specs.Begun.{record_end_told}
use Rattle.sgml_content_steps.specs.Taken.{IsJudgedBefore, IsRunTaken}
use Rattle.sgml_content_tags.specs.declared.beginning.Begun.{Begun}

-- the type of this number is declared EMPTY
abbrev pub is_void_at : Doctype → ℕ → Bool
is_void_at d number = is_void (content_of (type_at d number))

-- the map that is in force in its elements: that of the first use that names it, else its parent's (11.6)
abbrev pub map_at : Doctype → ℕ → MapOf
map_at d number = map_of_type d (name_at d number)

-- a proper subelement is another item than an included one (7.6.1)
abbrev pub start_item : Bool → Item
start_item included = sub_or_mark (not included)

-- WHAT STANDS INSIDE after the start: it is noted in the innermost element, and its element ends at once or begins
abbrev pub inside_noted : Bool → Inside → Inside
inside_noted included v = record v { elements = noted_in (start_item included) v.elements }

abbrev pub begun_with : MapOf → ℕ → Bool → Inside → Inside
begun_with map number true v = record v { ended = Some number }
begun_with map number false v = record v { elements = opened_in map v.elements }

abbrev pub inside_begun : Doctype → ℕ → Bool → Inside → Inside
inside_begun d number at_once v = begun_with (map_at d number) number at_once v

-- an element ends at once where its type is declared EMPTY (11.2.3), or an attribute stands for its content (11.3.4)
abbrev pub ends_at_once : Doctype → ℕ → StartValues → Bool
ends_at_once d number start = is_void_at d number || start.conref

-- one element more may be open
abbrev pub HasLevelLeft : Inside → Type 0
HasLevelLeft v = length v.elements < v.room

-- WHAT IT TELLS: the record end that it releases, the start, and the end of an element that ends at once
abbrev pub released_told : Inside → Bool → List Event
released_told v included = record_end_told (releases_by (facts_of v.elements) (start_item included))

abbrev pub end_told : ℕ → Bool → List Event
end_told number true = event.End number ∷ []
end_told number false = []

abbrev pub begin_told : Place → Inside → ℕ → Bool → Bool → List AttrValue → List Event
begin_told place v number included at_once values = released_told v included ++ (event.Start number place values ∷ end_told number at_once)

abbrev pub start_told : Content → Place → ℕ → Bool → StartValues → List Event
start_told c place number included start = begin_told place c.inside number included (ends_at_once c.kept.doctype number start) start.values

-- what is kept after it, but for the open elements
abbrev pub IsBegun : Content → ℕ → Bool → StartValues → Content → Type 0
IsBegun old number included start new =
    new ≡ record old { tree = new.tree; inside = inside_begun old.kept.doctype number (ends_at_once old.kept.doctype number start) (inside_noted included old.inside) }

-- WHAT IT MAKES OF THE OPEN ELEMENTS, in which it was begun without NET and as its type is declared: they are those
-- after the start as it is written, which ends at once where an attribute stands for the content
abbrev pub Settles : Bool → Bool → Bool → Tree → Tree → Type 0
Settles void conref net old new =
    (t : Doctype) (c : Context) (n : Name) (specifications : List Specification) (how : How) (proper : Bool) (size spent : ℕ)
    → is_slash how ≡ net
    → context_in t old ≡ context_after (start_of n specifications (plain how) proper void size spent) c
    → context_in t new ≡ context_after (start_of n specifications how proper (void || conref) size spent) c

-- A RUN WAS JUDGED before the start of an element of this type, at this place; since then nothing was taken but the
-- values of the start
abbrev pub WasJudged : Content → Place → ℕ → Run → Type 0
WasJudged now place number run = (judged : Content) × IsJudgedBefore judged now × IsRun judged (visible.Start number) run × (place ≡ top_place judged.kept.stack.places)

-- IT IS TAKEN with its run, and told after it
pub record IsStartTaken (judged old new : Content) (place : Place) (number : ℕ) (net included : Bool) (start : StartValues) (before after : List Event) : Type 0 where
  -- what is kept once the run was taken, and what that told
  pub left : Content
  pub told : List Event
  pub run : IsRunTaken judged left (visible.Start number) told
  pub kept : left.kept ≡ old.kept
  pub currents : left.currents ≡ old.currents
  pub is : new ≡ record left {
    tree = new.tree;
    inside = inside_begun old.kept.doctype number (is_void_at old.kept.doctype number || start.conref) (inside_noted included left.inside);
  }
  pub settles : Settles (is_void_at old.kept.doctype number) start.conref net left.tree new.tree
  pub tree : IsTreeOf old.kept.doctype new.tree
  pub all : after ≡ (before ++ told) ++ begin_told place left.inside number included (is_void_at old.kept.doctype number || start.conref) start.values

-- once its run was judged, wherever that was at this place
abbrev pub TakesStart : Content → Content → Begun → Run → StartValues → List Event → List Event → Type 0
TakesStart old new begun run start before after =
    (judged : Content) → IsJudgedBefore judged old → IsRun judged (visible.Start begun.element) run → begun.place ≡ top_place judged.kept.stack.places
    → IsStartTaken judged old new begun.place begun.element begun.net begun.included start before after
