-- A short reference string that stands for its bytes, by what is kept (7.6.1, 9.4.6).
use Rattle.std.specs.Prelude.{◌≡◌, ℕ, Bool, true, false, ◌&&◌, ◌||◌, ◌==◌, List, [], ◌∷◌, ◌++◌, if◌then◌else◌, Result}
use Rattle.std.specs.List.{list_all}
use Rattle.sgml_text.specs.Characters.{is_separator}
use Rattle.sgml_text.specs.Units.{characters}
use Rattle.sgml_theory_reading.specs.records.Items.{Item, Data as DataItem}
use Rattle.sgml_theory_reading.specs.records.Facts.{Facts, takes_end}
use Rattle.sgml_events.specs.declared.event.Event.{Event}
use Rattle.sgml_theory_reading.specs.Names.{Text}
use Rattle.sgml_theory_reading.specs.Pieces.{Meaning, Ordinary, Kind, ShortRef}
use Rattle.sgml_theory_reading.specs.Facets.{byte_item, byte_items}
use Rattle.sgml_theory_reading.specs.Events.{releases_by}
use Rattle.sgml_infer.specs.declared.visible.Visible.TheVariants as visible
use Rattle.sgml_inside.specs.declared.inside.Inner.{Inner}
use Rattle.sgml_inside.specs.Inside.{facts_of, noted_in}
use Rattle.sgml_prolog_steps.specs.Found.{moved_on}
use Rattle.sgml_content_steps.specs.Content.{Content}
use Rattle.sgml_content_steps.specs.Taken.{TakesRun}
use Rattle.sgml_content_data.specs.Roles.{around_of}
use Rattle.sgml_content_references.specs.Entities.{chars_told}
use Rattle.sgml_content_references.specs.Strings.{string_in}
use Rattle.sgml_content_data.specs.Steps.{TellsPiece}
use Rattle.sgml_prolog_steps.specs.declared.stepping.Stop.{Stop}

-- ONE OF ITS BYTES IS CONTENT, where a record end that comes first is live or not: behind another byte it is
abbrev pub is_content_where : Bool → ℕ → Bool
is_content_where live b = if b == 13 then live else (if b == 10 then false else true)

abbrev pub some_by : Bool → Text → Bool
some_by live [] = false
some_by live (b ∷ bs) = is_content_where live b || some_by true bs

-- IT HAS ITEMS; separators alone have none where separators are ignored
abbrev pub has_items_in : Content → Text → Bool
has_items_in c string = if list_all is_separator string then (around_of c).text else true

abbrev pub is_content_in : Content → Text → Bool
is_content_in c string = has_items_in c string && some_by (takes_end (facts_of c.inside.elements)) string

-- AFTER ITEMS in the innermost element, one after another
abbrev pub all_noted_in : List Item → List Inner → List Inner
all_noted_in [] xs = xs
all_noted_in (i ∷ is) xs = all_noted_in is (noted_in i xs)

-- WHAT ITS BYTES TELL: those that are data, and each record end that one of them puts out
abbrev pub data_byte : ℕ → Item → Text
data_byte b DataItem = b ∷ []
data_byte b _ = []

abbrev pub put_byte : Bool → Text
put_byte true = 13 ∷ []
put_byte false = []

abbrev pub byte_shown : Facts → ℕ → Text
byte_shown f b = put_byte (releases_by f (byte_item b)) ++ data_byte b (byte_item b)

abbrev pub bytes_shown : List Inner → Text → Text
bytes_shown xs [] = []
bytes_shown xs (b ∷ bs) = byte_shown (facts_of xs) b ++ bytes_shown (noted_in (byte_item b) xs) bs

-- AFTER IT: so many bytes are read, and these are its items
abbrev pub with_string : ℕ → Text → Content → Content
with_string n string c = record c { kept = moved_on n c.kept; inside = record c.inside { elements = all_noted_in (byte_items string) c.inside.elements } }

-- IT WAS TAKEN after the run that was judged
pub record IsStringTaken (judged new : Content) (n : ℕ) (string : Text) (before after : List Event) : Type 0 where
  pub after_run : Content
  pub run_told : List Event
  pub run : TakesRun judged after_run visible.Chars before run_told
  pub texts : after_run.kept ≡ judged.kept
  pub currents : after_run.currents ≡ judged.currents
  pub kept : new ≡ with_string n string after_run
  pub told : after ≡ run_told ++ chars_told (characters (bytes_shown after_run.inside.elements string))

-- what it stands for, which all that may be held agrees on
abbrev pub ordinary_in : Content → Text → Meaning
ordinary_in c string = Ordinary (has_items_in c string) (is_content_in c string)

-- a string of so many bytes that is content
abbrev pub content_there : Content → List (ℕ × Text) → ℕ → Kind
content_there c texts n = ShortRef (string_in c.kept texts n) (Ordinary true true)

abbrev pub TakesString : Content → Content → List (ℕ × Text) → ℕ → List Event → List Event → Type 0
TakesString judged new texts n before after = IsStringTaken judged new n (string_in judged.kept texts n) before after

abbrev pub TellsContent : List (ℕ × Text) → ℕ → Content → Content → List Event → List Event → Result (Unit {0}) Stop → Type 0
TellsContent texts n old new before after result = TellsPiece texts n (content_there old texts n) old new before after result
