-- Text where a short reference map is in force: characters, and strings of one byte that the map doesn't name (9.4.6).
use Rattle.std.specs.Prelude.{◌≡◌, ℕ, ◌<◌, Bool, true, false, List, is_some, drop, slice_index_or}
use Rattle.sgml_delim.specs.declared.delim.Mode.TheVariants as mode
use Rattle.sgml_shortref.specs.Matches as strings
use Rattle.sgml_shortref.specs.declared.matching.Matched.TheVariants as matched
use Rattle.sgml_scan.specs.declared.classes.Run.TheVariants.{Chars}
use Rattle.sgml_scan.specs.declared.state.ScanState.{ScanState}
use Rattle.sgml_scan.specs.Sure.{is_text}
use Rattle.sgml_scan.specs.Tokens.{IsOne}
use Rattle.sgml_events.specs.declared.event.Event.{Event}
use Rattle.sgml_theory_reading.specs.Names.{Text}
use Rattle.sgml_declared.specs.theory_spelling.Content.{entity_of_string}
use Rattle.sgml_inside.specs.Inside.{map_in}
use Rattle.sgml_content_steps.specs.Content.{Content}
use Rattle.sgml_content_steps.specs.Plainly.{TellsThere, TakesSome}
use Rattle.sgml_content_data.specs.Alike.{TakesOr}

-- content without NET, where a short reference map is in force
abbrev pub mapped_state : ScanState
mapped_state = record { mode = mode.Con; net = false; maps = true }

-- a string of one byte, whatever follows, that the map in force doesn't name
abbrev pub IsOwnString : Content → Text → Type 0
IsOwnString c text =
    (number : ℕ) × strings.Answers false strings.answer text (matched.String number 1)
    × (is_some (entity_of_string c.kept.doctype (map_in c.inside.elements) number) ≡ false)

abbrev pub BeginsString : Text → Type 0
BeginsString text = strings.begins_string (slice_index_or text 0 0) ≡ true

abbrev pub StartsOwn : Content → Text → Type 0
StartsOwn c text = BeginsString text → IsOwnString c text

-- a character of text stands there, or such a string
pub record IsTextThere (c : Content) (text : Text) : Type 0 where
  pub is_text : is_text false (slice_index_or text 0 0) ≡ true
  pub own : StartsOwn c text

abbrev pub AreTextThere : Content → Text → ℕ → Type 0
AreTextThere c text n = (i : ℕ) → i < n → IsTextThere c (drop i text)

-- no character stands behind so many bytes
abbrev pub IsTextEnd : Content → Text → ℕ → Type 0
IsTextEnd c text n = 0 < n → (ended : Bool) → IsOne c.kept.doctype.syntax mapped_state ended Chars (drop n text) → ⊥

-- A STEP there
abbrev pub TellsMapped : List (ℕ × Text) → Content → Content → List Event → List Event → Type 0
TellsMapped texts old new before after = TellsThere mapped_state texts old new before after

-- by how many bytes were taken
abbrev pub TakesMapped : List (ℕ × Text) → Content → Content → List Event → List Event → ℕ → Type 0
TakesMapped texts old new before after n = TakesSome (TellsMapped texts old new before after) old new before after n

abbrev pub TakesMappedRow : List (ℕ × Text) → Content → Content → List Event → List Event → Bool → Type 0
TakesMappedRow texts old new before after went = TakesOr (TellsMapped texts old new before after) old new before after went
