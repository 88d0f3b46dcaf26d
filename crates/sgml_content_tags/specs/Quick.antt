-- Tags in content, whatever NET and maps are: what stands there, and steps over them.
use Rattle.std.specs.Prelude.{◌≡◌, ℕ, ◌+◌, ◌-◌, ◌<◌, ◌≤◌, ◌^◌, Bool, true, List, length, take, Option, None, Some, Ok, slice_get}
use Rattle.sgml_markup.specs.declared.kinds.TokenKind.{TokenKind}
use Rattle.sgml_markup.specs.declared.kinds.Part.{Part}
use Rattle.sgml_markup.specs.declared.kinds.PartKind.TheVariants as part
use Rattle.sgml_markup.specs.Forms.{last_byte}
use Rattle.sgml_entity.specs.Stack.{offset_of}
use Rattle.sgml_scan.specs.declared.state.ScanState.{ScanState}
use Rattle.sgml_scan.specs.Openings.{is_con}
use Rattle.sgml_names.specs.Naming.{general_name}
use Rattle.sgml_dtd.specs.dtd_elements.Types.{types, number_of}
use Rattle.sgml_starts.specs.Starts.{list_in}
use Rattle.sgml_events.specs.declared.event.Event.{Event}
use Rattle.sgml_theory_spelling.specs.theory_reading.Names.{Text}
use Rattle.sgml_prolog_steps.specs.Found.{rest_in}
use Rattle.sgml_declared.specs.Files.{Choices}
use Rattle.sgml_content_steps.specs.Found.{IsTokenThere}
use Rattle.sgml_content_steps.specs.Content.{Content}
use Rattle.sgml_content_steps.specs.Steps.{IsStep, TellsBy}
use Rattle.sgml_content_tags.specs.Named.{number_named, IsAlone}
use Rattle.sgml_content_tags.specs.declared.quick.Specifies.{Specifies}
use Rattle.sgml_content_tags.specs.declared.quick.Specifies.TheVariants as specifies

-- the name of a tag of so many bytes, from this byte up to TAGC
abbrev pub name_part : ℕ → ℕ → Part
name_part from n = record { kind = part.ElementName; from = from; to = n - 1 }

-- THE TOKEN of so many bytes there is a tag of this kind, in whatever state content is scanned
pub record IsTagThere (c : Content) (texts : List (ℕ × Text)) (kind : TokenKind) (n : ℕ) : Type 0 where
  pub some : 0 < n
  pub within : n ≤ length (rest_in c.kept texts)
  pub fits : offset_of c.kept.stack.places + n < 2 ^ 64
  pub there : (st : ScanState) (ended : Bool) → is_con st.mode ≡ true → IsTokenThere c.kept st texts ended (record { kind = kind; length = n })

-- and TAGC closes it, and the type of this number is that which it names
pub record IsNamedThere (c : Content) (texts : List (ℕ × Text)) (kind : TokenKind) (n number : ℕ) : Type 0 where
  pub tag : IsTagThere c texts kind n
  pub named : number_named c.kept.doctype (take n (rest_in c.kept texts)) ≡ Some number
  pub closed : last_byte (take n (rest_in c.kept texts)) ≡ 62

-- and it is a name alone, from this byte up to TAGC
abbrev pub IsAloneThere : Content → List (ℕ × Text) → ℕ → ℕ → Type 0
IsAloneThere c texts from n = IsAlone c.kept.doctype.syntax (take n (rest_in c.kept texts)) (name_part from n)

pub record IsLoneThere (c : Content) (texts : List (ℕ × Text)) (kind : TokenKind) (from n number : ℕ) : Type 0 where
  pub there : IsNamedThere c texts kind n number
  pub alone : IsAloneThere c texts from n

-- the number of the element type that is spelled so
abbrev pub number_spelled : Content → List ℕ → Option ℕ
number_spelled c name = number_of c.kept.doctype.elements (general_name c.kept.doctype.syntax name)

-- A START-TAG SPECIFIES what stands in it, or nothing, or its type has no attribute list besides
abbrev pub IsListless : Content → ℕ → Type 0
IsListless c number = list_in c.kept.doctype (slice_get (types c.kept.doctype.elements) number) ≡ None

abbrev pub IsSpecifiedSo : Content → List (ℕ × Text) → ℕ → ℕ → Specifies → Type 0
IsSpecifiedSo c texts n number specifies.Nothing = IsListless c number × IsAloneThere c texts 1 n
IsSpecifiedSo c texts n number specifies.Defaults = IsAloneThere c texts 1 n
IsSpecifiedSo c texts n number specifies.InTag = Unit {0}

-- A STEP in whatever state content is scanned, whatever the options are, with what it tells
abbrev pub TellsInContent : List (ℕ × Text) → Content → Content → List Event → List Event → Type 0
TellsInContent texts old new before after =
    TellsBy (λ told. (c : Choices) (st : ScanState) (ended : Bool) → is_con st.mode ≡ true → IsStep c st texts ended old new told (Ok tt)) old.kept before after
