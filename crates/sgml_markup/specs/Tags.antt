-- The form of a tag, and its parts (7.4, 7.5, 7.9), by the bytes between its delimiters.
use Rattle.std.specs.Prelude.{ℕ, ◌+◌, ◌-◌, Bool, true, false, List, [], ◌∷◌, ◌==◌, if◌then◌else◌, Option, None, Some, take, drop, length, ◌≡◌, ◌≤◌}
use Rattle.std.specs.List.{list_any}
use Rattle.sgml_text.specs.NameCharacters.{is_name_character, is_name_start}
use Rattle.sgml_syntax.specs.declared.syntax.Syntax.{Syntax}
use Rattle.sgml_markup.specs.declared.kinds.Part.{Part}
use Rattle.sgml_markup.specs.declared.kinds.PartKind.{PartKind}
use Rattle.sgml_markup.specs.declared.kinds.PartKind.TheVariants as part
use Rattle.sgml_markup.specs.declared.kinds.TagState.{TagState}
use Rattle.sgml_markup.specs.declared.kinds.TagState.TheVariants.{ElementName, Closing, Ready, Word, AfterWord, Value, Bare, Literal, Failed}
use Rattle.sgml_markup.specs.declared.kinds.TagStep.{TagStep}
use Rattle.sgml_text.specs.Characters.{is_separator, is_quote}
use Rattle.sgml_markup.specs.References.{has_wrong_number, has_wrong_length, too_long}

abbrev pub part_of : PartKind → ℕ → ℕ → Option Part
part_of kind from to = Some (record { kind = kind; from = from; to = to })

abbrev pub goes_to : TagState → TagStep
goes_to next = record { part = None; next = next }

abbrev pub ends_part : PartKind → ℕ → ℕ → TagState → TagStep
ends_part kind from to next = record { part = part_of kind from to; next = next }

abbrev pub fails : TagStep
fails = goes_to Failed

-- after the element's name: an end-tag has separators alone (7.5), a start-tag specifications (7.9)
abbrev pub after_name : Bool → TagState
after_name closing = if closing then Closing else Ready

-- a value without quotes, or alone, only where SHORTTAG is YES (7.9.1.2, 7.9.3.1)
abbrev pub ends_bare : Syntax → ℕ → ℕ → TagState → TagStep
ends_bare s from to next = if s.shorttag then ends_part part.Bare from to next else fails

abbrev pub begins_word : Syntax → ℕ → ℕ → TagState
begins_word s at b = Word at (is_name_start s.names b)

abbrev pub names_attribute : ℕ → ℕ → Bool → TagStep
names_attribute from to is_name = if is_name then ends_part part.AttributeName from to Value else fails

-- One byte more of a tag, at a place. An attribute specification is a name, `=` and a value, with
-- separators between them if wanted, or a value alone (7.9.1). A value is a literal, or name
-- characters (7.9.3). Words next to each other are parted by separators.
abbrev pub tag_step : Syntax → Bool → ℕ → TagState → ℕ → TagStep
tag_step s closing at (ElementName from) b =
    if is_name_character s.names b then goes_to (ElementName from)
    else if is_separator b then ends_part part.ElementName from at (after_name closing) else fails
tag_step s closing at Closing b = if is_separator b then goes_to Closing else fails
tag_step s closing at Ready b =
    if is_separator b then goes_to Ready
    else if is_name_character s.names b then goes_to (begins_word s at b) else fails
tag_step s closing at (Word from is_name) b =
    if is_name_character s.names b then goes_to (Word from is_name)
    else if is_separator b then goes_to (AfterWord from at is_name)
    else if b == 61 then names_attribute from at is_name else fails
tag_step s closing at (AfterWord from to is_name) b =
    if is_separator b then goes_to (AfterWord from to is_name)
    else if b == 61 then names_attribute from to is_name
    else if is_name_character s.names b then ends_bare s from to (begins_word s at b) else fails
tag_step s closing at Value b =
    if is_separator b then goes_to Value
    else if is_quote b then goes_to (Literal b (at + 1))
    else if is_name_character s.names b then goes_to (Bare at) else fails
tag_step s closing at (Bare from) b =
    if is_name_character s.names b then goes_to (Bare from)
    else if is_separator b then ends_bare s from at Ready else fails
tag_step s closing at (Literal q from) b =
    if b == q then ends_part part.Quoted from at Ready else goes_to (Literal q from)
tag_step s closing at Failed b = fails

-- at the tag's end: the part that ends there, and no state where the tag is of a form
abbrev pub tag_last : Syntax → Bool → ℕ → TagState → TagStep
tag_last s closing at (ElementName from) = ends_part part.ElementName from at Ready
tag_last s closing at Closing = goes_to Ready
tag_last s closing at Ready = goes_to Ready
tag_last s closing at (Word from is_name) = ends_bare s from at Ready
tag_last s closing at (AfterWord from to is_name) = ends_bare s from to Ready
tag_last s closing at Value = fails
tag_last s closing at (Bare from) = ends_bare s from at Ready
tag_last s closing at (Literal q from) = fails
tag_last s closing at Failed = fails

abbrev pub is_good : TagState → Bool
is_good Failed = false
is_good _ = true

-- whether the bytes from a place on are of a form, after a state
abbrev pub is_tag : Syntax → Bool → ℕ → TagState → List ℕ → Bool
is_tag s closing at state [] = is_good (tag_last s closing at state).next
is_tag s closing at state (b ∷ bytes) = is_tag s closing (at + 1) (tag_step s closing at state b).next bytes

abbrev pub with_part : Option Part → List Part → List Part
with_part None parts = parts
with_part (Some p) parts = p ∷ parts

-- the parts that end in the bytes from a place on, after a state
abbrev pub tag_parts : Syntax → Bool → ℕ → TagState → List ℕ → List Part
tag_parts s closing at state [] = with_part (tag_last s closing at state).part []
tag_parts s closing at state (b ∷ bytes) =
    with_part (tag_step s closing at state b).part
    (tag_parts s closing (at + 1) (tag_step s closing at state b).next bytes)

-- so many bytes leave a state as it is: the form, and the parts, are those of what is left
abbrev pub KeepsForm : Syntax → TagState → List ℕ → ℕ → Type 0
KeepsForm s state bytes n = (closing : Bool) → (at : ℕ)
    → is_tag s closing at state bytes ≡ is_tag s closing (at + n) state (drop n bytes)

abbrev pub KeepsParts : Syntax → TagState → List ℕ → ℕ → Type 0
KeepsParts s state bytes n = (closing : Bool) → (at : ℕ)
    → tag_parts s closing at state bytes ≡ tag_parts s closing (at + n) state (drop n bytes)

-- the bytes of a part
abbrev pub bytes_of : List ℕ → Part → List ℕ
bytes_of text p = take (p.to - p.from) (drop p.from text)

-- what is wrong with a part of a tag, of some kind and bytes: a reference in a literal, or the length
-- of a name
abbrev pub wrong_number_of : Syntax → PartKind → List ℕ → Bool
wrong_number_of s part.Quoted bytes = has_wrong_number s bytes
wrong_number_of s _ bytes = false

abbrev pub wrong_length_of : Syntax → PartKind → List ℕ → Bool
wrong_length_of s part.Quoted bytes = has_wrong_length s bytes
wrong_length_of s part.Bare bytes = false
wrong_length_of s part.ElementName bytes = too_long s (length bytes)
wrong_length_of s part.AttributeName bytes = too_long s (length bytes)

abbrev pub wrong_number_in : Syntax → List ℕ → Part → Bool
wrong_number_in s text p = wrong_number_of s p.kind (bytes_of text p)

abbrev pub wrong_length_in : Syntax → List ℕ → Part → Bool
wrong_length_in s text p = wrong_length_of s p.kind (bytes_of text p)

abbrev pub wrong_number_at : Syntax → List ℕ → Option Part → Bool
wrong_number_at s text None = false
wrong_number_at s text (Some p) = wrong_number_in s text p

abbrev pub wrong_length_at : Syntax → List ℕ → Option Part → Bool
wrong_length_at s text None = false
wrong_length_at s text (Some p) = wrong_length_in s text p

-- what is wrong with the part that ends before this byte, if one does
abbrev pub wrong_number_before : Syntax → Bool → List ℕ → ℕ → TagState → ℕ → Bool
wrong_number_before s closing text at state b = wrong_number_at s text (tag_step s closing at state b).part

abbrev pub wrong_length_before : Syntax → Bool → List ℕ → ℕ → TagState → ℕ → Bool
wrong_length_before s closing text at state b = wrong_length_at s text (tag_step s closing at state b).part

-- what is wrong with the part that ends with the tag, if one does
abbrev pub wrong_number_last : Syntax → Bool → List ℕ → ℕ → TagState → Bool
wrong_number_last s closing text at state = list_any (wrong_number_in s text) (tag_parts s closing at state [])

abbrev pub wrong_length_last : Syntax → Bool → List ℕ → ℕ → TagState → Bool
wrong_length_last s closing text at state = list_any (wrong_length_in s text) (tag_parts s closing at state [])

-- the places of a state are at most this one
abbrev pub Behind : ℕ → TagState → Type 0
Behind at (ElementName from) = from ≤ at
Behind at (Word from is_name) = from ≤ at
Behind at (AfterWord from to is_name) = (from ≤ to) × (to ≤ at)
Behind at (Bare from) = from ≤ at
Behind at (Literal q from) = from ≤ at
Behind at _ = Unit {0}

-- the parts from one place on are those from another on, where the next specification may begin at both
abbrev pub HasSameParts : List ℕ → ℕ → ℕ → Type 0
HasSameParts body at next =
    (s : Syntax) (closing : Bool) → tag_parts s closing at Ready (drop at body) ≡ tag_parts s closing next Ready (drop next body)
