-- What is told of a start by numbers, over tables, and what that is of the piece.
use Rattle.std.specs.Prelude.{◌≡◌, ◌||◌, ℕ, Bool, true, false, List, [], length, Some, None, is_some, slice_get}
use Rattle.sgml_starts.specs.text.declared.reason.Reason.{Reason}
use Rattle.sgml_starts.specs.entity.Entities.{entity_at}
use Rattle.sgml_starts.specs.entity.Stack.{is_on}
use Rattle.sgml_starts.specs.entity.Texts.{text_of}
use Rattle.sgml_starts.specs.markup.Forms.{parts_of_tag}
use Rattle.sgml_starts.specs.dtd_elements.Types.{ElementType, types}
use Rattle.sgml_starts.specs.declared.error.StartError.{StartError}
use Rattle.sgml_starts.specs.declared.error.StartError.TheVariants as error
use Rattle.sgml_starts.specs.declared.starts.StartValues.{StartValues}
use Rattle.sgml_starts.specs.Specified.{Input, specified}
use Rattle.sgml_starts.specs.Starts.{start_of, HasValues, IsUnvalued}
use Rattle.sgml_starts.specs.Starts as by_number
use Rattle.sgml_starts.specs.Values as by_number_values
use Rattle.sgml_declared.specs.theory_reading.Names.{Name, Text}
use Rattle.sgml_declared.specs.theory_reading.Types.{attributes, content_of, type_of}
use Rattle.sgml_declared.specs.theory_reading.Pieces.{Specification, Kind, Start, How}
use Rattle.sgml_declared.specs.theory_reading.Characters.{is_void, ends_at_once}
use Rattle.sgml_declared.specs.theory_reading.Currents.{AreCurrents, currents_after}
use Rattle.sgml_declared.specs.theory_reading.Unread.{Outside}
use Rattle.sgml_declared.specs.theory_reading.State.{State}
use Rattle.sgml_declared.specs.theory_spelling.Attributes.{unvalued}
use Rattle.sgml_declared.specs.theory_spelling.Named.{AreApart}
use Rattle.sgml_declared.specs.theory_spelling.References.{missing}
use Rattle.sgml_declared.specs.theory_spelling.Tags.{element_of, specifications_of}
use Rattle.sgml_declared.specs.theory_standing.Kept.{Kept, sources_of}
use Rattle.sgml_declared.specs.theory_standing.Next.{after}
use Rattle.sgml_theory_starts.specs.Starts.{Table, AreValued}
use Rattle.sgml_theory_starts.specs.Read.{AreReadSo}
use Rattle.sgml_declared.specs.Files.{Choices}
use Rattle.sgml_declared.specs.Taking.{stacked_on, IsAround}
use Rattle.sgml_theory_starts.specs.There.{tag_at, IsTagThere, input_at, tag_kind, tag_piece}

-- A START in a state, of the element type of a number, which has this name; a table has the current values
pub record IsStartOf (s : State) (k : Kept) (element : ℕ) (table : Table) (n : Name) : Type 0 where
  pub doctype : s.context.doctype ≡ k.doctype
  pub type : ElementType
  pub stands : slice_get (types k.doctype.elements) element ≡ Some type
  pub named : type.name ≡ n
  pub apart : AreApart (attributes k.doctype n)
  pub currents : AreCurrents k.doctype table s.currents

-- ITS VALUES are those that are told, and so are the current values after it; it ends at once where it is
-- told of an attribute that stands for the content, or where its type is declared EMPTY
pub record IsValued (s : State) (n : Name) (ss : List Specification) (how : How) (proper at_once : Bool) (told : StartValues) (new : Table) : Type 0 where
  pub no_reason : unvalued s (Start n ss how proper at_once) ≡ None
  pub as_many : length told.values ≡ length (attributes s.context.doctype n)
  pub values : AreValued s (Start n ss how proper at_once) (attributes s.context.doctype n) told.values
  pub currents : AreCurrents s.context.doctype new (currents_after s.context.doctype (Start n ss how proper at_once) s.currents)
  pub ends : ends_at_once s.context.doctype n ss ≡ (is_void (content_of (type_of s.context.doctype n)) || told.conref)

-- THE TEXT IN THE FILE of a declared entity is to be given first, which isn't being read and isn't there: were
-- it missing for some reason, the start would have no values for that reason
pub record IsTextWanted (outside : Outside) (s : State) (k : Kept) (texts : List (ℕ × Text)) (kind : Kind) (number : ℕ) : Type 0 where
  pub declared : is_some (entity_at k.doctype.entities number) ≡ true
  pub unread : is_on number k.stack.places ≡ false
  pub absent : text_of texts number ≡ None
  pub refused : (r : Reason) → missing outside (sources_of k) number ≡ Some r → unvalued s kind ≡ Some r

-- why it has no values
abbrev pub HasNone : Outside → State → Kept → List (ℕ × Text) → Kind → StartError → Type 0
HasNone outside s k texts kind (error.Refused r) = unvalued s kind ≡ Some r
HasNone outside s k texts kind (error.Wanted number) = IsTextWanted outside s k texts kind number
HasNone outside s k texts kind error.Memory = Unit {0}

-- a start without a tag wants no text
abbrev pub HasNoneAlone : State → Kind → StartError → Type 0
HasNoneAlone s kind (error.Refused r) = unvalued s kind ≡ Some r
HasNoneAlone s kind (error.Wanted number) = ⊥
HasNoneAlone s kind error.Memory = Unit {0}

-- LAWS

-- each literal of a start-tag at the top of the stack is answered as it is spelled
abbrev pub LiteralsAreRead : Type 0
LiteralsAreRead =
    (c : Choices) (outside : Outside) (k : Kept) (texts : List (ℕ × Text)) (size : ℕ)
    → IsAround c outside (sources_of k) texts k.stack → IsTagThere k texts size
    → AreReadSo (missing outside (sources_of k)) (input_at k texts) outside k.doctype (stacked_on k.stack)
    (tag_at k texts size) (parts_of_tag k.doctype.syntax (tag_at k texts size))

-- WHERE A START-TAG HAS VALUES by numbers, the piece has them, and the stack stands as after the piece
pub record IsTagValued (outside : Outside) (s : State) (k : Kept) (texts : List (ℕ × Text)) (size : ℕ) (how : How) (proper at_once : Bool) (told : StartValues) (new : Table) : Type 0 where
  pub valued : IsValued s (element_of s.context.doctype (tag_at k texts size))
      (specifications_of outside s.context.doctype (stacked_on k.stack) (tag_at k texts size)).specifications how proper at_once told new
  pub stack : by_number.after k.stack (specified (input_at k texts) (Some size)).spent (Some size)
      ≡ (after outside (tag_piece outside s (stacked_on k.stack) (tag_at k texts size) how proper at_once) k).stack

abbrev pub TagsAreValued : Type 0
TagsAreValued =
    (c : Choices) (outside : Outside) (s : State) (k : Kept) (texts : List (ℕ × Text)) (element size : ℕ) (table new : Table)
    → (how : How) (proper at_once : Bool) (told : StartValues)
    → IsAround c outside (sources_of k) texts k.stack → IsTagThere k texts size
    → IsStartOf s k element table (element_of k.doctype (tag_at k texts size))
    → HasValues (start_of k.doctype.syntax k.doctype element table) (specified (input_at k texts) (Some size)) told new
    → IsTagValued outside s k texts size how proper at_once told new

-- and where it has none, the piece has none for that reason
abbrev pub TagsAreUnvalued : Type 0
TagsAreUnvalued =
    (c : Choices) (outside : Outside) (s : State) (k : Kept) (texts : List (ℕ × Text)) (element size : ℕ) (table : Table)
    → (how : How) (proper at_once : Bool) (e : StartError)
    → IsAround c outside (sources_of k) texts k.stack → IsTagThere k texts size
    → IsStartOf s k element table (element_of k.doctype (tag_at k texts size))
    → IsUnvalued (by_number_values.unvalued (start_of k.doctype.syntax k.doctype element table) (specified (input_at k texts) (Some size))) e
    → HasNone outside s k texts (tag_kind outside s (stacked_on k.stack) (tag_at k texts size) how proper at_once) e

-- A START WITHOUT A TAG, and an empty tag, specify nothing
abbrev pub StartsAreValued : Type 0
StartsAreValued =
    (s : State) (k : Kept) (I : Input) (element : ℕ) (table new : Table) (n : Name) (how : How) (proper at_once : Bool) (told : StartValues)
    → IsStartOf s k element table n
    → HasValues (start_of k.doctype.syntax k.doctype element table) (specified I None) told new
    → IsValued s n [] how proper at_once told new

abbrev pub StartsAreUnvalued : Type 0
StartsAreUnvalued =
    (s : State) (k : Kept) (I : Input) (element : ℕ) (table : Table) (n : Name) (how : How) (proper at_once : Bool) (e : StartError)
    → IsStartOf s k element table n
    → IsUnvalued (by_number_values.unvalued (start_of k.doctype.syntax k.doctype element table) (specified I None)) e
    → HasNoneAlone s (Start n [] how proper at_once) e
