-- WHAT WAS READ OF A TAG SO FAR, and is filled in.
use Rattle.std.specs.Prelude.{◌≡◌, ◌<◌, ◌+◌, ◌-◌, ◌∷◌, ◌++◌, ℕ, true, false, List, [], Option, Some, None, length, take, drop, slice_index_or}
use Rattle.sgml_text.specs.Characters.{is_quote}
use Rattle.sgml_entity.specs.Stack.{Stack}
use Rattle.sgml_attr.specs.declared.definition.Spec.{Spec}
use Rattle.sgml_markup.specs.declared.kinds.Part.{Part}
use Rattle.sgml_markup.specs.declared.kinds.PartKind.{PartKind}
use Rattle.sgml_markup.specs.declared.kinds.PartKind.TheVariants as part
use Rattle.sgml_markup.specs.declared.kinds.TagState.TheVariants.{Ready, Value}
use Rattle.sgml_markup.specs.declared.walk.TagWalk.{TagWalk}
use Rattle.sgml_markup.specs.Forms.{unclosed}
use Rattle.sgml_markup.specs.Tags.{tag_parts}
use Rattle.sgml_markup.specs.Walks.{parts_left}
use Rattle.sgml_starts.specs.declared.filling.Filled.{Filled}
use Rattle.sgml_starts.specs.Written.{written_from, written}
use Rattle.sgml_starts.specs.Specified.{Input, Specified, rest, specified_from}
use Rattle.sgml_starts.specs.Read.{StandsAlike}
use Rattle.sgml_starts.specs.Rows.{reason_of_specs}
use Rattle.sgml_starts.specs.Values.{Start}
use Rattle.sgml_starts.specs.Filled.{AreFilled}
use Rattle.sgml_starts.specs.Taken.{name_in, input_in}

-- before a literal its quote stands, and a name isn't empty
abbrev pub IsGood : List ℕ → Part → PartKind → Type 0
IsGood tag p part.Quoted = (0 < p.from) × (is_quote (slice_index_or tag (p.from - 1) 0) ≡ true)
IsGood tag p part.AttributeName = p.from < p.to
IsGood tag p _ = Unit {0}

abbrev pub AreGood : List ℕ → List Part → Type 0
AreGood tag [] = Unit {0}
AreGood tag (p ∷ ps) = IsGood tag p p.kind × AreGood tag ps

abbrev pub with_specs : List Spec → Specified → Specified
with_specs ss all = record all { specs = ss ++ all.specs }

-- these specifications were read, and these parts are left, after a name if there is one
pub record IsReading (I : Input) (tag : List ℕ) (name : Option (List ℕ)) (specs : List Spec) (t : Stack) (parts : List Part) : Type 0 where
  pub alike : StandsAlike I.stack t
  pub good : AreGood tag parts
  pub is : with_specs specs (specified_from I t.spent (written_from tag name parts)) ≡ specified_from I I.stack.spent (written I.syntax tag)

-- and nothing is against them
pub record AreSoFar (S : Start) (I : Input) (tag : List ℕ) (name : Option Part) (f : Filled) (t : Stack) (parts : List Part) : Type 0 where
  pub specs : List Spec
  pub reading : IsReading I tag (name_in tag name) specs t parts
  pub filled : AreFilled S specs f
  pub none : reason_of_specs S.syntax S.tables S.definitions [] specs ≡ None

-- WHATEVER WAS READ before a place of the tag, what stands from there to another is filled in besides: a value after
-- the name in a part, or specifications

abbrev pub IsFilledOn : Start → List ℕ → Option Part → List Part → Filled → List Part → Filled → Type 0
IsFilledOn S tag name before f after g =
    (texts : List (ℕ × List ℕ)) (stack t : Stack) → 0 < length t.places → tag ≡ take (length tag) (rest (input_in S texts stack))
    → AreSoFar S (input_in S texts stack) tag name f t before → AreSoFar S (input_in S texts stack) tag None g t after

abbrev pub ready_at : Start → List ℕ → ℕ → List Part
ready_at S tag at = tag_parts S.syntax false at Ready (drop at (unclosed tag))

abbrev pub value_at : Start → List ℕ → ℕ → List Part
value_at S tag at = tag_parts S.syntax false at Value (drop at (unclosed tag))

abbrev pub FillsValue : Start → List ℕ → Part → ℕ → Filled → ℕ → Filled → Type 0
FillsValue S tag name at f behind g = IsFilledOn S tag (Some name) (value_at S tag at) f (ready_at S tag behind) g

abbrev pub FillsOn : Start → List ℕ → ℕ → Filled → ℕ → Filled → Type 0
FillsOn S tag at f behind g = IsFilledOn S tag None (ready_at S tag at) f (ready_at S tag behind) g

-- the first specifications of a tag, where nothing was filled in before
abbrev pub BeginsFilled : Start → List ℕ → Filled → Filled → TagWalk → Type 0
BeginsFilled S tag f g walk =
    AreFilled S [] f → (texts : List (ℕ × List ℕ)) (stack : Stack) → 0 < length stack.places → tag ≡ take (length tag) (rest (input_in S texts stack))
    → AreSoFar S (input_in S texts stack) tag None g stack (parts_left S.syntax tag walk)
