-- THE PARTS OF A TAG one after another (7.4, 7.5, 7.9): which of them are left where a walk stands.
use Rattle.std.specs.Prelude.{ℕ, ◌+◌, Bool, true, false, ◌≡◌, ◌≤◌, ◌⊎◌, List, [], ◌∷◌, Option, MatchOption, drop, length, if◌then◌else◌}
use Rattle.sgml_syntax.specs.declared.syntax.Syntax.{Syntax}
use Rattle.sgml_markup.specs.declared.kinds.Part.{Part}
use Rattle.sgml_markup.specs.declared.kinds.PartKind.{PartKind}
use Rattle.sgml_markup.specs.declared.kinds.PartKind.TheVariants as kind
use Rattle.sgml_markup.specs.declared.walk.TagWalk.{TagWalk}
use Rattle.sgml_markup.specs.declared.kinds.TagState.TheVariants.{ElementName, Failed, Ready, Value}
use Rattle.sgml_markup.specs.Tags.{tag_parts, Behind}
use Rattle.sgml_markup.specs.Forms.{unclosed, parts_of_tag}

abbrev pub parts_left : Syntax → List ℕ → TagWalk → List Part
parts_left s markup w = if w.ended then [] else tag_parts s w.closing w.at w.state (drop w.at (unclosed markup))

-- the part that a walk gives is the first that is left to it, and the others are left after it
abbrev pub IsNext : Syntax → List ℕ → TagWalk → Option Part → TagWalk → Type 0
IsNext s markup old given new = MatchOption given
    ((parts_left s markup old ≡ []) × (parts_left s markup new ≡ []))
    (λ part. parts_left s markup old ≡ part ∷ parts_left s markup new)

-- the walk stands at the first part of a tag, or directly behind the element's name
pub record BeginsBehind (s : Syntax) (markup : List ℕ) (w : TagWalk) : Type 0 where
  pub name : Part
  pub named : name.kind ≡ kind.ElementName
  pub is : parts_of_tag s markup ≡ name ∷ parts_left s markup w

abbrev pub BeginsTag : Syntax → List ℕ → TagWalk → Type 0
BeginsTag s markup w = (parts_left s markup w ≡ parts_of_tag s markup) ⊎ BeginsBehind s markup w

-- nowhere, and at the element's name
abbrev pub nowhere : TagWalk
nowhere = record { closing = false; state = Failed; at = 0; ended = true }

abbrev pub walk_from : Bool → ℕ → TagWalk
walk_from closing start = record { closing = closing; state = ElementName start; at = start; ended = false }

-- it stands in the tag
pub record StandsIn (markup : List ℕ) (w : TagWalk) : Type 0 where
  pub within : w.at ≤ length markup
  pub behind : Behind w.at w.state

-- the specifications of a start-tag begin at this place of it, behind the element's name
pub record BeginsAt (s : Syntax) (markup : List ℕ) (at : ℕ) : Type 0 where
  pub name : Part
  pub named : name.kind ≡ kind.ElementName
  pub is : parts_of_tag s markup ≡ name ∷ tag_parts s false at Ready (drop at (unclosed markup))

-- from one place of a tag to another a name stands before `=`, a value without quotes, or a literal from its quote on
abbrev pub part_at : PartKind → ℕ → ℕ → Part
part_at k from to = record { kind = k; from = from; to = to }

abbrev pub HasName : Syntax → List ℕ → ℕ → ℕ → Type 0
HasName s body at to = (closing : Bool)
    → tag_parts s closing at Ready (drop at body) ≡ part_at kind.AttributeName at to ∷ tag_parts s closing (to + 1) Value (drop (to + 1) body)

abbrev pub HasBare : Syntax → List ℕ → ℕ → ℕ → Type 0
HasBare s body at to = (closing : Bool)
    → tag_parts s closing at Value (drop at body) ≡ part_at kind.Bare at to ∷ tag_parts s closing to Ready (drop to body)

abbrev pub HasLiteral : List ℕ → ℕ → ℕ → Type 0
HasLiteral body at to = (s : Syntax) (closing : Bool)
    → tag_parts s closing at Value (drop at body) ≡ part_at kind.Quoted (at + 1) to ∷ tag_parts s closing (to + 1) Ready (drop (to + 1) body)
