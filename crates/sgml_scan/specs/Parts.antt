-- Parts of a tag in a text.
use Rattle.std.specs.Prelude.{ℕ, ◌≡◌, ◌+◌, ◌-◌, List, [], ◌∷◌, Option, MatchOption, map, take, drop}
use Rattle.sgml_syntax.specs.declared.syntax.Syntax.{Syntax}
use Rattle.sgml_markup.specs.declared.kinds.Part.{Part}
use Rattle.sgml_markup.specs.declared.walk.TagWalk.{TagWalk}
use Rattle.sgml_markup.specs.Forms.{parts_of_tag}
use Rattle.sgml_markup.specs.Walks.{parts_left}

-- what stands from a place up to another
abbrev pub between : ℕ → ℕ → List ℕ → List ℕ
between from to text = take (to - from) (drop from text)

-- a part of the tag that stands at this place
abbrev pub moved : ℕ → Part → Part
moved at p = record { kind = p.kind; from = at + p.from; to = at + p.to }

-- the parts of the tag that stands from a place up to another, by their places in it
abbrev pub parts_there : Syntax → ℕ → ℕ → List ℕ → List Part
parts_there s from to text = parts_of_tag s (between from to text)

-- the parts that are left to a walk over the tag that stands from a place up to another
abbrev pub left_there : Syntax → ℕ → ℕ → List ℕ → TagWalk → List Part
left_there s from to text walk = parts_left s (between from to text) walk

-- the part that a walk gives is the first that was left to it, and the others are left after it
abbrev pub IsNextThere : Syntax → ℕ → ℕ → List ℕ → TagWalk → Option Part → TagWalk → Type 0
IsNextThere s from to text old given new = MatchOption given
    ((left_there s from to text old ≡ []) × (left_there s from to text new ≡ []))
    (λ part. map (moved from) (left_there s from to text old)
    ≡ part ∷ map (moved from) (left_there s from to text new))
