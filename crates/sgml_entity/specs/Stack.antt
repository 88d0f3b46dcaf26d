-- The stack of texts, with the top first.
use Rattle.std.specs.Prelude.{ℕ, Bool, true, false, ◌+◌, ◌-◌, ◌^◌, ◌==◌, ◌≤◌, ◌<◌, List, [], ◌∷◌, length, drop, Option, Some, None, nat_lt}
use Rattle.std.specs.List.{list_any}
use Rattle.sgml_text.specs.declared.place.Place.{Place}
use Rattle.sgml_entity.specs.declared.places.StackRefused.{StackRefused}
use Rattle.sgml_entity.specs.declared.places.StackRefused.TheVariants.{Recursive, EntityLevel, Expansion}

pub record Stack : Type 0 where
  pub levels : ℕ
  pub expand : ℕ
  -- the lengths of all texts that were opened
  pub spent : ℕ
  pub places : List Place

abbrev pub place_at : ℕ → ℕ → Place
place_at entity at = record { entity = entity; at = at }

abbrev pub top_of : List Place → Option Place
top_of [] = None
top_of (p ∷ ps) = Some p

abbrev pub lower : List Place → List Place
lower [] = []
lower (p ∷ ps) = ps

abbrev pub moved : ℕ → List Place → List Place
moved by [] = []
moved by (p ∷ ps) = place_at p.entity (p.at + by) ∷ ps

abbrev pub moved_to : ℕ → List Place → List Place
moved_to at [] = []
moved_to at (p ∷ ps) = place_at p.entity at ∷ ps

abbrev pub offset_of : List Place → ℕ
offset_of [] = 0
offset_of (p ∷ ps) = p.at

abbrev pub is_on : ℕ → List Place → Bool
is_on entity ps = list_any (λ p. p.entity == entity) ps

-- the first that holds
abbrev pub refusal_by : Bool → Bool → Bool → Option StackRefused
refusal_by true full over = Some Recursive
refusal_by false true over = Some EntityLevel
refusal_by false false true = Some Expansion
refusal_by false false false = None

-- Why a text isn't opened: it is open; the levels are used up (all texts but one are entities); the lengths pass the limit.
abbrev pub refusal : ℕ → ℕ → Stack → Option StackRefused
refusal entity size s = refusal_by (is_on entity s.places) (nat_lt s.levels (length s.places)) (nat_lt s.expand (s.spent + size))

abbrev pub opened : ℕ → ℕ → Stack → Stack
opened entity size s = record { levels = s.levels; expand = s.expand; spent = s.spent + size; places = place_at entity 0 ∷ s.places }

-- the stack with its lowest texts up to this depth alone, the topmost of them at this offset
abbrev pub gone_back : ℕ → ℕ → ℕ → Stack → Stack
gone_back depth at spent s = record s { places = moved_to at (drop (length s.places - (depth + 1)) s.places); spent = spent }

-- what the code needs besides: room for all levels, and sums that fit
pub record HasRoom (levels expand spent depth capacity : ℕ) : Type 0 where
  pub room : levels + 1 ≤ capacity
  pub few : depth ≤ levels + 1
  pub within : spent ≤ expand
  pub bounded : levels < 2 ^ 32
