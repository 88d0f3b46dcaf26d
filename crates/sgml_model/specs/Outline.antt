-- A reading of a group that keeps no terms: what is open, and how large the groups are.
use Rattle.std.specs.Prelude.{ℕ, suc, Bool, true, false, ◌&&◌, not, max, List, [], ◌∷◌, length, Option, Some, None, if◌then◌else◌}
use Rattle.sgml_model.specs.Group.{Connector, Sign, begin, finish, text, word, by, mark}
use Rattle.sgml_model.specs.Reading.{agrees}

-- a group that is open: its connector, once there was one, and how many members were before it
pub record Begun : Type 0 where
  pub connector : Option Connector
  pub members : ℕ

-- the open groups, the innermost first; whether an item was just read, and may have a mark; and
-- of the groups read so far the most members, all members, and the most within each other
pub record Outline : Type 0 where
  pub open_groups : List Begun
  pub item : Bool
  pub markable : Bool
  pub widest : ℕ
  pub total : ℕ
  pub level : ℕ

abbrev pub outline : List Begun → Bool → Bool → ℕ → ℕ → ℕ → Outline
outline os i m w t l = record { open_groups = os; item = i; markable = m; widest = w; total = t; level = l }

abbrev pub is_some_begun : List Begun → Bool
is_some_begun [] = false
is_some_begun (o ∷ os) = true

abbrev pub hold : Outline → Bool → Option Outline
hold o m =
    if not o.item && is_some_begun o.open_groups then Some (outline o.open_groups true m o.widest o.total o.level) else None

abbrev pub link : List Begun → Outline → Connector → Option Outline
link [] s c = None
link (o ∷ os) s c =
    if s.item && agrees o.connector c then
    Some (outline (record { connector = Some c; members = suc o.members } ∷ os) false false s.widest (suc s.total) s.level)
    else None

abbrev pub shut : List Begun → Outline → Option Outline
shut [] s = None
shut (o ∷ os) s =
    if s.item then Some (outline os true true (max s.widest (suc o.members)) (suc s.total) s.level) else None

abbrev pub set_mark : Outline → Option Outline
set_mark s =
    if s.item && s.markable then Some (outline s.open_groups true false s.widest s.total s.level) else None

abbrev pub judge : Outline → Sign → Option Outline
judge s begin =
    if s.item then None
    else Some (outline (record { connector = None; members = 0 } ∷ s.open_groups) false false s.widest s.total
    (max s.level (suc (length s.open_groups))))
judge s finish = shut s.open_groups s
judge s text = hold s false
judge s (word n) = hold s true
judge s (by c) = link s.open_groups s c
judge s (mark m) = set_mark s

abbrev pub nothing : Outline
nothing = outline [] false false 0 0 0

-- a group is whole, and none is open
abbrev pub closed : Outline → Bool
closed s = s.item && not (is_some_begun s.open_groups)

-- the members of the innermost open group
abbrev pub innermost : List Begun → ℕ
innermost [] = 0
innermost (o ∷ os) = o.members
