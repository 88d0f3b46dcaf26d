-- The marked sections that are open, in the order in which they started (10.4). A section starts
-- and ends in one entity, so each has the level of its entity, and an end is that of the last
-- section of the level.
use Rattle.std.specs.Prelude.{ℕ, ◌≤◌, ◌≡◌, ◌==◌, Bool, false, if◌then◌else◌, List, [], ◌∷◌, ◌++◌}
use Rattle.std.specs.List.{list_any}
use Rattle.std.specs.Ordering.{on, eq_of_both}
use Rattle.sgml_marked.specs.declared.status.Status.{Status}
use Rattle.sgml_marked.specs.declared.status.Status.TheVariants.{Ignore, Cdata, Rcdata, Include}
use Rattle.sgml_marked.specs.declared.sections.Section.{Section}

-- the section is of this entity level
abbrev pub is_at : ℕ → Section → Bool
is_at level section = section.level == level

-- a section of this entity level is open
abbrev pub is_open_at : ℕ → List Section → Bool
is_open_at level sections = list_any (is_at level) sections

-- what is open when the last section of this level has ended
abbrev pub without_last : ℕ → List Section → List Section
without_last level [] = []
without_last level (section ∷ sections) =
    if is_open_at level sections then section ∷ without_last level sections
    else if is_at level section then sections
    else section ∷ without_last level sections

-- the last section of this level has ended: none after it is of this level, and all others stay
pub record IsLastEnded (level : ℕ) (opened left : List Section) : Type 0 where
  pub before : List Section
  pub ended : Section
  pub after : List Section
  pub were : opened ≡ before ++ (ended ∷ after)
  pub of_level : ended.level ≡ level
  pub last : is_open_at level after ≡ false
  pub stay : left ≡ before ++ after

-- the place of a status in the order of priority (10.4.2)
abbrev pub rank : Status → ℕ
rank Ignore = 0
rank Cdata = 1
rank Rcdata = 2
rank Include = 3

-- of the same status and level
abbrev pub same_section : Section → Section → Bool
same_section = eq_of_both (on (λ s. rank s.status) ◌==◌) (on (λ s. s.level) ◌==◌)

-- the last of these numbers, or this one before them
abbrev pub last_or : ℕ → List ℕ → ℕ
last_or low [] = low
last_or low (h ∷ hs) = last_or h hs

-- beside each section a number that no level up to it passes, and that none of the numbers before it passes
abbrev pub Bounds : ℕ → List Section → List ℕ → Type 0
Bounds low [] [] = Unit {0}
Bounds low [] (h ∷ hs) = ⊥
Bounds low (s ∷ ss) [] = ⊥
Bounds low (s ∷ ss) (h ∷ hs) = (low ≤ h) × (s.level ≤ h) × Bounds h ss hs
