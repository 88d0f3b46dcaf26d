-- Contexts that differ in nothing that a written tag needs.
use Rattle.std.specs.Prelude.{◌≡◌, false, map}
use Rattle.sgml_theory_worked.specs.theory_reading.Context.{Level, Context}

-- an open element, wherever NET was enabled
abbrev pub plain_level : Level → Level
plain_level l = record { element = l.element; left = l.left; slash = false }

-- Two contexts are alike: they have one document type, the same elements are open with the same left of each, and the
-- document element was begun in both or in neither. NET may be enabled by other elements, and the newest piece may
-- have been left out in one alone.
pub record Alike (c d : Context) : Type 0 where
  pub doctypes : c.doctype ≡ d.doctype
  pub levels : map plain_level c.levels ≡ map plain_level d.levels
  pub begun : c.begun ≡ d.begun
