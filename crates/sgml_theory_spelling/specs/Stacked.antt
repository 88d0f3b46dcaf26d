-- Which texts are being read, the top first, and how long all texts are that were opened: what a
-- piece depends on beside its own bytes and the state.
use Rattle.std.specs.Prelude.{ℕ, List, map}
use Rattle.sgml_theory_reading.specs.Unread.{Rest, Standing}

pub record Stacked : Type 0 where
  -- their entities, by number
  pub entities : List ℕ
  pub spent : ℕ

abbrev pub stacked : Standing → Stacked
stacked t = record { entities = map (λ (r : Rest). r.entity) t.rests; spent = t.spent }
