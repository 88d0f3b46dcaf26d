use Rattle.std.proofs.Common.{◌≡◌, ◌+◌, ◌-◌, List, [], ◌++◌, ◌≤◌, false, length, All}
use Rattle.std.specs.Prelude.{vec_capacity}
use Rattle.sgml_theory_reading.specs.Names.{Name}
use Rattle.sgml_theory_reading.specs.Pieces.{Piece}
use Rattle.sgml_theory_reading.specs.Omission.{EndMayStand}
use Rattle.sgml_theory_reading.specs.Runs.{LongestRunFrom}
use Rattle.sgml_infer.specs.Tables.{IsNumber}
use Rattle.sgml_infer.specs.Trees.{HasRoom}
use Rattle.sgml_infer.specs.Seen.{context_at, seen_with, started, IsLastFresh}
use Rattle.sgml_infer.specs.Visibles.{kind_of, is_content, IsFit}
use Rattle.sgml_infer.proofs.walk.infer_starts.Given as goal

abbrev pub invariant-starts : goal.invariant-starts
invariant-starts l = record {
  run : (rest : List Piece) → LongestRunFrom (seen_with l.dtd l.levels l.begun l.starts.items) (kind_of l.dtd l.visible) rest →
      LongestRunFrom (context_at l.dtd l.levels l.begun) (kind_of l.dtd l.visible) (started l.dtd l.starts.items ++ rest);
  fit : IsFit (seen_with l.dtd l.levels l.begun l.starts.items) (kind_of l.dtd l.visible) l.fit;
  none : (n : Name) → EndMayStand (seen_with l.dtd l.levels l.begun l.starts.items) n (kind_of l.dtd l.visible) → ⊥;
  within : length l.levels + length l.starts.items ≤ l.dtd.syntax.quantities.taglvl;
  numbers : All (IsNumber l.dtd) l.starts.items;
  content : is_content l.visible ≡ false → l.starts.items ≡ [];
  fresh : IsLastFresh l.dtd l.starts.items l.fresh;
  room : HasRoom l.dtd l.fresh;
  capacity : vec_capacity l.starts ≡ vec_capacity l.fn.starts;
}

abbrev pub decreases-starts : goal.decreases-starts
decreases-starts l = l.dtd.syntax.quantities.taglvl - (length l.levels + length l.starts.items)
