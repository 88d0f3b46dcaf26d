use Rattle.std.proofs.Common.{◌≡◌, ℕ, ◌+◌, ◌++◌, ◌≤◌, drop, flat_map}
use Rattle.sgml_runs.specs.Counts.{times}
use Rattle.sgml_runs.specs.Names.{runs_of, known, IsPassOf}
use Rattle.sgml_workers.specs.Working.{entries_of, LooksAlone, cost_of_all}
use Rattle.sgml_workers.proofs.reading.read_all.Given as goal

abbrev pub invariant-loop-chunk : goal.invariant-loop-chunk
invariant-loop-chunk g l = IsPassOf g.S.Scan.scanned l.board l.pass × LooksAlone (known l.fn.pass) (known l.pass) × ((k : ℕ) → l.chunk ≤ k → times k (known l.pass).taken ≡ 0)
    × (l.all.items ++ flat_map entries_of (drop l.chunk (runs_of g.S.Scan.scanned l.board)) ≡ flat_map entries_of (runs_of g.S.Scan.scanned l.board))
    × (l.steps + cost_of_all (g.S.Scan.cost l.syntax l.texts) (drop l.chunk l.board.chunks.items) ≤ l.fn.steps + cost_of_all (g.S.Scan.cost l.syntax l.texts) l.board.chunks.items)
