use Rattle.std.proofs.Common.{rules}
use Rattle.sgml_runs.proofs.Keeps.{tells, long}
use Rattle.sgml_runs.proofs.board.Board.close.Goals as goal

pub load-requires : goal.load-requires
load-requires g c = let b = c.args.self in let e = long g.S.Scan.scanned b.table.shared.key b.chunks.items b.table.shared.table_id.slots b.of_chunks (search rules) in (search rules, search rules, tells _ _ _ _ e)
