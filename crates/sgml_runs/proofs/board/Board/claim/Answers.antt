use Rattle.std.proofs.Common.{rules}
use Rattle.sgml_runs.proofs.Keeps.{claims, long}
use Rattle.sgml_runs.proofs.board.Board.claim.Goals as goal

pub fetch_add-found-requires : goal.fetch_add-found-requires
fetch_add-found-requires g c = let b = c.args.self.now in let e = long g.S.Scan.scanned b.table.shared.key b.chunks.items b.table.shared.table_id.slots b.of_chunks (search rules) in (search rules, search rules, claims _ _ _ _ e (search rules) (search rules))
