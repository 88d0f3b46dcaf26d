use Rattle.std.proofs.Common.{rules, ap, arith}
use Rattle.sgml_runs.specs.Counts.{times}
use Rattle.sgml_runs.proofs.Passes.{known_is}
use Rattle.sgml_runs.proofs.Sums.{times-append}
use Rattle.sgml_runs.proofs.Keeps.{joins, tells, long}
use Rattle.sgml_runs.proofs.pass.Pass.join.Goals as goal

pub join_seat-requires : goal.join_seat-requires
join_seat-requires g c = (search rules, search rules, search rules, search rules, joins _ _ _ _ _ (search rules) (search rules))

pub load-requires : goal.load-requires
load-requires g c = let b = c.args.board.now in let e = long g.S.Scan.scanned b.table.shared.key b.chunks.items b.table.shared.table_id.slots b.of_chunks (search rules) in (search rules, search rules, tells _ _ _ _ e)

pub returns-then-finished-clause-disjoint : goal.returns-then-finished-clause-disjoint
returns-then-finished-clause-disjoint g c k = omega (arith, c.load.ensures.2.1 k, ap (λ v. times k v.claims) (known_is c.join_seat.ensures.2), times-append k c.args.self.now.seat.me.0.claims c.args.other.seat.me.0.claims)

pub returns-else-finished-clause-disjoint : goal.returns-else-finished-clause-disjoint
returns-else-finished-clause-disjoint g c k = omega (arith, c.load.ensures.2.1 k, ap (λ v. times k v.claims) (known_is c.join_seat.ensures.2), times-append k c.args.self.now.seat.me.0.claims c.args.other.seat.me.0.claims)
