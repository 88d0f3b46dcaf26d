use Rattle.std.proofs.Common.{rules, ◌≡◌, ◌<◌, ◌^◌, length, ap, arith}
use Rattle.sgml_runs.proofs.Keeps.{opens, long}
use Rattle.sgml_runs.proofs.board.Board.new.Goals as goal

pub vacant-requires : goal.vacant-requires
vacant-requires g c =
    let n : c.len-2.result ≡ length c.args.chunks.items = search rules in
    let few : c.len-2.result < 2 ^ 32 = search rules in
    let e = long g.S.Scan.scanned c.of-expected.result c.args.chunks.items c.len-2.result (ap (λ v. v.items) c.of-expected.ensures.2) n in
    opens _ _ _ e (omega (arith, e)) (search rules)
