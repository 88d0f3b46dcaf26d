use Rattle.std.proofs.Common.{rules, arith, refl, ◌∙◌}
use Rattle.sgml_runs.proofs.Keeps.{looks, long}
use Rattle.sgml_runs.proofs.Passes.{fine_look}
use Rattle.sgml_runs.proofs.board.Board.look.Goals as goal

pub load-found-requires : goal.load-found-requires
load-found-requires g c = let b = c.args.self.now in let e = long g.S.Scan.scanned b.table.shared.key b.chunks.items b.table.shared.table_id.slots b.of_chunks (search rules) in (search rules, search rules, looks _ _ _ _ _ (omega (arith, e, b.slots, c.requires.1)))

pub invariant_of-pass : goal.invariant_of-pass
invariant_of-pass g c =
    let p = c.args.pass.now in
    let t = c.load-found.ensures.2 c.args.chunk refl in
    let f = (fine_look c.load-found.result c.args.chunk p.seat.me c.load-found.new.seat.me p.finished p.taken t.0 t.1 (p.has_part, p.none_held, p.no_slot, p.is_finished, p.is_open, p.count)).0 in
    record { has_part = f.0; none_held = f.1; no_slot = f.2; is_finished = f.3; is_open = f.4; count = f.5 }

pub returns-clause-pass : goal.returns-clause-pass
returns-clause-pass g c =
    let p = c.args.pass.now in
    let t = c.load-found.ensures.2 c.args.chunk refl in
    let f = (fine_look c.load-found.result c.args.chunk p.seat.me c.load-found.new.seat.me p.finished p.taken t.0 t.1 (p.has_part, p.none_held, p.no_slot, p.is_finished, p.is_open, p.count)).1 in
    (c.load-found.ensures.0 ∙ c.requires.0.0, f ∙ c.requires.0.1)

pub returns-clause-yes : goal.returns-clause-yes
returns-clause-yes g c = let t = c.load-found.ensures.2 c.args.chunk refl in search rules

pub returns-clause-no : goal.returns-clause-no
returns-clause-no g c = let t = c.load-found.ensures.2 c.args.chunk refl in search rules
