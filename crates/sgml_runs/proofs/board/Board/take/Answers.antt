use Rattle.std.proofs.Common.{rules, refl, ◌∙◌, ap, Some, None, arith}
use Rattle.sgml_runs.proofs.Keeps.{fetches, long}
use Rattle.sgml_runs.specs.Steps.{with_taken}
use Rattle.sgml_runs.proofs.Passes.{known_is, slots_is, run_is, first_slot, put, fine_take, handed, one_run, no_run}
use Rattle.sgml_runs.proofs.board.Board.take.Goals as goal

pub load-requires : goal.load-requires
load-requires g c = let b = c.args.self.now in let e = long g.S.Scan.scanned b.table.shared.key b.chunks.items b.table.shared.table_id.slots b.of_chunks (search rules) in (search rules, search rules, fetches _ _ _ _ _ e (omega (arith, e, b.slots, c.requires.pass.1)) (search rules) (search rules) (search rules) (search rules))

pub exchange-found-requires : goal.exchange-found-requires
exchange-found-requires g c = let t = c.load.ensures.2 c.args.chunk refl in (search rules, (Some t.0, first_slot _ _ _ (slots_is t.2)))

pub overflow_add-pass : goal.overflow_add-pass
overflow_add-pass g c =
    let t = c.load.ensures.2 c.args.chunk refl in
    let b = c.args.self.now in
    omega (arith, t.3, c.args.pass.now.count, b.slots, b.few)

pub invariant_of-pass : goal.invariant_of-pass
invariant_of-pass g c =
    let p = c.args.pass.now in
    let t = c.load.ensures.2 c.args.chunk refl in
    let e = put (with_taken p.seat.me.0 c.args.chunk) c.args.chunk (Some t.0) None p.seat.me.1 c.load.new.seat.me c.exchange-found.new.seat.me t.2 c.exchange-found.ensures.3 in
    let f = (fine_take c.args.chunk None p.seat.me c.exchange-found.new.seat.me p.finished p.taken e c.requires.pass.2 (p.has_part, p.none_held, p.no_slot, p.is_finished, p.is_open, p.count)).0 in
    record { has_part = f.0; none_held = f.1; no_slot = f.2; is_finished = f.3; is_open = f.4; count = f.5 }

pub unreachable-requires : goal.unreachable-requires
unreachable-requires g c =
    let t = c.load.ensures.2 c.args.chunk refl in
    no_run t.0 c.exchange-found.result (handed c.args.chunk c.load.new.seat.me.1 _ _ (Some t.0) c.exchange-found.result (slots_is t.2) c.exchange-found.ensures.2) c.in-None.is

pub returns-clause-pass : goal.returns-clause-pass
returns-clause-pass g c =
    let p = c.args.pass.now in
    let t = c.load.ensures.2 c.args.chunk refl in
    let e = put (with_taken p.seat.me.0 c.args.chunk) c.args.chunk (Some t.0) None p.seat.me.1 c.load.new.seat.me c.exchange-found.new.seat.me t.2 c.exchange-found.ensures.3 in
    (search rules, ap (λ v. v.runs) (known_is e) ∙ c.requires.pass.0.1)

pub returns-clause-run : goal.returns-clause-run
returns-clause-run g c =
    let t = c.load.ensures.2 c.args.chunk refl in
    run_is _ _ c.args.chunk t.0 c.in-Some.run' c.requires.pass.0.1 t.1 (one_run t.0 c.in-Some.run' (handed c.args.chunk c.load.new.seat.me.1 _ _ (Some t.0) c.exchange-found.result (slots_is t.2) c.exchange-found.ensures.2 ∙ c.in-Some.is))

pub returns-clause-taken : goal.returns-clause-taken
returns-clause-taken g c =
    let p = c.args.pass.now in
    let t = c.load.ensures.2 c.args.chunk refl in
    let e = put (with_taken p.seat.me.0 c.args.chunk) c.args.chunk (Some t.0) None p.seat.me.1 c.load.new.seat.me c.exchange-found.new.seat.me t.2 c.exchange-found.ensures.3 in
    known_is e
