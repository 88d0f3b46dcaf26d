use Rattle.std.proofs.Common.{rules, ℕ, ◌∷◌, List, refl, ◌∙◌, ap, Some, arith}
use Rattle.sgml_runs.proofs.Keeps.{lifts, posts, long}
use Rattle.sgml_runs.specs.Steps.{with_held}
use Rattle.sgml_runs.proofs.Passes.{known_is, slots_is, marked_is, first_slot, put, fine_post}
use Rattle.sgml_runs.proofs.board.Board.post.Goals as goal

pub load-requires : goal.load-requires
load-requires g c = let b = c.args.self.now in let e = long g.S.Scan.scanned b.table.shared.key b.chunks.items b.table.shared.table_id.slots b.of_chunks (search rules) in (search rules, search rules, lifts _ _ _ _ _ (omega (arith, e, b.slots, c.requires.pass.1)) (search rules) (search rules) (search rules))

pub exchange-old-requires : goal.exchange-old-requires
exchange-old-requires g c = let t = c.load.ensures.2 c.args.chunk refl in (search rules, (t.0, first_slot _ _ _ (slots_is t.1)))

pub store-requires : goal.store-requires
store-requires g c =
    let t = c.load.ensures.2 c.args.chunk refl in
    let v = c.args.pass.now.seat.me in
    let e = put (with_held v.0 c.args.chunk) c.args.chunk t.0 (Some c.args.run) v.1 c.load.new.seat.me c.exchange-old.new.seat.me t.1 c.exchange-old.ensures.3 in
    let b = c.args.self.now in let l = long g.S.Scan.scanned b.table.shared.key b.chunks.items b.table.shared.table_id.slots b.of_chunks (search rules) in
    (search rules, search rules, posts _ _ _ _ c.args.run v.1 c.args.chunk (slots_is e) (omega (arith, l, b.slots, c.requires.pass.1)) (ap (λ v. v.held) (known_is e) ∙ ap (λ (x : List ℕ). c.args.chunk ∷ x) c.args.pass.now.none_held) c.requires.run)

pub invariant_of-pass : goal.invariant_of-pass
invariant_of-pass g c =
    let p = c.args.pass.now in
    let t = c.load.ensures.2 c.args.chunk refl in
    let e = put (with_held p.seat.me.0 c.args.chunk) c.args.chunk t.0 (Some c.args.run) p.seat.me.1 c.load.new.seat.me c.exchange-old.new.seat.me t.1 c.exchange-old.ensures.3 in
    let w = c.store.ensures.2 c.args.chunk refl ∙ marked_is c.args.chunk e in
    let f = (fine_post c.args.chunk p.seat.me c.store.new.seat.me p.finished p.taken w (p.has_part, p.none_held, p.no_slot, p.is_finished, p.is_open, p.count)).0 in
    record { has_part = f.0; none_held = f.1; no_slot = f.2; is_finished = f.3; is_open = f.4; count = f.5 }

pub returns-clause-pass : goal.returns-clause-pass
returns-clause-pass g c =
    let p = c.args.pass.now in
    let t = c.load.ensures.2 c.args.chunk refl in
    let e = put (with_held p.seat.me.0 c.args.chunk) c.args.chunk t.0 (Some c.args.run) p.seat.me.1 c.load.new.seat.me c.exchange-old.new.seat.me t.1 c.exchange-old.ensures.3 in
    let w = c.store.ensures.2 c.args.chunk refl ∙ marked_is c.args.chunk e in
    (search rules, ap (λ v. v.runs) (known_is w) ∙ c.requires.pass.0.1)

pub returns-clause-marked : goal.returns-clause-marked
returns-clause-marked g c =
    let p = c.args.pass.now in
    let t = c.load.ensures.2 c.args.chunk refl in
    let e = put (with_held p.seat.me.0 c.args.chunk) c.args.chunk t.0 (Some c.args.run) p.seat.me.1 c.load.new.seat.me c.exchange-old.new.seat.me t.1 c.exchange-old.ensures.3 in
    known_is (c.store.ensures.2 c.args.chunk refl ∙ marked_is c.args.chunk e)
