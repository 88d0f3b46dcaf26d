use Rattle.std.proofs.Common.{rules, sym, subst, ap, arith, ◌++◌, take, drop}
use Rattle.std.specs.Io.KnownBytes.{Consumes}
use Rattle.std.proofs.lemmas.List.{take-append-le, length-take-le}
use Rattle.sgml_conversion.proofs.Fed.{piece-read, end-read, cut-read}
use Rattle.sgml_conversion.proofs.document.read_piece.Goals as goal

pub returns-then-count-eq0-clause-read : goal.returns-then-count-eq0-clause-read
returns-then-count-eq0-clause-read g c = λ whole x.
    let S = g.S.Store in
    end-read c.args.limit whole (S.left c.args.store.now c.args.id) (S.left c.read.new.self c.args.id) c.args.bytes.now.items (take c.in-Ok.count c.read.new.buf) c.in-Ok.ensures.bytes.0 (ap (λ n. take n c.read.new.buf) c.if-count-eq0.true)
    (c.in-Ok.ensures.bytes.1 c.if-count-eq0.true (search rules)) x

pub returns-then-room-eq0-clause-read : goal.returns-then-room-eq0-clause-read
returns-then-room-eq0-clause-read g c = λ whole x.
    let S = g.S.Store in
    cut-read c.args.limit whole (S.left c.args.store.now c.args.id) (S.left c.read.new.self c.args.id) c.args.bytes.now.items (take c.in-Ok.count c.read.new.buf) c.in-Ok.ensures.bytes.0
    (omega (arith, c.if-count-eq0.false, length-take-le c.in-Ok.count c.read.new.buf c.in-Ok.ensures.bound.0)) (search (rules, arith)) x

pub returns-in-Ok-extend_from_slice-clause-read : goal.returns-in-Ok-extend_from_slice-clause-read
returns-in-Ok-extend_from_slice-clause-read g c = λ whole x.
    let S = g.S.Store in
    let after = drop c.wanted-wanted.result c.args.buffer.now in
    let piece = take-append-le c.in-Ok.count c.read.new.buf after c.in-Ok.ensures.bound.0 in
    piece-read c.args.limit whole (S.left c.args.store.now c.args.id) (S.left c.read.new.self c.args.id) c.args.bytes.now.items c.extend_from_slice.new.self.items (take c.in-Ok.count (c.read.new.buf ++ after))
    (subst (Consumes (S.left c.args.store.now c.args.id) (S.left c.read.new.self c.args.id)) (sym piece) c.in-Ok.ensures.bytes.0) c.in-Ok-extend_from_slice.ensures.items x
