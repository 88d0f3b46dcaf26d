use Rattle.std.proofs.Common.{rules, sym, subst, ap, arith, ◌++◌, take, drop}
use Rattle.std.specs.Io.KnownBytes.{Consumes}
use Rattle.std.proofs.lemmas.List.{take-append-le, length-take-le}
use Rattle.sgml_source.proofs.Fed.{goes-on-fed-so, ends-whole-so, is-cut}
use Rattle.sgml_source.proofs.source.feed_more.Goals as goal

pub returns-clause-fed : goal.returns-clause-fed
returns-clause-fed g c =
    let f = c.feed_piece in
    let left = g.S.Store.left in
    let count = c.in-Ok.count in
    let after = drop c.wanted-wanted.result c.args.buffer.now in
    let piece = take-append-le count c.read.new.buf after c.in-Ok.ensures.bound.0 in
    goes-on-fed-so f.result (left c.args.store.now) (left c.read.new.self) c.args.source.now f.new.source c.args.parser.now f.new.parser (take count (c.read.new.buf ++ after)) c.requires.phase f.ensures.phase f.ensures.id f.ensures.limit
    (subst (Consumes (left c.args.store.now c.args.source.now.id) (left c.read.new.self c.args.source.now.id)) (sym piece) c.in-Ok.ensures.bytes.0) f.ensures.fed f.ensures.there

pub returns-then-room-eq0-clause-fed : goal.returns-then-room-eq0-clause-fed
returns-then-room-eq0-clause-fed g c =
    let left = g.S.Store.left in
    let count = c.in-Ok.count in
    is-cut (left c.args.store.now) (left c.read.new.self) c.args.source.now c.args.parser.now (take count c.read.new.buf) c.requires.phase (omega (arith, c.if-room-eq0.true, c.requires.going.within))
    c.in-Ok.ensures.bytes.0 (omega (arith, c.if-count-eq0.false, length-take-le count c.read.new.buf c.in-Ok.ensures.bound.0))

pub returns-then-count-eq0-clause-fed : goal.returns-then-count-eq0-clause-fed
returns-then-count-eq0-clause-fed g c =
    let e = c.end_document in
    let left = g.S.Store.left in
    let count = c.in-Ok.count in
    let none = ap (λ n. take n c.read.new.buf) c.if-count-eq0.true in
    ends-whole-so e.result (left c.args.store.now) (left c.read.new.self) c.args.source.now e.new.source c.args.parser.now e.new.parser (take count c.read.new.buf) c.requires.phase e.ensures.phase e.ensures.limit e.ensures.count
    c.requires.going.within none c.in-Ok.ensures.bytes.0 (c.in-Ok.ensures.bytes.1 c.if-count-eq0.true (search rules)) e.ensures.ends e.ensures.there
