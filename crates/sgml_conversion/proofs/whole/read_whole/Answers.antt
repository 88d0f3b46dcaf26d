use Rattle.std.proofs.Common.{Option, subst}
use Rattle.sgml_text.specs.declared.place.Refusal.{Refusal}
use Rattle.sgml_conversion.specs.Beginning.{PrologReads}
use Rattle.sgml_conversion.proofs.Reaching.{prolog-refused, read-whole-so}
use Rattle.sgml_conversion.proofs.whole.read_whole.Goals as goal

pub returns-in-Some-clause-reads : goal.returns-in-Some-clause-reads
returns-in-Some-clause-reads g c =
    let S = g.S.Store in
    prolog-refused (S.files c.args.store.now) (S.left c.args.store.now) c.args.source.now c.args.parser.now (S.left c.read_prolog.new.store) c.read_prolog.new.source c.read_prolog.new.parser c.read_prolog.new.early.items c.in-Some.refusal
    (subst (λ (z : Option Refusal). PrologReads (S.files c.args.store.now) (S.left c.args.store.now) c.args.source.now c.args.parser.now (S.left c.read_prolog.new.store) c.read_prolog.new.source c.read_prolog.new.parser c.read_prolog.new.early.items z) c.in-Some.is c.in-Ok.ensures.reads)

pub returns-in-None-clause-reads : goal.returns-in-None-clause-reads
returns-in-None-clause-reads g c =
    let S = g.S.Store in
    read-whole-so (S.files c.args.store.now) (S.files c.read_prolog.new.store) (S.left c.args.store.now) c.args.source.now c.args.parser.now (S.left c.read_prolog.new.store) c.read_prolog.new.source c.read_prolog.new.parser c.read_prolog.new.early.items
    c.read_rest.new.parser c.read_rest.new.events.items c.read_rest.result (c.in-Ok.ensures.instance c.in-None.is) c.in-Ok.ensures.instructions
    (subst (λ (z : Option Refusal). PrologReads (S.files c.args.store.now) (S.left c.args.store.now) c.args.source.now c.args.parser.now (S.left c.read_prolog.new.store) c.read_prolog.new.source c.read_prolog.new.parser c.read_prolog.new.early.items z) c.in-None.is c.in-Ok.ensures.reads)
    c.in-Ok.ensures.files c.read_rest.ensures.reads
