use Rattle.std.proofs.Common.{◌≡◌, Option, List, true, subst, sym}
use Rattle.std.specs.List.{list_all}
use Rattle.sgml_text.specs.declared.place.Refusal.{Refusal}
use Rattle.sgml_dtd.specs.Doctypes.{Doctype}
use Rattle.sgml_events.specs.declared.event.Event.{Event}
use Rattle.sgml_source.specs.parse.Parsing.{is_instruction}
use Rattle.sgml_source.specs.Inputs.{Files}
use Rattle.sgml_conversion.specs.Writing.{StandAfter}
use Rattle.sgml_conversion.specs.Showing.{InstanceEnds}
use Rattle.sgml_conversion.specs.Beginning.{PrologReads}
use Rattle.sgml_conversion.proofs.Begun.{nothing-converted, early-failed, stop-written, instance-converted}
use Rattle.sgml_conversion.proofs.conversion.convert_from.Goals as goal

pub returns-in-Err-clause-converts : goal.returns-in-Err-clause-converts
returns-in-Err-clause-converts g c = let S = g.S.Store in nothing-converted (S.files c.args.store.now) (S.left c.args.store.now) c.args.source.now c.args.parser.now c.read_prolog.new.parser (g.O.Sink.taken c.args.out.now) c.in-Err.failure

pub returns-in-Err-write_early-clause-converts : goal.returns-in-Err-write_early-clause-converts
returns-in-Err-write_early-clause-converts g c =
    let S = g.S.Store in let O = g.O.Sink in
    early-failed (S.files c.args.store.now) (S.left c.args.store.now) c.args.source.now c.args.parser.now (S.left c.read_prolog.new.store) c.read_prolog.new.source c.read_prolog.new.parser c.deref.result.now c.in-Ok.refused (O.taken c.args.out.now) (O.taken c.write_early.new.out) c.dtd.result.now c.in-Err-write_early.failure c.in-Ok.ensures.instance c.dtd.ensures
    (subst (λ (z : List Event). PrologReads (S.files c.args.store.now) (S.left c.args.store.now) c.args.source.now c.args.parser.now (S.left c.read_prolog.new.store) c.read_prolog.new.source c.read_prolog.new.parser z c.in-Ok.refused) (sym c.deref.ensures.value) c.in-Ok.ensures.reads)
    c.in-Err-write_early.ensures.err

pub returns-in-Some-clause-converts : goal.returns-in-Some-clause-converts
returns-in-Some-clause-converts g c =
    let S = g.S.Store in let O = g.O.Sink in
    stop-written (S.files c.args.store.now) (S.left c.args.store.now) c.args.source.now c.args.parser.now (S.left c.read_prolog.new.store) c.read_prolog.new.source c.read_prolog.new.parser c.deref.result.now c.in-Some.refusal (O.taken c.args.out.now) (O.taken c.end_lines.new.out) c.dtd.result.now c.end_lines.result c.dtd.ensures
    (subst (λ (z : Option Refusal). PrologReads (S.files c.args.store.now) (S.left c.args.store.now) c.args.source.now c.args.parser.now (S.left c.read_prolog.new.store) c.read_prolog.new.source c.read_prolog.new.parser c.deref.result.now z) c.in-Some.is (subst (λ (z : List Event). PrologReads (S.files c.args.store.now) (S.left c.args.store.now) c.args.source.now c.args.parser.now (S.left c.read_prolog.new.store) c.read_prolog.new.source c.read_prolog.new.parser z c.in-Ok.refused) (sym c.deref.ensures.value) c.in-Ok.ensures.reads))
    (c.end_lines.ensures.lines (O.taken c.args.out.now) (O.faults c.args.out.now) c.dtd.result.now c.deref.result.now c.in-Ok-write_early.ensures.ok.lines) c.end_lines.ensures.outcome

pub returns-in-Some-clause-sink : goal.returns-in-Some-clause-sink
returns-in-Some-clause-sink g c =
    let O = g.O.Sink in c.end_lines.ensures.cause (O.taken c.args.out.now) (O.faults c.args.out.now) c.dtd.result.now c.deref.result.now c.in-Ok-write_early.ensures.ok.lines

pub returns-clause-converts : goal.returns-clause-converts
returns-clause-converts g c =
    let S = g.S.Store in let O = g.O.Sink in
    let stand = subst (λ (z : Doctype). StandAfter (O.taken c.args.out.now) (O.faults c.args.out.now) (O.taken c.write_early.new.out) (O.faults c.write_early.new.out) c.in-Ok-write_early.made.0 c.in-Ok-write_early.made.1 z c.deref.result.now) c.dtd.ensures
    c.in-Ok-write_early.ensures.ok in
    instance-converted (S.files c.args.store.now) (S.left c.args.store.now) c.args.source.now c.args.parser.now (S.left c.read_prolog.new.store) c.read_prolog.new.source c.read_prolog.new.parser c.deref.result.now c.read_instance.new.parser (O.taken c.args.out.now) (O.taken c.read_instance.new.out) c.read_instance.result
    (c.in-Ok.ensures.instance c.in-None.is) (subst (λ (z : List Event). list_all is_instruction z ≡ true) (sym c.deref.ensures.value) c.in-Ok.ensures.instructions)
    (subst (λ (z : Option Refusal). PrologReads (S.files c.args.store.now) (S.left c.args.store.now) c.args.source.now c.args.parser.now (S.left c.read_prolog.new.store) c.read_prolog.new.source c.read_prolog.new.parser c.deref.result.now z) c.in-None.is (subst (λ (z : List Event). PrologReads (S.files c.args.store.now) (S.left c.args.store.now) c.args.source.now c.args.parser.now (S.left c.read_prolog.new.store) c.read_prolog.new.source c.read_prolog.new.parser z c.in-Ok.refused) (sym c.deref.ensures.value) c.in-Ok.ensures.reads))
    (subst (λ (z : Option Files). InstanceEnds (O.taken c.args.out.now) z (S.left c.read_prolog.new.store) c.read_prolog.new.source c.read_prolog.new.parser c.deref.result.now c.read_instance.new.parser (O.taken c.read_instance.new.out) c.read_instance.result) c.in-Ok.ensures.files
    (c.read_instance.ensures.ends (O.taken c.args.out.now) (O.faults c.args.out.now) c.deref.result.now stand))

pub returns-clause-sink : goal.returns-clause-sink
returns-clause-sink g c =
    let O = g.O.Sink in
    let stand = subst (λ (z : Doctype). StandAfter (O.taken c.args.out.now) (O.faults c.args.out.now) (O.taken c.write_early.new.out) (O.faults c.write_early.new.out) c.in-Ok-write_early.made.0 c.in-Ok-write_early.made.1 z c.deref.result.now) c.dtd.ensures
    c.in-Ok-write_early.ensures.ok in
    c.read_instance.ensures.sink (O.taken c.args.out.now) (O.faults c.args.out.now) c.deref.result.now stand
