use Rattle.std.proofs.Common.{◌≤◌, Err, subst, sym, ◌∙◌, List, ℕ, length}
use Rattle.sgml_source.specs.Feeding.{IsGoing}
use Rattle.sgml_conversion.specs.Documents.{IsFedWhole, source_of}
use Rattle.sgml_conversion.specs.Telling.{FullFed}
use Rattle.sgml_conversion.specs.declared.answer.Failure.TheVariants as failure
use Rattle.sgml_conversion.proofs.Documented.{nothing-found, not-sink, not-the-sink, found-fed}
use Rattle.sgml_conversion.proofs.full.full_found.Goals as goal

pub returns-in_default-clause-converts : goal.returns-in_default-clause-converts
returns-in_default-clause-converts g c =
    nothing-found c.args.limit (g.S.Store.files c.args.store.now) c.args.options.value c.args.declaration (g.S.Store.left c.args.store.now) c.args.id (g.O.Sink.taken c.args.out.now) failure.Memory not-sink

pub returns-in-Err-clause-converts : goal.returns-in-Err-clause-converts
returns-in-Err-clause-converts g c =
    nothing-found c.args.limit (g.S.Store.files c.args.store.now) c.args.options.value c.args.declaration (g.S.Store.left c.args.store.now) c.args.id (g.O.Sink.taken c.args.out.now) c.in-Err.failure (not-the-sink c.in-Err.failure (λ z. Err z) c.in-Err.ensures.sink)

pub returns-in_default-parser_of-clause-converts : goal.returns-in_default-parser_of-clause-converts
returns-in_default-parser_of-clause-converts g c =
    nothing-found c.args.limit (g.S.Store.files c.args.store.now) c.args.options.value c.args.declaration (g.S.Store.left c.args.store.now) c.args.id (g.O.Sink.taken c.args.out.now) failure.Memory not-sink

pub returns-clause-converts : goal.returns-clause-converts
returns-clause-converts g c =
    let S = g.S.Store in let O = g.O.Sink in
    found-fed c.args.limit (S.files c.args.store.now) (S.files c.read_document.new.store) c.args.options.value c.args.declaration (S.left c.args.store.now) (S.left c.read_document.new.store) c.args.id c.read_document.new.bytes.items c.in-Ok-read_document.phase
    c.in-Ok-parser_of.parser (O.taken c.args.out.now) (O.taken c.full_fed.new.out) c.full_fed.result
    c.in-Ok-read_document.ensures.files c.in-Ok-read_document.ensures.read c.in-Ok-read_document.ensures.within
    (subst (λ (z : List ℕ). IsFedWhole c.args.options.value c.args.declaration z c.in-Ok-read_document.phase c.in-Ok-parser_of.parser) c.deref.ensures.value c.in-Ok-parser_of.ensures.fed)
    (subst (λ (z : List ℕ). FullFed c.args.limit c.args.id z c.in-Ok-read_document.phase c.in-Ok-parser_of.parser (S.files c.read_document.new.store) (S.left c.read_document.new.store) (O.taken c.args.out.now) (O.taken c.full_fed.new.out) c.full_fed.result) c.deref-2.ensures.value c.full_fed.ensures.converts)

pub full_fed-requires-clause-going : goal.full_fed-requires-clause-going
full_fed-requires-clause-going g c =
    subst (λ (z : List ℕ). IsGoing (source_of c.args.limit c.args.id z c.in-Ok-read_document.phase) c.in-Ok-parser_of.parser) (c.deref.ensures.value ∙ sym c.deref-2.ensures.value) (c.in-Ok-parser_of.ensures.going c.args.limit c.args.id (subst (λ (z : List ℕ). length z ≤ c.args.limit) (sym c.deref.ensures.value) c.in-Ok-read_document.ensures.within))
