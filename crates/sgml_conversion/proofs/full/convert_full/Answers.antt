use Rattle.std.proofs.Common.{Err, List, ℕ, Option, ap, subst, ◌∙◌}
use Rattle.sgml_io.specs.Files.{Finds}
use Rattle.sgml_source.specs.declaring.Files.{Choices}
use Rattle.sgml_source.specs.Inputs.{Files}
use Rattle.sgml_conversion.specs.Telling.{FullFound}
use Rattle.sgml_conversion.proofs.Documented.{file-full, file-not-found, not-the-sink}
use Rattle.sgml_conversion.proofs.full.convert_full.Goals as goal

pub returns-in-Err-clause-converts : goal.returns-in-Err-clause-converts
returns-in-Err-clause-converts g c = file-not-found c.args.limit (g.S.Store.files c.args.store.now) c.args.options.value c.args.declaration (g.O.Sink.taken c.args.out.now) c.in-Err.failure (not-the-sink c.in-Err.failure (λ z. Err z) c.in-Err.ensures.sink)

pub returns-in-Some-clause-converts : goal.returns-in-Some-clause-converts
returns-in-Some-clause-converts g c =
    let S = g.S.Store in let O = g.O.Sink in
    file-full c.args.limit (S.files c.args.store.now) c.args.options.value c.args.declaration (S.left c.find.new.store) c.in-Some.id (O.taken c.args.out.now) (O.taken c.full_found.new.out) c.full_found.result
    (subst (λ (o : Option ℕ). Finds (S.files c.args.store.now) c.args.options.value.base (S.left c.find.new.store) o) c.in-Some.is
    (subst (λ (name : List ℕ). Finds (S.files c.args.store.now) name (S.left c.find.new.store) c.in-Ok.found) (c.items.ensures ∙ ap (λ (o : Choices). o.base) c.deref.ensures) c.in-Ok.ensures.found))
    (subst (λ (z : Option Files). FullFound c.args.limit c.args.options.value c.args.declaration z (S.left c.find.new.store) c.in-Some.id (O.taken c.args.out.now) (O.taken c.full_found.new.out) c.full_found.result) c.in-Ok.ensures.files
    c.full_found.ensures.converts)
