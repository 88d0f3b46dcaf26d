use Rattle.std.proofs.Common.{List, ℕ, Option, ap, subst, ◌∙◌}
use Rattle.sgml_io.specs.Files.{Finds}
use Rattle.sgml_source.specs.declaring.Files.{Choices}
use Rattle.sgml_source.specs.Inputs.{Files}
use Rattle.sgml_conversion.specs.Beginning.{ConvertsFound}
use Rattle.sgml_conversion.proofs.Found.{file-converted, not-found}
use Rattle.sgml_conversion.proofs.conversion.convert.Goals as goal

pub returns-in-Err-clause-converts : goal.returns-in-Err-clause-converts
returns-in-Err-clause-converts g c = not-found c.args.limit (g.S.Store.files c.args.store.now) c.args.options.value c.args.declaration (g.O.Sink.taken c.args.out.now) c.in-Err.failure

pub returns-in-Some-clause-converts : goal.returns-in-Some-clause-converts
returns-in-Some-clause-converts g c =
    let S = g.S.Store in let O = g.O.Sink in
    file-converted c.args.limit (S.files c.args.store.now) c.args.options.value c.args.declaration (S.left c.find.new.store) c.in-Some.id (O.taken c.args.out.now) (O.taken c.convert_found.new.out) c.convert_found.result
    (subst (λ (o : Option ℕ). Finds (S.files c.args.store.now) c.args.options.value.base (S.left c.find.new.store) o) c.in-Some.is
    (subst (λ (name : List ℕ). Finds (S.files c.args.store.now) name (S.left c.find.new.store) c.in-Ok.found) (c.items.ensures ∙ ap (λ (o : Choices). o.base) c.deref.ensures) c.in-Ok.ensures.found))
    (subst (λ (z : Option Files). ConvertsFound c.args.limit c.args.options.value c.args.declaration z (S.left c.find.new.store) c.in-Some.id (O.taken c.args.out.now) (O.taken c.convert_found.new.out) c.convert_found.result) c.in-Ok.ensures.files
    c.convert_found.ensures.converts)
