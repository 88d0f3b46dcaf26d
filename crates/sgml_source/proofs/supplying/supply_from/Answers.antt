use Rattle.std.proofs.Common.{◌≡◌, Vec, sym, subst, ap, ◌∙◌}
use Rattle.std.specs.Prelude.{ℕ, Option, Some, None, Ok, Err, Result}
use Rattle.std.specs.declared.alloc.Global.{Global}
use Rattle.sgml_io.specs.Files.{FetchesFrom}
use Rattle.sgml_io.specs.declared.fetching.FetchError.{FetchError}
use Rattle.sgml_io.specs.declared.fetching.FetchError.TheVariants as errors
use Rattle.sgml_parse.specs.declared.answer.Supply.TheVariants as supply
use Rattle.sgml_source.proofs.Supplied.{IsGivenFrom, text-is-given, absence-is-given, excess-is-given, supplies-from}
use Rattle.sgml_source.proofs.supplying.supply_from.Goals.{in-Ok-Some, in-Ok-None, in-Err-TooLarge}
use Rattle.sgml_source.proofs.supplying.supply_from.Goals as goal

pub returns-in-Ok-clause-supplied : goal.returns-in-Ok-clause-supplied
returns-in-Ok-clause-supplied g c =
    let limit = c.args.limit in
    let told = g.S.Store.files c.args.store.now in
    let name = c.args.name.now in
    let fetched : FetchesFrom told name limit c.fetch.result = subst (λ z. FetchesFrom told z limit c.fetch.result) c.items.ensures c.fetch.ensures.fetches in
    let so : (r : Result (Option (Vec ℕ Global)) FetchError) → c.fetch.result ≡ r → FetchesFrom told name limit r = λ r e. subst (FetchesFrom told name limit) e fetched in
    let given : IsGivenFrom limit told name c.match-fetch.given = elim c.match-fetch.branch [
      | in-Ok-Some w ↦ subst (IsGivenFrom limit told name) (sym (w.given-is ∙ ap supply.Text w.of.ensures)) (text-is-given limit told name w.in-Ok-Some.bytes (so (Ok (Some w.in-Ok-Some.bytes)) (w.in-Ok-Some.is ∙ ap Ok w.in-Ok-Some.field-0-is)))
      | in-Ok-None w ↦ subst (IsGivenFrom limit told name) (sym w.given-is) (absence-is-given limit told name (so (Ok None) (w.in-Ok-None.is ∙ ap Ok w.in-Ok-None.field-0-is)))
      | in-Err-TooLarge w ↦ subst (IsGivenFrom limit told name) (sym w.given-is) (excess-is-given limit told name (so (Err errors.TooLarge) (w.in-Err-TooLarge.is ∙ ap Err w.in-Err-TooLarge.field-0-is)))
    ] in
    supplies-from limit told name c.args.entity c.args.parser.now c.supply.new.self c.match-fetch.given given c.in-Ok.ensures.supplies

pub returns-in-Ok-clause-after : goal.returns-in-Ok-clause-after
returns-in-Ok-clause-after g c = (c.match-fetch.given, c.in-Ok.ensures.after)
