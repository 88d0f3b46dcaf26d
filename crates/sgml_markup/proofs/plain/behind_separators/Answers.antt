use Rattle.std.proofs.Common.{◌<◌, ◌≡◌, ◌∙◌, arith, refl, sym, length, true, slice_index_or}
use Rattle.sgml_text.specs.Characters.{is_separator}
use Rattle.sgml_markup.proofs.Walking.{separator-next}
use Rattle.sgml_markup.proofs.plain.behind_separators.Goals as goal

pub separators-init : goal.separators-init
separators-init c = record { on = omega arith; within = c.requires; parts = λ s closing. refl }

pub separators-preserved : goal.separators-preserved
separators-preserved c =
    let body = c.args.body.now in
    let to = c.separators.to in
    let room : to < length body = c.separators-test.true in
    let separator : is_separator (slice_index_or body to 0) ≡ true = sym c.is_separator.ensures ∙ c.if-is_separator.true in
    record {
      on = omega (arith, c.separators.invariant.on);
      within = omega (arith, room);
      parts = λ s closing. c.separators.invariant.parts s closing ∙ separator-next s closing to body room separator;
    }
