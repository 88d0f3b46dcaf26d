use Rattle.std.proofs.Common.{◌∙◌, ap, refl}
use Rattle.sgml_content_steps.specs.contracts.content.Content.{the_view}
use Rattle.sgml_content_steps.proofs.Taken.{places-left, run-leaves}
use Rattle.sgml_content_steps.proofs.taking.take_run.Goals as goal

pub take_starts-requires-clause-levels : goal.take_starts-requires-clause-levels
take_starts-requires-clause-levels c =
    places-left _ c.args.content.now c.args.visible c.args.run.chain c.take_ends.new.inside (ap the_view c.content-inside.view_is ∙ c.content.view_is)
    c.requires.content c.requires.judged c.take_ends.ensures.inside

pub returns-clause-taken : goal.returns-clause-taken
returns-clause-taken c judged e is at =
    run-leaves judged _ c.args.content.now _ c.args.visible c.args.place c.args.run c.take_ends.new.inside c.args.told.now.items c.take_ends.new.told.items
    c.take_starts.new.told.items (ap the_view c.content-inside.view_is ∙ c.content.view_is) c.requires.content e is at c.take_ends.ensures.inside
    c.take_ends.ensures.told c.take_starts.ensures.inside c.take_starts.ensures.told refl
    (record { context = c.take_judged.ensures.context; began = c.take_judged.ensures.began; tree = c.take_judged.ensures.tree })
