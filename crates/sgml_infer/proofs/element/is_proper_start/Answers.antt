use Rattle.std.proofs.Common.{◌∙◌}
use Rattle.sgml_theory_reading.specs.Types.{content_of}
use Rattle.sgml_infer.specs.Tables.{name_at, type_at}
use Rattle.sgml_infer.proofs.Contents.{step-proper}
use Rattle.sgml_infer.proofs.element.is_proper_start.Goals as goal

pub returns-in-Some : goal.returns-in-Some
returns-in-Some c =
    let t = c.args.dtd.now in
    c.is_some.ensures
    ∙ step-proper (content_of (type_at t c.args.element)) c.args.position c.args.state.now (name_at t c.args.number) c.in-Some.token c.requires.position (c.in-Some.ensures t c.requires.steps)
