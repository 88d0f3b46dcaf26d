use Rattle.sgml_content_steps.proofs.ContentModes.{mode-by-kind}
use Rattle.sgml_content_steps.proofs.scanned.element_mode.Goals as goal

pub returns-in-Some : goal.returns-in-Some
returns-in-Some c =
    mode-by-kind c.args.content.now _ c.args.element c.in-Some.number c.content_kind.result c.mode_of_kind.result c.requires.content c.content.view_is c.in-Some.is
    c.requires.number c.content_kind.ensures c.mode_of_kind.ensures
