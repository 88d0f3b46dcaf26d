use Rattle.std.proofs.Common.{sym, ap, ◌∙◌, length, ℕ}
use Rattle.sgml_prolog_steps.specs.marked.Opened.{is_open_at}
use Rattle.sgml_content_steps.specs.Content.{Content}
use Rattle.sgml_content_tags.proofs.Finishing.{open-tells}
use Rattle.sgml_content_tags.proofs.document.finish.Goals as goal

pub returns-then-is_section_open : goal.returns-then-is_section_open
returns-then-is_section_open c =
    open-tells c.args.texts.now c.args.content.now c.args.told.now.items c.requires.content c.requires.document
    (ap (λ (z : Content). is_open_at (length z.kept.stack.places) z.kept.sections) (sym c.content.view_is)
    ∙ (ap (λ (m : ℕ). is_open_at m c.content.inside.kept.sections) (sym c.in-Ok.ensures) ∙ (sym c.is_section_open.ensures ∙ c.if-is_section_open.true)))
