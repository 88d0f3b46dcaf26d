use Rattle.std.proofs.Common.{◌∙◌, sym, ap, subst}
use Rattle.sgml_theory_starts.specs.theory_spelling.Places.{is_map}
use Rattle.sgml_content_steps.specs.Modes.{IsModeOf}
use Rattle.sgml_content_steps.specs.Content.{Content}
use Rattle.sgml_content_steps.proofs.Scanning.{scanned-held}
use Rattle.sgml_content_steps.proofs.scanned.scan_state.Goals as goal

pub mode_in-requires : goal.mode_in-requires
mode_in-requires c =
    subst (λ (y : Content). IsModeOf y.kept.doctype c.innermost-element.result c.element_mode-mode.result) (sym c.content.view_is) c.element_mode-mode.ensures

pub returns-clause-held : goal.returns-clause-held
returns-clause-held c =
    scanned-held c.args.content.now _ c.innermost-element.result (record { mode = c.mode_in.result; net = c.net.result; maps = c.is_map.result })
    c.requires.content c.content.view_is c.innermost-element.ensures.open c.mode_in.ensures.mode c.net.ensures.context
    (c.is_map.ensures ∙ ap is_map c.map.ensures)
