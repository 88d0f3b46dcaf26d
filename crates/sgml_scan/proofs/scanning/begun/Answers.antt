use Rattle.std.proofs.Common.{◌∙◌, ap, sym, subst, drop, length}
use Rattle.sgml_markup.proofs.EndLemmas.{rest-of}
use Rattle.sgml_scan.specs.Openings.{opening}
use Rattle.sgml_scan.specs.Tokens.{HasRoom}
use Rattle.sgml_scan.proofs.Standing.{opening-room}
use Rattle.sgml_scan.proofs.scanning.begun.Goals as goal

pub opened-requires : goal.opened-requires
opened-requires c =
    let text = c.args.text.now in
    let mode = c.args.state.mode in
    let delim = c.args.delim in
    let is = c.opening.ensures
    ∙ ap (opening mode delim) (rest-of (length c.string_of.result.now) text)
    ∙ ap (λ xs. opening mode delim (drop (length xs) text)) c.string_of.ensures in
    subst (λ o. HasRoom text o) (sym is) (opening-room mode delim text c.requires)
