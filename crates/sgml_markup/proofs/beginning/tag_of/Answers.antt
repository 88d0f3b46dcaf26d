use Rattle.std.proofs.Common.{◌∙◌, sym, ap, Ok, Some}
use Rattle.sgml_markup.proofs.QuickMarkup.{quick-markup}
use Rattle.sgml_markup.proofs.beginning.tag_of.Goals as goal

pub returns-in-Some : goal.returns-in-Some
returns-in-Some c =
    ap (λ k. Some (record { length = c.in-Some.length; judged = Ok k })) c.tag_kind.ensures
    ∙ sym (quick-markup c.args.syntax.now c.args.closing c.args.ended c.args.text.now c.in-Some.length c.requires c.in-Some.ensures)
