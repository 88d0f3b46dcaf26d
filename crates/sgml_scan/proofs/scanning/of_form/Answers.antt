use Rattle.std.proofs.Common.{◌∙◌, sym, drop}
use Rattle.sgml_markup.specs.Ends.{end_of}
use Rattle.sgml_markup.specs.Forms.{before}
use Rattle.sgml_scan.proofs.Markup.{closed-none, closed-some}
use Rattle.sgml_scan.proofs.scanning.of_form.Goals as goal

pub returns-in-None : goal.returns-in-None
returns-in-None c =
    let a = c.args in
    c.open_ended.ensures
    ∙ sym (closed-none a.syntax.now a.ended a.text.now a.form
    (end_of a.syntax.now a.form a.ended (drop (before a.form) a.text.now)) (sym c.markup_of.ensures ∙ c.in-None.is))

pub returns-in-Some : goal.returns-in-Some
returns-in-Some c =
    let a = c.args in
    c.of_judged.ensures
    ∙ sym (closed-some a.syntax.now a.ended a.text.now a.form
    (end_of a.syntax.now a.form a.ended (drop (before a.form) a.text.now)) c.in-Some.markup (sym c.markup_of.ensures ∙ c.in-Some.is))
