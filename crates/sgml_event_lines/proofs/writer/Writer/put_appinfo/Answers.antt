use Rattle.std.proofs.Common.{◌≡◌, [], ◌∷◌, ◌++◌, Some, ap, sym, ◌∙◌}
use Rattle.sgml_esis.proofs.Holding.{puts_as}
use Rattle.sgml_event_lines.specs.Standing.{text_bytes}
use Rattle.sgml_event_lines.proofs.Bytes.{text_line}
use Rattle.sgml_event_lines.proofs.writer.Writer.put_appinfo.Goals as goal

pub returns-in-Some-clause-puts : goal.returns-in-Some-clause-puts
returns-in-Some-clause-puts g c =
    let head : c.args.self.now.head ≡ Some c.in-Some.text = sym c.take.ensures.value ∙ c.in-Some.is in
    rw head (puts_as _ _ _ _ _ _ (35 ∷ text_bytes c.items.result.now ++ 10 ∷ []) _ (ap (λ v. 35 ∷ text_bytes v ++ 10 ∷ []) c.items.ensures ∙ text_line 35 c.in-Some.text) c.put_text_line.ensures)
