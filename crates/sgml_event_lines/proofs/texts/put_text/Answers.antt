use Rattle.std.proofs.Common.{sym, ◌∙◌}
use Rattle.sgml_esis.proofs.Holding.{puts_as}
use Rattle.sgml_event_lines.specs.Standing.{text_bytes}
use Rattle.sgml_event_lines.proofs.Bytes.{plain_text}
use Rattle.sgml_event_lines.proofs.texts.put_text.Goals as goal

pub returns-then-all_plain : goal.returns-then-all_plain
returns-then-all_plain g c = puts_as _ _ _ _ _ _ c.args.text.now _ (sym (plain_text c.args.text.now (sym c.all_plain.ensures ∙ c.if-all_plain.true))) c.put.ensures

pub returns-then-goes_nowhere : goal.returns-then-goes_nowhere
returns-then-goes_nowhere g c = c.put_unseen.ensures (text_bytes c.args.text.now)
