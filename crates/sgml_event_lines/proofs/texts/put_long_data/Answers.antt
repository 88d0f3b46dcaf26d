use Rattle.sgml_esis.proofs.Holding.{puts_then}
use Rattle.sgml_event_lines.specs.Spelled.{beginning}
use Rattle.sgml_event_lines.specs.Standing.{text_bytes}
use Rattle.sgml_event_lines.proofs.texts.put_long_data.Goals as goal

pub returns : goal.returns
returns g c = puts_then _ _ _ _ _ _ _ _ _ (beginning c.args.within) (text_bytes c.args.text.now) c.put_beginning.ensures c.put_text.ensures
