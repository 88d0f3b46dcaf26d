use Rattle.std.proofs.Common.{◌++◌}
use Rattle.sgml_event_lines.specs.Spelled.{beginning}
use Rattle.sgml_event_lines.specs.Standing.{text_bytes}
use Rattle.sgml_event_lines.proofs.texts.put_data_text.Goals as goal

pub returns-then-goes_nowhere : goal.returns-then-goes_nowhere
returns-then-goes_nowhere g c = c.put_unseen.ensures (beginning c.args.within ++ text_bytes c.args.text.now)
