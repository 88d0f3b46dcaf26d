use Rattle.std.proofs.Common.{[], ◌∷◌, ◌++◌, sym, ◌∙◌}
use Rattle.std.specs.Prelude.{if◌then◌else◌, ◌&&◌}
use Rattle.sgml_esis.proofs.Holding.{puts_then, puts_as}
use Rattle.sgml_esis.specs.Spelling.{spell_byte}
use Rattle.sgml_event_lines.proofs.Bytes.{spaced_other}
use Rattle.sgml_event_lines.proofs.texts.put_spaced.Goals as goal

pub returns : goal.returns
returns g c = puts_as _ _ _ _ _ _ ((if c.args.begun && c.args.pending then 32 ∷ [] else []) ++ spell_byte c.args.b) _ (sym (spaced_other c.args.begun c.args.pending c.args.b (sym c.is_separator.ensures ∙ c.if-is_separator.false))) (puts_then _ _ _ _ _ _ _ _ _ (if c.args.begun && c.args.pending then 32 ∷ [] else []) (spell_byte c.args.b) c.put_blank.ensures c.put_escape.ensures)
