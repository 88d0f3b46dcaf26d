use Rattle.std.proofs.Common.{ap, sym, ◌∙◌, ◌++◌, ◌∷◌, [], take}
use Rattle.std.specs.Prelude.{if◌then◌else◌, not}
use Rattle.sgml_esis.proofs.Holding.{puts_as, puts_then}
use Rattle.sgml_event_lines.specs.Standing.{text_bytes}
use Rattle.sgml_event_lines.proofs.Bytes.{none_of, short_spelled, short_whole}
use Rattle.sgml_event_lines.proofs.texts.put_short_data.Goals as goal

pub returns-then-not-is_empty : goal.returns-then-not-is_empty
returns-then-not-is_empty g c =
    puts_as _ _ _ _ _ _ _ _ (short_spelled c.args.within c.args.text.now c.split_at.result.1.now c.put_plain.result c.put_plain.ensures.count c.split_at.ensures.back)
    (puts_then _ _ _ _ _ _ _ _ _ ((if not c.args.within then 45 ∷ [] else []) ++ take c.put_plain.result c.args.text.now) (text_bytes c.split_at.result.1.now) c.put_plain.ensures.puts c.put_stretches.ensures)

pub returns-else-not-is_empty : goal.returns-else-not-is_empty
returns-else-not-is_empty g c =
    puts_as _ _ _ _ _ _ _ _ (short_whole c.args.within c.args.text.now c.split_at.result.1.now c.put_plain.result c.put_plain.ensures.count c.split_at.ensures.back (none_of c.split_at.result.1.now (sym c.is_empty.ensures ∙ c.if-not-is_empty.false))) c.put_plain.ensures.puts
