use Rattle.std.proofs.Common.{Some, sym, ap, ◌∙◌}
use Rattle.sgml_esis.proofs.Runs.{plain_text, all_plain}
use Rattle.sgml_esis.proofs.escapes.read_text.Goals as goal

pub plain-requires : goal.plain-requires
plain-requires c = all_plain c.args.bytes.now (sym c.plain_run-run.ensures.value ∙ c.if-run-bytes.true)

pub returns-then-run-bytes : goal.returns-then-run-bytes
returns-then-run-bytes c = ap Some c.in_ok-plain.ensures ∙ sym (plain_text c.args.bytes.now (sym c.plain_run-run.ensures.value ∙ c.if-run-bytes.true))
