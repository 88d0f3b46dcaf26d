use Rattle.std.proofs.Common.{ap, ◌∙◌, take, drop}
use Rattle.sgml_esis.proofs.Holding.{puts_as}
use Rattle.sgml_event_lines.specs.Standing.{text_bytes}
use Rattle.sgml_event_lines.proofs.Bytes.{stretch_put}
use Rattle.sgml_event_lines.proofs.texts.put_stretches.Goals as goal

pub stretches-preserved : goal.stretches-preserved
stretches-preserved g c = stretch_put c.args.text.now _ _ c.plain_run.result _ _ _ _ _ _ _ _ _ _ _ _ c.stretches.invariant c.plain_run.ensures.value (puts_as _ _ _ _ _ _ c.split_at.result.0.now (take c.plain_run.result c.stretches.rest.now) (c.split_at.ensures.front) c.put.ensures) (puts_as _ _ _ _ _ _ (text_bytes (take 1 c.split_at.result.1.now)) _ (ap (λ v. text_bytes (take 1 v)) c.split_at.ensures.back) c.put_first-rest.ensures.puts) (c.put_first-rest.ensures.rest ∙ ap (drop 1) c.split_at.ensures.back)
