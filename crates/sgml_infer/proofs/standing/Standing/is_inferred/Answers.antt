use Rattle.std.proofs.Common.{sym, ◌∙◌, ap, not}
use Rattle.sgml_infer.specs.Seen.{context_at}
use Rattle.sgml_infer.proofs.Points.{run-inferred}
use Rattle.sgml_infer.proofs.standing.Standing.is_inferred.Goals as goal

pub returns : goal.returns
returns c =
    let s = c.args.self.now in
    ap not c.is_empty.ensures ∙ sym (run-inferred s.dtd.now s.starts.now (context_at s.dtd.now s.levels.now s.begun))
