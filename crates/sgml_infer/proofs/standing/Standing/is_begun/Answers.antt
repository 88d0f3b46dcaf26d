use Rattle.std.proofs.Common.{sym, ◌∙◌, ap, ◌||◌, not, ◌==◌, length}
use Rattle.sgml_infer.specs.Seen.{context_at}
use Rattle.sgml_infer.proofs.Points.{run-begun}
use Rattle.sgml_infer.proofs.standing.Standing.is_begun.Goals as goal

pub returns-then-self : goal.returns-then-self
returns-then-self c =
    let s = c.args.self.now in
    c.if-self.true ∙ sym (run-begun s.dtd.now s.starts.now (context_at s.dtd.now s.levels.now s.begun) ∙ ap (λ b. b || not (length s.starts.now == 0)) c.if-self.true)

pub returns-else-self : goal.returns-else-self
returns-else-self c =
    let s = c.args.self.now in
    ap not c.is_empty.ensures ∙ sym (run-begun s.dtd.now s.starts.now (context_at s.dtd.now s.levels.now s.begun) ∙ ap (λ b. b || not (length s.starts.now == 0)) c.if-self.false)
