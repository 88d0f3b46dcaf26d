use Rattle.std.proofs.Common.{ap, ◌∙◌, sym, List, ℕ, []}
use Rattle.sgml_theory_reading.specs.Pieces.{End, Short}
use Rattle.sgml_theory_reading.specs.Omission.{inside_of_ended}
use Rattle.sgml_infer.specs.Seen.{seen_with}
use Rattle.sgml_infer.proofs.Behind.{inside-empty, inside-some}
use Rattle.sgml_infer.proofs.standing.Standing.inside_of_current.Goals as goal

pub returns-then-is_empty : goal.returns-then-is_empty
returns-then-is_empty c =
    let s = c.args.self.now in let t = s.dtd.now in
    inside-empty t s.levels.now s.begun (sym c.is_empty.ensures ∙ c.if-is_empty.true)
    ∙ ap (λ (ns : List ℕ). inside_of_ended (seen_with t s.levels.now s.begun ns) (End [] Short)) (sym c.requires.none)

pub returns-else-is_empty : goal.returns-else-is_empty
returns-else-is_empty c =
    let s = c.args.self.now in let t = s.dtd.now in
    inside-some t s.levels.now s.begun (sym c.is_empty.ensures ∙ c.if-is_empty.false)
    ∙ ap (λ (ns : List ℕ). inside_of_ended (seen_with t s.levels.now s.begun ns) (End [] Short)) (sym c.requires.none)
