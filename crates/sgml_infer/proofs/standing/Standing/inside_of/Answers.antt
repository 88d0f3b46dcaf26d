use Rattle.std.proofs.Common.{ap, ◌∙◌, sym, List, ℕ}
use Rattle.sgml_theory_reading.specs.Pieces.{End, Tag}
use Rattle.sgml_theory_reading.specs.Omission.{inside_of_ended}
use Rattle.sgml_infer.specs.Tables.{name_at}
use Rattle.sgml_infer.specs.Seen.{seen_with}
use Rattle.sgml_infer.proofs.Behind.{inside-named, all-reversed}
use Rattle.sgml_infer.proofs.standing.Standing.inside_of.Goals as goal

pub returns : goal.returns
returns c =
    let s = c.args.self.now in let t = s.dtd.now in
    c.inside_of.ensures ∙ (inside-named t s.levels.now s.begun c.args.element c.requires.standing.distinct c.requires.number (all-reversed t s.levels.now c.requires.standing.levels)
    ∙ ap (λ (ns : List ℕ). inside_of_ended (seen_with t s.levels.now s.begun ns) (End (name_at t c.args.element) Tag)) (sym c.requires.none))
