use Rattle.std.proofs.Common.{ap, ◌∙◌, sym, List, ℕ, []}
use Rattle.sgml_theory_reading.specs.Pieces.{End, Net}
use Rattle.sgml_theory_reading.specs.Omission.{inside_of_ended}
use Rattle.sgml_infer.specs.Seen.{seen_with}
use Rattle.sgml_infer.proofs.Behind.{inside-enabling}
use Rattle.sgml_infer.proofs.standing.Standing.inside_of_net.Goals as goal

pub returns : goal.returns
returns c =
    let s = c.args.self.now in let t = s.dtd.now in
    c.inside_of_enabling.ensures.inside ∙ (inside-enabling t s.levels.now s.begun
    ∙ ap (λ (ns : List ℕ). inside_of_ended (seen_with t s.levels.now s.begun ns) (End [] Net)) (sym c.requires.none))
