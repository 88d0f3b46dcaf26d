use Rattle.std.proofs.Common.{ap, ◌∙◌}
use Rattle.sgml_theory_reading.specs.Types.{is_declared}
use Rattle.sgml_infer.proofs.Declared.{is-declared}
use Rattle.sgml_infer.proofs.standing.Standing.start_reason.Goals as goal

pub content_reason-requires-clause-declared : goal.content_reason-requires-clause-declared
content_reason-requires-clause-declared c =
    let t = c.args.self.now.dtd.now in
    ap (is_declared t) c.name.ensures ∙ is-declared t c.args.element c.requires.standing.distinct c.requires.number
