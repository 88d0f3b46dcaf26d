use Rattle.std.proofs.Common.{Some, sym, ap, ◌∙◌}
use Rattle.sgml_theory_reading.specs.Names.{Name}
use Rattle.sgml_theory_reading.specs.Types.{content_of}
use Rattle.sgml_infer.specs.Tables.{type_at}
use Rattle.sgml_infer.specs.Trees.{takes_itself}
use Rattle.sgml_infer.specs.Seen.{seen}
use Rattle.sgml_infer.proofs.Asked.{proper-inner}
use Rattle.sgml_infer.proofs.standing.Standing.is_proper.Goals as goal

pub returns-in-Some : goal.returns-in-Some
returns-in-Some c =
    let s = c.args.self.now in let t = s.dtd.now in let i = c.in-Some.inner.element in let z = c.in-Some.inner.state.now in
    c.is_proper_start.ensures
    ∙ (ap (λ (n : Name). takes_itself (content_of (type_at t i)) z (Some n)) (sym c.requires.named)
    ∙ proper-inner t i c.in-Some.inner.position z (seen s) c.requires.standing.distinct c.in-Some.ensures (Some c.args.name.now) c.requires.declared)
