use Rattle.std.proofs.Common.{◌==◌, refl, sym, ◌∙◌}
use Rattle.sgml_infer.proofs.Links.{none-except}
use Rattle.sgml_infer.proofs.standing.Standing.has_no_exceptions.Goals as goal

pub returns-then-is_empty : goal.returns-then-is_empty
returns-then-is_empty c =
    let s = c.args.self.now in
    none-except s.dtd.now s.starts.now s.levels.now c.requires.linked (sym c.is_empty.ensures ∙ c.if-is_empty.true)
    c.nearest.result c.nearest.ensures (c.nearest.result == 0) refl
