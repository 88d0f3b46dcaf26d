use Rattle.std.proofs.Common.{◌≡◌, ◌<◌, arith, subst, Some}
use Rattle.sgml_markup.specs.Walks.{BeginsAt}
use Rattle.sgml_starts.specs.Values.{Start}
use Rattle.sgml_starts.specs.Starts.{list_for}
use Rattle.sgml_starts.proofs.Calm.{begins-first, begins-behind}
use Rattle.sgml_starts.proofs.filling.Start.begin.Goals as goal

pub returns-then-from-eq0-clause-begun : goal.returns-then-from-eq0-clause-begun
returns-then-from-eq0-clause-begun c = begins-first c.args.self.now c.args.tag.now c.args.filled.now c.tag_walk.result (c.tag_walk.ensures.parts c.args.self.now.syntax)

pub returns-clause-begun : goal.returns-clause-begun
returns-clause-begun c =
    let S = c.args.self.now in
    let T : Start = record { syntax = c.self.inside.syntax.now; tables = c.self.inside.entities.now; definitions = c.self.inside.definitions.now; list = list_for c.self.inside.dtd.now c.self.inside.element; currents = c.self.inside.currents.now } in
    let from = c.specifications_begin-from.result in
    let positive : 0 < from = omega (arith, c.if-from-eq0.false) in
    begins-behind S c.args.tag.now c.args.filled.now c.take_calm-behind.new.filled from c.take_calm-behind.result c.walk_at.result
    (subst (λ (Z : Start). BeginsAt Z.syntax c.args.tag.now from) c.self.view_is (c.specifications_begin-from.ensures.begins positive))
    c.take_calm-behind.ensures.fills (c.walk_at.ensures.parts S.syntax)
