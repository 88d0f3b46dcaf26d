use Rattle.std.proofs.Common.{◌≡◌, ◌<◌, ◌+◌, arith, refl, subst, Some}
use Rattle.sgml_markup.specs.Walks.{HasBare, HasLiteral}
use Rattle.sgml_starts.specs.Values.{Start}
use Rattle.sgml_starts.specs.Starts.{list_for}
use Rattle.sgml_starts.proofs.Calm.{fills-bare, fills-literal, fewer-bare, fewer-literal}
use Rattle.sgml_starts.proofs.filling.Start.take_calm_bare.Goals as goal

pub returns-clause-fills : goal.returns-clause-fills
returns-clause-fills c = λ some.
    let S = c.args.self.now in
    let T : Start = record { syntax = c.self.inside.syntax.now; tables = c.self.inside.entities.now; definitions = c.self.inside.definitions.now; list = list_for c.self.inside.dtd.now c.self.inside.element; currents = c.self.inside.currents.now } in
    let to = c.bare_end-to.result in
    let positive : 0 < to = omega (arith, c.if-to-eq0.false) in
    fills-bare S c.args.tag.now c.args.body.now c.args.name c.args.at to c.behind_separators.result c.args.filled.now c.add_calm.new.filled c.requires.body
    (subst (λ (Z : Start). HasBare Z.syntax c.args.body.now c.args.at to) c.self.view_is (c.bare_end-to.ensures.value positive))
    c.behind_separators.ensures.parts (c.if-not-add_calm.ensures.taken refl)

pub returns-clause-fewer : goal.returns-clause-fewer
returns-clause-fewer c = λ some.
    let to = c.bare_end-to.result in
    let positive : 0 < to = omega (arith, c.if-to-eq0.false) in
    fewer-bare c.args.self.now c.args.tag.now c.args.body.now c.args.at to c.behind_separators.result c.requires.body
    (subst (λ (Z : Start). HasBare Z.syntax c.args.body.now c.args.at to) c.self.view_is (c.bare_end-to.ensures.value positive)) c.behind_separators.ensures.parts
