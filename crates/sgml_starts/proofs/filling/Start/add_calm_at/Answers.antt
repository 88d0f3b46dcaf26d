use Rattle.std.proofs.Common.{◌≡◌, ◌<◌, ap, subst, arith, length, get_or, Bool, false, Some}
use Rattle.sgml_text.specs.Units.{characters}
use Rattle.sgml_starts.specs.Values.{Start}
use Rattle.sgml_starts.specs.Taken.{TakesAt}
use Rattle.sgml_starts.specs.Starts.{list_for}
use Rattle.sgml_starts.proofs.SoFar.{takes-at}
use Rattle.sgml_starts.proofs.filling.Start.add_calm_at.Goals as goal

pub returns-in-Some-clause-taken : goal.returns-in-Some-clause-taken
returns-in-Some-clause-taken c = λ told.
    let l : c.args.number < length c.self.inside.definitions.now = omega (arith, c.requires.number, ap (λ (z : Start). length z.definitions) c.self.view_is) in
    let S : Start = record { syntax = c.self.inside.syntax.now; tables = c.self.inside.entities.now; definitions = c.self.inside.definitions.now; list = list_for c.self.inside.dtd.now c.self.inside.element; currents = c.self.inside.currents.now } in
    let f = c.args.filled.now in
    let n = c.args.number in
    let flag : false ≡ get_or f.specified.items n false = subst (λ (b : Bool). b ≡ get_or f.specified.items n b) c.if-has.false c.has.ensures in
    let gives = c.in-Some.ensures S.tables in
    subst (λ (T : Start). TakesAt T n (characters c.args.bytes.now) f c.put_calm.new.filled) c.self.view_is
    (takes-at S f n c.index-definitions-number.result false (characters c.args.bytes.now) l c.index-definitions-number.is flag c.put_calm.new.filled c.in-Some.value gives.0 gives.1 c.put_calm.ensures)
