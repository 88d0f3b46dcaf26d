use Rattle.std.proofs.Common.{◌<◌, ap, subst, arith, length, Some}
use Rattle.sgml_text.specs.Units.{characters}
use Rattle.sgml_starts.specs.Values.{Start}
use Rattle.sgml_starts.specs.Taken.{TakesAt, RefusesAt}
use Rattle.sgml_starts.specs.Starts.{list_for}
use Rattle.sgml_starts.proofs.SoFar.{refuses-at, takes-at}
use Rattle.sgml_starts.proofs.filling.Start.add_spelled.Goals as goal

pub returns-in-Err-clause-err : goal.returns-in-Err-clause-err
returns-in-Err-clause-err c =
    let l : c.args.number < length c.self.inside.definitions.now = omega (arith, c.requires.number, ap (λ (z : Start). length z.definitions) c.self.view_is) in
    let S : Start = record { syntax = c.self.inside.syntax.now; tables = c.self.inside.entities.now; definitions = c.self.inside.definitions.now; list = list_for c.self.inside.dtd.now c.self.inside.element; currents = c.self.inside.currents.now } in
    subst (λ (T : Start). RefusesAt T c.args.number (characters c.args.bytes.now) c.args.filled.now c.in-Err.error) c.self.view_is
    (refuses-at S c.args.filled.now c.args.number c.index-definitions-number.result c.has-twice.result (characters c.args.bytes.now) l c.index-definitions-number.is c.has-twice.ensures
    c.in-Err.error c.in-Err.ensures.err)

pub returns-clause-ok : goal.returns-clause-ok
returns-clause-ok c =
    let l : c.args.number < length c.self.inside.definitions.now = omega (arith, c.requires.number, ap (λ (z : Start). length z.definitions) c.self.view_is) in
    let S : Start = record { syntax = c.self.inside.syntax.now; tables = c.self.inside.entities.now; definitions = c.self.inside.definitions.now; list = list_for c.self.inside.dtd.now c.self.inside.element; currents = c.self.inside.currents.now } in
    subst (λ (T : Start). TakesAt T c.args.number (characters c.args.bytes.now) c.args.filled.now c.put.new.filled) c.self.view_is
    (takes-at S c.args.filled.now c.args.number c.index-definitions-number.result c.has-twice.result (characters c.args.bytes.now) l c.index-definitions-number.is c.has-twice.ensures
    c.put.new.filled c.in-Ok.value c.in-Ok.ensures.none c.in-Ok.ensures.ok c.in_ok-put.ensures)
