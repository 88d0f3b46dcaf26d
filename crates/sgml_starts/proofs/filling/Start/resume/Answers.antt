use Rattle.std.proofs.Common.{◌≡◌, ◌∙◌, sym, false}
use Rattle.sgml_markup.specs.Walks.{parts_left}
use Rattle.sgml_starts.specs.SoFar.{ready_at}
use Rattle.sgml_starts.proofs.Calm.{left-ready, resumes, resumes-fewer}
use Rattle.sgml_starts.proofs.filling.Start.resume.Goals as goal

pub returns-clause-fills : goal.returns-clause-fills
returns-clause-fills c =
    let S = c.args.self.now in
    resumes S c.args.tag.now c.args.filled.now c.take_calm-behind.new.filled c.args.walk c.walk_at.result c.take_calm-behind.result
    (left-ready S c.args.tag.now c.args.walk c.in-Ready.is c.if-walk.false c.if-walk-2.false) (c.walk_at.ensures.parts S.syntax) c.take_calm-behind.ensures.fills

pub returns-clause-fewer : goal.returns-clause-fewer
returns-clause-fewer c =
    let S = c.args.self.now in
    resumes-fewer S c.args.tag.now c.args.walk c.walk_at.result c.take_calm-behind.result
    (left-ready S c.args.tag.now c.args.walk c.in-Ready.is c.if-walk.false c.if-walk-2.false) (c.walk_at.ensures.parts S.syntax) c.take_calm-behind.ensures.fewer
