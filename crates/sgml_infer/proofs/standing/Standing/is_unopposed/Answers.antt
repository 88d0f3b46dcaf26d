use Rattle.std.proofs.Common.{[], refl}
use Rattle.sgml_theory_reading.specs.Pieces.{Tag, Short, Net as NetWay}
use Rattle.sgml_infer.specs.Tables.{name_at}
use Rattle.sgml_infer.specs.declared.visible.Visible.TheVariants.{EndTag, EndCurrent, Net}
use Rattle.sgml_infer.specs.Seen.{seen}
use Rattle.sgml_infer.proofs.Unopposed.{start-stands, chars-stand, tag-stands}
use Rattle.sgml_infer.proofs.standing.Standing.is_unopposed.Goals as goal

pub returns-then-not-misfit : goal.returns-then-not-misfit
returns-then-not-misfit c =
    let s = c.args.self.now in
    start-stands s.dtd.now (seen s) c.args.visible c.in-Start.field-0 c.in-Start.is c.args.misfit c.is_full.result c.if-not-misfit.true c.requires.misfit c.is_full.ensures

pub returns-in-Chars : goal.returns-in-Chars
returns-in-Chars c =
    let s = c.args.self.now in
    chars-stand s.dtd.now (seen s) c.args.visible c.in-Chars.is c.args.misfit c.requires.misfit

pub returns-in-EndTag : goal.returns-in-EndTag
returns-in-EndTag c =
    let s = c.args.self.now in let i = c.in-EndTag.element in
    tag-stands s.dtd.now (seen s) c.args.visible (EndTag i) (name_at s.dtd.now i) Tag c.in-EndTag.is refl c.inside_of.result c.inside_of.ensures c.ends_innermost.result c.ends_innermost.ensures

pub returns-in-EndCurrent : goal.returns-in-EndCurrent
returns-in-EndCurrent c =
    let s = c.args.self.now in
    tag-stands s.dtd.now (seen s) c.args.visible EndCurrent [] Short c.in-EndCurrent.is refl c.inside_of_current.result c.inside_of_current.ensures c.ends_innermost-in-EndCurrent.result c.ends_innermost-in-EndCurrent.ensures

pub returns-in-Net : goal.returns-in-Net
returns-in-Net c =
    let s = c.args.self.now in
    tag-stands s.dtd.now (seen s) c.args.visible Net [] NetWay c.in-Net.is refl c.inside_of_net.result c.inside_of_net.ensures c.ends_innermost-in-Net.result c.ends_innermost-in-Net.ensures
