use Rattle.std.proofs.Common.{◌+◌, Bool, if◌then◌else◌, refl, ap, ◌∙◌, take, arith}
use Rattle.sgml_infer.specs.Links.{last_link}
use Rattle.sgml_infer.proofs.Places.{begun-at, begun-level, begun-levels}
use Rattle.sgml_infer.proofs.Links.{linked-begun, front-bound}
use Rattle.sgml_infer.proofs.Knowing.{known-within, exceptions-in}
use Rattle.sgml_infer.proofs.Nets.{net-begun}
use Rattle.sgml_infer.proofs.opening.begin.Goals as goal

pub known_at-requires : goal.known_at-requires
known_at-requires c = known-within c.args.dtd.now c.args.known.now c.args.element c.requires.known c.requires.number

pub link-excepted-requires-clause-within : goal.link-excepted-requires-clause-within
link-excepted-requires-clause-within c = let h = c.requires.depth in front-bound c.args.dtd.now c.args.depth c.args.levels.now c.requires.linked (omega (arith, h))

pub returns-clause-begun : goal.returns-clause-begun
returns-clause-begun c = begun-level c.args.dtd.now c.args.levels.now c.args.depth c.args.element c.restart.new.state c.link-excepted.result c.in_net-within_net.result c.requires.distinct c.requires.number c.requires.depth c.restart.ensures.fresh

pub returns-clause-levels : goal.returns-clause-levels
returns-clause-levels c = begun-levels c.args.dtd.now c.args.levels.now c.args.depth c.args.element c.restart.new.state c.link-excepted.result c.in_net-within_net.result c.requires.number c.requires.depth c.restart.ensures.fresh c.restart.ensures.room c.requires.levels

pub returns-clause-linked : goal.returns-clause-linked
returns-clause-linked c = linked-begun c.args.dtd.now c.args.levels.now c.args.depth (begun-at c.args.element c.restart.new.state c.link-excepted.result c.in_net-within_net.result) c.requires.depth (c.link-excepted.ensures
    ∙ ap (λ (b : Bool). if b then c.args.depth + 1 else last_link 0 (take c.args.depth c.args.levels.now))
    (exceptions-in c.args.dtd.now c.args.known.now c.args.element c.known_at.result.now c.requires.known c.requires.number c.known_at.ensures)) c.requires.linked

pub returns-clause-net : goal.returns-clause-net
returns-clause-net c = net-begun c.args.levels.now c.args.depth (begun-at c.args.element c.restart.new.state c.link-excepted.result c.in_net-within_net.result) c.requires.depth refl c.in_net-within_net.ensures c.requires.net
