use Rattle.std.proofs.Common.{Bool, false, sym, subst}
use Rattle.sgml_content_tags.specs.Starts.{Settles}
use Rattle.sgml_content_tags.proofs.Settling.{settles-void, settles-conref}
use Rattle.sgml_content_tags.proofs.beginning.settle.Goals as goal

pub returns-then-void-clause-settles : goal.returns-then-void-clause-settles
returns-then-void-clause-settles c =
    subst (λ (v : Bool). Settles v c.args.conref c.args.net c.args.tree.now c.args.tree.now) (sym c.if-void.true) (settles-void c.args.tree.now c.args.conref c.args.net)

pub returns-then-conref-clause-settles : goal.returns-then-conref-clause-settles
returns-then-conref-clause-settles c =
    subst (λ (v : Bool). Settles v c.args.conref c.args.net c.args.tree.now c.end_at_once.new.self) (sym c.if-void.false)
    (subst (λ (r : Bool). Settles false r c.args.net c.args.tree.now c.end_at_once.new.self) (sym c.if-conref.true)
    (settles-conref c.args.tree.now c.end_at_once.new.self c.args.net c.end_at_once.ensures.context))
