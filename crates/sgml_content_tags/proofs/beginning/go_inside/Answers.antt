use Rattle.std.proofs.Common.{◌≡◌, Bool, sym, subst}
use Rattle.sgml_content_tags.specs.Starts.{begun_with}
use Rattle.sgml_content_tags.proofs.Settling.{opens-inside}
use Rattle.sgml_content_tags.proofs.beginning.go_inside.Goals as goal

pub returns-else-at_once-clause-inside : goal.returns-else-at_once-clause-inside
returns-else-at_once-clause-inside c =
    subst (λ (b : Bool). c.open.new.self ≡ begun_with c.args.map c.args.number b c.args.inside.now) (sym c.if-at_once.false)
    (opens-inside c.args.number c.args.inside.now c.open.new.self c.args.map c.open.ensures.elements c.open.ensures.ended c.open.ensures.room)
