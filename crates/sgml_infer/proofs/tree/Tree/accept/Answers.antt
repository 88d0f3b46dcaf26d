use Rattle.std.proofs.Common.{◌≡◌, ◌++◌}
use Rattle.sgml_infer.specs.Seen.{started, ended}
use Rattle.sgml_infer.specs.Visibles.{left_out}
use Rattle.sgml_infer.proofs.Accepting.{accepts-here, refuses-here}
use Rattle.sgml_infer.proofs.tree.Tree.accept.Goals as goal

pub returns-in-Ok-clause-ok : goal.returns-in-Ok-clause-ok
returns-in-Ok-clause-ok c = λ h stood p q.
    let t = c.args.dtd.now in let mid = c.judge.new.self in let new = c.take_judged.new.self in
    let same : left_out t new ≡ left_out t mid = λ i. ended t (c.take_judged.ensures.ended i) ++ started t (c.take_judged.ensures.starts i) in
    accepts-here t h c.args.self.now stood c.args.visible p c.in-Ok.chain mid new q c.in-Ok.ensures.ok (c.judge.ensures.context t) (c.take_judged.ensures.context p q) same

pub returns-in-Err-clause-refused : goal.returns-in-Err-clause-refused
returns-in-Err-clause-refused c = λ h stood p q.
    refuses-here c.args.dtd.now h c.args.self.now stood c.args.visible p c.in-Err.reason q c.in-Err.ensures.refused
