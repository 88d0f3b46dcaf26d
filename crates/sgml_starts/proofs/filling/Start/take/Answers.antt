use Rattle.std.proofs.Common.{refl, subst, Some, None, [], List}
use Rattle.sgml_markup.specs.declared.kinds.Part.{Part}
use Rattle.sgml_starts.specs.SoFar.{AreSoFar}
use Rattle.sgml_starts.specs.Taken.{input_in}
use Rattle.sgml_starts.proofs.SoFar.{all-taken}
use Rattle.sgml_starts.proofs.Calm.{ended-none}
use Rattle.sgml_starts.proofs.filling.Start.take.Goals as goal

pub returns-then-walk-clause-ok : goal.returns-then-walk-clause-ok
returns-then-walk-clause-ok c =
    let S = c.args.self.now in
    let I = input_in S c.args.texts.now c.args.stack.now in
    let h = c.begin-walk.ensures.begun c.requires.nothing c.args.texts.now c.args.stack.now c.requires.some c.requires.text in
    all-taken S I c.args.tag.now None c.begin-walk.new.filled c.args.stack.now
    (subst (λ (ps : List Part). AreSoFar S I c.args.tag.now None c.begin-walk.new.filled c.args.stack.now ps) (ended-none S.syntax c.args.tag.now c.begin-walk.result c.if-walk.true) h)
