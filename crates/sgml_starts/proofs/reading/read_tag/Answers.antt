use Rattle.std.proofs.Common.{sym, subst, refl, List}
use Rattle.sgml_starts.specs.Specified.{Input, specified_from}
use Rattle.sgml_starts.specs.Written.{Written}
use Rattle.sgml_starts.specs.Read.{IsRead}
use Rattle.sgml_starts.proofs.Tags.{lone-written}
use Rattle.sgml_starts.proofs.reading.read_tag.Goals as goal

pub returns-in-Some-clause-ok : goal.returns-in-Some-clause-ok
returns-in-Some-clause-ok c =
    let I : Input = record { syntax = c.args.syntax.now; tables = c.args.entities.now; texts = c.args.texts.now; stack = c.args.stack.now } in
    subst (λ (ws : List Written). IsRead (specified_from I c.args.stack.now.spent ws) c.nothing.result c.args.stack.now)
    (sym (lone-written c.args.syntax.now c.args.tag.now c.in-Some.field-0 c.in-Some.ensures.parts c.in-Some.ensures.named))
    (record { specs = c.nothing.ensures.specs; stop = c.nothing.ensures.stop; spent = λ e. refl })
