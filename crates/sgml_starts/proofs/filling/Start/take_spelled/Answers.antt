use Rattle.std.proofs.Common.{◌∙◌, sym, refl, Some}
use Rattle.sgml_text.specs.Units.{characters}
use Rattle.sgml_starts.specs.Taken.{spec_in}
use Rattle.sgml_starts.proofs.filling.Start.take_spelled.Goals as goal

pub returns-in-Ok-clause-ok : goal.returns-in-Ok-clause-ok
returns-in-Ok-clause-ok c = c.in-Ok.ensures.ok (spec_in c.args.tag.now (Some c.args.name) (characters c.args.bytes.now)) (sym c.number_named.ensures.of ∙ c.in-Some.is) refl

pub returns-in-Err-clause-err : goal.returns-in-Err-clause-err
returns-in-Err-clause-err c = c.in-Err.ensures.err (spec_in c.args.tag.now (Some c.args.name) (characters c.args.bytes.now)) (sym c.number_named.ensures.of ∙ c.in-Some.is) refl
