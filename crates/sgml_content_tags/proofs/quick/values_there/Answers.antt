use Rattle.std.proofs.Common.{subst}
use Rattle.sgml_content_tags.specs.Quick.{IsSpecifiedSo}
use Rattle.sgml_content_tags.proofs.Numbered.{number-within}
use Rattle.sgml_content_tags.proofs.quick.values_there.Goals as goal

pub pass_lone-requires-clause-listless : goal.pass_lone-requires-clause-listless
pass_lone-requires-clause-listless c =
    (subst (IsSpecifiedSo c.args.content.now c.args.texts.now c.args.tag.length c.args.tag.number) c.in-Nothing.is c.requires.specifies).0

pub pass_lone-requires-clause-alone : goal.pass_lone-requires-clause-alone
pass_lone-requires-clause-alone c =
    (subst (IsSpecifiedSo c.args.content.now c.args.texts.now c.args.tag.length c.args.tag.number) c.in-Nothing.is c.requires.specifies).1

pub defaults_there-requires-clause-alone : goal.defaults_there-requires-clause-alone
defaults_there-requires-clause-alone c =
    subst (IsSpecifiedSo c.args.content.now c.args.texts.now c.args.tag.length c.args.tag.number) c.in-Defaults.is c.requires.specifies

pub values_of-requires-clause-number : goal.values_of-requires-clause-number
values_of-requires-clause-number c = number-within c.args.content.now.kept.doctype _ c.args.tag.number c.requires.tag.named
