use Rattle.std.proofs.Common.{sym}
use Rattle.sgml_markup.proofs.Walking.{plain-name-judged}
use Rattle.sgml_markup.proofs.tags.judge_tag.Goals as goal

pub returns-then-is_plain_name : goal.returns-then-is_plain_name
returns-then-is_plain_name c =
    sym (plain-name-judged c.args.syntax.now c.args.closing c.args.start c.args.kind c.args.markup.now c.requires
    (c.is_plain_name.ensures c.if-is_plain_name.true))
