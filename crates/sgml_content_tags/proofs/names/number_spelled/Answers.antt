use Rattle.std.proofs.Common.{sym, ◌∙◌}
use Rattle.sgml_content_tags.proofs.Numbered.{number-as}
use Rattle.sgml_content_tags.proofs.names.number_spelled.Goals as goal

pub returns-then-is_name_of : goal.returns-then-is_name_of
returns-then-is_name_of c = number-as c.args.dtd.now c.args.opened _ c.requires.distinct c.requires.number (sym c.is_name_of.ensures ∙ c.if-is_name_of.true)
