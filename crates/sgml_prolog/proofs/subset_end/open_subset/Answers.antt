use Rattle.std.proofs.Common.{sym, ◌∙◌}
use Rattle.sgml_prolog.proofs.Ending.{subset-refused, subset-wanted, subset-open-section, subset-ends}
use Rattle.sgml_prolog.proofs.subset_end.open_subset.Goals as goal

pub returns-in-Err-Refused-clause-ends : goal.returns-in-Err-Refused-clause-ends
returns-in-Err-Refused-clause-ends c =
    subset-refused c.args.options.now c.args.texts.now c.args.kept.now c.push_subset.new.kept.stack c.in-Err-Refused.reason c.in-Err-Refused.field-0 c.requires.some c.in-Err-Refused.field-0-is
    c.in-Err-Refused.ensures.opens

pub returns-in-Err-Wanted-clause-ends : goal.returns-in-Err-Wanted-clause-ends
returns-in-Err-Wanted-clause-ends c =
    subset-wanted c.args.options.now c.args.texts.now c.args.kept.now c.push_subset.new.kept.stack c.in-Err-Wanted.file c.in-Err-Wanted.field-0 c.requires.some c.in-Err-Wanted.field-0-is
    c.in-Err-Wanted.ensures.opens

pub returns-then-is_section_open-clause-ends : goal.returns-then-is_section_open-clause-ends
returns-then-is_section_open-clause-ends c =
    subset-open-section c.args.options.now c.args.texts.now c.args.kept.now c.push_subset.new.kept c.requires.kept c.requires.alone c.requires.some c.in-Ok.ensures.opens c.in-Ok.ensures.same
    (sym c.is_section_open.ensures ∙ c.if-is_section_open.true)

pub returns-clause-ends : goal.returns-clause-ends
returns-clause-ends c =
    subset-ends c.args.options.now c.args.texts.now c.args.kept.now c.push_subset.new.kept c.requires.kept c.requires.alone c.requires.some c.in-Ok.ensures.opens c.in-Ok.ensures.same
    (sym c.is_section_open.ensures ∙ c.if-is_section_open.false)
