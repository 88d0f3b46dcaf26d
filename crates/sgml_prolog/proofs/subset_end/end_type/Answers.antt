use Rattle.sgml_prolog.proofs.subset_end.end_type.Goals as goal

pub returns-else-is_some-clause-ends : goal.returns-else-is_some-clause-ends
returns-else-is_some-clause-ends c = c.end_alone.ensures c.args.options.now c.args.texts.now
