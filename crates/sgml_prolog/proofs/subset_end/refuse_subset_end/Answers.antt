use Rattle.sgml_prolog.proofs.Ends.{misplaced-end-step}
use Rattle.sgml_prolog.proofs.subset_end.refuse_subset_end.Goals as goal

pub returns : goal.returns
returns c = misplaced-end-step c.args.texts.now c.args.token c.args.kept.now c.requires.going_on c.requires.sort c.requires.elsewhere
