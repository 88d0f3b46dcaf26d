use Rattle.sgml_decl_lexemes.proofs.Quietly.{none-calm}
use Rattle.sgml_decl_lexemes.proofs.quiet.calm_length.Goals as goal

pub past_quiet-size-requires-clause-calm : goal.past_quiet-size-requires-clause-calm
past_quiet-size-requires-clause-calm c = none-calm c.args.bytes.now
