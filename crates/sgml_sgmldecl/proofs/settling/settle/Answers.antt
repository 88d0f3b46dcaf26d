use Rattle.std.proofs.Common.{◌∙◌, sym}
use Rattle.sgml_sgmldecl.proofs.Small.{accepted_small}
use Rattle.sgml_sgmldecl.proofs.settling.settle.Goals as goal

pub syntax_of-requires : goal.syntax_of-requires
syntax_of-requires c = accepted_small c.args.heard (sym c.refusal_of.ensures ∙ c.in-None.is)
