use Rattle.std.proofs.Common.{sym, subst}
use Rattle.sgml_prolog_steps.specs.declared.stepping.Stop.{Stop}
use Rattle.sgml_prolog.specs.Going.{IsToldStop}
use Rattle.sgml_prolog.proofs.reading.stopped_at.Goals as goal

pub returns-in-Wanted-clause-told : goal.returns-in-Wanted-clause-told
returns-in-Wanted-clause-told c = subst (λ (s : Stop). IsToldStop s c.args.place c.want.result) (sym c.in-Wanted.is) (c.want.ensures.told c.args.place)
