use Rattle.std.proofs.Common.{ap, sym, ◌∙◌, Some, None, option_map}
use Rattle.sgml_model.specs.View.{view}
use Rattle.std.specs.Option.{option_copied}
use Rattle.sgml_model.proofs.Taken.{is_left}
use Rattle.sgml_model.proofs.residual.Residual.take.Goals as goal

pub returns-in-None-clause-left : goal.returns-in-None-clause-left
returns-in-None-clause-left c = is_left (view c.args.self.now.term) (option_copied c.args.name) None (ap (option_map view) (sym c.in-None.is) ∙ c.in_ok-left_by.ensures)

pub returns-in-Some-clause-left : goal.returns-in-Some-clause-left
returns-in-Some-clause-left c = is_left (view c.args.self.now.term) (option_copied c.args.name) (Some (view c.in-Some.term)) (ap (option_map view) (sym c.in-Some.is) ∙ c.in_ok-left_by.ensures)
