use Rattle.std.proofs.Common.{sym, ◌∙◌, ap, ℕ}
use Rattle.std.specs.List.{list_all}
use Rattle.sgml_attr.specs.Literal.{is_behind}
use Rattle.sgml_attr.proofs.Plain.{plain-same}
use Rattle.sgml_attr.proofs.literal.are_plain.Goals as goal

pub returns-clause-same : goal.returns-clause-same
returns-clause-same c = λ told.
    plain-same c.args.declared.now c.args.units.now
    (ap (λ (n : ℕ). list_all (is_behind n) c.args.units.now) (sym c.last_separator.ensures) ∙ sym c.all_behind.ensures ∙ told)
