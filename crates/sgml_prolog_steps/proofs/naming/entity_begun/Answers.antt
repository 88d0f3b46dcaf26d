use Rattle.std.proofs.Common.{◌∙◌, ap, arith}
use Rattle.sgml_names.specs.Naming.{entity_name}
use Rattle.sgml_prolog_steps.proofs.Referring.{number-is, empty-name}
use Rattle.sgml_prolog_steps.proofs.naming.entity_begun.Goals as goal

pub returns-in-empty : goal.returns-in-empty
returns-in-empty c =
    c.find.ensures
    ∙ number-is c.args.space c.args.dtd.now c.entities.result.now.entities c.name_of-own.result.now _ c.entities.ensures.entities
    (empty-name c.args.dtd.now.syntax c.name_of-own.result.now (omega (arith, c.in-empty.len_below)) ∙ ap (entity_name c.args.dtd.now.syntax) c.name_of-own.ensures)

pub returns-in_ok-name-in-len1-up : goal.returns-in_ok-name-in-len1-up
returns-in_ok-name-in-len1-up c =
    c.lookup.ensures
    ∙ number-is c.args.space c.args.dtd.now c.entities-in-len1-up.result.now.entities c.in_ok-name-in-len1-up.name _ c.entities-in-len1-up.ensures.entities
    (c.in_ok-name-in-len1-up.ensures ∙ (λ i. entity_name (c.syntax.ensures i) (c.name_of-own.ensures i)))
