use Rattle.sgml_theory_writable.proofs.Reading.{read-values-refer, read-attributes-written}
use Rattle.sgml_theory_writable.proofs.read_values_are_written.Goals as goal

pub returns-clause-refer : goal.returns-clause-refer
returns-clause-refer c = read-values-refer

pub returns-clause-written : goal.returns-clause-written
returns-clause-written c =
    read-attributes-written c.read_has_names.ensures.names c.read_has_names.ensures.entities c.read_starts_are_read_back.ensures.values
    c.starts_are_read_back.ensures.given
