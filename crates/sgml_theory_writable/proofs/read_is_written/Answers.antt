use Rattle.sgml_theory_writable.proofs.Told.{read-is-written}
use Rattle.sgml_theory_writable.proofs.read_is_written.Goals as goal

pub returns : goal.returns
returns c =
    read-is-written
    (record {
      names = c.read_has_names.ensures.names;
      entities = c.read_has_names.ensures.entities;
      stand = c.read_pieces_stand.ensures.stand;
      of_instance = c.read_is_of_instance.ensures.read;
      goes_on = c.read_is_of_instance.ensures.goes_on;
      attributes = c.read_values_are_written.ensures.written;
    })
