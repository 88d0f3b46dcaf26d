use Rattle.sgml_theory_reading.proofs.Search.{search-is-nest}
use Rattle.sgml_theory_reading.proofs.pieces.nest_is_found.Goals as goal

pub returns : goal.returns
returns c = search-is-nest
