use Rattle.sgml_inside.proofs.Forced.{found, stays}
use Rattle.sgml_inside.proofs.laws.map_is_in_force.Goals as goal

pub returns : goal.returns
returns c = record { found = found; stays = stays }
