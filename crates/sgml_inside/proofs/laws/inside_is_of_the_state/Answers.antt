use Rattle.sgml_inside.proofs.Forced.{noted-is-after, opened-is-after, ended-is-after, set-is-after}
use Rattle.sgml_inside.proofs.laws.inside_is_of_the_state.Goals as goal

pub returns : goal.returns
returns c = record { noted = noted-is-after; opened = opened-is-after; ended = ended-is-after; set = set-is-after }
