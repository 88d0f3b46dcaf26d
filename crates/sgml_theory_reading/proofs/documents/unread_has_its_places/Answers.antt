use Rattle.sgml_theory_reading.proofs.Stack.{unread-along, length-unread}
use Rattle.sgml_theory_reading.proofs.Texts.{unread-in-texts}
use Rattle.sgml_theory_reading.proofs.documents.unread_has_its_places.Goals as goal

pub returns : goal.returns
returns c = record { places = unread-along; now = unread-in-texts; count = length-unread }
