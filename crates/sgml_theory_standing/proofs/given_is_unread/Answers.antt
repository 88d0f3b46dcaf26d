use Rattle.sgml_theory_standing.proofs.Given.{given-is-unread, stops-at-top}
use Rattle.sgml_theory_standing.proofs.given_is_unread.Goals as goal

pub returns : goal.returns
returns c = record { texts = given-is-unread; place = stops-at-top }
