-- Where reading stops, as it is told.
use Rattle.std.specs.Prelude.{◌≡◌}
use Rattle.sgml_text.specs.declared.place.Refusal.{Refusal}
use Rattle.sgml_parse.specs.theory_reading.Pieces.{History}
use Rattle.sgml_parse.specs.theory_reading.Unread.{Input}
use Rattle.sgml_parse.specs.theory_reading.Reads.{Stops, stop_place}
use Rattle.sgml_parse.specs.theory_spelling.Spelled.{forms}

-- READING STOPS after h for this reason, at this place
pub record IsStop (I : Input) (h : History) (r : Refusal) : Type 0 where
  pub reason : Stops forms I h r.reason
  pub place : r.place ≡ stop_place h
