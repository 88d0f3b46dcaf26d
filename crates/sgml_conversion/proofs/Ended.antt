-- Each input has an end.
use Rattle.std.proofs.Common.{◌⊎◌, inl, inr, Option, None, Some, take, refl}
use Rattle.sgml_text.specs.Places.{line_column_of}
use Rattle.sgml_text.specs.declared.place.Place.{Place}
use Rattle.sgml_text.specs.declared.place.Refusal.{Refusal}
use Rattle.sgml_said.specs.theory_reading.Pieces.{History}
use Rattle.sgml_said.specs.theory_reading.Unread.{Input}
use Rattle.sgml_said.specs.theory_reading.Reads.{read_by}
use Rattle.sgml_theory_ending.specs.Outcomes.{StopsThere, FaultsThere, IsOutcome}
use Rattle.sgml_theory_ending.proofs.Outcomes.{each-input-has-an-outcome}
use Rattle.sgml_source.specs.parse.Locating.{text_in, name_in, IsPositionOf}
use Rattle.sgml_source.specs.parse.declared.position.Position.{Position}
use Rattle.sgml_conversion.specs.declared.answer.Outcome.{Outcome}
use Rattle.sgml_conversion.specs.declared.answer.Outcome.TheVariants as outcome
use Rattle.sgml_conversion.specs.Converting.{IsEnd}
use Rattle.sgml_conversion.specs.Laws.{EachInputHasAnEnd}

pub position : (I : Input) (h : History) (p : Place) → (x : Position) × IsPositionOf I h p x
position I h p =
    let at = line_column_of (take p.at (text_in I h p.entity)) in
    (record { name = name_in I h p.entity; line = at.0; column = at.1 }, record { name = refl; at = refl })

ended : (I : Input) (h : History) (o : Option Refusal) → IsOutcome I h o → (a : Outcome) × IsEnd a I h
ended I h None x = (outcome.Conforming, x)
ended I h (Some r) x = by x.0
  where
    by : StopsThere I h r ⊎ FaultsThere h r → (a : Outcome) × IsEnd a I h
    by (inl s) = let y = position I h r.place in (outcome.Refused r y.0, (inl (record { reason = s.reason; place = s.place }), y.1))
    by (inr s) = let y = position I h r.place in (outcome.Refused r y.0, (inr (record { over = s.over; number = s.number; fault = s.fault; place = s.place }), y.1))

pub each-input-has-an-end : EachInputHasAnEnd
each-input-has-an-end I = let x = each-input-has-an-outcome I in (x.0, x.1, ended I (read_by I x.0) x.2.0 x.2.1)
