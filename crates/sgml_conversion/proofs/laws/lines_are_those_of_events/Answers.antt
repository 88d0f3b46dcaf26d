use Rattle.sgml_conversion.proofs.Written.{lines-are-those-of-events, put-is-front}
use Rattle.sgml_conversion.proofs.laws.lines_are_those_of_events.Goals as goal

pub returns-clause-whole : goal.returns-clause-whole
returns-clause-whole c = lines-are-those-of-events

pub returns-clause-front : goal.returns-clause-front
returns-clause-front c = put-is-front
