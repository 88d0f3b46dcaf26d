use Rattle.sgml_theory_written.proofs.Reading.{reading-stands, standing-reads}
use Rattle.sgml_theory_written.proofs.standing_is_reading.Goals as goal

pub returns-clause-reading : goal.returns-clause-reading
returns-clause-reading c = reading-stands

pub returns-clause-standing : goal.returns-clause-standing
returns-clause-standing c = standing-reads
