use Rattle.sgml_prolog_trials.proofs.reading.tell_prolog.Given as goal

abbrev pub ghosts-tell_counted : goal.ghosts-tell_counted
ghosts-tell_counted a = record { name = a.blank.name; parts = a.blank.parts }
