use Rattle.sgml_workers.proofs.working.work_uncounted.Given as goal

abbrev pub ghosts-work_by : goal.ghosts-work_by
ghosts-work_by g a = record { name = a.blank.name; parts = a.blank.parts }
