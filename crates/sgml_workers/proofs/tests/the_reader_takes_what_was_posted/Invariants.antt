use Rattle.sgml_workers.proofs.tests.the_reader_takes_what_was_posted.Given as goal

abbrev pub ghosts-posted : goal.ghosts-posted
ghosts-posted g a = record { name = a.blank.name; parts = a.blank.parts }
