use Rattle.sgml_cli.proofs.converting.convert_document.Given as goal

abbrev pub ghosts-convert_counted : goal.ghosts-convert_counted
ghosts-convert_counted g a = record { name = a.blank.name; parts = a.blank.parts }

abbrev pub ghosts-convert_counted-2 : goal.ghosts-convert_counted-2
ghosts-convert_counted-2 g a = record { name = a.blank.name; parts = a.blank.parts }

abbrev pub ghosts-full_counted : goal.ghosts-full_counted
ghosts-full_counted g a = record { name = a.blank.name; parts = a.blank.parts }
