use Rattle.std.proofs.Common.{◌≡◌, ◌++◌, ◌||◌, List, ℕ, length, drop}
use Rattle.sgml_names.specs.Index.{names_of}
use Rattle.sgml_said.specs.theory_reading.Types.{is_in}
use Rattle.sgml_said.specs.theory_reading.Identifiers.{ids_of, references_of, some_in}
use Rattle.sgml_said.specs.Told.{attributes_with}
use Rattle.sgml_idents.specs.Judged.{idrefs_kept}
use Rattle.sgml_idents.specs.Noted.{idrefs_at, dangling_at}
use Rattle.sgml_idents.proofs.starts.add_idrefs.Given as goal

abbrev pub invariant-loop-name : goal.invariant-loop-name
invariant-loop-name l = idrefs_kept l.idrefs.items ++ idrefs_at l.place (drop l.name-index l.names) ≡ idrefs_kept l.fn.idrefs.items ++ idrefs_at l.place l.names
