use Rattle.std.proofs.Common.{◌≡◌, ◌++◌, ◌||◌, List, ℕ, length, drop}
use Rattle.sgml_names.specs.Index.{names_of}
use Rattle.sgml_said.specs.theory_reading.Types.{is_in}
use Rattle.sgml_said.specs.theory_reading.Identifiers.{ids_of, references_of, some_in}
use Rattle.sgml_said.specs.Told.{attributes_with}
use Rattle.sgml_idents.specs.Judged.{idrefs_kept}
use Rattle.sgml_idents.specs.Noted.{idrefs_at, dangling_at}
use Rattle.sgml_idents.proofs.starts.add_names.Given as goal

abbrev pub invariant-loop-name : goal.invariant-loop-name
invariant-loop-name l = (name : List ℕ) → (is_in name (names_of l.table) || is_in name (drop l.name-index l.names)) ≡ (is_in name (names_of l.fn.table) || is_in name l.names)
