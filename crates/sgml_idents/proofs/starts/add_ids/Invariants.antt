use Rattle.std.proofs.Common.{◌≡◌, ◌++◌, ◌||◌, List, ℕ, length, drop}
use Rattle.sgml_names.specs.Index.{names_of}
use Rattle.sgml_said.specs.theory_reading.Types.{is_in}
use Rattle.sgml_said.specs.theory_reading.Identifiers.{ids_of, references_of, some_in}
use Rattle.sgml_said.specs.Told.{attributes_with}
use Rattle.sgml_idents.specs.Judged.{idrefs_kept}
use Rattle.sgml_idents.specs.Noted.{idrefs_at, dangling_at}
use Rattle.sgml_idents.proofs.starts.add_ids.Given as goal

abbrev pub invariant-loop-i : goal.invariant-loop-i
invariant-loop-i l = (name : List ℕ) → (is_in name (names_of l.table) || is_in name (ids_of (attributes_with (drop l.i l.definitions) (drop l.i l.values)))) ≡ (is_in name (names_of l.fn.table) || is_in name (ids_of (attributes_with l.definitions l.values)))
