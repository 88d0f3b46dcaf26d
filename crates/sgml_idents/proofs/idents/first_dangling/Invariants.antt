use Rattle.std.proofs.Common.{◌≡◌, ◌++◌, ◌||◌, List, ℕ, length, drop}
use Rattle.sgml_names.specs.Index.{names_of}
use Rattle.sgml_said.specs.theory_reading.Types.{is_in}
use Rattle.sgml_said.specs.theory_reading.Identifiers.{ids_of, references_of, some_in}
use Rattle.sgml_said.specs.Told.{attributes_with}
use Rattle.sgml_idents.specs.Judged.{idrefs_kept}
use Rattle.sgml_idents.specs.Noted.{idrefs_at, dangling_at}
use Rattle.sgml_idents.proofs.idents.first_dangling.Given as goal

abbrev pub invariant-loop-reference : goal.invariant-loop-reference
invariant-loop-reference l = dangling_at (names_of l.ids) (idrefs_kept (drop l.reference-index l.references)) ≡ dangling_at (names_of l.ids) (idrefs_kept l.references)
