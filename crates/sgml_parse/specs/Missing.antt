-- What was supplied to a parser of the texts of entities.
use Rattle.std.specs.Prelude.{ℕ, Bool, not, ◌&&◌, List, Option, Some, None, is_none, nat_eq}
use Rattle.std.specs.Map.{lookup}
use Rattle.indexmap.specs.IndexMap.{insert_entry}
use Rattle.sgml_text.specs.declared.reason.Reason.{Reason}
use Rattle.sgml_entity.specs.Stack.{is_on}
use Rattle.sgml_entity.specs.Texts.{text_of}
use Rattle.sgml_declared.specs.theory_reading.Names.{Text}
use Rattle.sgml_declared.specs.theory_standing.Kept.{Kept}

-- WHY A TEXT ISN'T THERE that was supplied, by the number of its entity
abbrev pub why_missing : List (ℕ × Reason) → ℕ → Option Reason
why_missing missing number = lookup (nat_eq number) missing

-- one more, where it isn't there
abbrev pub with_missing : ℕ → Option Reason → List (ℕ × Reason) → List (ℕ × Reason)
with_missing number None missing = missing
with_missing number (Some why) missing = insert_entry nat_eq missing number why

-- NOTHING WAS SUPPLIED for this entity, which isn't being read
abbrev pub is_unsupplied : Kept → List (ℕ × Text) → List (ℕ × Reason) → ℕ → Bool
is_unsupplied k texts missing number = not (is_on number k.stack.places) && (is_none (text_of texts number) && is_none (why_missing missing number))
