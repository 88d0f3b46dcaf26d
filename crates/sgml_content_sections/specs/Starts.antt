-- Where a marked section starts (10.4).
use Rattle.std.specs.Prelude.{◌≡◌, ℕ, Bool, true, false, List, [], ◌∷◌, ◌++◌}
use Rattle.sgml_delim.specs.declared.delim.Mode.{Mode}
use Rattle.sgml_delim.specs.declared.delim.Mode.TheVariants as mode
use Rattle.sgml_decl_lexemes.specs.decl_parts.declared.ends.Construct.TheVariants.{SectionStart}
use Rattle.sgml_entity.specs.Stack.{Stack}
use Rattle.sgml_marked.specs.declared.status.Status.{Status}
use Rattle.sgml_marked.specs.declared.sections.Section.{Section}
use Rattle.sgml_theory_reading.specs.Names.{Text}
use Rattle.sgml_declared.specs.theory_standing.Kept.{Kept}
use Rattle.sgml_declared.specs.Files.{Choices}
use Rattle.sgml_declared.specs.declared.error.TakeError.{TakeError}
use Rattle.sgml_declared.specs.Over.{IsOver}
use Rattle.sgml_declared.specs.Taking.{StatusIsTaken, StatusIsStopped}
use Rattle.sgml_prolog_steps.specs.declared.stepping.Stop.{Stop}
use Rattle.sgml_prolog_steps.specs.Steps.{stop_of}
use Rattle.sgml_content_steps.specs.Content.{Content}
use Rattle.sgml_content_sections.specs.Changes.{kept_with, further, marked}

-- the innermost section is ignored: a start is three bytes there, and no keyword is read (10.4.2)
abbrev pub is_ignored : Mode → Bool
is_ignored mode.Ign = true
is_ignored _ = false

-- a section of this status more, which began where so many texts were being read
abbrev pub with_one : Status → ℕ → List Section → List Section
with_one status level ss = ss ++ record { status = status; level = level } ∷ []

-- THE SECTION HAS STARTED, with a start of so many bytes
abbrev pub section_begun : Status → ℕ → ℕ → Content → Content
section_begun status level n c = marked (further n c.kept.stack) (with_one status level c.kept.sections) c

-- its status was read
pub record IsBegun (c : Choices) (texts : List (ℕ × Text)) (level : ℕ) (old new : Kept) : Type 0 where
  pub status : Status
  pub stack : Stack
  pub taken : StatusIsTaken false c old.doctype old.subset texts old.stack stack status
  pub over : IsOver SectionStart old.doctype texts old.stack stack
  pub kept : new ≡ kept_with stack (with_one status level old.sections) old

-- it isn't, for this reason
pub record IsNotBegun (c : Choices) (texts : List (ℕ × Text)) (old : Kept) (stop : Stop) : Type 0 where
  pub error : TakeError
  pub told : stop ≡ stop_of error
  pub stopped : StatusIsStopped false c old.doctype old.subset texts old.stack error
