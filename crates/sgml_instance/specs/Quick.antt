-- Plain tokens, one after another: tags, and where content is scanned without NET text.
use Rattle.std.specs.Prelude.{◌≡◌, ◌≤◌, ◌==◌, ℕ, Bool, true, false, List, [], ◌∷◌, if◌then◌else◌}
use Rattle.sgml_scan.specs.declared.state.ScanState.{ScanState}
use Rattle.sgml_scan.specs.Openings.{is_con}
use Rattle.sgml_events.specs.declared.event.Event.{Event}
use Rattle.sgml_declared.specs.theory_reading.Names.{Text}
use Rattle.sgml_declared.specs.theory_standing.Next.{left_to_read}
use Rattle.sgml_declared.specs.Files.{Choices}
use Rattle.sgml_content_tags.specs.sgml_content_steps.Content.{Content}
use Rattle.sgml_content_tags.specs.sgml_content_steps.Plainly.{plain_state, TakesSome}
use Rattle.sgml_content_tags.specs.Quick.{TellsInContent}
use Rattle.sgml_content_references.specs.Mapped.{mapped_state}
use Rattle.sgml_instance.specs.Going.{GoesOn}
use Rattle.sgml_instance.specs.declared.quick.Mark.{Mark}
use Rattle.sgml_instance.specs.declared.quick.Mark.TheVariants as mark
use Rattle.sgml_instance.specs.declared.quick.Reach.{Reach}
use Rattle.sgml_instance.specs.declared.quick.Reach.TheVariants as reach

-- AS FAR AS IT WENT, over some tokens or none: what was read on tells these events, and no more is left to read than before
pub record RunsOn (c : Choices) (texts : List (ℕ × Text)) (ended : Bool) (old new : Content) (before after : List Event) : Type 0 where
  pub goes : GoesOn c texts ended old false new false before after
  pub left : left_to_read new.kept texts ≤ left_to_read old.kept texts
  pub doctype : new.kept.doctype ≡ old.kept.doctype
  pub expand : new.kept.stack.expand ≡ old.kept.stack.expand

-- A TAG may begin there
abbrev pub mark_there : List ℕ → Mark
mark_there [] = mark.Other
mark_there (b ∷ []) = mark.Other
mark_there (b ∷ c ∷ bytes) = if b == 60 then (if c == 47 then mark.End else mark.Start) else mark.Other

-- SO MUCH may be taken where content is scanned in this state
abbrev pub IsReach : ScanState → Reach → Type 0
IsReach st reach.All = st ≡ plain_state
IsReach st reach.Tags = is_con st.mode ≡ true
IsReach st reach.Mapped = st ≡ mapped_state
IsReach st reach.Nothing = Unit {0}

-- A TAG, by how many bytes were taken
abbrev pub TakesTag : List (ℕ × Text) → Content → Content → List Event → List Event → ℕ → Type 0
TakesTag texts old new before after n = TakesSome (TellsInContent texts old new before after) old new before after n
