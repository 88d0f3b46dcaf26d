-- What is kept after a piece that begins no element and ends none.
use Rattle.std.specs.Prelude.{ℕ, List}
use Rattle.sgml_theory_reading.specs.records.Items.{Markup}
use Rattle.sgml_entity.specs.Stack.{Stack, lower, moved}
use Rattle.sgml_marked.specs.declared.sections.Section.{Section}
use Rattle.sgml_marked.specs.Opened.{without_last}
use Rattle.sgml_declared.specs.theory_standing.Kept.{Kept}
use Rattle.sgml_inside.specs.declared.inside.Inner.{Inner}
use Rattle.sgml_inside.specs.Inside.{noted_in}
use Rattle.sgml_content_steps.specs.Content.{Content}

-- the texts, the marked sections, and what stands in the open elements
abbrev pub kept_with : Stack → List Section → Kept → Kept
kept_with s ss k = record k { stack = s; sections = ss }

abbrev pub changed : Stack → List Section → List Inner → Content → Content
changed s ss xs c = record c { kept = kept_with s ss c.kept; inside = record c.inside { elements = xs } }

-- so many bytes further in the text at the top
abbrev pub further : ℕ → Stack → Stack
further n s = record s { places = moved n s.places }

-- and markup came in the innermost element (7.6.1)
abbrev pub marked : Stack → List Section → Content → Content
marked s ss c = changed s ss (noted_in Markup c.inside.elements) c

-- THE TEXT at the top has ended (9.4), which is no item
abbrev pub text_ended : Content → Content
text_ended c = changed (record c.kept.stack { places = lower c.kept.stack.places }) c.kept.sections c.inside.elements c

-- THE LAST SECTION of this level has ended (10.4.1)
abbrev pub section_over : ℕ → ℕ → Content → Content
section_over level n c = marked (further n c.kept.stack) (without_last level c.kept.sections) c
