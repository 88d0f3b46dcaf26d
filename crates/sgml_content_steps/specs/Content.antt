-- What a parser keeps in content, as its code has it, and what that stands for.
use Rattle.std.specs.Prelude.{◌≡◌, ℕ, ◌≤◌, option_map, length, IfSome}
use Rattle.sgml_inside.specs.records.Items.{Markup}
use Rattle.sgml_theory_starts.specs.theory_reading.Context.{Context}
use Rattle.sgml_theory_starts.specs.theory_reading.Currents.{AreCurrents}
use Rattle.sgml_theory_starts.specs.theory_standing.Kept.{Kept}
use Rattle.sgml_theory_starts.specs.Starts.{Table}
use Rattle.sgml_theory_starts.specs.theory_standing.Held.{Held, state_of}
use Rattle.sgml_infer.specs.Tables.{name_at, IsNumber}
use Rattle.sgml_infer.specs.declared.tree.Tree.{Tree}
use Rattle.sgml_infer.specs.Trees.{context_in, IsTreeOf}
use Rattle.sgml_inside.specs.Inside.{Inside, ends_in, settings_in, noted_in}
use Rattle.sgml_inside.specs.Laws.{AreInForce}
use Rattle.sgml_theory_starts.specs.Apart.{HasListsApart}
use Rattle.sgml_prolog_steps.specs.Found.{moved_on}
use Rattle.sgml_content_steps.specs.Standing.{IsInInstance}

pub record Content : Type 0 where
  pub kept : Kept
  -- the open elements, and what stands directly in each
  pub tree : Tree
  pub inside : Inside
  -- the current values, by the numbers of lists and definitions
  pub currents : Table

abbrev pub context_of : Content → Context
context_of c = context_in c.kept.doctype c.tree

-- WHAT IT HOLDS, by the names of element types and attributes
pub record Holds (c : Content) (x : Held) : Type 0 where
  pub kept : x.kept ≡ c.kept
  pub context : (state_of x).context ≡ context_of c
  pub record_ends : x.record_ends ≡ ends_in c.inside.elements
  pub map_settings : x.map_settings ≡ settings_in c.inside.elements
  pub ended : x.ended ≡ option_map (name_at c.kept.doctype) c.inside.ended
  pub currents : AreCurrents c.kept.doctype c.currents x.currents
  -- the declarations that were read hold
  pub apart : HasListsApart c.kept.doctype

-- AT ANY MOMENT
pub record IsContent (c : Content) : Type 0 where
  pub instance : IsInInstance c.kept
  pub tree : IsTreeOf c.kept.doctype c.tree
  pub maps : AreInForce c.kept.doctype (context_of c).levels c.inside.elements
  pub room : c.kept.doctype.syntax.quantities.taglvl ≤ c.inside.room
  pub ended : IfSome c.inside.ended (IsNumber c.kept.doctype)
  pub lists : length c.currents ≡ length c.kept.doctype.lists

-- after markup of so many bytes
abbrev pub marked_up : ℕ → Content → Content
marked_up n c = record c { kept = moved_on n c.kept; inside = record c.inside { elements = noted_in Markup c.inside.elements } }
