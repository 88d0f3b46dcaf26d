-- Parts of a model.
use Rattle.std.specs.Prelude.{ℕ, ◌+◌, ◌<◌, ◌^◌}
use Rattle.sgml_model.specs.Term as t
use Rattle.sgml_model.specs.View.{view}
use Rattle.sgml_automaton.specs.Position.{room}
use Rattle.sgml_automaton.specs.declared.same.Core.{Core}

abbrev pub core_view : Core → t.Term × ℕ
core_view c = (view c.term.now, c.at)

-- its bits have numbers
abbrev pub IsCore : Core → Type 0
IsCore c = c.at + room (view c.term.now) < 2 ^ 64
