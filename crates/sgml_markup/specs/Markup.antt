-- The markup of a form that a text begins with: up to its end, judged by its bytes alone.
use Rattle.std.specs.Prelude.{ℕ, ◌+◌, Bool, List, Option, None, Some, take, drop}
use Rattle.sgml_syntax.specs.declared.syntax.Syntax.{Syntax}
use Rattle.sgml_markup.specs.declared.kinds.Form.{Form}
use Rattle.sgml_markup.specs.declared.kinds.Markup.{Markup}
use Rattle.sgml_markup.specs.Ends.{end_of}
use Rattle.sgml_markup.specs.Forms.{before, judged}

-- markup that ends so many bytes after its delimiter
abbrev pub ended_markup : Syntax → Form → List ℕ → Option ℕ → Option Markup
ended_markup s f bytes None = None
ended_markup s f bytes (Some n) =
    Some (record { length = before f + n; judged = judged s f (take (before f + n) bytes) })

abbrev pub markup_of : Syntax → Form → Bool → List ℕ → Option Markup
markup_of s f ended bytes = ended_markup s f bytes (end_of s f ended (drop (before f) bytes))
