-- Names and texts, as lists of bytes. Names are as the syntax has them: folded or as they are
-- spelled (13.4.5).
use Rattle.std.specs.Prelude.{ℕ, List}

abbrev pub Name : Type 0
Name = List ℕ

abbrev pub Text : Type 0
Text = List ℕ
