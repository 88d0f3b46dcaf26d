-- The size of a item is within the text.
use Rattle.std.specs.Prelude.{ℕ, ◌+◌, ◌<◌, ◌≤◌, ⊤}
use Rattle.sgml_catalog.specs.declared.item.Item.{Item}
use Rattle.sgml_catalog.specs.declared.item.Item.TheVariants.{Over, Blank, Literal, Word, Unended}

abbrev pub Fits : Item → ℕ → Type 0
Fits Over size = ⊤
Fits (Blank n) size = (0 < n) × (n ≤ size)
Fits (Literal n) size = n + 2 ≤ size
Fits (Word n) size = (0 < n) × (n ≤ size)
Fits Unended size = ⊤
