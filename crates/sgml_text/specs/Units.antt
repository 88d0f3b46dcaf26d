-- Units that are characters as they stand.
use Rattle.std.specs.Prelude.{ℕ, List, map}
use Rattle.sgml_text.specs.declared.unit.Unit.{Unit as AnyUnit}
use Rattle.sgml_text.specs.declared.unit.Unit.TheVariants.{Byte}

abbrev pub characters : List ℕ → List AnyUnit
characters bytes = map (λ b. Byte b) bytes
