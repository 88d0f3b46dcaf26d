-- Bytes, which stand in place where they are few.
use Rattle.std.specs.Prelude.{ℕ, List}
use Rattle.sgml_text.specs.declared.bytes.Bytes.{Bytes}
use Rattle.sgml_text.specs.declared.bytes.Bytes.TheVariants.{Short, Long}

abbrev pub bytes_of : Bytes → List ℕ
bytes_of (Short few) = few
bytes_of (Long many) = many.items
