-- What the record ends of an element see of its content: the items that stand directly in it, in
-- their order (ISO 8879 7.6.1). A subelement is one item, whatever stands in it.
use Rattle.std.specs.Prelude.{Bool, true, false}

pub data Item : Type 0 where
  RecordEnd : Item
  RecordStart : Item
  -- a data character, or a reference to data
  Data : Item
  -- a subelement that its parent's content model takes
  Subelement : Item
  -- markup without content: an included subelement, a processing instruction, a declaration, a
  -- border of a marked section
  Markup : Item

abbrev pub is_record : Item → Bool
is_record RecordEnd = true
is_record RecordStart = true
is_record Data = false
is_record Subelement = false
is_record Markup = false

abbrev pub is_content : Item → Bool
is_content RecordEnd = false
is_content RecordStart = false
is_content Data = true
is_content Subelement = true
is_content Markup = false
