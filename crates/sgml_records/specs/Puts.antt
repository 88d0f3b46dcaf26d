-- What becomes of the record ends of an element at each item (7.6.1).
use Rattle.std.specs.Prelude.{Bool, true, false, List}
use Rattle.sgml_records.specs.Items.{Item, RecordEnd, RecordStart, Data, Subelement, Markup}
use Rattle.sgml_records.specs.Facts.{is_live, one_waits}
use Rattle.sgml_records.specs.declared.record_state.Put.{Put}
use Rattle.sgml_records.specs.declared.record_state.Put.TheVariants.{Nothing, Kept, Held}

-- the one that waits is data here
abbrev pub kept_if : Bool → Put
kept_if true = Kept
kept_if false = Nothing

-- by whether the record end is not ignored there, and whether an earlier one waits
abbrev pub put_of_end : Bool → Bool → Put
put_of_end false waits = Nothing
put_of_end true true = Kept
put_of_end true false = Held

-- what is put out at an item, behind the items `earlier`, the newest first
abbrev pub put_at : List Item → Item → Put
put_at earlier RecordEnd = put_of_end (is_live earlier) (one_waits earlier)
put_at earlier Data = kept_if (one_waits earlier)
put_at earlier Subelement = kept_if (one_waits earlier)
put_at earlier RecordStart = Nothing
put_at earlier Markup = Nothing
