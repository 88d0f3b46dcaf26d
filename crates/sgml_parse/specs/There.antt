-- Where reading is: in a part of the document, with the reader of that part.
use Rattle.sgml_prolog.specs.Reading as prolog
use Rattle.sgml_instance.specs.Reading as content
use Rattle.sgml_parse.specs.declared.reading.Reading.{Reading as Kept}
use Rattle.sgml_parse.specs.declared.reading.Reading.TheVariants as kept

pub data Reading : Type 0 where
  Prolog : (reader : prolog.Reader) → Reading
  Instance : (reader : content.Reader) → Reading
  -- no memory was there where the instance began
  Lost : Reading

-- as it is kept
abbrev pub reading_of : Kept → Reading
reading_of (kept.Prolog r) = Prolog r.value
reading_of (kept.Instance r) = Instance r.value
reading_of kept.Lost = Lost
