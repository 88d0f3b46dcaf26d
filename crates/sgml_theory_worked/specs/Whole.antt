-- Worked documents that are read from their first byte, with what is outside of them.
use Rattle.std.specs.Prelude.{Bool, true, false, List, [], ◌∷◌, ◌++◌, Option, Some, None, bytes_eq, codes, if◌then◌else◌}
use Rattle.sgml_theory_reading.specs.text.declared.reason.Reason.TheVariants.{EntityTooLarge, NoDoctype}
use Rattle.sgml_theory_reading.specs.syntax.Implied.{implied_syntax}
use Rattle.sgml_theory_reading.specs.catalog.declared.catalog.Kind.{Kind as CatalogKind}
use Rattle.sgml_theory_reading.specs.catalog.declared.catalog.Kind.TheVariants as catalog
use Rattle.sgml_theory_reading.specs.Names.{Name, Text}
use Rattle.sgml_theory_reading.specs.Unread.{Outside, Fetched, NotThere, Found}
use Rattle.sgml_theory_reading.specs.Lines.{Line, StartLine, FinishLine, ConformingLine}
use Rattle.sgml_theory_reading.specs.Outcome.{Ending, AtFinish, AtStop}
use Rattle.sgml_theory_worked.specs.Documents.{D, P, chars, whole_record, no_outside}
use Rattle.sgml_theory_worked.specs.Declared.{base}

pub record Whole : Type 0 where
  pub outside : Outside
  pub text : Text
  pub was_cut : Bool
  pub expected : List Line
  pub ending : Ending

-- a store with one file, which each system identifier names
abbrev pub fetched_from : Name → Text → Name → Fetched
fetched_from file text n = if bytes_eq n file then Found text else NotThere

abbrev pub with_file : Name → Text → Outside
with_file file text = record {
  syntax = implied_syntax;
  expand = 1000;
  file = base;
  resolved = λ kind n x f. x.system;
  fetched = fetched_from file text;
}

abbrev pub subset_text : Text
subset_text = codes "<!ELEMENT D O O (P+)><!ELEMENT P O O (#PCDATA)>"

-- the external subset alone declares the elements
abbrev pub external_subset_alone : Whole
external_subset_alone = record {
  outside = with_file (codes "s") subset_text;
  text = whole_record (codes "<!DOCTYPE d SYSTEM \"s\">") ++ whole_record (codes "<P>hi");
  was_cut = false;
  expected = (StartLine D ∷ (StartLine P ∷ (chars (codes "hi") ∷ (FinishLine P ∷ (FinishLine D ∷ (ConformingLine ∷ []))))));
  ending = AtFinish;
}

-- a catalog with one entry: the document type of this name is in this file
abbrev pub doctype_entry : Name → Name → CatalogKind → Name → Option Name
doctype_entry name file catalog.Doctype n = if bytes_eq n name then Some file else None
doctype_entry name file kind n = None

abbrev pub with_catalog : Name → Name → Text → Outside
with_catalog name file text = record {
  syntax = implied_syntax;
  expand = 1000;
  file = base;
  resolved = λ kind n x f. doctype_entry name file kind n;
  fetched = fetched_from file text;
}

-- a head without an identifier, whose external subset the catalog names
abbrev pub subset_by_catalog : Whole
subset_by_catalog = record {
  outside = with_catalog D (codes "s") subset_text;
  text = whole_record (codes "<!DOCTYPE d SYSTEM>") ++ whole_record (codes "<P>hi");
  was_cut = false;
  expected = (StartLine D ∷ (StartLine P ∷ (chars (codes "hi") ∷ (FinishLine P ∷ (FinishLine D ∷ (ConformingLine ∷ []))))));
  ending = AtFinish;
}

-- what the internal subset declares holds before what the external one does
abbrev pub both_subsets : Whole
both_subsets = record {
  outside = with_file (codes "s") (codes "<!ELEMENT P O O (#PCDATA)>");
  text = codes "<!DOCTYPE d SYSTEM \"s\" [<!ELEMENT D O O (P+)>]>" ++ whole_record (codes "hi");
  was_cut = false;
  expected = (StartLine D ∷ (StartLine P ∷ (chars (codes "hi") ∷ (FinishLine P ∷ (FinishLine D ∷ (ConformingLine ∷ []))))));
  ending = AtFinish;
}

-- a document that was cut behind its data
abbrev pub cut_document : Whole
cut_document = record {
  outside = no_outside implied_syntax;
  text = codes "<!DOCTYPE D [<!ELEMENT D O O (#PCDATA)>]>" ++ codes "<D>hi";
  was_cut = true;
  expected = (StartLine D ∷ (chars (codes "hi") ∷ []));
  ending = AtStop EntityTooLarge;
}

abbrev pub no_document_type : Whole
no_document_type = record {
  outside = no_outside implied_syntax;
  text = whole_record (codes "<D>hi");
  was_cut = false;
  expected = [];
  ending = AtStop NoDoctype;
}
