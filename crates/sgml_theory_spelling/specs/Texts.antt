-- What a declaration, a literal or a section start is read with: its own text, and the texts that its
-- references may open, on the stack of texts that are being read (9.4.4, 10).
use Rattle.std.specs.Prelude.{ℕ, ◌+◌, List, [], ◌∷◌, ◌++◌, Option, Some, None, unwrap_or, map, length}
use Rattle.sgml_scan.specs.text.declared.reason.Reason.{Reason}
use Rattle.sgml_scan.specs.text.declared.reason.Reason.TheVariants as reason
use Rattle.sgml_theory_reading.specs.entity.declared.kinds.Entity.{Entity}
use Rattle.sgml_theory_reading.specs.entity.Entities.{first_entity}
use Rattle.sgml_theory_reading.specs.entity.Stack.{Stack, place_at}
use Rattle.sgml_theory_reading.specs.decl_parts.declared.ends.Construct.{Construct}
use Rattle.sgml_theory_reading.specs.decl_lexemes.declared.fault.Fault.{Fault}
use Rattle.sgml_theory_reading.specs.decl_lexemes.declared.fault.Fault.TheVariants.{Wanting, Refusing}
use Rattle.sgml_theory_reading.specs.decl_lexemes.Sources.{Source}
use Rattle.sgml_theory_reading.specs.dtd.Doctypes.{Doctype}
use Rattle.sgml_theory_reading.specs.Names.{Name, Text}
use Rattle.sgml_theory_reading.specs.Types.{entity}
use Rattle.sgml_theory_reading.specs.Unread.{Fetched, NotThere, TooLarge, Found, Outside, file_of_body, file_of_entity}
use Rattle.sgml_theory_spelling.specs.Stacked.{Stacked}
use Rattle.sgml_theory_spelling.specs.References.{missing_file}

-- THE TEXTS of the declared entities that are text in a file, of those that are there

abbrev pub found_as : ℕ → Fetched → List (ℕ × Text)
found_as n NotThere = []
found_as n TooLarge = []
found_as n (Found text) = (n, text) ∷ []

abbrev pub named_as : Outside → ℕ → Option Name → List (ℕ × Text)
named_as outside n None = []
named_as outside n (Some name) = found_as n (outside.fetched name)

abbrev pub texts_from : Outside → ℕ → List Entity → List (ℕ × Text)
texts_from outside n [] = []
texts_from outside n (e ∷ es) = named_as outside n (file_of_body outside e e.body) ++ texts_from outside (n + 1) es

unfoldable pub texts_of : Outside → List Entity → List (ℕ × Text)
texts_of outside es = texts_from outside first_entity es

-- a declaration, a section start, the end of a document type, or a literal, up to its end in the text at
-- the top, with the texts that its references open
unfoldable pub source_of : Construct → Outside → Doctype → Stacked → Text → Source
source_of c outside d t own = record {
  construct = c;
  syntax = d.syntax;
  entities = d.entities;
  texts = texts_of outside d.entities;
  own = own;
  height = length t.entities;
}

-- THE STACK: what is unread of each text is a text from its beginning
unfoldable pub stack_of : Outside → Doctype → Stacked → Stack
stack_of outside d t = record {
  levels = d.syntax.quantities.entlvl;
  expand = outside.expand;
  spent = t.spent;
  places = map (λ n. place_at n 0) t.entities;
}

-- WHY IT CAN'T BE READ: a text that is wanted isn't there, or a reason by itself
abbrev pub missing_entity : Outside → Doctype → ℕ → Reason
missing_entity outside d n = unwrap_or (missing_file outside (file_of_entity outside (entity d n))) reason.Unresolved

abbrev pub fault_reason : Outside → Doctype → Fault → Reason
fault_reason outside d (Refusing r) = r
fault_reason outside d (Wanting n) = missing_entity outside d n
