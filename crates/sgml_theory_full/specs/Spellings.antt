-- WHAT STANDS IN A FULL DOCUMENT: its text after the prolog, as a list of spellings of pieces.
use Rattle.std.specs.Prelude.{ℕ, true, false, ◌==◌, List, [], ◌∷◌, ◌++◌, flat_map, codes, Option, Some, None, if◌then◌else◌}
use Rattle.sgml_theory_values.specs.dtd.Doctypes.{Doctype}
use Rattle.sgml_theory_values.specs.theory_reading.Names.{Name, Text}
use Rattle.sgml_theory_values.specs.theory_reading.Types.{name_of_entity}
use Rattle.sgml_theory_values.specs.theory_reading.Pieces.{Kind, Start, End, Char, Data, DataRef, Re, Rs, Pi, Tag}
use Rattle.sgml_theory_values.specs.theory_reading.Events.{Event as Said, Started, Ended, Byte, SpecificData, External, Instruction}
use Rattle.sgml_theory_values.specs.full.declared.inside.Inside.{Inside}
use Rattle.sgml_theory_values.specs.full.declared.inside.Inside.TheVariants as inside
use Rattle.sgml_theory_values.specs.full.Spelled.{has_map, spelled_byte, raw_byte, start_tag, end_tag, entity_reference}
use Rattle.sgml_theory_values.specs.full.Full.{after_said}
use Rattle.sgml_theory_values.specs.Full.{value_read}
use Rattle.sgml_theory_values.specs.Starts.{specifications}

-- a piece, as far as its own text tells it, and that text
pub record Spelling : Type 0 where
  pub kind : Kind
  pub text : Text

abbrev pub spelling : Kind → Text → Spelling
spelling kind text = record { kind = kind; text = text }

abbrev pub text_of : List Spelling → Text
text_of xs = flat_map (λ (x : Spelling). x.text) xs

-- a record end, with the start of the record that follows it
abbrev pub line_end : List Spelling
line_end = spelling (Re true) (13 ∷ []) ∷ spelling Rs (10 ∷ []) ∷ []

-- DATA: in CDATA content it stands as it is, on lines of its own
abbrev pub raw : ℕ → List Spelling
raw b = if raw_byte b == 10 then line_end else spelling (Char b) (b ∷ []) ∷ []

abbrev pub datum_spellings : Inside → List Spelling → List Spelling → List Spelling
datum_spellings inside.Characters plain referred = line_end ++ plain
datum_spellings inside.Lines plain referred = plain
datum_spellings _ plain referred = referred

-- THE END of an element
abbrev pub ending_spellings : Inside → Name → List Spelling
ending_spellings inside.Nothing name = []
ending_spellings inside.Lines name = line_end ++ spelling (End name Tag) (end_tag name) ∷ []
ending_spellings _ name = spelling (End name Tag) (end_tag name) ∷ []

abbrev pub reference : Doctype → Kind → ℕ → List Spelling
reference d kind e = spelling kind (entity_reference (name_of_entity d e)) ∷ []

abbrev pub instruction_spellings : Doctype → Text → Option ℕ → List Spelling
instruction_spellings d text None = spelling (Pi text None) (codes "<?" ++ (text ++ 62 ∷ [])) ∷ []
instruction_spellings d text (Some e) = reference d (Pi text (Some e)) e

-- THE PIECES OF AN EVENT where it is written
abbrev pub spellings_of : Doctype → Inside → Said → List Spelling
spellings_of d i (Started name attributes) =
    spelling (Start name (specifications (value_read d) attributes) Tag true false) (start_tag d name attributes) ∷ []
spellings_of d i (Ended name) = ending_spellings i name
spellings_of d i (Byte b) = datum_spellings i (raw b) (spelling (Char b) (spelled_byte (has_map d) b) ∷ [])
spellings_of d i (SpecificData e text) = datum_spellings i (reference d (Data e) e) (reference d (Data e) e)
spellings_of d i (External e) = reference d (DataRef e) e
spellings_of d i (Instruction text entity) = instruction_spellings d text entity

-- what stands inside the innermost element after events
abbrev pub after_all : Doctype → Inside → List Said → Inside
after_all d i [] = i
after_all d i (e ∷ es) = after_all d (after_said d i e) es

-- and of all of them, one after another
abbrev pub spellings : Doctype → Inside → List Said → List Spelling
spellings d i [] = []
spellings d i (e ∷ es) = spellings_of d i e ++ spellings d (after_said d i e) es
