-- The laws of what stands in a full document.
use Rattle.std.specs.Prelude.{◌≡◌, ℕ, true, false, List, [], ◌∷◌, ◌++◌, codes, None, Ok}
use Rattle.sgml_theory_values.specs.io.Records.{records, EndsInRecord}
use Rattle.sgml_theory_values.specs.delim.declared.delim.Mode.{Mode}
use Rattle.sgml_theory_values.specs.delim.declared.delim.Mode.TheVariants as mode
use Rattle.sgml_theory_values.specs.dtd.Doctypes.{Doctype}
use Rattle.sgml_theory_values.specs.theory_reading.Names.{Name, Text}
use Rattle.sgml_theory_values.specs.theory_reading.Pieces.{Kind, Start, End, Char, Pi, Tag}
use Rattle.sgml_theory_values.specs.theory_reading.Characters.{has_text}
use Rattle.sgml_theory_values.specs.theory_reading.Reads.{Attribute}
use Rattle.sgml_theory_values.specs.theory_reading.Events.{Event as Said}
use Rattle.sgml_theory_values.specs.theory_spelling.Content.{reference_kind}
use Rattle.sgml_theory_values.specs.full.declared.inside.Inside.TheVariants as inside
use Rattle.sgml_theory_values.specs.full.Spelled.{has_map, spelled_byte, start_tag, end_tag, entity_reference}
use Rattle.sgml_theory_values.specs.full.Full.{full_document}
use Rattle.sgml_theory_values.specs.Full.{value_read}
use Rattle.sgml_theory_values.specs.Starts.{specifications}
use Rattle.sgml_theory_full.specs.Named.{AllAre, IsGeneralName, IsEntityName, AttributeIsWritten, IsWrittenText, IsWritten}
use Rattle.sgml_theory_full.specs.Spellings.{spelling, text_of, spellings}
use Rattle.sgml_theory_full.specs.Points.{Point, stacked_at, doctype_at, IsInContent, HasReferences, HasEndTags, MapsAreDeclared, IsPieceAt}

-- THE TEXT of a full document is that of its prolog, which ends within a record as with `>`, the spellings of its pieces, and a record end
abbrev pub FullDocumentIsSpellings : Type 0
FullDocumentIsSpellings =
    (prolog : List ℕ) (d : Doctype) (es : List Said) → EndsInRecord prolog → AllAre (IsWritten d) es
    → records (full_document prolog d es) ≡ records prolog ++ (text_of (spellings d inside.Mixed es) ++ 13 ∷ [])

-- DATA where references are recognised, and characters may stand: each is one character piece
abbrev pub CharactersAreSpelled : Type 0
CharactersAreSpelled =
    (p : Point) (m : Mode) (b : ℕ) → IsInContent p m → HasReferences m → MapsAreDeclared p → has_text p.state ≡ true
    → IsPieceAt p (spelling (Char b) (spelled_byte (has_map (doctype_at p)) b))

-- AN ENTITY'S NAME between `&` and `;`: one piece, of the kind that a reference by this name is there
abbrev pub ReferencesAreSpelled : Type 0
ReferencesAreSpelled =
    (p : Point) (m : Mode) (name : Name) (kind : Kind) → IsInContent p m → HasReferences m → IsEntityName (doctype_at p).syntax name
    → reference_kind p.outside p.state (stacked_at p) m name ≡ Ok kind → IsPieceAt p (spelling kind (entity_reference name))

-- A START-TAG with these attributes: a start of this type, with these values as they are written
abbrev pub StartTagsAreSpelled : Type 0
StartTagsAreSpelled =
    (p : Point) (name : Name) (attributes : List Attribute) → IsInContent p mode.Con → IsGeneralName (doctype_at p).syntax name
    → AllAre (AttributeIsWritten (doctype_at p)) attributes
    → IsPieceAt p
    (spelling (Start name (specifications (value_read (doctype_at p)) attributes) Tag true false)
    (start_tag (doctype_at p) name attributes))

-- AN END-TAG
abbrev pub EndTagsAreSpelled : Type 0
EndTagsAreSpelled =
    (p : Point) (m : Mode) (name : Name) → IsInContent p m → HasEndTags m → IsGeneralName (doctype_at p).syntax name
    → IsPieceAt p (spelling (End name Tag) (end_tag name))

-- AN INSTRUCTION by its own text
abbrev pub InstructionsAreSpelled : Type 0
InstructionsAreSpelled =
    (p : Point) (text : Text) → IsInContent p mode.Con → IsWrittenText (doctype_at p).syntax text
    → IsPieceAt p (spelling (Pi text None) (codes "<?" ++ (text ++ 62 ∷ [])))
