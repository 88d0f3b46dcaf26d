-- The start that a start-tag is (7.4, 7.9): its type, and its specifications, with what is written in
-- each.
use Rattle.std.specs.Prelude.{ℕ, ◌-◌, ◌==◌, List, [], ◌∷◌, ◌++◌, Option, Some, None, option_map, option_and_then, slice_get, slice_index_or, Result, Ok, Err, if◌then◌else◌}
use Rattle.sgml_scan.specs.text.declared.reason.Reason.{Reason}
use Rattle.sgml_theory_reading.specs.names.Naming.{general_name}
use Rattle.sgml_scan.specs.text.declared.unit.Unit.{Unit as AnyUnit}
use Rattle.sgml_scan.specs.text.Units.{characters}
use Rattle.sgml_scan.specs.markup.declared.kinds.Part.{Part}
use Rattle.sgml_scan.specs.markup.declared.kinds.PartKind.{PartKind}
use Rattle.sgml_scan.specs.markup.declared.kinds.PartKind.TheVariants as part
use Rattle.sgml_scan.specs.markup.Tags.{bytes_of}
use Rattle.sgml_scan.specs.markup.Forms.{parts_of_tag, last_byte}
use Rattle.sgml_theory_reading.specs.decl_parts.declared.ends.Construct.TheVariants.{Literal}
use Rattle.sgml_theory_reading.specs.decl_lexemes.Readings.{value_of}
use Rattle.sgml_theory_reading.specs.attr.declared.definition.Definition.{Definition}
use Rattle.sgml_theory_reading.specs.attr.Matching.{attribute_by}
use Rattle.sgml_theory_reading.specs.dtd.Doctypes.{Doctype}
use Rattle.sgml_theory_reading.specs.Names.{Name, Text}
use Rattle.sgml_theory_reading.specs.Types.{attributes}
use Rattle.sgml_theory_reading.specs.Pieces.{How, Tag, Slash, Specification}
use Rattle.sgml_theory_reading.specs.Unread.{Outside}
use Rattle.sgml_theory_spelling.specs.Stacked.{Stacked}
use Rattle.sgml_theory_spelling.specs.Declared.{Lexed, lexed}

-- SPECIFICATIONS as they are written: a name, unless it was left out, and a literal with its quote or
-- a value without quotes

pub record Written : Type 0 where
  pub name : Option Text
  pub quote : Option ℕ
  pub bytes : Text

-- after a name a value is due
abbrev pub written_at : Text → Option Text → Part → (Option Text → List Written) → PartKind → List Written
written_at tag name x more part.ElementName = more None
written_at tag name x more part.AttributeName = more (Some (bytes_of tag x))
written_at tag name x more part.Bare = record { name = name; quote = None; bytes = bytes_of tag x } ∷ more None
written_at tag name x more part.Quoted =
    record { name = name; quote = Some (slice_index_or tag (x.from - 1) 0); bytes = bytes_of tag x } ∷ more None

abbrev pub written_from : Text → Option Text → List Part → List Written
written_from tag name [] = []
written_from tag name (x ∷ xs) = written_at tag name x (λ n. written_from tag n xs) x.kind

abbrev pub element_name : Text → List Part → Text
element_name tag [] = []
element_name tag (x ∷ xs) = bytes_of tag x

-- UNITS of a value: of a literal with its references replaced (7.9.3), and how long all texts are that
-- were opened; where a reference is wrong the texts that were opened before it don't count

pub record Units : Type 0 where
  pub units : Result (List AnyUnit) Reason
  pub spent : ℕ

abbrev pub units_read : Stacked → Result Lexed Reason → Units
units_read t (Err r) = record { units = Err r; spent = t.spent }
units_read t (Ok x) = record { units = Ok (value_of x.lexemes); spent = x.spent }

abbrev pub units_of : Outside → Doctype → Stacked → Text → Option ℕ → Units
units_of outside d t bytes None = record { units = Ok (characters bytes); spent = t.spent }
units_of outside d t bytes (Some quote) =
    units_read t (lexed (Literal quote) outside d t (bytes ++ quote ∷ []))

-- THE ATTRIBUTE that a specification names: its name as it is spelled, or else that of the one
-- attribute in whose group the value is (7.9.1.2)

abbrev pub name_at : List Definition → Option ℕ → Option Name
name_at xs i = option_map (λ (x : Definition). x.name) (option_and_then (slice_get xs) i)

abbrev pub name_by_value : Doctype → List Definition → Result (List AnyUnit) Reason → Option Name
name_by_value d xs (Err r) = None
name_by_value d xs (Ok units) = name_at xs (attribute_by d.syntax.general_fold xs None units)

abbrev pub attribute_named : Doctype → List Definition → Option Text → Result (List AnyUnit) Reason → Option Name
attribute_named d xs (Some name) units = Some (general_name d.syntax name)
attribute_named d xs None units = name_by_value d xs units

abbrev pub specification_of : Doctype → List Definition → Option Text → Result (List AnyUnit) Reason → Specification
specification_of d xs name units = record { attribute = attribute_named d xs name units; written = units }

-- ALL OF THEM, one after another, with how long all texts are that were opened

pub record Specifications : Type 0 where
  pub specifications : List Specification
  pub spent : ℕ

abbrev pub with_first : Specification → Specifications → Specifications
with_first s all = record { specifications = s ∷ all.specifications; spent = all.spent }

abbrev pub with_spent : Stacked → ℕ → Stacked
with_spent t spent = record { entities = t.entities; spent = spent }

abbrev pub all_specified : Outside → Doctype → List Definition → Stacked → List Written → Specifications
all_specified outside d xs t [] = record { specifications = []; spent = t.spent }
all_specified outside d xs t (w ∷ ws) =
    let first = units_of outside d t w.bytes w.quote in
    with_first (specification_of d xs w.name first.units) (all_specified outside d xs (with_spent t first.spent) ws)

unfoldable pub element_of : Doctype → Text → Name
element_of d tag = general_name d.syntax (element_name tag (parts_of_tag d.syntax tag))

unfoldable pub specifications_of : Outside → Doctype → Stacked → Text → Specifications
specifications_of outside d t tag =
    all_specified outside d (attributes d (element_of d tag)) t (written_from tag None (parts_of_tag d.syntax tag))

-- NET ends a start-tag and enables it (7.4.1.3)
abbrev pub how_of : Text → How
how_of tag = if last_byte tag == 47 then Slash else Tag
