-- Which element type a tag has (7.4, 7.5), by its number.
use Rattle.std.specs.Prelude.{◌≡◌, ◌≤◌, ℕ, [], ◌∷◌, length, Option, IfSome, option_map, option_and_then, if◌then◌else◌}
use Rattle.sgml_syntax.specs.declared.syntax.Syntax.{Syntax}
use Rattle.sgml_markup.specs.declared.kinds.Part.{Part}
use Rattle.sgml_markup.specs.declared.kinds.PartKind.TheVariants as part
use Rattle.sgml_markup.specs.Forms.{parts_of_tag}
use Rattle.sgml_dtd.specs.dtd_elements.Types.{number_of}
use Rattle.sgml_dtd.specs.Doctypes.{Doctype}
use Rattle.sgml_theory_spelling.specs.theory_reading.Names.{Name, Text}
use Rattle.sgml_theory_spelling.specs.theory_reading.ShortTags.{empty_start_type, first_type}
use Rattle.sgml_theory_spelling.specs.Tags.{element_of}
use Rattle.sgml_infer.specs.Tables.{name_at}
use Rattle.sgml_content_steps.specs.Content.{Content, context_of}

-- the type that a tag names, where one of that name is declared
abbrev pub number_named : Doctype → Text → Option ℕ
number_named d tag = number_of d.elements (element_of d tag)

-- A TAG THAT IS A NAME ALONE, with nothing between that and its delimiters
pub record IsAlone (syntax : Syntax) (tag : Text) (p : Part) : Type 0 where
  pub parts : parts_of_tag syntax tag ≡ p ∷ []
  pub named : p.kind ≡ part.ElementName
  pub within : (p.from ≤ p.to) × (p.to ≤ length tag)

-- it is that, where one is given
abbrev pub IsLone : Syntax → Text → Option Part → Type 0
IsLone syntax tag o = IfSome o (IsAlone syntax tag)

-- that of an empty start-tag (7.4.1.1)
abbrev pub empty_start_of : Content → Option Name
empty_start_of c = empty_start_type (context_of c) (option_map (name_at c.kept.doctype) c.inside.ended)

-- its type is that of the innermost open element, or where OMITTAG is NO of the one that ended last
abbrev pub type_before : Content → Option Name
type_before c =
    if c.kept.doctype.syntax.omittag then first_type (context_of c).levels else option_map (name_at c.kept.doctype) c.inside.ended

abbrev pub number_empty : Content → Option ℕ
number_empty c = option_and_then (number_of c.kept.doctype.elements) (empty_start_of c)
