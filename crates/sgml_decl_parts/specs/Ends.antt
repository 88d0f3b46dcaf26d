-- Where a declaration ends, the start of a marked section, the end of a document type and a literal of
-- a tag, each by its own text alone.
use Rattle.std.specs.Prelude.{ℕ, Bool, List, [], ◌∷◌, ◌==◌, if◌then◌else◌, Option, None, Some, drop}
use Rattle.sgml_text.specs.declared.name_set.NameSet.{NameSet}
use Rattle.sgml_delim.specs.declared.ends.Inside.TheVariants.{Between}
use Rattle.sgml_delim.specs.declared.ends.Ender.TheVariants.{Mdc, Dso}
use Rattle.sgml_delim.specs.Ends as after_mdo
use Rattle.sgml_delim.specs.Ends.{later, end_after}
use Rattle.sgml_decl_parts.specs.declared.ends.Construct.{Construct}
use Rattle.sgml_decl_parts.specs.declared.ends.Construct.TheVariants as construct

-- whether the keyword after the `<!` that stands here is DOCTYPE (11.1)
abbrev pub is_doctype : NameSet → List ℕ → Bool
is_doctype names bytes = after_mdo.is_doctype names (drop 2 bytes)

-- how many bytes belong to the declaration that begins with `<!` here, if its end is there
abbrev pub declaration_end : NameSet → List ℕ → Option ℕ
declaration_end names bytes = later 2 (after_mdo.declaration_end names (drop 2 bytes))

-- how many bytes stand before the first part of what is read
abbrev pub before : Construct → ℕ
before construct.Declaration = 2
before construct.SectionStart = 3
before construct.SubsetEnd = 1
before (construct.Literal quote) = 0

-- how many bytes there are up to the first of these quotes, which ends a literal (7.9.3)
abbrev pub quote_end : ℕ → List ℕ → Option ℕ
quote_end quote [] = None
quote_end quote (b ∷ bytes) = if b == quote then Some 1 else later 1 (quote_end quote bytes)

-- HOW MANY BYTES belong to what begins here, if its end is there: to a declaration (10), to the start
-- of a marked section, up to its second `[` (10.4), to the end of a document type (11.1), or to a
-- literal of a tag, from after the quote that begins it (7.9.3)
abbrev pub construct_end : NameSet → Construct → List ℕ → Option ℕ
construct_end names construct.Declaration bytes = declaration_end names bytes
construct_end names construct.SectionStart bytes = later 3 (end_after names Dso Between (drop 3 bytes))
construct_end names construct.SubsetEnd bytes = later 1 (end_after names Mdc Between (drop 1 bytes))
construct_end names (construct.Literal quote) bytes = quote_end quote bytes
