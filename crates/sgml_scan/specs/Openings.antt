-- What begins at a place: the longest delimiter of the mode in its context (9.6.1, 9.6.2), or the
-- longest short reference string where a map is in force (9.6.4, 11.6), or neither.
use Rattle.std.specs.Prelude.{ℕ, Bool, true, false, List, [], ◌∷◌, ◌==◌, ◌&&◌, ◌||◌, if◌then◌else◌}
use Rattle.sgml_syntax.specs.declared.syntax.Syntax.{Syntax}
use Rattle.sgml_delim.specs.declared.delim.Mode.{Mode}
use Rattle.sgml_delim.specs.declared.delim.Mode.TheVariants as m
use Rattle.sgml_delim.specs.declared.delim.Delim.{Delim}
use Rattle.sgml_delim.specs.declared.delim.Delim.TheVariants as d
use Rattle.sgml_delim.specs.declared.delim.Recognised.TheVariants as r
use Rattle.sgml_delim.specs.Answers as delimiters
use Rattle.sgml_shortref.specs.declared.matching.Matched.TheVariants as matched
use Rattle.sgml_shortref.specs.Matches as strings
use Rattle.sgml_markup.specs.declared.kinds.Form.{Form}
use Rattle.sgml_markup.specs.declared.kinds.Form.TheVariants as form
use Rattle.sgml_markup.specs.declared.kinds.TokenKind.TheVariants as kind
use Rattle.sgml_scan.specs.declared.state.ScanState.{ScanState}
use Rattle.sgml_scan.specs.declared.state.Opening.{Opening}
use Rattle.sgml_scan.specs.declared.state.Opening.TheVariants.{Markup, Whole}

-- strings are matched in content alone, and only where a map is in force
abbrev pub is_con : Mode → Bool
is_con m.Con = true
is_con _ = false

abbrev pub matches_strings : ScanState → Bool
matches_strings st = st.maps && is_con st.mode

-- the delimiter that a text begins with, whatever follows
abbrev pub NoDelimiter : Syntax → ScanState → Bool → List ℕ → Type 0
NoDelimiter s st ended bytes = delimiters.Answers ended (delimiters.answer s st.mode st.net) bytes r.Plain

abbrev pub NoString : Bool → Bool → List ℕ → Type 0
NoString true ended bytes = strings.Answers ended strings.answer bytes matched.Plain
NoString false ended bytes = Unit {0}

-- by the byte after `<!`: a marked section, a comment declaration (an empty one is `<!>`), or another
-- declaration (10)
abbrev pub declared_form : List ℕ → Form
declared_form [] = form.Declaration
declared_form (b ∷ bytes) =
    if b == 91 then form.SectionStart else if (b == 45) || (b == 62) then form.CommentDeclaration else form.Declaration

-- What a delimiter begins, by the text after it: markup with an end of its own, or a whole token with
-- its length. In an ignored section `<![` alone begins another one (10.4.2); a section ends with `]]>`. No mode
-- that is scanned has a delimiter but these; any other is a part of a declaration.
abbrev pub declared_opening : Mode → List ℕ → Opening
declared_opening m.Ign bytes = Whole kind.SectionStart 3
declared_opening _ bytes = Markup (declared_form bytes)

abbrev pub opening : Mode → Delim → List ℕ → Opening
opening mode d.Mdo bytes = declared_opening mode bytes
opening mode d.Msc bytes = Whole kind.SectionEnd 3
opening mode d.Net bytes = Whole kind.Net 1
opening mode d.Stago bytes = Markup form.StartTag
opening mode d.Etago bytes = Markup form.EndTag
opening mode d.Ero bytes = Markup form.EntityReference
opening mode d.Cro bytes = Markup form.CharacterReference
opening mode d.Pero bytes = Markup form.ParameterReference
opening mode d.Pio bytes = Markup form.Instruction
opening mode d.Dsc bytes = Markup form.SubsetEnd
opening mode _ bytes = Whole kind.Declaration 1
