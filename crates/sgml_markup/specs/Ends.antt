-- Where markup ends: how many bytes after the delimiter that begins it belong to it, none where
-- the text doesn't reach so far.
use Rattle.std.specs.Prelude.{ℕ, ◌+◌, Bool, List, [], ◌∷◌, ◌==◌, ◌&&◌, ◌||◌, if◌then◌else◌, Option, None, Some, drop}
use Rattle.sgml_text.specs.declared.name_set.NameSet.{NameSet}
use Rattle.sgml_text.specs.NameCharacters.{is_name_character}
use Rattle.sgml_text.specs.Characters.{is_digit, is_quote}
use Rattle.sgml_syntax.specs.declared.syntax.Syntax.{Syntax}
use Rattle.sgml_delim.specs.declared.ends.Inside.TheVariants.{Between}
use Rattle.sgml_delim.specs.declared.ends.Ender.TheVariants.{Mdc, Dso}
use Rattle.sgml_delim.specs.Ends.{later, end_after, declaration_end}
use Rattle.sgml_markup.specs.declared.kinds.Form.{Form}
use Rattle.sgml_markup.specs.declared.kinds.Form.TheVariants as form

-- the quote that is open after one more byte
abbrev pub quoting : Option ℕ → ℕ → Option ℕ
quoting None b = if is_quote b then Some b else None
quoting (Some q) b = if b == q then None else Some q

abbrev pub if_outside : Option ℕ → Option ℕ → Option ℕ → Option ℕ
if_outside None x y = x
if_outside (Some q) x y = y

-- with which byte, and before which, a tag ends outside its literals
abbrev pub ends_with : Bool → ℕ → Bool
ends_with shorttag b = (b == 62) || (shorttag && (b == 47))

abbrev pub ends_before : Bool → ℕ → Bool
ends_before shorttag b = shorttag && (b == 60)

-- A tag ends with its first `>` outside literals (7.4, 7.5); with SHORTTAG also with the first `/`
-- (7.4.1.3) and before the first `<` (7.4.1.2, 7.5.1.2).
abbrev pub tag_end : Bool → Option ℕ → List ℕ → Option ℕ
tag_end shorttag quote [] = None
tag_end shorttag quote (b ∷ bytes) =
    let inside = later 1 (tag_end shorttag (quoting quote b) bytes) in
    if_outside quote
    (if ends_with shorttag b then Some 1 else if ends_before shorttag b then Some 0 else inside)
    inside

-- where a tag ends whose byte at this place is taken
abbrev pub tag_end_past : Bool → ℕ → ℕ → List ℕ → Option ℕ
tag_end_past shorttag at b text = later (at + 1) (tag_end shorttag (quoting None b) (drop (at + 1) text))

-- where a tag goes on after one more byte, a literal being one
abbrev pub resumed : Bool → List ℕ → Option ℕ → Option ℕ
resumed shorttag text None = None
resumed shorttag text (Some i) = later i (tag_end shorttag None (drop i text))

-- REFC, or the record end in its place
abbrev pub ends_reference : ℕ → Bool
ends_reference b = (b == 59) || (b == 13)

-- A name or number ends before the first byte that can't go on it; `;` and a record end are taken
-- (9.4.5).
abbrev pub reference_end : (ℕ → Bool) → Bool → List ℕ → Option ℕ
reference_end goes_on ended [] = if ended then Some 0 else None
reference_end goes_on ended (b ∷ bytes) =
    if goes_on b then later 1 (reference_end goes_on ended bytes) else if ends_reference b then Some 1 else Some 0

-- which bytes go on a reference to a character: digits after a digit, else those of a name (9.5)
abbrev pub goes_on_character : NameSet → List ℕ → ℕ → Bool
goes_on_character names [] b = is_name_character names b
goes_on_character names (first ∷ bytes) b = if is_digit first then is_digit b else is_name_character names b

-- a processing instruction ends with its first `>` (8)
abbrev pub pi_end : List ℕ → Option ℕ
pi_end [] = None
pi_end (b ∷ bytes) = if b == 62 then Some 1 else later 1 (pi_end bytes)

-- the end of markup of each form, in the text after its delimiter: comment declarations, section
-- starts and the end of a document type have an end of a declaration
abbrev pub end_of : Syntax → Form → Bool → List ℕ → Option ℕ
end_of s form.StartTag ended bytes = tag_end s.shorttag None bytes
end_of s form.EndTag ended bytes = tag_end s.shorttag None bytes
end_of s form.EntityReference ended bytes = reference_end (is_name_character s.names) ended bytes
end_of s form.ParameterReference ended bytes = reference_end (is_name_character s.names) ended bytes
end_of s form.CharacterReference ended bytes = reference_end (goes_on_character s.names bytes) ended bytes
end_of s form.Instruction ended bytes = pi_end bytes
end_of s form.CommentDeclaration ended bytes = end_after s.names Mdc Between bytes
end_of s form.SectionStart ended bytes = end_after s.names Dso Between bytes
end_of s form.Declaration ended bytes = declaration_end s.names bytes
end_of s form.SubsetEnd ended bytes = end_after s.names Mdc Between bytes
