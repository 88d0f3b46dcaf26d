-- What markup is, or the first reason in the order of reasons for which its bytes alone are of no
-- form: a tag, a comment declaration, a reference to a character, the length of a name or of an
-- instruction.
use Rattle.std.specs.Prelude.{◌≡◌, ℕ, ◌-◌, Bool, true, false, List, [], ◌∷◌, ◌==◌, ◌&&◌, ◌||◌, if◌then◌else◌, Result, Ok, Err, nat_lt, take, drop, length, slice_index_or}
use Rattle.std.specs.List.{list_any, list_all}
use Rattle.sgml_text.specs.declared.reason.Reason.{Reason}
use Rattle.sgml_text.specs.declared.reason.Reason.TheVariants.{NonSgml, TagSyntax, DeclarationSyntax, CharNumber, NameLength, PiLength}
use Rattle.sgml_syntax.specs.declared.syntax.Syntax.{Syntax}
use Rattle.sgml_markup.specs.declared.kinds.Form.{Form}
use Rattle.sgml_markup.specs.declared.kinds.Form.TheVariants as form
use Rattle.sgml_markup.specs.declared.kinds.TokenKind.{TokenKind}
use Rattle.sgml_markup.specs.declared.kinds.TokenKind.TheVariants as kind
use Rattle.sgml_delim.specs.declared.ends.Inside.{Inside}
use Rattle.sgml_delim.specs.declared.ends.Inside.TheVariants.{Between, Minus, Comment, CommentMinus}
use Rattle.sgml_markup.specs.declared.kinds.TagState.TheVariants.{ElementName}
use Rattle.sgml_markup.specs.declared.kinds.Part.{Part}
use Rattle.sgml_text.specs.Characters.{is_sgml_character, is_separator}
use Rattle.sgml_markup.specs.References.{character_of, name_length, too_long}
use Rattle.sgml_markup.specs.Tags.{is_tag, tag_parts, wrong_number_in, wrong_length_in}

-- how many bytes the delimiter has that begins markup of each form
abbrev pub before : Form → ℕ
before form.StartTag = 1
before form.EndTag = 2
before form.EntityReference = 1
before form.ParameterReference = 1
before form.CharacterReference = 2
before form.Instruction = 2
before form.CommentDeclaration = 2
before form.SectionStart = 3
before form.Declaration = 2
before form.SubsetEnd = 1

abbrev pub begins_tagc : List ℕ → Bool
begins_tagc [] = false
begins_tagc (b ∷ bytes) = b == 62

abbrev pub begins_slash : List ℕ → Bool
begins_slash [] = false
begins_slash (b ∷ bytes) = b == 47

-- the last byte, or 0
abbrev pub last_byte : List ℕ → ℕ
last_byte bytes = slice_index_or bytes (length bytes - 1) 0

-- TAGC, or NET, which ends a start-tag (7.4.1.3)
abbrev pub closes : ℕ → Bool
closes b = (b == 62) || (b == 47)

-- a tag without the delimiter that closes it, if one does
abbrev pub unclosed : List ℕ → List ℕ
unclosed markup = if closes (last_byte markup) then take (length markup - 1) markup else markup

-- the parts of a tag, with their places in it
abbrev pub parts_of : Syntax → Bool → ℕ → List ℕ → List Part
parts_of s closing start markup = tag_parts s closing start (ElementName start) (drop start (unclosed markup))

abbrev pub if_tag : Bool → Bool → Bool → TokenKind → Result TokenKind Reason
if_tag good bad_number bad_length k =
    if good then (if bad_number then Err CharNumber else if bad_length then Err NameLength else Ok k) else Err TagSyntax

-- A tag that isn't empty, from the place after its delimiter: of no form, or with a reference or name
-- that may not be (7.4, 7.5, 7.9).
abbrev pub judged_tag : Syntax → Bool → ℕ → TokenKind → List ℕ → Result TokenKind Reason
judged_tag s closing start k markup =
    if_tag (is_tag s closing start (ElementName start) (drop start (unclosed markup)))
    (list_any (wrong_number_in s markup) (parts_of s closing start markup))
    (list_any (wrong_length_in s markup) (parts_of s closing start markup)) k

-- the tag has a name alone after its delimiter, and the name isn't too long
pub record IsPlainName (s : Syntax) (start : ℕ) (markup : List ℕ) : Type 0 where
  pub name : name_length s (drop start (unclosed markup)) ≡ length (drop start (unclosed markup))
  pub short : too_long s (length (drop start (unclosed markup))) ≡ false

-- `/` ends an end-tag, which then is of no form (7.5)
abbrev pub judged_end_tag : Syntax → List ℕ → Result TokenKind Reason
judged_end_tag s markup = if last_byte markup == 47 then Err TagSyntax else judged_tag s true 2 kind.EndTag markup

-- between its comments a comment declaration has separators alone (10.3)
abbrev pub may_stand : Inside → ℕ → Bool
may_stand Between b = is_separator b || (b == 45)
may_stand Minus b = b == 45
may_stand Comment b = true
may_stand CommentMinus b = true
may_stand _ b = false

abbrev pub comment_after : Inside → ℕ → Inside
comment_after Between b = if b == 45 then Minus else Between
comment_after Minus b = Comment
comment_after Comment b = if b == 45 then CommentMinus else Comment
comment_after CommentMinus b = if b == 45 then Between else Comment
comment_after inside b = inside

abbrev pub is_between : Inside → Bool
is_between Between = true
is_between _ = false

abbrev pub is_comments : Inside → List ℕ → Bool
is_comments inside [] = is_between inside
is_comments inside (b ∷ bytes) = may_stand inside b && is_comments (comment_after inside b) bytes

-- by the text between MDO and MDC
abbrev pub judged_comment : List ℕ → Result TokenKind Reason
judged_comment bytes =
    if is_comments Between (take (length bytes - 1) bytes) then Ok kind.Comment else Err DeclarationSyntax

abbrev pub if_short : Syntax → ℕ → TokenKind → Result TokenKind Reason
if_short s n k = if too_long s n then Err NameLength else Ok k

-- the text of a processing instruction has at most PILEN bytes (8)
abbrev pub judged_instruction : Syntax → ℕ → Result TokenKind Reason
judged_instruction s n = if nat_lt s.quantities.pilen (n - 3) then Err PiLength else Ok kind.Pi

abbrev pub judged_form : Syntax → Form → List ℕ → Result TokenKind Reason
judged_form s form.StartTag markup =
    if begins_tagc (drop 1 markup) then Ok kind.EmptyStart else judged_tag s false 1 kind.StartTag markup
judged_form s form.EndTag markup = if begins_tagc (drop 2 markup) then Ok kind.EmptyEnd else judged_end_tag s markup
judged_form s form.EntityReference markup = if_short s (name_length s (drop 1 markup)) kind.EntityRef
judged_form s form.ParameterReference markup = if_short s (name_length s (drop 1 markup)) kind.ParameterRef
judged_form s form.CharacterReference markup = character_of s (drop 2 markup)
judged_form s form.Instruction markup = judged_instruction s (length markup)
judged_form s form.CommentDeclaration markup = judged_comment (drop 2 markup)
judged_form s form.SectionStart markup = Ok kind.SectionStart
judged_form s form.Declaration markup = Ok kind.Declaration
judged_form s form.SubsetEnd markup = Ok kind.SubsetEnd

-- what markup is as a whole, or why it may not be: first of all it has SGML characters alone (13.1)
abbrev pub judged : Syntax → Form → List ℕ → Result TokenKind Reason
judged s f markup = if list_all is_sgml_character markup then judged_form s f markup else Err NonSgml

-- the parts of a scanned tag, from left to right, with their places in it; an empty tag has none
abbrev pub parts_of_tag : Syntax → List ℕ → List Part
parts_of_tag s [] = []
parts_of_tag s (first ∷ rest) =
    if begins_tagc rest then []
    else if begins_slash rest then (if begins_tagc (drop 1 rest) then [] else parts_of s true 2 (first ∷ rest))
    else parts_of s false 1 (first ∷ rest)
