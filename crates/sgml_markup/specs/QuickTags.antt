-- Tags that need no second look: their names are short, and the references in their literals are fine.
use Rattle.std.specs.Prelude.{◌≡◌, ℕ, ◌+◌, Bool, true, false, not, List, [], ◌∷◌, ◌++◌, ◌==◌, ◌&&◌, length, take, drop, if◌then◌else◌}
use Rattle.std.specs.List.{list_all}
use Rattle.sgml_text.specs.declared.name_set.NameSet.{NameSet}
use Rattle.sgml_text.specs.NameCharacters.{is_name_character, is_name_start, is_name_of}
use Rattle.sgml_syntax.specs.declared.syntax.Syntax.{Syntax}
use Rattle.sgml_markup.specs.declared.kinds.Form.{Form}
use Rattle.sgml_markup.specs.declared.kinds.Form.TheVariants as form
use Rattle.sgml_markup.specs.declared.kinds.TokenKind.{TokenKind}
use Rattle.sgml_markup.specs.declared.kinds.TokenKind.TheVariants as kind
use Rattle.sgml_text.specs.Characters.{is_sgml_character}
use Rattle.sgml_markup.specs.Forms.{before}
use Rattle.sgml_markup.specs.References.{has_wrong_number, has_wrong_length, too_long}
use Rattle.sgml_markup.specs.TagForm.{Value, Value.Quoted, Value.Unquoted, Specification, Specification.Named, Specification.Alone, spell_value, gap_of, spell, spell_all, has_bytes, ValueStands, Stands, AllStand}

-- a character of a literal that is neither its quote nor `&`, with which references begin
abbrev pub is_calm : ℕ → ℕ → Bool
is_calm q b = not (b == q) && is_sgml_character b && not (b == 38)

abbrev pub begins_with : ℕ → List ℕ → Bool
begins_with c [] = false
begins_with c (b ∷ bytes) = b == c

abbrev pub begins_start : NameSet → List ℕ → Bool
begins_start names [] = false
begins_start names (b ∷ bytes) = is_name_start names b

abbrev pub begins_sgml : List ℕ → Bool
begins_sgml [] = true
begins_sgml (b ∷ bytes) = is_sgml_character b

-- the text of a literal against which nothing is
pub record IsFine (s : Syntax) (text : List ℕ) : Type 0 where
  pub sgml : list_all is_sgml_character text ≡ true
  pub number : has_wrong_number s text ≡ false
  pub short : has_wrong_length s text ≡ false

abbrev pub IsQuickValue : Syntax → Value → Type 0
IsQuickValue s (Quoted q text) = IsFine s text
IsQuickValue s (Unquoted token) = Unit {0}

abbrev pub IsQuick : Syntax → Specification → Type 0
IsQuick s (Named gap name before after value) = (too_long s (length name) ≡ false) × IsQuickValue s value
IsQuick s (Alone gap token) = Unit {0}

abbrev pub AllQuick : Syntax → List Specification → Type 0
AllQuick s [] = Unit {0}
AllQuick s (x ∷ xs) = IsQuick s x × AllQuick s xs

-- the first n bytes of a text are the name of an attribute, and it is short
pub record BeginsName (s : Syntax) (text : List ℕ) (n : ℕ) : Type 0 where
  pub name : List ℕ
  pub rest : List ℕ
  pub stands : is_name_of s.names name ≡ true
  pub short : too_long s (length name) ≡ false
  pub is : text ≡ name ++ rest
  pub size : n ≡ length name

-- a value
pub record BeginsValue (s : Syntax) (text : List ℕ) (n : ℕ) : Type 0 where
  pub value : Value
  pub rest : List ℕ
  pub stands : ValueStands s value
  pub quick : IsQuickValue s value
  pub is : text ≡ spell_value value ++ rest
  pub size : n ≡ length (spell_value value)

-- a name, `=` and a value
pub record BeginsAttribute (s : Syntax) (text : List ℕ) (n : ℕ) : Type 0 where
  pub name : List ℕ
  pub value : Value
  pub rest : List ℕ
  pub named : is_name_of s.names name ≡ true
  pub short : too_long s (length name) ≡ false
  pub stands : ValueStands s value
  pub quick : IsQuickValue s value
  pub is : text ≡ name ++ 61 ∷ (spell_value value ++ rest)
  pub size : n ≡ length name + (1 + length (spell_value value))

-- a specification, with separators before it
pub record BeginsSpecification (s : Syntax) (text : List ℕ) (n : ℕ) : Type 0 where
  pub specification : Specification
  pub rest : List ℕ
  pub gap : has_bytes (gap_of specification) ≡ true
  pub stands : Stands s specification
  pub quick : IsQuick s specification
  pub is : text ≡ spell specification ++ rest
  pub size : n ≡ length (spell specification)

-- specifications and TAGC
pub record EndsQuickly (s : Syntax) (text : List ℕ) (n : ℕ) : Type 0 where
  pub specifications : List Specification
  pub rest : List ℕ
  pub stand : AllStand s false specifications
  pub quick : AllQuick s specifications
  pub is : text ≡ spell_all specifications ++ 62 ∷ rest
  pub size : n ≡ length (spell_all specifications) + 1

-- a name, in a start-tag specifications, and TAGC
pub record IsQuickTag (s : Syntax) (closing : Bool) (text : List ℕ) (n : ℕ) : Type 0 where
  pub name : List ℕ
  pub after : List ℕ
  pub size : ℕ
  pub named : list_all (is_name_character s.names) name ≡ true
  pub some : has_bytes name ≡ true
  pub short : too_long s (length name) ≡ false
  pub ends : EndsQuickly s after size
  pub alone : closing ≡ true → ends.specifications ≡ []
  pub is : text ≡ name ++ after
  pub adds : n ≡ length name + size

abbrev pub tag_form : Bool → Form
tag_form closing = if closing then form.EndTag else form.StartTag

abbrev pub tag_kind : Bool → TokenKind
tag_kind closing = if closing then kind.EndTag else kind.StartTag

-- a whole tag of so many bytes
pub record IsQuickMarkup (s : Syntax) (closing : Bool) (text : List ℕ) (n : ℕ) : Type 0 where
  pub after : ℕ
  pub sgml : list_all is_sgml_character (take (before (tag_form closing)) text) ≡ true
  pub tag : IsQuickTag s closing (drop (before (tag_form closing)) text) after
  pub adds : n ≡ before (tag_form closing) + after
