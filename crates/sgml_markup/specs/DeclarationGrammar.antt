-- A declaration up to its end, as the standard has it (10): literals (10.1.2), comments (10.3), names
-- (9.3) and other bytes, and then what ends it.
use Rattle.std.specs.Prelude.{◌≡◌, ℕ, ◌+◌, Bool, true, false, not, List, [], ◌∷◌, ◌++◌, ◌==◌, length}
use Rattle.std.specs.List.{list_all}
use Rattle.sgml_text.specs.declared.name_set.NameSet.{NameSet}
use Rattle.sgml_text.specs.NameCharacters.{is_name_character}
use Rattle.sgml_delim.specs.declared.ends.Ender.{Ender}
use Rattle.sgml_delim.specs.Ends.{ends_declaration}
use Rattle.sgml_text.specs.Characters.{is_quote}
use Rattle.sgml_markup.specs.CommentGrammar.{begins_minus, has_com}

-- a part of a declaration's text
pub data DeclarationItem : Type 0 where
  -- a literal, with its quote
  Quoted : ℕ → List ℕ → DeclarationItem
  -- a comment with this text
  Commented : List ℕ → DeclarationItem
  -- a name, a number or a name token: its first character, and the others
  Word : ℕ → List ℕ → DeclarationItem
  -- one `-`
  Lone : DeclarationItem
  -- any other byte
  Byte : ℕ → DeclarationItem

abbrev pub spell : DeclarationItem → List ℕ
spell (Quoted q text) = q ∷ (text ++ q ∷ [])
spell (Commented text) = 45 ∷ 45 ∷ (text ++ 45 ∷ 45 ∷ [])
spell (Word b more) = b ∷ more
spell Lone = 45 ∷ []
spell (Byte b) = b ∷ []

abbrev pub spell_all : List DeclarationItem → List ℕ
spell_all [] = []
spell_all (item ∷ items) = spell item ++ spell_all items

abbrev pub begins_name : NameSet → List ℕ → Bool
begins_name names [] = false
begins_name names (b ∷ bytes) = is_name_character names b

-- A literal doesn't have its quote in it; a comment ends with the first COM after the one that begins
-- it; a word has name characters, and begins with none that is `-`; any other byte is none of these,
-- and ends no declaration.
abbrev pub Stands : NameSet → Ender → DeclarationItem → Type 0
Stands names ender (Quoted q text) = (is_quote q ≡ true) × (list_all (λ b. not (b == q)) text ≡ true)
Stands names ender (Commented text) = has_com (text ++ 45 ∷ []) ≡ false
Stands names ender (Word b more) =
    ((b == 45) ≡ false) × (is_name_character names b ≡ true) × (list_all (is_name_character names) more ≡ true)
Stands names ender Lone = Unit {0}
Stands names ender (Byte b) =
    (is_quote b ≡ false) × ((b == 45) ≡ false)
    × (is_name_character names b ≡ false) × (ends_declaration ender b ≡ false)

-- a word is as long as can be, and a single `-` is not the first of two
abbrev pub MayPrecede : NameSet → DeclarationItem → List ℕ → Type 0
MayPrecede names (Word b more) rest = begins_name names rest ≡ false
MayPrecede names Lone rest = begins_minus rest ≡ false
MayPrecede names _ rest = Unit {0}

abbrev pub AllStand : NameSet → Ender → List DeclarationItem → List ℕ → Type 0
AllStand names ender [] rest = Unit {0}
AllStand names ender (item ∷ items) rest =
    Stands names ender item × MayPrecede names item (spell_all items ++ rest) × AllStand names ender items rest

-- the first n bytes are the text of a declaration, and what ends it
pub record SpellsDeclaration (names : NameSet) (ender : Ender) (bytes : List ℕ) (n : ℕ) : Type 0 where
  pub items : List DeclarationItem
  pub last : ℕ
  pub more : List ℕ
  pub stand : AllStand names ender items (last ∷ more)
  pub is : bytes ≡ spell_all items ++ last ∷ more
  pub ends : ends_declaration ender last ≡ true
  pub size : n ≡ length (spell_all items) + 1
