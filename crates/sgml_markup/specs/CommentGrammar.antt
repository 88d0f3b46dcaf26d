-- The text of a comment declaration, as the standard has it (10.3): comments, and separators between them.
use Rattle.std.specs.Prelude.{◌≡◌, ℕ, Bool, true, false, List, [], ◌∷◌, ◌++◌, ◌==◌, ◌&&◌, ◌||◌}
use Rattle.sgml_text.specs.Characters.{is_separator}

abbrev pub begins_minus : List ℕ → Bool
begins_minus [] = false
begins_minus (b ∷ bytes) = b == 45

-- whether COM, which is `--`, stands somewhere in a text
abbrev pub has_com : List ℕ → Bool
has_com [] = false
has_com (b ∷ bytes) = ((b == 45) && begins_minus bytes) || has_com bytes

pub data CommentPart : Type 0 where
  -- this separator
  Separator : ℕ → CommentPart
  -- a comment with this text
  Commented : List ℕ → CommentPart

abbrev pub spell : CommentPart → List ℕ
spell (Separator b) = b ∷ []
spell (Commented text) = 45 ∷ 45 ∷ (text ++ 45 ∷ 45 ∷ [])

abbrev pub spell_all : List CommentPart → List ℕ
spell_all [] = []
spell_all (part ∷ parts) = spell part ++ spell_all parts

-- a comment ends with the first COM after the one that begins it
abbrev pub Stands : CommentPart → Type 0
Stands (Separator b) = is_separator b ≡ true
Stands (Commented text) = has_com (text ++ 45 ∷ []) ≡ false

abbrev pub AllStand : List CommentPart → Type 0
AllStand [] = Unit {0}
AllStand (part ∷ parts) = Stands part × AllStand parts

-- the text is comments and separators
pub record SpellsComments (bytes : List ℕ) : Type 0 where
  pub parts : List CommentPart
  pub stand : AllStand parts
  pub is : bytes ≡ spell_all parts
