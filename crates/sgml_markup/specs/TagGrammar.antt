-- A tag up to its end, as the standard has it (7.4, 7.5, 7.9.3): literals and other bytes, and then
-- what ends it.
use Rattle.std.specs.Prelude.{◌≡◌, ℕ, ◌+◌, Bool, true, false, not, List, [], ◌∷◌, ◌++◌, ◌==◌, length, MatchBool}
use Rattle.std.specs.List.{list_all}
use Rattle.sgml_markup.specs.Ends.{ends_with, ends_before}
use Rattle.sgml_text.specs.Characters.{is_quote}

-- a part of a tag's text
pub data TagItem : Type 0 where
  -- this byte
  Byte : ℕ → TagItem
  -- a literal, with its quote
  Quoted : ℕ → List ℕ → TagItem

abbrev pub spell : TagItem → List ℕ
spell (Byte b) = b ∷ []
spell (Quoted q text) = q ∷ (text ++ q ∷ [])

abbrev pub spell_all : List TagItem → List ℕ
spell_all [] = []
spell_all (item ∷ items) = spell item ++ spell_all items

-- a byte outside literals begins none and ends no tag; a literal doesn't have its quote in it
abbrev pub Stands : Bool → TagItem → Type 0
Stands shorttag (Byte b) = (is_quote b ≡ false) × (ends_with shorttag b ≡ false) × (ends_before shorttag b ≡ false)
Stands shorttag (Quoted q text) = (is_quote q ≡ true) × (list_all (λ b. not (b == q)) text ≡ true)

abbrev pub AllStand : Bool → List TagItem → Type 0
AllStand shorttag [] = Unit {0}
AllStand shorttag (item ∷ items) = Stands shorttag item × AllStand shorttag items

-- The first n bytes are the text of a tag with `>` (where SHORTTAG is YES also `/`) as its end, or, where
-- SHORTTAG is YES, the text of a tag that ends before `<`.
pub record SpellsTag (shorttag : Bool) (bytes : List ℕ) (n : ℕ) : Type 0 where
  pub items : List TagItem
  pub last : ℕ
  pub more : List ℕ
  pub stand : AllStand shorttag items
  pub is : bytes ≡ spell_all items ++ last ∷ more
  pub unquoted : is_quote last ≡ false
  pub ends :
      MatchBool (ends_with shorttag last) (n ≡ length (spell_all items) + 1)
      ((ends_before shorttag last ≡ true) × (n ≡ length (spell_all items)))
