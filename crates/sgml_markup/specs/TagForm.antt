-- The form of a tag, as the standard has it (7.4, 7.5, 7.9): the delimiter that begins it, a name, in a
-- start-tag attribute specifications, separators, and what closes it.
use Rattle.std.specs.Prelude.{◌≡◌, ℕ, ◌+◌, Bool, true, false, List, [], ◌∷◌, ◌++◌, ◌||◌, ◌==◌, not, ◌⊎◌, length}
use Rattle.std.specs.List.{list_all}
use Rattle.sgml_text.specs.declared.name_set.NameSet.{NameSet}
use Rattle.sgml_text.specs.NameCharacters.{is_name_character, is_name_of}
use Rattle.sgml_syntax.specs.declared.syntax.Syntax.{Syntax}
use Rattle.sgml_markup.specs.declared.kinds.Part.{Part}
use Rattle.sgml_markup.specs.declared.kinds.PartKind.TheVariants as part
use Rattle.sgml_text.specs.Characters.{is_separator, is_quote}

-- a value (7.9.3)
pub data Value : Type 0 where
  -- a literal, with its quote
  Quoted : (q : ℕ) → (text : List ℕ) → Value
  -- without quotes
  Unquoted : (token : List ℕ) → Value

-- an attribute specification, with the separators before it (7.9.1)
pub data Specification : Type 0 where
  -- a name, `=` and a value, with separators before and after the `=`
  Named : (gap name before after : List ℕ) → (value : Value) → Specification
  -- a value alone (7.9.1.2)
  Alone : (gap token : List ℕ) → Specification

abbrev pub spell_value : Value → List ℕ
spell_value (Quoted q text) = q ∷ (text ++ q ∷ [])
spell_value (Unquoted token) = token

abbrev pub gap_of : Specification → List ℕ
gap_of (Named gap name before after value) = gap
gap_of (Alone gap token) = gap

abbrev pub content_of : Specification → List ℕ
content_of (Named gap name before after value) = name ++ (before ++ 61 ∷ (after ++ spell_value value))
content_of (Alone gap token) = token

abbrev pub spell : Specification → List ℕ
spell x = gap_of x ++ content_of x

abbrev pub spell_all : List Specification → List ℕ
spell_all [] = []
spell_all (x ∷ xs) = spell x ++ spell_all xs

abbrev pub has_bytes : List ℕ → Bool
has_bytes [] = false
has_bytes (b ∷ bytes) = true

-- one or more name characters
abbrev pub is_token : NameSet → List ℕ → Bool
is_token names [] = false
is_token names (b ∷ bytes) = list_all (is_name_character names) (b ∷ bytes)

abbrev pub AreSeparators : List ℕ → Type 0
AreSeparators bytes = list_all is_separator bytes ≡ true

-- A literal doesn't have its quote in it. A value without quotes, or alone, is name characters, and
-- stands only where SHORTTAG is YES (7.9.1.2, 7.9.3.1).
abbrev pub ValueStands : Syntax → Value → Type 0
ValueStands s (Quoted q text) = (is_quote q ≡ true) × (list_all (λ b. not (b == q)) text ≡ true)
ValueStands s (Unquoted token) = (is_token s.names token ≡ true) × (s.shorttag ≡ true)

abbrev pub Stands : Syntax → Specification → Type 0
Stands s (Named gap name before after value) =
    AreSeparators gap × (is_name_of s.names name ≡ true)
    × AreSeparators before × AreSeparators after × ValueStands s value
Stands s (Alone gap token) = AreSeparators gap × (is_token s.names token ≡ true) × (s.shorttag ≡ true)

abbrev pub is_quoted : Value → Bool
is_quoted (Quoted q text) = true
is_quoted (Unquoted token) = false

abbrev pub ends_quoted : Specification → Bool
ends_quoted (Named gap name before after value) = is_quoted value
ends_quoted (Alone gap token) = false

-- A separator stands before a specification, but directly after a literal none need stand.
abbrev pub AllStand : Syntax → Bool → List Specification → Type 0
AllStand s after_literal [] = Unit {0}
AllStand s after_literal (x ∷ xs) =
    ((after_literal || has_bytes (gap_of x)) ≡ true) × Stands s x × AllStand s (ends_quoted x) xs

-- TAGC (7.4), NET (7.4.1.3), or nothing where the tag is unclosed (7.4.1.2, 7.5.1.2)
abbrev pub IsClose : List ℕ → Type 0
IsClose close = (close ≡ 62 ∷ []) ⊎ ((close ≡ 47 ∷ []) ⊎ (close ≡ []))

-- The text of a tag between its delimiters: in an end-tag a name alone (7.5), in a start-tag also
-- specifications (7.4). That the name begins with a name start character is asked for where the
-- delimiter is recognised (9.6.2).
pub record SpellsBody (s : Syntax) (closing : Bool) (body : List ℕ) : Type 0 where
  pub name : List ℕ
  pub specifications : List Specification
  pub last : List ℕ
  pub named : list_all (is_name_character s.names) name ≡ true
  pub stand : AllStand s false specifications
  pub separators : AreSeparators last
  pub alone : closing ≡ true → specifications ≡ []
  pub is : body ≡ name ++ (spell_all specifications ++ last)

-- a whole tag, whose delimiter has so many bytes
pub record SpellsForm (s : Syntax) (closing : Bool) (start : ℕ) (markup : List ℕ) : Type 0 where
  pub delimiter : List ℕ
  pub text : List ℕ
  pub close : List ℕ
  pub body : SpellsBody s closing text
  pub begins : length delimiter ≡ start
  pub closes : IsClose close
  pub is : markup ≡ delimiter ++ (text ++ close)

-- where parts are: names and values, a literal without its quotes
abbrev pub place_of : Value → ℕ → Part
place_of (Quoted q text) at = record { kind = part.Quoted; from = at + 1; to = at + 1 + length text }
place_of (Unquoted token) at = record { kind = part.Bare; from = at; to = at + length token }

-- of a specification whose separators end at a place
abbrev pub places_of : Specification → ℕ → List Part
places_of (Named gap name before after value) at =
    let to = at + length name in
    record { kind = part.AttributeName; from = at; to = to }
    ∷ place_of value (to + length before + 1 + length after) ∷ []
places_of (Alone gap token) at = record { kind = part.Bare; from = at; to = at + length token } ∷ []

abbrev pub places : List Specification → ℕ → List Part
places [] at = []
places (x ∷ xs) at = places_of x (at + length (gap_of x)) ++ places xs (at + length (spell x))

-- the parts of a tag's text that begins at a place
abbrev pub body_places : {s : Syntax} {closing : Bool} {body : List ℕ} → SpellsBody s closing body → ℕ → List Part
body_places h at =
    record { kind = part.ElementName; from = at; to = at + length h.name }
    ∷ places h.specifications (at + length h.name)
