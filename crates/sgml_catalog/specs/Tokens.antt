-- The tokens of a catalog (TR9401).
use Rattle.std.specs.Prelude.{ℕ, Bool, true, false, ◌≡◌, ◌<◌, ◌==◌, ◌+◌, not, List, [], ◌∷◌, Option, Some, None, take, drop, position, if◌then◌else◌}
use Rattle.std.specs.List.{prefix_len}
use Rattle.std.specs.Option.{option_map}
use Rattle.sgml_text.specs.Characters.{is_separator, is_quote}
use Rattle.sgml_catalog.specs.declared.token.Token.{Token}
use Rattle.sgml_catalog.specs.declared.token.End.{End}
use Rattle.sgml_catalog.specs.declared.item.Item.{Item}
use Rattle.sgml_catalog.specs.declared.item.Item.TheVariants.{Over, Blank, Literal, Word, Unended}

-- `--`, which begins and ends a comment
abbrev pub begins_comment : List ℕ → Bool
begins_comment (a ∷ b ∷ bs) = if a == 45 then b == 45 else false
begins_comment bs = false

-- how many bytes stand before the first `--`
abbrev pub before_dashes : List ℕ → Option ℕ
before_dashes [] = None
before_dashes (b ∷ bs) = if begins_comment (b ∷ bs) then Some 0 else option_map (λ n. n + 1) (before_dashes bs)

-- The same in other words: `--` stands behind so many bytes, and nowhere before.
pub record IsFirst (n : ℕ) (text : List ℕ) : Type 0 where
  pub there : begins_comment (drop n text) ≡ true
  pub before : (k : ℕ) → k < n → begins_comment (drop k text) ≡ false

-- a comment of this many bytes between its `--`, if it ends
abbrev pub comment_of : Option ℕ → Item
comment_of None = Unended
comment_of (Some n) = Blank (n + 4)

-- a literal of this many bytes between its quotes, if it ends
abbrev pub literal_of : Option ℕ → Item
literal_of None = Unended
literal_of (Some n) = Literal n

-- What stands first. A separator or a comment parts tokens. A literal ends with the quote with which it begins. A word goes up to the
-- next separator.
abbrev pub item_of : List ℕ → Item
item_of [] = Over
item_of (b ∷ bs) =
    if is_separator b then Blank 1
    else if begins_comment (b ∷ bs) then comment_of (before_dashes (drop 1 bs))
    else if is_quote b then literal_of (position (λ x. x == b) bs)
    else Word (prefix_len (λ x. not (is_separator x)) (b ∷ bs))

-- a literal, whose text stands between its quotes
abbrev pub literal_at : ℕ → ℕ → List ℕ → Token
literal_at at n text = record { at = at; quoted = true; text = take n (drop 1 text) }

abbrev pub word_at : ℕ → ℕ → List ℕ → Token
word_at at n text = record { at = at; quoted = false; text = take n text }

-- the end of the text, or the place of a literal or comment that doesn't end
abbrev pub end_at : ℕ → Bool → End
end_at at whole = record { at = at; is_whole = whole }

-- From this place on the text spells these tokens, and ends so.
pub data Spells : ℕ → List ℕ → List Token → End → Type 0 where
  over : (at : ℕ) (text : List ℕ) → item_of text ≡ Over → Spells at text [] (end_at at true)
  unended : (at : ℕ) (text : List ℕ) → item_of text ≡ Unended → Spells at text [] (end_at at false)
  blank : (at n : ℕ) (text : List ℕ) (ts : List Token) (e : End) → item_of text ≡ Blank n → Spells (at + n) (drop n text) ts e → Spells at text ts e
  literal : (at n : ℕ) (text : List ℕ) (ts : List Token) (e : End) → item_of text ≡ Literal n → Spells (at + (n + 2)) (drop (n + 2) text) ts e → Spells at text (literal_at at n text ∷ ts) e
  word : (at n : ℕ) (text : List ℕ) (ts : List Token) (e : End) → item_of text ≡ Word n → Spells (at + n) (drop n text) ts e → Spells at text (word_at at n text ∷ ts) e
