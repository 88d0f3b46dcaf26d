-- An end that is found at one look: what stands before it are SGML characters, with literals, and with
-- comments after separators.
use Rattle.std.specs.Prelude.{ℕ, zero, suc, Bool, true, false, not, ◌≡◌, ◌+◌, ◌==◌, ◌&&◌, ◌||◌, List, [], ◌∷◌, take, drop}
use Rattle.std.specs.List.{list_all}
use Rattle.sgml_text.specs.Characters.{is_quote, is_separator, is_sgml_character, all_sgml}
use Rattle.sgml_text.specs.declared.name_set.NameSet.{NameSet}
use Rattle.sgml_decl_parts.specs.sgml_delim.declared.ends.Inside.{Inside}
use Rattle.sgml_decl_parts.specs.sgml_delim.declared.ends.Inside.TheVariants as inside
use Rattle.sgml_decl_parts.specs.sgml_delim.declared.ends.Ender.{Ender}
use Rattle.sgml_decl_parts.specs.sgml_delim.Ends.{later, end_after}
use Rattle.sgml_decl_parts.specs.Bytes.{begins_with}
use Rattle.sgml_decl_parts.specs.Ends.{before}
use Rattle.sgml_decl_parts.specs.declared.ends.Construct.{Construct}
use Rattle.sgml_decl_parts.specs.declared.ends.Construct.TheVariants as construct

-- SGML characters other than LIT, LITA, `-`, MDC and DSO
abbrev pub is_quiet : ℕ → Bool
is_quiet b = is_sgml_character b && not (is_quote b || (b == 45) || (b == 62) || (b == 91))

abbrev pub is_ended : Construct → List ℕ → Bool
is_ended construct.Declaration bytes = begins_with 62 bytes
is_ended construct.SectionStart bytes = begins_with 91 bytes
is_ended construct.SubsetEnd bytes = begins_with 62 bytes
is_ended (construct.Literal quote) bytes = false

-- neither in a literal nor in a comment, and not after one `-`
abbrev pub is_calm : Inside → Bool
is_calm inside.Between = true
is_calm inside.Name = true
is_calm _ = false

abbrev pub begins_gap : List ℕ → Bool
begins_gap [] = false
begins_gap (b ∷ bytes) = is_separator b

-- none of the bytes, or so many, of which the last is a separator
abbrev pub is_gap : ℕ → List ℕ → Bool
is_gap zero bytes = true
is_gap (suc n) bytes = begins_gap (drop n bytes)

-- so many bytes are SGML characters, and the end comes after them as if reading began there
pub record Calm (bytes : List ℕ) (size : ℕ) : Type 0 where
  pub sgml : all_sgml (take size bytes) ≡ true
  pub stands : NameSet → Inside
  pub calm : (names : NameSet) → is_calm (stands names) ≡ true
  pub gap : is_gap size bytes ≡ true → (names : NameSet) → stands names ≡ inside.Between
  pub found : (names : NameSet) (e : Ender) → end_after names e inside.Between bytes ≡ later size (end_after names e (stands names) (drop size bytes))

-- a byte of a comment
abbrev pub is_commented : ℕ → Bool
is_commented b = is_sgml_character b && not (b == 45)

-- a comment of so many bytes, with no `-` in it
pub record IsComment (bytes : List ℕ) (size : ℕ) : Type 0 where
  pub text : ℕ
  pub first : begins_with 45 bytes ≡ true
  pub second : begins_with 45 (drop 1 bytes) ≡ true
  pub commented : list_all is_commented (take text (drop 2 bytes)) ≡ true
  pub third : begins_with 45 (drop text (drop 2 bytes)) ≡ true
  pub fourth : begins_with 45 (drop (text + 1) (drop 2 bytes)) ≡ true
  pub size_is : size ≡ text + 4

-- a byte of a literal that is begun by this quote
abbrev pub is_quoted : ℕ → ℕ → Bool
is_quoted quote b = is_sgml_character b && not (b == quote)

-- a literal of so many bytes
pub record IsLiteral (bytes : List ℕ) (size : ℕ) : Type 0 where
  pub text : ℕ
  pub quote : ℕ
  pub quote_is : is_quote quote ≡ true
  pub first : begins_with quote bytes ≡ true
  pub quoted : list_all (is_quoted quote) (take text (drop 1 bytes)) ≡ true
  pub last : begins_with quote (drop text (drop 1 bytes)) ≡ true
  pub size_is : size ≡ text + 2

-- calm bytes stand before the end, which is the last of so many bytes
pub record IsQuietEnd (c : Construct) (bytes : List ℕ) (size : ℕ) : Type 0 where
  pub run : ℕ
  pub front : all_sgml (take (before c) bytes) ≡ true
  pub calm : Calm (drop (before c) bytes) run
  pub ended : is_ended c (drop run (drop (before c) bytes)) ≡ true
  pub size_is : size ≡ before c + run + 1
