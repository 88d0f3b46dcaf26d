-- The start of a marked section with one keyword between separators (10.4.2), which is read without
-- a walk over its parts.
use Rattle.std.specs.Prelude.{ℕ, Bool, true, ◌+◌, ◌<◌, ◌≡◌, List, [], ◌∷◌, ◌++◌, length, take, drop, Ok}
use Rattle.std.specs.List.{list_all}
use Rattle.sgml_text.specs.Characters.{is_letter, is_separator}
use Rattle.sgml_decl_parts.specs.sgml_delim.declared.delim.Delim.TheVariants.{Dso}
use Rattle.sgml_decl_parts.specs.Bytes.{begins_with}
use Rattle.sgml_decl_parts.specs.declared.ends.Construct.TheVariants.{SectionStart}
use Rattle.sgml_decl_lexemes.specs.declared.lexeme.Lexeme.{Lexeme}
use Rattle.sgml_decl_lexemes.specs.declared.lexeme.Lexeme.TheVariants.{Name, Sign}
use Rattle.sgml_decl_lexemes.specs.declared.start.PlainStart.{PlainStart}
use Rattle.sgml_decl_lexemes.specs.Readings.{advanced}
use Rattle.sgml_decl_lexemes.specs.Declares.{Asked, rest, is_asked, Answers}

abbrev pub are_separators : List ℕ → Bool
are_separators bytes = list_all is_separator bytes

abbrev pub are_letters : List ℕ → Bool
are_letters bytes = list_all is_letter bytes

-- after `<![` separators, a word of letters, separators, and DSO
pub record IsPlainStart (bytes : List ℕ) (start : PlainStart) : Type 0 where
  pub gap : are_separators (take start.gap bytes) ≡ true
  pub some : 0 < start.word
  pub word : are_letters (take start.word (drop start.gap bytes)) ≡ true
  pub space : are_separators (take start.space (drop start.word (drop start.gap bytes))) ≡ true
  pub dso : begins_with 91 (drop start.space (drop start.word (drop start.gap bytes))) ≡ true

-- LAW: A section start with one word of letters between separators is that word and DSO.
abbrev pub one_keyword : List ℕ → List Lexeme
one_keyword word = Name word ∷ Sign Dso ∷ []

abbrev pub PlainStarts : Type 0
PlainStarts =
    (q : Asked) (gap word space more : List ℕ) → q.construct ≡ SectionStart → is_asked q ≡ true
    → drop 3 (rest q) ≡ gap ++ (word ++ (space ++ (91 ∷ more)))
    → are_separators gap ≡ true → are_letters word ≡ true → 0 < length word → are_separators space ≡ true
    → Answers q (Ok (one_keyword word)) (advanced (3 + length gap + length word + length space + 1) q.stack)
