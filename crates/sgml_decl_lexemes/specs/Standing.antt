-- Where what is read stands on the stack, and where the stack stands after it.
use Rattle.std.specs.Prelude.{◌≡◌, ℕ, true, List, length, Ok, None}
use Rattle.sgml_entity.specs.Stack.{Stack, moved_to}
use Rattle.sgml_entity.specs.Texts.{text_of}
use Rattle.sgml_decl_parts.specs.declared.part.Part.{Part}
use Rattle.sgml_decl_lexemes.specs.declared.lexeme.Lexeme.{Lexeme}
use Rattle.sgml_decl_lexemes.specs.Sources.{Source, without}
use Rattle.sgml_decl_lexemes.specs.Readings.{OnTop}
use Rattle.sgml_decl_lexemes.specs.Declares.{Asked, Whole, own, source, is_asked, Answers, StandsAfter, StandsAtStart, HasLexemes, ReadsParts, state}

-- LAW: What is asked, with its own text all there, is read from where it begins.
abbrev pub AskedStandsAtStart : Type 0
AskedStandsAtStart = (q : Asked) (text : List ℕ) → is_asked q ≡ true → own q ≡ Whole text → StandsAtStart (source q text) q.stack

-- LAW: All that is read stands on the stack on which reading began.
abbrev pub ReadStandsOnTop : Type 0
ReadStandsOnTop = (I : Source) (s : Stack) (parts : List Part) → StandsAtStart I s → ReadsParts I s parts → OnTop s (state I s parts).stack

-- LAW: After it the stack stands at the end of its own text,
abbrev pub ReadEndsWithText : Type 0
ReadEndsWithText =
    (I : Source) (s : Stack) (ds : List Lexeme) (after : Stack) → StandsAtStart I s → HasLexemes I s ds after
    → after.places ≡ moved_to (length I.own) s.places

-- directly after what was asked.
abbrev pub AnsweredStandsAfter : Type 0
AnsweredStandsAfter = (q : Asked) (ds : List Lexeme) (after : Stack) → is_asked q ≡ true → Answers q (Ok ds) after → StandsAfter q after

-- LAW: Of the texts without one all others are left.
abbrev pub ThatOneIsGone : Type 0
ThatOneIsGone = (entity : ℕ) (texts : List (ℕ × List ℕ)) → text_of (without entity texts) entity ≡ None

abbrev pub OthersAreLeft : Type 0
OthersAreLeft = (entity n : ℕ) (texts : List (ℕ × List ℕ)) → (n ≡ entity → ⊥) → text_of (without entity texts) n ≡ text_of texts n
