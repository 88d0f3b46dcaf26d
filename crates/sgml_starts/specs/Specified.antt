-- WHAT A START-TAG SPECIFIES: the units of each value, with the references of literals replaced (7.9.3).
use Rattle.std.specs.Prelude.{ℕ, ◌+◌, true, List, [], ◌∷◌, ◌++◌, Option, Some, None, Result, Ok, Err, take, drop}
use Rattle.sgml_text.specs.Units.{characters}
use Rattle.sgml_text.specs.declared.unit.Unit.{Unit as AnyUnit}
use Rattle.sgml_syntax.specs.declared.syntax.Syntax.{Syntax}
use Rattle.sgml_entity.specs.Entities.{Tables}
use Rattle.sgml_entity.specs.Stack.{Stack, offset_of, moved_to}
use Rattle.sgml_attr.specs.declared.definition.Spec.{Spec}
use Rattle.sgml_decl_lexemes.specs.decl_parts.declared.ends.Construct.TheVariants.{Literal}
use Rattle.sgml_decl_lexemes.specs.declared.lexeme.Lexeme.{Lexeme}
use Rattle.sgml_decl_lexemes.specs.declared.fault.LexError.{LexError}
use Rattle.sgml_decl_lexemes.specs.declared.fault.LexError.TheVariants as lex
use Rattle.sgml_decl_lexemes.specs.Sources.{text_at, or_empty}
use Rattle.sgml_decl_lexemes.specs.Readings.{entity_of, value_of}
use Rattle.sgml_decl_lexemes.specs.Declares.{asked}
use Rattle.sgml_decl_lexemes.specs.Reads.{answer}
use Rattle.sgml_starts.specs.declared.error.StartError.{StartError}
use Rattle.sgml_starts.specs.declared.error.StartError.TheVariants as error
use Rattle.sgml_starts.specs.Written.{Written, Spelled, Quoted, Bare, written}

-- with what a tag is read, at the top of the stack
pub record Input : Type 0 where
  pub syntax : Syntax
  pub tables : Tables
  pub texts : List (ℕ × List ℕ)
  pub stack : Stack

-- what is unread there, and a tag of so many bytes
abbrev pub rest : Input → List ℕ
rest I = drop (offset_of I.stack.places) (or_empty (text_at I.tables.entities I.texts (entity_of I.stack.places)))

abbrev pub tag_of : Input → ℕ → List ℕ
tag_of I n = take n (rest I)

-- the stack at a place of the tag, when texts of this length together have been opened
abbrev pub stack_at : Input → ℕ → ℕ → Stack
stack_at I from spent = record I.stack { spent = spent; places = moved_to (offset_of I.stack.places + from) I.stack.places }

-- why a literal can't be read; its text is whole, so that more of it is never wanted
abbrev pub error_of : LexError → StartError
error_of (lex.Refused r) = error.Refused r
error_of (lex.Wanted n) = error.Wanted n
error_of lex.NeedMore = error.Memory
error_of lex.Memory = error.Memory

-- The specifications up to the first whose literal can't be read, why that can't, and how long all texts
-- together are that have been opened.
pub record Specified : Type 0 where
  pub specs : List Spec
  pub stop : Option StartError
  pub spent : ℕ

abbrev pub specified_as : Option (List ℕ) → List AnyUnit → Specified → Specified
specified_as name units more = record more { specs = record { name = name; value = units } ∷ more.specs }

abbrev pub with_literal : Option (List ℕ) → ℕ → (ℕ → Specified) → Result (List Lexeme) LexError × Stack → Specified
with_literal name spent more (Ok ds, after) = specified_as name (value_of ds) (more after.spent)
with_literal name spent more (Err e, after) = record { specs = []; stop = Some (error_of e); spent = spent }

abbrev pub with_value : Input → Option (List ℕ) → ℕ → (ℕ → Specified) → Spelled → Specified
with_value I name spent more (Bare bytes) = specified_as name (characters bytes) (more spent)
with_value I name spent more (Quoted quote from) =
    with_literal name spent more (answer (asked (Literal quote) I.syntax I.tables I.texts (stack_at I from spent) true))

abbrev pub specified_from : Input → ℕ → List Written → Specified
specified_from I spent [] = record { specs = []; stop = None; spent = spent }
specified_from I spent (w ∷ ws) = with_value I w.name spent (λ n. specified_from I n ws) w.value

-- A tag of so many bytes specifies what is written in it. Where there is no tag, nothing is specified.
abbrev pub specified : Input → Option ℕ → Specified
specified I None = record { specs = []; stop = None; spent = I.stack.spent }
specified I (Some n) = specified_from I I.stack.spent (written I.syntax (tag_of I n))
