-- WHAT A START-TAG SPECIFIES, as its literals are answered and as they are spelled.
use Rattle.std.specs.Prelude.{◌≡◌, ℕ, ◌-◌, true, List, [], ◌∷◌, ◌++◌, Option, Some, None, Result, Ok, Err, slice_index_or}
use Rattle.sgml_starts.specs.text.declared.reason.Reason.{Reason}
use Rattle.sgml_starts.specs.markup.declared.kinds.Part.{Part}
use Rattle.sgml_starts.specs.markup.declared.kinds.PartKind.TheVariants as part
use Rattle.sgml_starts.specs.markup.Tags.{bytes_of}
use Rattle.sgml_starts.specs.markup.Forms.{parts_of_tag}
use Rattle.sgml_starts.specs.entity.Stack.{Stack}
use Rattle.sgml_starts.specs.decl_parts.declared.ends.Construct.TheVariants.{Literal}
use Rattle.sgml_starts.specs.decl_lexemes.declared.lexeme.Lexeme.{Lexeme}
use Rattle.sgml_starts.specs.decl_lexemes.declared.fault.LexError.{LexError}
use Rattle.sgml_starts.specs.decl_lexemes.declared.fault.LexError.TheVariants as lex
use Rattle.sgml_starts.specs.decl_lexemes.Declares.{Asked, asked}
use Rattle.sgml_starts.specs.decl_lexemes.Reads.{answer}
use Rattle.sgml_starts.specs.dtd.Doctypes.{Doctype}
use Rattle.sgml_starts.specs.declared.error.StartError.{StartError}
use Rattle.sgml_starts.specs.declared.error.StartError.TheVariants as error
use Rattle.sgml_starts.specs.Specified.{Input, Specified, stack_at, tag_of, specified}
use Rattle.sgml_declared.specs.theory_reading.Names.{Name, Text}
use Rattle.sgml_declared.specs.theory_reading.Unread.{Outside}
use Rattle.sgml_declared.specs.theory_spelling.Stacked.{Stacked}
use Rattle.sgml_declared.specs.theory_spelling.Declared.{Lexed, lexed}
use Rattle.sgml_declared.specs.theory_spelling.Tags.{Specifications, with_spent, element_of, specifications_of}
use Rattle.sgml_theory_starts.specs.Starts.{AreThoseRead, AreBegun}

-- THE LITERAL of a part, when texts of this length together have been opened: what its reader is asked, and how it
-- is spelled
abbrev pub quote_before : Text → Part → ℕ
quote_before tag x = slice_index_or tag (x.from - 1) 0

abbrev pub literal_asked : Input → ℕ → Text → Part → Asked
literal_asked I spent tag x =
    asked (Literal (quote_before tag x)) I.syntax I.tables I.texts (stack_at I x.from spent) true

abbrev pub literal_bytes : Text → Part → Text
literal_bytes tag x = bytes_of tag x ++ quote_before tag x ∷ []

abbrev pub literal_spelled : Outside → Doctype → Stacked → ℕ → Text → Part → Result Lexed Reason
literal_spelled outside d t spent tag x =
    lexed (Literal (quote_before tag x)) outside d (with_spent t spent) (literal_bytes tag x)

-- it is answered as it is spelled; where the text of an entity is wanted, it is spelled as it is where that text is
-- missing for some reason
abbrev pub IsAnsweredSo : (ℕ → Option Reason) → Result (List Lexeme) LexError × Stack → Result Lexed Reason → Type 0
IsAnsweredSo missing (Ok ds, after) spelled = spelled ≡ Ok (record { lexemes = ds; spent = after.spent })
IsAnsweredSo missing (Err (lex.Refused r), after) spelled = spelled ≡ Err r
IsAnsweredSo missing (Err (lex.Wanted entity), after) spelled = (r : Reason) → missing entity ≡ Some r → spelled ≡ Err r
IsAnsweredSo missing (Err lex.NeedMore, after) spelled = Unit {0}
IsAnsweredSo missing (Err lex.Memory, after) spelled = Unit {0}

abbrev pub IsReadSo : (ℕ → Option Reason) → Input → Outside → Doctype → Stacked → Text → Part → Type 0
IsReadSo missing I outside d t tag x =
    x.kind ≡ part.Quoted → (spent : ℕ)
    → IsAnsweredSo missing (answer (literal_asked I spent tag x)) (literal_spelled outside d t spent tag x)

-- each literal of a tag
abbrev pub AreReadSo : (ℕ → Option Reason) → Input → Outside → Doctype → Stacked → Text → List Part → Type 0
AreReadSo missing I outside d t tag [] = Unit {0}
AreReadSo missing I outside d t tag (x ∷ xs) = IsReadSo missing I outside d t tag x × AreReadSo missing I outside d t tag xs

-- WHAT A TAG SPECIFIES is what is spelled of it, and texts of the same length have been opened
pub record AreSpecified (d : Doctype) (n : Name) (read : Specified) (is : Specifications) : Type 0 where
  pub those : AreThoseRead d n read.specs read.stop is.specifications
  pub spent : read.stop ≡ None → read.spent ≡ is.spent

-- a literal is refused for this reason in place of what stopped its reading
abbrev pub refused_for : Reason → Specified → Specified
refused_for r read = record read { stop = Some (error.Refused r) }

-- by what stopped its reading; where a text is wanted, were that missing for some reason
abbrev pub AreSpecifiedSo : (ℕ → Option Reason) → Doctype → Name → Option StartError → Specified → Specifications → Type 0
AreSpecifiedSo missing d n None read is = AreSpecified d n read is
AreSpecifiedSo missing d n (Some (error.Refused r)) read is = AreSpecified d n read is
AreSpecifiedSo missing d n (Some (error.Wanted entity)) read is = (r : Reason) → missing entity ≡ Some r → AreSpecified d n (refused_for r read) is
AreSpecifiedSo missing d n (Some error.Memory) read is = Unit {0}

-- and those that were read stand first
pub record SpecifiesSo (missing : ℕ → Option Reason) (d : Doctype) (n : Name) (read : Specified) (is : Specifications) : Type 0 where
  pub begun : AreBegun d n read.specs is.specifications
  pub told : AreSpecifiedSo missing d n read.stop read is

-- each literal is answered as it is spelled
abbrev pub TagsAreRead : Type 0
TagsAreRead =
    (missing : ℕ → Option Reason) (I : Input) (outside : Outside) (d : Doctype) (t : Stacked) (size : ℕ)
    → I.syntax ≡ d.syntax → I.stack.spent ≡ t.spent
    → AreReadSo missing I outside d t (tag_of I size) (parts_of_tag d.syntax (tag_of I size))
    → SpecifiesSo missing d (element_of d (tag_of I size)) (specified I (Some size)) (specifications_of outside d t (tag_of I size))
