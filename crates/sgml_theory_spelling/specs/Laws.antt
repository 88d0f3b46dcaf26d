-- What holds of what is spelled.
use Rattle.std.specs.Prelude.{◌≡◌, ◌↔◌, ◌++◌, ℕ, ◌<◌, Bool, true, List, drop, length, Ok, Err}
use Rattle.sgml_scan.specs.delim.Answers.{MayFollow}
use Rattle.sgml_scan.specs.Decided.{IsDecided}
use Rattle.sgml_scan.specs.Decided.{token_decided}
use Rattle.sgml_scan.specs.text.declared.reason.Reason.{Reason}
use Rattle.sgml_scan.specs.syntax.declared.syntax.Syntax.{Syntax}
use Rattle.sgml_scan.specs.declared.classes.Run.{Run}
use Rattle.sgml_scan.specs.declared.state.ScanState.{ScanState}
use Rattle.sgml_scan.specs.declared.state.Scanned.{Scanned}
use Rattle.sgml_scan.specs.Classes.{run_kind}
use Rattle.sgml_scan.specs.Tokens.{IsScanned, IsStretch, token}
use Rattle.sgml_theory_reading.specs.entity.Stack.{Stack}
use Rattle.sgml_scan.specs.markup.declared.kinds.Form.TheVariants as form
use Rattle.sgml_scan.specs.delim.Ends.{later}
use Rattle.sgml_scan.specs.markup.Ends.{end_of}
use Rattle.sgml_theory_reading.specs.decl_parts.declared.ends.Construct.{Construct}
use Rattle.sgml_theory_reading.specs.decl_parts.Ends.{declaration_end}
use Rattle.sgml_theory_reading.specs.decl_lexemes.declared.lexeme.Lexeme.{Lexeme}
use Rattle.sgml_theory_reading.specs.decl_lexemes.declared.fault.Fault.TheVariants.{Refusing}
use Rattle.sgml_theory_reading.specs.decl_lexemes.Sources.{Source, unread}
use Rattle.sgml_theory_reading.specs.decl_lexemes.Readings.{EndsWithQuote}
use Rattle.sgml_theory_reading.specs.decl_lexemes.Declares.{HasLexemes, StopsBy}
use Rattle.sgml_theory_reading.specs.dtd.Doctypes.{Doctype}
use Rattle.sgml_theory_reading.specs.Unread.{Outside}
use Rattle.sgml_theory_spelling.specs.Stacked.{Stacked}
use Rattle.sgml_theory_spelling.specs.Tokens.{token_at}
use Rattle.sgml_theory_reading.specs.decl_lexemes.Alike.{StacksAlike, Extends}
use Rattle.sgml_theory_spelling.specs.Texts.{stack_of, source_of}
use Rattle.sgml_theory_spelling.specs.Declared.{lexed}

-- what is scanned of a whole text is the token there, unless it is a stretch
abbrev pub ScannedIsToken : Type 0
ScannedIsToken =
    (s : Syntax) (st : ScanState) (bytes : List ℕ) (scanned : Scanned) → ((r : Run) (n : ℕ) → scanned ≡ token (run_kind r) n → ⊥)
    → IsScanned s st true bytes scanned → token_at s st bytes ≡ scanned

-- each byte of a stretch is a token there
abbrev pub StretchIsTokens : Type 0
StretchIsTokens =
    (s : Syntax) (st : ScanState) (r : Run) (bytes : List ℕ) (n i : ℕ)
    → IsStretch s st true r bytes n → i < n → token_at s st (drop i bytes) ≡ token (run_kind r) 1

-- and so it is however the text goes on that was scanned
abbrev pub ScannedIsTokens : Type 0
ScannedIsTokens =
    (s : Syntax) (st : ScanState) (ended : Bool) (bytes more : List ℕ) (r : Run) (n i : ℕ) → MayFollow ended more
    → IsScanned s st ended bytes (token (run_kind r) n) → i < n → token_at s st (drop i (bytes ++ more)) ≡ token (run_kind r) 1

-- a token is decided where the text reaches what `sgml_scan` asks for, and so more is needed exactly
-- where it isn't
abbrev pub DecidedIsReached : Type 0
DecidedIsReached = (s : Syntax) (st : ScanState) (bytes : List ℕ) → (token_decided s st bytes ≡ true) ↔ IsDecided s st bytes

-- The two layers that look for the end of a declaration find one place.
abbrev pub OneEnd : Type 0
OneEnd = (s : Syntax) (ended : Bool) (bytes : List ℕ) → declaration_end s.names bytes ≡ later 2 (end_of s form.Declaration ended (drop 2 bytes))

-- What is read with its own text up to its end, on a stack of which the same is unread, with no other
-- texts than those that there are: its lexemes are those that are spelled.
abbrev pub ReadIsLexed : Type 0
ReadIsLexed =
    (c : Construct) (outside : Outside) (d : Doctype) (t : Stacked) (own : List ℕ) (I : Source) (s : Stack) (ds : List Lexeme) (after : Stack)
    → Extends I (source_of c outside d t own) → StacksAlike I (source_of c outside d t own) s (stack_of outside d t) → 0 < length s.places → I.height ≡ length s.places → EndsWithQuote c (unread I s.places)
    → HasLexemes I s ds after → lexed c outside d t own ≡ Ok (record { lexemes = ds; spent = after.spent })

-- and so is its refusal
abbrev pub RefusedIsLexed : Type 0
RefusedIsLexed =
    (c : Construct) (outside : Outside) (d : Doctype) (t : Stacked) (own : List ℕ) (I : Source) (s : Stack) (r : Reason)
    → Extends I (source_of c outside d t own) → StacksAlike I (source_of c outside d t own) s (stack_of outside d t) → 0 < length s.places → I.height ≡ length s.places → EndsWithQuote c (unread I s.places)
    → StopsBy I s (Refusing r) → lexed c outside d t own ≡ Err r
