-- The token of a place, as a function of all that is unread there (9.6). Characters are taken one at
-- a time, since each is a piece.
use Rattle.std.specs.Prelude.{ℕ, Bool, true, false, List, [], ◌∷◌, Option, None, Some, drop, length}
use Rattle.sgml_scan.specs.text.declared.reason.Reason.TheVariants as reason
use Rattle.sgml_scan.specs.syntax.declared.syntax.Syntax.{Syntax}
use Rattle.sgml_scan.specs.delim.declared.delim.Mode.{Mode}
use Rattle.sgml_scan.specs.delim.declared.delim.Delim.{Delim}
use Rattle.sgml_scan.specs.delim.Tables.{string}
use Rattle.sgml_scan.specs.delim.Answers.{answer}
use Rattle.sgml_scan.specs.shortref.Matches as strings
use Rattle.sgml_scan.specs.markup.declared.kinds.TokenKind.TheVariants as kind
use Rattle.sgml_scan.specs.declared.state.ScanState.{ScanState}
use Rattle.sgml_scan.specs.declared.state.Scanned.{Scanned}
use Rattle.sgml_scan.specs.declared.state.Scanned.TheVariants.{NeedMore, BadToken}
use Rattle.sgml_scan.specs.declared.classes.Class.{Class}
use Rattle.sgml_scan.specs.declared.classes.Class.TheVariants as class
use Rattle.sgml_scan.specs.Classes.{class_of, run_kind}
use Rattle.sgml_scan.specs.Openings.{opening, matches_strings}
use Rattle.sgml_scan.specs.Tokens.{token, opened}

-- where nothing else begins: one character, or no SGML character (13.1)
abbrev pub character_token : Class → Scanned
character_token (class.Stretch run) = token (run_kind run) 1
character_token (class.Single k) = token k 1
character_token class.NonSgml = BadToken reason.NonSgml

abbrev pub first_character : Mode → List ℕ → Scanned
first_character mode [] = NeedMore
first_character mode (b ∷ bytes) = character_token (class_of mode b)

-- the short reference string that stands there, where strings are matched
abbrev pub string_at : Bool → List ℕ → Option (ℕ × ℕ)
string_at true bytes = strings.answer bytes
string_at false bytes = None

abbrev pub by_string : Mode → List ℕ → Option (ℕ × ℕ) → Scanned
by_string mode bytes (Some s) = token (kind.ShortRef s.0) s.1
by_string mode bytes None = first_character mode bytes

abbrev pub by_delimiter : Syntax → ScanState → List ℕ → Option Delim → Scanned
by_delimiter s st bytes (Some x) = opened s true bytes (opening st.mode x (drop (length (string x)) bytes))
by_delimiter s st bytes None = by_string st.mode bytes (string_at (matches_strings st) bytes)

-- THE TOKEN, or why none begins there: by the longest delimiter of the mode, or else the longest
-- short reference string, or else one character
unfoldable pub token_at : Syntax → ScanState → List ℕ → Scanned
token_at s st bytes = by_delimiter s st bytes (answer s st.mode st.net bytes)
