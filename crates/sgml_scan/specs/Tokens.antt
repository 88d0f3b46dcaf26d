-- The token that a text begins with, or why there is none.
use Rattle.std.specs.Prelude.{◌≡◌, ℕ, ◌+◌, ◌≤◌, ◌<◌, Bool, true, false, List, [], ◌∷◌, if◌then◌else◌, Option, None, Some, Result, Ok, Err, drop, take, length}
use Rattle.std.specs.List.{list_all}
use Rattle.sgml_text.specs.declared.reason.Reason.{Reason}
use Rattle.sgml_text.specs.declared.reason.Reason.TheVariants as reason
use Rattle.sgml_syntax.specs.declared.syntax.Syntax.{Syntax}
use Rattle.sgml_delim.specs.declared.delim.Delim.{Delim}
use Rattle.sgml_delim.specs.declared.delim.Recognised.{Recognised}
use Rattle.sgml_delim.specs.declared.delim.Recognised.TheVariants as r
use Rattle.sgml_delim.specs.Tables.{string}
use Rattle.sgml_delim.specs.Answers as delimiters
use Rattle.sgml_shortref.specs.declared.matching.Matched.{Matched}
use Rattle.sgml_shortref.specs.declared.matching.Matched.TheVariants as matched
use Rattle.sgml_shortref.specs.Matches as strings
use Rattle.sgml_markup.specs.declared.kinds.Form.{Form}
use Rattle.sgml_markup.specs.declared.kinds.TokenKind.{TokenKind}
use Rattle.sgml_markup.specs.declared.kinds.TokenKind.TheVariants as kind
use Rattle.sgml_text.specs.Characters.{is_sgml_character}
use Rattle.sgml_markup.specs.Ends.{end_of}
use Rattle.sgml_markup.specs.Forms.{before, judged}
use Rattle.sgml_scan.specs.declared.state.ScanState.{ScanState}
use Rattle.sgml_scan.specs.declared.state.Scanned.{Scanned}
use Rattle.sgml_scan.specs.declared.state.Scanned.TheVariants.{Token, NeedMore, BadToken}
use Rattle.sgml_scan.specs.declared.classes.Run.{Run}
use Rattle.sgml_scan.specs.declared.classes.Class.{Class}
use Rattle.sgml_scan.specs.declared.classes.Class.TheVariants as class
use Rattle.sgml_scan.specs.declared.state.Opening.{Opening}
use Rattle.sgml_scan.specs.declared.state.Opening.TheVariants.{Markup, Whole}
use Rattle.sgml_scan.specs.Classes.{class_of, stretch_at, run_kind}
use Rattle.sgml_scan.specs.Openings.{opening, matches_strings, NoDelimiter, NoString}

abbrev pub token : TokenKind → ℕ → Scanned
token k n = Token (record { kind = k; length = n })

-- one byte of a stretch, whatever follows: nothing else begins there
pub record IsOne (s : Syntax) (st : ScanState) (ended : Bool) (run : Run) (bytes : List ℕ) : Type 0 where
  pub byte : stretch_at st.mode bytes ≡ Some run
  pub delimiter : NoDelimiter s st ended bytes
  pub string : NoString (matches_strings st) ended bytes

-- so many of them, and no more
pub record IsStretch (s : Syntax) (st : ScanState) (ended : Bool) (run : Run) (bytes : List ℕ) (n : ℕ) : Type 0 where
  pub each : (i : ℕ) → i < n → IsOne s st ended run (drop i bytes)
  pub longest : IsOne s st ended run (drop n bytes) → ⊥

-- where nothing begins: a stretch, a single token, or no SGML character
abbrev pub IsOfClass : Syntax → ScanState → Bool → List ℕ → Scanned → Class → Type 0
IsOfClass s st ended bytes scanned (class.Stretch run) =
    (n : ℕ) × (scanned ≡ token (run_kind run) n) × IsStretch s st ended run bytes n
IsOfClass s st ended bytes scanned (class.Single k) = scanned ≡ token k 1
IsOfClass s st ended bytes scanned class.NonSgml = scanned ≡ BadToken reason.NonSgml

abbrev pub IsPlainToken : Syntax → ScanState → Bool → List ℕ → Scanned → Type 0
IsPlainToken s st ended [] scanned = ⊥
IsPlainToken s st ended (b ∷ bytes) scanned = IsOfClass s st ended (b ∷ bytes) scanned (class_of st.mode b)

-- by the short reference string that stands there, each a token whether it is mapped or not
abbrev pub IsMatchedToken : Syntax → ScanState → Bool → List ℕ → Matched → Scanned → Type 0
IsMatchedToken s st ended bytes matched.NeedMore scanned = scanned ≡ NeedMore
IsMatchedToken s st ended bytes (matched.String i n) scanned = scanned ≡ token (kind.ShortRef i) n
IsMatchedToken s st ended bytes matched.Plain scanned = IsPlainToken s st ended bytes scanned

pub record IsMatched (s : Syntax) (st : ScanState) (ended : Bool) (bytes : List ℕ) (scanned : Scanned) : Type 0 where
  pub matched : Matched
  pub answers : strings.Answers ended strings.answer bytes matched
  pub token : IsMatchedToken s st ended bytes matched scanned

-- where no delimiter begins
abbrev pub IsUndelimited : Bool → Syntax → ScanState → Bool → List ℕ → Scanned → Type 0
IsUndelimited true s st ended bytes scanned = IsMatched s st ended bytes scanned
IsUndelimited false s st ended bytes scanned = IsPlainToken s st ended bytes scanned

-- a text without its end: where it has ended it is unclosed, and first of all it has SGML characters
abbrev pub open_ended : Bool → List ℕ → Scanned
open_ended ended bytes =
    if ended
    then (if list_all is_sgml_character bytes then BadToken reason.Unclosed else BadToken reason.NonSgml)
    else NeedMore

abbrev pub of_judged : ℕ → Result TokenKind Reason → Scanned
of_judged n (Ok k) = token k n
of_judged n (Err e) = BadToken e

-- markup of a form that ends so many bytes after its delimiter: judged by its bytes alone
abbrev pub closed : Syntax → Bool → List ℕ → Form → Option ℕ → Scanned
closed s ended bytes f None = open_ended ended bytes
closed s ended bytes f (Some n) = of_judged (before f + n) (judged s f (take (before f + n) bytes))

-- markup of a form, which ends somewhere or doesn't
abbrev pub of_form : Syntax → Bool → List ℕ → Form → Scanned
of_form s ended bytes f = closed s ended bytes f (end_of s f ended (drop (before f) bytes))

-- the text has the delimiter that begins markup
abbrev pub HasRoom : List ℕ → Opening → Type 0
HasRoom bytes (Whole k n) = Unit {0}
HasRoom bytes (Markup f) = before f ≤ length bytes

-- what a delimiter has begun
abbrev pub opened : Syntax → Bool → List ℕ → Opening → Scanned
opened s ended bytes (Whole k n) = token k n
opened s ended bytes (Markup f) = of_form s ended bytes f

-- what this delimiter has begun, which the text begins with
abbrev pub begun : Syntax → ScanState → Bool → List ℕ → Delim → Scanned
begun s st ended bytes x = opened s ended bytes (opening st.mode x (drop (length (string x)) bytes))

abbrev pub IsToken : Syntax → ScanState → Bool → List ℕ → Recognised → Scanned → Type 0
IsToken s st ended bytes r.NeedMore scanned = scanned ≡ NeedMore
IsToken s st ended bytes (r.Found x n) scanned = scanned ≡ begun s st ended bytes x
IsToken s st ended bytes r.Plain scanned = IsUndelimited (matches_strings st) s st ended bytes scanned

-- The token that the text begins with, or why none begins there, or that it isn't decided: by the
-- delimiter that stands there whatever follows (9.6.1).
pub record IsScanned (s : Syntax) (st : ScanState) (ended : Bool) (bytes : List ℕ) (scanned : Scanned) : Type 0 where
  pub recognised : Recognised
  pub answers : delimiters.Answers ended (delimiters.answer s st.mode st.net) bytes recognised
  pub token : IsToken s st ended bytes recognised scanned

-- a token has a byte, and lies in a text of so many
abbrev pub IsWithin : ℕ → Scanned → Type 0
IsWithin size (Token token) = (0 < token.length) × (token.length ≤ size)
IsWithin size _ = Unit {0}

-- how many steps are counted: one for each byte of a token
abbrev pub steps_of : Scanned → ℕ
steps_of (Token token) = token.length
steps_of _ = 0
