-- What a text must reach so that its first token is decided, though more may follow (profile).
use Rattle.std.specs.Prelude.{◌≢◌, ℕ, Bool, true, false, List, Option, None, Some, is_some, drop, length}
use Rattle.sgml_text.specs.declared.reason.Reason.TheVariants.{Unclosed}
use Rattle.sgml_syntax.specs.declared.syntax.Syntax.{Syntax}
use Rattle.sgml_delim.specs.declared.delim.Recognised.{Recognised}
use Rattle.sgml_delim.specs.declared.delim.Recognised.TheVariants as r
use Rattle.sgml_delim.specs.Tables.{string}
use Rattle.sgml_delim.specs.Answers as delimiters
use Rattle.sgml_delim.specs.Verdicts.{recognised}
use Rattle.sgml_shortref.specs.declared.matching.Matched.{Matched}
use Rattle.sgml_shortref.specs.declared.matching.Matched.TheVariants as matched
use Rattle.sgml_shortref.specs.Matches as strings
use Rattle.sgml_markup.specs.Ends.{end_of}
use Rattle.sgml_markup.specs.Forms.{before}
use Rattle.sgml_scan.specs.declared.state.ScanState.{ScanState}
use Rattle.sgml_scan.specs.declared.state.Opening.{Opening}
use Rattle.sgml_scan.specs.declared.state.Opening.TheVariants.{Markup, Whole}
use Rattle.sgml_scan.specs.declared.state.Scanned.{Scanned}
use Rattle.sgml_scan.specs.declared.state.Scanned.TheVariants.{NeedMore, BadToken}
use Rattle.sgml_scan.specs.declared.classes.Run.{Run}
use Rattle.sgml_scan.specs.Classes.{run_kind}
use Rattle.sgml_scan.specs.Openings.{opening, matches_strings}
use Rattle.sgml_scan.specs.Tokens.{token, IsOne, IsScanned}

abbrev pub IsThere : Option ℕ → Type 0
IsThere None = ⊥
IsThere (Some n) = Unit {0}

-- A tag, a reference, an instruction and a declaration are decided with their end; the rest at once.
abbrev pub IsReached : Syntax → List ℕ → Opening → Type 0
IsReached s bytes (Whole k n) = Unit {0}
IsReached s bytes (Markup f) = IsThere (end_of s f false (drop (before f) bytes))

-- where no delimiter stands, the short reference string there must be one whatever follows
abbrev pub HasMatch : Bool → List ℕ → Type 0
HasMatch false bytes = Unit {0}
HasMatch true bytes = strings.Answers false strings.answer bytes matched.NeedMore → ⊥

abbrev pub ReachesBy : Syntax → ScanState → List ℕ → Recognised → Type 0
ReachesBy s st bytes r.NeedMore = ⊥
ReachesBy s st bytes (r.Found x n) = IsReached s bytes (opening st.mode x (drop (length (string x)) bytes))
ReachesBy s st bytes r.Plain = HasMatch (matches_strings st) bytes

pub record IsDecided (s : Syntax) (st : ScanState) (bytes : List ℕ) : Type 0 where
  pub recognised : Recognised
  pub answers : delimiters.Answers false (delimiters.answer s st.mode st.net) bytes recognised
  pub reaches : ReachesBy s st bytes recognised

-- WHAT SUCH A TEXT BEGINS WITH

-- a byte of a stretch, which may go on
abbrev pub BeginsStretch : Syntax → ScanState → List ℕ → Type 0
BeginsStretch s st bytes = (run : Run) × IsOne s st false run bytes

-- a whole token that is no stretch, or a refusal that isn't for want of an end
pub record BeginsWhole (s : Syntax) (st : ScanState) (bytes : List ℕ) : Type 0 where
  pub scanned : Scanned
  pub is : IsScanned s st false bytes scanned
  pub no_stretch : (run : Run) (n : ℕ) → scanned ≢ token (run_kind run) n
  pub told : scanned ≢ NeedMore
  pub ends : scanned ≢ BadToken Unclosed

-- THE SAME AS A TEST

-- an answer other than that more decides
abbrev pub is_matched : Matched → Bool
is_matched matched.NeedMore = false
is_matched _ = true

-- where strings are matched, what stands there is one, or none, whatever follows
abbrev pub has_match : Bool → List ℕ → Bool
has_match false bytes = true
has_match true bytes = is_matched (strings.matched false bytes)

-- what a delimiter has begun ends in the text, if it has an end of its own
abbrev pub reaches_opening : Syntax → List ℕ → Opening → Bool
reaches_opening s bytes (Whole k n) = true
reaches_opening s bytes (Markup f) = is_some (end_of s f false (drop (before f) bytes))

-- by what the text begins with
abbrev pub reaches : Syntax → ScanState → List ℕ → Recognised → Bool
reaches s st bytes r.NeedMore = false
reaches s st bytes (r.Found x n) = reaches_opening s bytes (opening st.mode x (drop (length (string x)) bytes))
reaches s st bytes r.Plain = has_match (matches_strings st) bytes

-- the text decides its first token, though more may follow
unfoldable pub token_decided : Syntax → ScanState → List ℕ → Bool
token_decided s st bytes = reaches s st bytes (recognised s st.mode st.net bytes)
