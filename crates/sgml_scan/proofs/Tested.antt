-- A token is decided exactly where the test says so.
use Rattle.std.proofs.Common.{◌≡◌, ℕ, Bool, true, false, ◌↔◌, List, Option, None, Some, is_some, length, drop, refl, ◌∙◌, ap}
use Rattle.sgml_syntax.specs.declared.syntax.Syntax.{Syntax}
use Rattle.sgml_delim.specs.declared.delim.Recognised.{Recognised}
use Rattle.sgml_delim.specs.declared.delim.Recognised.TheVariants as r
use Rattle.sgml_delim.specs.Tables.{string}
use Rattle.sgml_delim.specs.Answers as delimiters
use Rattle.sgml_shortref.specs.declared.matching.Matched.{Matched}
use Rattle.sgml_shortref.specs.declared.matching.Matched.TheVariants as matched
use Rattle.sgml_shortref.specs.Matches as strings
use Rattle.sgml_shortref.proofs.Deciding.{matched-answers}
use Rattle.sgml_markup.specs.Ends.{end_of}
use Rattle.sgml_markup.specs.Forms.{before}
use Rattle.sgml_scan.specs.declared.state.ScanState.{ScanState}
use Rattle.sgml_scan.specs.declared.state.Opening.{Opening}
use Rattle.sgml_scan.specs.declared.state.Opening.TheVariants.{Markup, Whole}
use Rattle.sgml_scan.specs.Openings.{opening, matches_strings}
use Rattle.sgml_scan.specs.Decided.{IsThere, IsReached, HasMatch, ReachesBy, IsDecided, is_matched, has_match, reaches_opening, reaches, token_decided}
use Rattle.sgml_scan.proofs.Unique.{matched-one}
use Rattle.sgml_delim.specs.Verdicts.{recognised}
use Rattle.sgml_delim.proofs.Verdicts.{recognised-answers, recognised-one}
use Rattle.sgml_scan.proofs.Runs.{apart}

is-there : (o : Option ℕ) → is_some o ≡ true → IsThere o
is-there None e = apart false e refl
is-there (Some n) e = tt

there-is : (o : Option ℕ) → IsThere o → is_some o ≡ true
there-is None h = absurd h
there-is (Some n) h = refl

reached-of : (s : Syntax) (bytes : List ℕ) (o : Opening) → reaches_opening s bytes o ≡ true → IsReached s bytes o
reached-of s bytes (Whole k n) e = tt
reached-of s bytes (Markup f) e = is-there (end_of s f false (drop (before f) bytes)) e

of-reached : (s : Syntax) (bytes : List ℕ) (o : Opening) → IsReached s bytes o → reaches_opening s bytes o ≡ true
of-reached s bytes (Whole k n) h = refl
of-reached s bytes (Markup f) h = there-is (end_of s f false (drop (before f) bytes)) h

match-of : (t : Bool) (bytes : List ℕ) → has_match t bytes ≡ true → HasMatch t bytes
match-of false bytes e = tt
match-of true bytes e = λ a. apart (is_matched (strings.matched false bytes)) e (ap is_matched (matched-one false strings.answer bytes (strings.matched false bytes) matched.NeedMore (matched-answers false bytes) a))

matched-or : (bytes : List ℕ) (x : Matched) → strings.Answers false strings.answer bytes x → (strings.Answers false strings.answer bytes matched.NeedMore → ⊥) → is_matched x ≡ true
matched-or bytes matched.NeedMore a h = absurd (h a)
matched-or bytes (matched.String i n) a h = refl
matched-or bytes matched.Plain a h = refl

of-match : (t : Bool) (bytes : List ℕ) → HasMatch t bytes → has_match t bytes ≡ true
of-match false bytes h = refl
of-match true bytes h = matched-or bytes (strings.matched false bytes) (matched-answers false bytes) h

reaches-of : (s : Syntax) (st : ScanState) (bytes : List ℕ) (x : Recognised) → reaches s st bytes x ≡ true → ReachesBy s st bytes x
reaches-of s st bytes r.NeedMore e = apart false e refl
reaches-of s st bytes (r.Found x n) e = reached-of s bytes (opening st.mode x (drop (length (string x)) bytes)) e
reaches-of s st bytes r.Plain e = match-of (matches_strings st) bytes e

of-reaches : (s : Syntax) (st : ScanState) (bytes : List ℕ) (x : Recognised) → ReachesBy s st bytes x → reaches s st bytes x ≡ true
of-reaches s st bytes r.NeedMore h = absurd h
of-reaches s st bytes (r.Found x n) h = of-reached s bytes (opening st.mode x (drop (length (string x)) bytes)) h
of-reaches s st bytes r.Plain h = of-match (matches_strings st) bytes h

pub decided-is : (s : Syntax) (st : ScanState) (bytes : List ℕ) → (token_decided s st bytes ≡ true) ↔ IsDecided s st bytes
unfolding token_decided
decided-is s st bytes = (
  λ e. record {
    recognised = recognised s st.mode st.net bytes;
    answers = recognised-answers s st.mode st.net bytes;
    reaches = reaches-of s st bytes (recognised s st.mode st.net bytes) e;
  },
  λ h. ap (reaches s st bytes) (recognised-one false (delimiters.answer s st.mode st.net) bytes (recognised s st.mode st.net bytes) h.recognised (recognised-answers s st.mode st.net bytes) h.answers)
      ∙ of-reaches s st bytes h.recognised h.reaches,
)
