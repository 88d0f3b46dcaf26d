-- A place has one token, and needs more exactly where it isn't decided.
use Rattle.std.proofs.Common.{◌≡◌, ℕ, Bool, true, false, List, [], ◌∷◌, ◌+◌, Option, None, Some, Result, Ok, Err, length, drop, take, refl, sym, ◌∙◌, ap, subst, if◌then◌else◌, arith, inl, inr}
use Rattle.std.specs.List.{list_all}
use Rattle.std.proofs.lemmas.Bool.{cases_lt}
use Rattle.sgml_text.specs.declared.reason.Reason.{Reason}
use Rattle.sgml_text.specs.declared.reason.Reason.TheVariants as reason
use Rattle.sgml_syntax.specs.declared.syntax.Syntax.{Syntax}
use Rattle.sgml_delim.specs.declared.delim.Recognised.{Recognised}
use Rattle.sgml_delim.specs.declared.delim.Recognised.TheVariants as r
use Rattle.sgml_delim.specs.Tables.{string}
use Rattle.sgml_delim.specs.Answers as delimiters
use Rattle.sgml_shortref.specs.declared.matching.Matched.{Matched}
use Rattle.sgml_shortref.specs.declared.matching.Matched.TheVariants as matched
use Rattle.sgml_shortref.specs.Matches as strings
use Rattle.sgml_shortref.proofs.Deciding.{answers-one}
use Rattle.sgml_markup.specs.declared.kinds.Form.{Form}
use Rattle.sgml_markup.specs.declared.kinds.TokenKind.{TokenKind}
use Rattle.sgml_markup.specs.declared.kinds.TokenKind.TheVariants as kind
use Rattle.sgml_text.specs.Characters.{is_sgml_character}
use Rattle.sgml_markup.specs.Ends.{end_of}
use Rattle.sgml_markup.specs.Forms.{before, judged}
use Rattle.sgml_delim.proofs.Deciding.{true-false}
use Rattle.sgml_delim.proofs.Verdicts.{recognised-one}
use Rattle.sgml_scan.specs.declared.classes.Run.{Run}
use Rattle.sgml_scan.specs.declared.classes.Class.{Class}
use Rattle.sgml_scan.specs.declared.classes.Class.TheVariants as class
use Rattle.sgml_scan.specs.declared.state.ScanState.{ScanState}
use Rattle.sgml_scan.specs.declared.state.Scanned.{Scanned}
use Rattle.sgml_scan.specs.declared.state.Scanned.TheVariants.{NeedMore, BadToken}
use Rattle.sgml_scan.specs.declared.state.Opening.{Opening}
use Rattle.sgml_scan.specs.declared.state.Opening.TheVariants.{Markup, Whole}
use Rattle.sgml_scan.specs.Classes.{class_of, run_kind}
use Rattle.sgml_scan.specs.Openings.{opening, matches_strings}
use Rattle.sgml_scan.specs.Decided.{IsThere, IsReached, HasMatch, ReachesBy, IsDecided}
use Rattle.sgml_scan.specs.Tokens.{token, IsStretch, IsOfClass, IsPlainToken, IsMatchedToken, IsUndelimited, open_ended, of_judged, closed, opened, IsToken, IsScanned}

-- answers about one text are one
pub matched-one : (ended : Bool) (f : List ℕ → Option (ℕ × ℕ)) (bytes : List ℕ) (a b : Matched)
    → strings.Answers ended f bytes a → strings.Answers ended f bytes b → a ≡ b
matched-one = answers-one

-- tokens by one answer are one
lengths-one : (s : Syntax) (st : ScanState) (ended : Bool) (run : Run) (bytes : List ℕ) (n k : ℕ)
    → IsStretch s st ended run bytes n → IsStretch s st ended run bytes k → n ≡ k
lengths-one s st ended run bytes n k g h = elim (cases_lt n k) [
  | inl low ↦ absurd (g.longest (h.each n low))
  | inr high ↦ elim (cases_lt k n) [ inl low ↦ absurd (h.longest (g.each k low)) | inr high' ↦ omega (arith, high, high') ]
]

class-one : (s : Syntax) (st : ScanState) (ended : Bool) (bytes : List ℕ) (one other : Scanned) (k : Class)
    → IsOfClass s st ended bytes one k → IsOfClass s st ended bytes other k → one ≡ other
class-one s st ended bytes one other (class.Stretch run) g h =
    g.1 ∙ ap (token (run_kind run)) (lengths-one s st ended run bytes g.0 h.0 g.2 h.2) ∙ sym h.1
class-one s st ended bytes one other (class.Single k) g h = g ∙ sym h
class-one s st ended bytes one other class.NonSgml g h = g ∙ sym h

plain-one : (s : Syntax) (st : ScanState) (ended : Bool) (bytes : List ℕ) (one other : Scanned)
    → IsPlainToken s st ended bytes one → IsPlainToken s st ended bytes other → one ≡ other
plain-one s st ended [] one other g h = absurd g
plain-one s st ended (b ∷ bytes) one other g h = class-one s st ended (b ∷ bytes) one other (class_of st.mode b) g h

by-matched-one : (s : Syntax) (st : ScanState) (ended : Bool) (bytes : List ℕ) (x : Matched) (one other : Scanned)
    → IsMatchedToken s st ended bytes x one → IsMatchedToken s st ended bytes x other → one ≡ other
by-matched-one s st ended bytes matched.NeedMore one other g h = g ∙ sym h
by-matched-one s st ended bytes (matched.String i n) one other g h = g ∙ sym h
by-matched-one s st ended bytes matched.Plain one other g h = plain-one s st ended bytes one other g h

undelimited-one : (s : Syntax) (st : ScanState) (ended : Bool) (bytes : List ℕ) (one other : Scanned) (t : Bool)
    → IsUndelimited t s st ended bytes one → IsUndelimited t s st ended bytes other → one ≡ other
undelimited-one s st ended bytes one other true g h =
    by-matched-one s st ended bytes g.matched one other g.token
    (subst (λ x. IsMatchedToken s st ended bytes x other) (matched-one ended strings.answer bytes h.matched g.matched h.answers g.answers) h.token)
undelimited-one s st ended bytes one other false g h = plain-one s st ended bytes one other g h

by-recognised-one : (s : Syntax) (st : ScanState) (ended : Bool) (bytes : List ℕ) (x : Recognised) (one other : Scanned)
    → IsToken s st ended bytes x one → IsToken s st ended bytes x other → one ≡ other
by-recognised-one s st ended bytes r.NeedMore one other g h = g ∙ sym h
by-recognised-one s st ended bytes (r.Found x n) one other g h = g ∙ sym h
by-recognised-one s st ended bytes r.Plain one other g h = undelimited-one s st ended bytes one other (matches_strings st) g h

pub scanned-one : (s : Syntax) (st : ScanState) (ended : Bool) (bytes : List ℕ) (one other : Scanned)
    → IsScanned s st ended bytes one → IsScanned s st ended bytes other → one ≡ other
scanned-one s st ended bytes one other g h =
    by-recognised-one s st ended bytes g.recognised one other g.token
    (subst (λ x. IsToken s st ended bytes x other)
    (recognised-one ended (delimiters.answer s st.mode st.net) bytes h.recognised g.recognised h.answers g.answers) h.token)

-- what isn't NeedMore
token-decided : (k : TokenKind) (n : ℕ) → token k n ≡ NeedMore → ⊥
token-decided k n e = cc

bad-decided : (e : Reason) → BadToken e ≡ NeedMore → ⊥
bad-decided e f = cc

judged-decided : (n : ℕ) (j : Result TokenKind Reason) → of_judged n j ≡ NeedMore → ⊥
judged-decided n (Ok k) e = token-decided k n e
judged-decided n (Err x) e = bad-decided x e

ended-decided : (bytes : List ℕ) → open_ended true bytes ≡ NeedMore → ⊥
ended-decided bytes e = by_sgml (list_all is_sgml_character bytes) e
  where
    by_sgml : (t : Bool) → (if t then BadToken reason.Unclosed else BadToken reason.NonSgml) ≡ NeedMore → ⊥
    by_sgml true f = bad-decided reason.Unclosed f
    by_sgml false f = bad-decided reason.NonSgml f

class-decided : (s : Syntax) (st : ScanState) (ended : Bool) (bytes : List ℕ) (scanned : Scanned) (k : Class)
    → IsOfClass s st ended bytes scanned k → scanned ≡ NeedMore → ⊥
class-decided s st ended bytes scanned (class.Stretch run) h e = token-decided (run_kind run) h.0 (sym h.1 ∙ e)
class-decided s st ended bytes scanned (class.Single k) h e = token-decided k 1 (sym h ∙ e)
class-decided s st ended bytes scanned class.NonSgml h e = bad-decided reason.NonSgml (sym h ∙ e)

plain-decided : (s : Syntax) (st : ScanState) (ended : Bool) (bytes : List ℕ) (scanned : Scanned)
    → IsPlainToken s st ended bytes scanned → scanned ≡ NeedMore → ⊥
plain-decided s st ended [] scanned h e = h
plain-decided s st ended (b ∷ bytes) scanned h e = class-decided s st ended (b ∷ bytes) scanned (class_of st.mode b) h e

-- at the end of a text
closed-ended : (s : Syntax) (bytes : List ℕ) (f : Form) (o : Option ℕ) → closed s true bytes f o ≡ NeedMore → ⊥
closed-ended s bytes f None e = ended-decided bytes e
closed-ended s bytes f (Some n) e = judged-decided (before f + n) (judged s f (take (before f + n) bytes)) e

opened-ended : (s : Syntax) (bytes : List ℕ) (o : Opening) → opened s true bytes o ≡ NeedMore → ⊥
opened-ended s bytes (Whole k n) e = token-decided k n e
opened-ended s bytes (Markup f) e = closed-ended s bytes f (end_of s f true (drop (before f) bytes)) e

matched-ended : (s : Syntax) (st : ScanState) (bytes : List ℕ) (x : Matched) (scanned : Scanned) → strings.Answers true strings.answer bytes x
    → IsMatchedToken s st true bytes x scanned → scanned ≡ NeedMore → ⊥
matched-ended s st bytes matched.NeedMore scanned a h e = true-false (sym a.goes_on)
matched-ended s st bytes (matched.String i n) scanned a h e = token-decided (kind.ShortRef i) n (sym h ∙ e)
matched-ended s st bytes matched.Plain scanned a h e = plain-decided s st true bytes scanned h e

undelimited-ended : (s : Syntax) (st : ScanState) (bytes : List ℕ) (scanned : Scanned) (t : Bool)
    → IsUndelimited t s st true bytes scanned → scanned ≡ NeedMore → ⊥
undelimited-ended s st bytes scanned true h e = matched-ended s st bytes h.matched scanned h.answers h.token e
undelimited-ended s st bytes scanned false h e = plain-decided s st true bytes scanned h e

by-recognised-ended : (s : Syntax) (st : ScanState) (bytes : List ℕ) (x : Recognised) (scanned : Scanned)
    → delimiters.Answers true (delimiters.answer s st.mode st.net) bytes x → IsToken s st true bytes x scanned → scanned ≡ NeedMore → ⊥
by-recognised-ended s st bytes r.NeedMore scanned a h e = true-false (sym a.goes_on)
by-recognised-ended s st bytes (r.Found x n) scanned a h e =
    opened-ended s bytes (opening st.mode x (drop (length (string x)) bytes)) (sym h ∙ e)
by-recognised-ended s st bytes r.Plain scanned a h e = undelimited-ended s st bytes scanned (matches_strings st) h e

pub scanned-ended : (s : Syntax) (st : ScanState) (bytes : List ℕ) (scanned : Scanned) → IsScanned s st true bytes scanned
    → scanned ≡ NeedMore → ⊥
scanned-ended s st bytes scanned h e = by-recognised-ended s st bytes h.recognised scanned h.answers h.token e

-- what is reached is decided
closed-reached : (s : Syntax) (bytes : List ℕ) (f : Form) (o : Option ℕ) → IsThere o → closed s false bytes f o ≡ NeedMore → ⊥
closed-reached s bytes f None h e = h
closed-reached s bytes f (Some n) h e = judged-decided (before f + n) (judged s f (take (before f + n) bytes)) e

opened-reached : (s : Syntax) (bytes : List ℕ) (o : Opening) → IsReached s bytes o → opened s false bytes o ≡ NeedMore → ⊥
opened-reached s bytes (Whole k n) h e = token-decided k n e
opened-reached s bytes (Markup f) h e = closed-reached s bytes f (end_of s f false (drop (before f) bytes)) h e

matched-reached : (s : Syntax) (st : ScanState) (bytes : List ℕ) (x : Matched) (scanned : Scanned) → strings.Answers false strings.answer bytes x
    → (strings.Answers false strings.answer bytes matched.NeedMore → ⊥) → IsMatchedToken s st false bytes x scanned → scanned ≡ NeedMore → ⊥
matched-reached s st bytes matched.NeedMore scanned a n h e = n a
matched-reached s st bytes (matched.String i k) scanned a n h e = token-decided (kind.ShortRef i) k (sym h ∙ e)
matched-reached s st bytes matched.Plain scanned a n h e = plain-decided s st false bytes scanned h e

undelimited-reached : (s : Syntax) (st : ScanState) (bytes : List ℕ) (scanned : Scanned) (t : Bool) → HasMatch t bytes
    → IsUndelimited t s st false bytes scanned → scanned ≡ NeedMore → ⊥
undelimited-reached s st bytes scanned true n h e = matched-reached s st bytes h.matched scanned h.answers n h.token e
undelimited-reached s st bytes scanned false n h e = plain-decided s st false bytes scanned h e

by-recognised-reached : (s : Syntax) (st : ScanState) (bytes : List ℕ) (x : Recognised) (scanned : Scanned) → ReachesBy s st bytes x
    → IsToken s st false bytes x scanned → scanned ≡ NeedMore → ⊥
by-recognised-reached s st bytes r.NeedMore scanned n h e = n
by-recognised-reached s st bytes (r.Found x k) scanned n h e =
    opened-reached s bytes (opening st.mode x (drop (length (string x)) bytes)) n (sym h ∙ e)
by-recognised-reached s st bytes r.Plain scanned n h e = undelimited-reached s st bytes scanned (matches_strings st) n h e

pub decided-is-told : (s : Syntax) (st : ScanState) (bytes : List ℕ) (scanned : Scanned) → IsScanned s st false bytes scanned
    → IsDecided s st bytes → scanned ≡ NeedMore → ⊥
decided-is-told s st bytes scanned h n e =
    by-recognised-reached s st bytes h.recognised scanned
    (subst (λ x. ReachesBy s st bytes x)
    (recognised-one false (delimiters.answer s st.mode st.net) bytes n.recognised h.recognised n.answers h.answers) n.reaches)
    h.token e

-- what isn't reached needs more
closed-unreached : (s : Syntax) (bytes : List ℕ) (f : Form) (o : Option ℕ) → (IsThere o → ⊥) → closed s false bytes f o ≡ NeedMore
closed-unreached s bytes f None n = refl
closed-unreached s bytes f (Some k) n = absurd (n tt)

opened-unreached : (s : Syntax) (bytes : List ℕ) (o : Opening) → (IsReached s bytes o → ⊥) → opened s false bytes o ≡ NeedMore
opened-unreached s bytes (Whole k i) n = absurd (n tt)
opened-unreached s bytes (Markup f) n = closed-unreached s bytes f (end_of s f false (drop (before f) bytes)) n

string-need : (i n : ℕ) → matched.String i n ≡ matched.NeedMore → ⊥
string-need i n e = cc

plain-need : matched.Plain ≡ matched.NeedMore → ⊥
plain-need e = cc

matched-unreached : (s : Syntax) (st : ScanState) (bytes : List ℕ) (x : Matched) (scanned : Scanned) → strings.Answers false strings.answer bytes x
    → ((strings.Answers false strings.answer bytes matched.NeedMore → ⊥) → ⊥) → IsMatchedToken s st false bytes x scanned → scanned ≡ NeedMore
matched-unreached s st bytes matched.NeedMore scanned a n h = h
matched-unreached s st bytes (matched.String i k) scanned a n h =
    absurd (n (λ b. string-need i k (matched-one false strings.answer bytes (matched.String i k) matched.NeedMore a b)))
matched-unreached s st bytes matched.Plain scanned a n h =
    absurd (n (λ b. plain-need (matched-one false strings.answer bytes matched.Plain matched.NeedMore a b)))

undelimited-unreached : (s : Syntax) (st : ScanState) (bytes : List ℕ) (scanned : Scanned) (t : Bool) → (HasMatch t bytes → ⊥)
    → IsUndelimited t s st false bytes scanned → scanned ≡ NeedMore
undelimited-unreached s st bytes scanned true n h = matched-unreached s st bytes h.matched scanned h.answers n h.token
undelimited-unreached s st bytes scanned false n h = absurd (n tt)

by-recognised-unreached : (s : Syntax) (st : ScanState) (bytes : List ℕ) (x : Recognised) (scanned : Scanned) → (ReachesBy s st bytes x → ⊥)
    → IsToken s st false bytes x scanned → scanned ≡ NeedMore
by-recognised-unreached s st bytes r.NeedMore scanned n h = h
by-recognised-unreached s st bytes (r.Found x k) scanned n h =
    h ∙ opened-unreached s bytes (opening st.mode x (drop (length (string x)) bytes)) n
by-recognised-unreached s st bytes r.Plain scanned n h = undelimited-unreached s st bytes scanned (matches_strings st) n h

pub undecided-needs-more : (s : Syntax) (st : ScanState) (bytes : List ℕ) (scanned : Scanned) → IsScanned s st false bytes scanned
    → (IsDecided s st bytes → ⊥) → scanned ≡ NeedMore
undecided-needs-more s st bytes scanned h n =
    by-recognised-unreached s st bytes h.recognised scanned
    (λ k. n (record { recognised = h.recognised; answers = h.answers; reaches = k })) h.token
