-- What a text that decides its first token begins with, and that it decides it when it goes on.
use Rattle.std.proofs.Common.{◌≡◌, ℕ, ◌<◌, ◌≤◌, ◌⊎◌, inl, inr, Bool, true, false, not, List, [], ◌∷◌, ◌++◌, Option, None, Some, is_some, Result, Ok, Err, length, drop, take, refl, sym, ◌∙◌, ap, subst, arith}
use Rattle.std.proofs.lemmas.List.{drop-append-le}
use Rattle.sgml_text.specs.declared.reason.Reason.{Reason}
use Rattle.sgml_text.specs.declared.reason.Reason.TheVariants as reason
use Rattle.sgml_syntax.specs.declared.syntax.Syntax.{Syntax}
use Rattle.sgml_delim.specs.declared.delim.Delim.{Delim}
use Rattle.sgml_delim.specs.declared.delim.Delim.TheVariants as d
use Rattle.sgml_delim.specs.declared.delim.Mode.{Mode}
use Rattle.sgml_delim.specs.declared.delim.Mode.TheVariants as m
use Rattle.sgml_delim.specs.declared.delim.Recognised.{Recognised}
use Rattle.sgml_delim.specs.declared.delim.Recognised.TheVariants as r
use Rattle.sgml_delim.specs.Tables.{string}
use Rattle.sgml_delim.specs.Answers as delimiters
use Rattle.sgml_delim.specs.Verdicts.{recognised}
use Rattle.sgml_delim.proofs.Deciding.{found-length}
use Rattle.sgml_delim.proofs.Found.{found-stands, found-goes-on, plain-goes-on}
use Rattle.sgml_delim.proofs.Verdicts.{recognised-answers, recognised-one}
use Rattle.sgml_shortref.specs.declared.matching.Matched.{Matched}
use Rattle.sgml_shortref.specs.declared.matching.Matched.TheVariants as matched
use Rattle.sgml_shortref.specs.Matches as strings
use Rattle.sgml_shortref.proofs.Deciding.{matched-answers, answers-one}
use Rattle.sgml_markup.specs.declared.kinds.Form.{Form}
use Rattle.sgml_markup.specs.declared.kinds.Form.TheVariants as form
use Rattle.sgml_markup.specs.declared.kinds.TokenKind.{TokenKind}
use Rattle.sgml_markup.specs.declared.kinds.TokenKind.TheVariants as kind
use Rattle.sgml_markup.specs.Ends.{end_of}
use Rattle.sgml_markup.specs.Forms.{before, judged}
use Rattle.sgml_markup.proofs.Ending.{end-kept}
use Rattle.sgml_scan.specs.declared.classes.Class.{Class}
use Rattle.sgml_scan.specs.declared.classes.Class.TheVariants as class
use Rattle.sgml_scan.specs.declared.state.ScanState.{ScanState}
use Rattle.sgml_scan.specs.declared.state.Scanned.{Scanned}
use Rattle.sgml_scan.specs.declared.state.Scanned.TheVariants.{Token, NeedMore, BadToken}
use Rattle.sgml_scan.specs.declared.state.Opening.{Opening}
use Rattle.sgml_scan.specs.declared.state.Opening.TheVariants.{Markup, Whole}
use Rattle.sgml_scan.specs.Classes.{is_scanned, class_of}
use Rattle.sgml_scan.specs.Classes.{run_of as run_of_class}
use Rattle.sgml_scan.specs.Openings.{opening, declared_opening, declared_form, matches_strings, NoDelimiter, NoString}
use Rattle.sgml_scan.specs.Tokens.{token, IsOfClass, IsPlainToken, IsUndelimited, of_judged, closed, opened, HasRoom, IsScanned}
use Rattle.sgml_scan.specs.Decided.{BeginsStretch, BeginsWhole, IsDecided, is_matched, has_match, reaches_opening, reaches, token_decided}
use Rattle.sgml_scan.proofs.Standing.{opening-room}
use Rattle.sgml_scan.proofs.Continuing.{opening-stays, matched-goes-on}
use Rattle.sgml_scan.proofs.Tested.{decided-is}
use Rattle.sgml_scan.proofs.Runs.{apart, is_run, is_unclosed_reason, is_told_kind, judged-told, run-is-run, is_no_run, class-no-run}

-- IT DECIDES IT when it goes on

kept-some : (o p : Option ℕ) → ((n : ℕ) → o ≡ Some n → p ≡ Some n) → is_some o ≡ true → is_some p ≡ true
kept-some None p k e = apart false e refl
kept-some (Some n) p k e = ap is_some (k n refl)

reaches-on : (s : Syntax) (bytes rest : List ℕ) (o : Opening) → HasRoom bytes o → reaches_opening s bytes o ≡ true → reaches_opening s (bytes ++ rest) o ≡ true
reaches-on s bytes rest (Whole k n) room e = refl
reaches-on s bytes rest (Markup f) room e =
    ap (λ xs. is_some (end_of s f false xs)) (drop-append-le (before f) bytes rest room)
    ∙ kept-some (end_of s f false (drop (before f) bytes)) (end_of s f false (drop (before f) bytes ++ rest)) (end-kept s f false (drop (before f) bytes) rest) e

has-match-on : (t : Bool) (bytes rest : List ℕ) → has_match t bytes ≡ true → has_match t (bytes ++ rest) ≡ true
has-match-on false bytes rest e = refl
has-match-on true bytes rest e =
    let now = strings.matched false bytes in
    let then_ = strings.matched false (bytes ++ rest) in
    let goes_on = matched-goes-on false bytes rest now (λ q. apart (is_matched now) e (ap is_matched q)) (matched-answers false bytes) in
    ap is_matched (answers-one false strings.answer (bytes ++ rest) then_ now (matched-answers false (bytes ++ rest)) goes_on) ∙ e

by-recognised : (s : Syntax) (st : ScanState) (bytes rest : List ℕ) (x y : Recognised) → is_scanned st.mode ≡ true
    → delimiters.Answers false (delimiters.answer s st.mode st.net) bytes x → delimiters.Answers false (delimiters.answer s st.mode st.net) (bytes ++ rest) y
    → reaches s st bytes x ≡ true → reaches s st (bytes ++ rest) y ≡ true
by-recognised s st bytes rest r.NeedMore y c a b e = apart false e refl
by-recognised s st bytes rest (r.Found x n) y c a b e =
    let f = delimiters.answer s st.mode st.net in
    let room : length (string x) ≤ length bytes = found-length s st.mode st.net false bytes x n a in
    let there = found-stands s st.mode st.net false bytes x n a in
    let o = opening st.mode x (drop (length (string x)) bytes) in
    ap (reaches s st (bytes ++ rest)) (recognised-one false f (bytes ++ rest) y (r.Found x n) b (found-goes-on false f bytes rest x n a))
    ∙ ap (reaches_opening s (bytes ++ rest)) (opening-stays s st.mode st.net x bytes rest c there room)
    ∙ reaches-on s bytes rest o (opening-room st.mode x bytes room) e
by-recognised s st bytes rest r.Plain y c a b e =
    let f = delimiters.answer s st.mode st.net in
    ap (reaches s st (bytes ++ rest)) (recognised-one false f (bytes ++ rest) y r.Plain b (plain-goes-on false f bytes rest a))
    ∙ has-match-on (matches_strings st) bytes rest e

test-stays : (s : Syntax) (st : ScanState) (bytes rest : List ℕ) → is_scanned st.mode ≡ true → token_decided s st bytes ≡ true → token_decided s st (bytes ++ rest) ≡ true
unfolding token_decided
test-stays s st bytes rest c e =
    by-recognised s st bytes rest (recognised s st.mode st.net bytes) (recognised s st.mode st.net (bytes ++ rest)) c
    (recognised-answers s st.mode st.net bytes) (recognised-answers s st.mode st.net (bytes ++ rest)) e

pub decided-stays : (s : Syntax) (st : ScanState) (bytes rest : List ℕ) → is_scanned st.mode ≡ true → IsDecided s st bytes → IsDecided s st (bytes ++ rest)
decided-stays s st bytes rest c h =
    (decided-is s st (bytes ++ rest)).0 (test-stays s st bytes rest c ((decided-is s st bytes).1 h))

-- WHAT IT BEGINS WITH

abbrev is_told : Scanned → Bool
is_told (Token t) = not (is_run t.kind)
is_told NeedMore = false
is_told (BadToken e) = not (is_unclosed_reason e)

judged-is-told : (n : ℕ) (x : Result TokenKind Reason) → is_told_kind x ≡ true → is_told (of_judged n x) ≡ true
judged-is-told n (Ok k) e = e
judged-is-told n (Err e) f = f

closed-is-told : (s : Syntax) (bytes : List ℕ) (f : Form) (o : Option ℕ) → is_some o ≡ true → is_told (closed s false bytes f o) ≡ true
closed-is-told s bytes f None e = apart false e refl
closed-is-told s bytes f (Some n) e = judged-is-told _ (judged s f (take _ bytes)) (judged-told s f (take _ bytes))

declared-is-told : (s : Syntax) (mode : Mode) (bytes after : List ℕ) → reaches_opening s bytes (declared_opening mode after) ≡ true → is_told (opened s false bytes (declared_opening mode after)) ≡ true
declared-is-told s m.Ign bytes after e = refl
declared-is-told s _ bytes after e = closed-is-told s bytes (declared_form after) (end_of s (declared_form after) false (drop (before (declared_form after)) bytes)) e

markup-is-told : (s : Syntax) (bytes : List ℕ) (f : Form) → reaches_opening s bytes (Markup f) ≡ true → is_told (opened s false bytes (Markup f)) ≡ true
markup-is-told s bytes f e = closed-is-told s bytes f (end_of s f false (drop (before f) bytes)) e

opened-is-told : (s : Syntax) (mode : Mode) (x : Delim) (bytes after : List ℕ) → reaches_opening s bytes (opening mode x after) ≡ true
    → is_told (opened s false bytes (opening mode x after)) ≡ true
opened-is-told s mode d.Mdo bytes after e = declared-is-told s mode bytes after e
opened-is-told s mode d.Msc bytes after e = refl
opened-is-told s mode d.Net bytes after e = refl
opened-is-told s mode d.Stago bytes after e = markup-is-told s bytes form.StartTag e
opened-is-told s mode d.Etago bytes after e = markup-is-told s bytes form.EndTag e
opened-is-told s mode d.Ero bytes after e = markup-is-told s bytes form.EntityReference e
opened-is-told s mode d.Cro bytes after e = markup-is-told s bytes form.CharacterReference e
opened-is-told s mode d.Pero bytes after e = markup-is-told s bytes form.ParameterReference e
opened-is-told s mode d.Pio bytes after e = markup-is-told s bytes form.Instruction e
opened-is-told s mode d.Dsc bytes after e = markup-is-told s bytes form.SubsetEnd e
opened-is-told s mode _ bytes after e = refl

whole : (s : Syntax) (st : ScanState) (bytes : List ℕ) (scanned : Scanned) → is_told scanned ≡ true → IsScanned s st false bytes scanned → BeginsWhole s st bytes
whole s st bytes scanned e h = record {
  scanned = scanned;
  is = h;
  no_stretch = λ q n same. apart (is_told scanned) e (ap is_told same ∙ ap not (run-is-run q));
  told = λ same. apart (is_told scanned) e (ap is_told same);
  ends = λ same. apart (is_told scanned) e (ap is_told same);
}

abbrev Begins : Syntax → ScanState → List ℕ → Type 0
Begins s st bytes = BeginsStretch s st bytes ⊎ BeginsWhole s st bytes

-- where nothing else begins
class-begins : (s : Syntax) (st : ScanState) (b : ℕ) (bytes : List ℕ) (k : Class) → class_of st.mode b ≡ k
    → NoDelimiter s st false (b ∷ bytes) → NoString (matches_strings st) false (b ∷ bytes)
    → ((scanned : Scanned) → IsPlainToken s st false (b ∷ bytes) scanned → IsScanned s st false (b ∷ bytes) scanned) → Begins s st (b ∷ bytes)
class-begins s st b bytes (class.Stretch q) e nod nos scan =
    inl (q, record { byte = ap run_of_class e; delimiter = nod; string = nos })
class-begins s st b bytes (class.Single k) e nod nos scan =
    inr (whole s st (b ∷ bytes) (token k 1) (sym (ap is_no_run e) ∙ class-no-run st.mode b)
    (scan (token k 1) (subst (λ x. IsOfClass s st false (b ∷ bytes) (token k 1) x) (sym e) refl)))
class-begins s st b bytes class.NonSgml e nod nos scan =
    inr (whole s st (b ∷ bytes) (BadToken reason.NonSgml) refl
    (scan (BadToken reason.NonSgml) (subst (λ x. IsOfClass s st false (b ∷ bytes) (BadToken reason.NonSgml) x) (sym e) refl)))

-- by the string, where strings are matched
undelimited-scanned : (s : Syntax) (st : ScanState) (bytes : List ℕ) (scanned : Scanned) → NoDelimiter s st false bytes
    → IsUndelimited (matches_strings st) s st false bytes scanned → IsScanned s st false bytes scanned
undelimited-scanned s st bytes scanned nod h = record { recognised = r.Plain; answers = nod; token = h }

matched-begins : (s : Syntax) (st : ScanState) (b : ℕ) (bytes : List ℕ) (x : Matched) → is_matched x ≡ true → matches_strings st ≡ true
    → NoDelimiter s st false (b ∷ bytes) → strings.Answers false strings.answer (b ∷ bytes) x → Begins s st (b ∷ bytes)
matched-begins s st b bytes matched.NeedMore e t nod a = apart false e refl
matched-begins s st b bytes (matched.String i n) e t nod a =
    inr (whole s st (b ∷ bytes) (token (kind.ShortRef i) n) refl
    (undelimited-scanned s st (b ∷ bytes) (token (kind.ShortRef i) n) nod
    (subst (λ u. IsUndelimited u s st false (b ∷ bytes) (token (kind.ShortRef i) n)) (sym t) (record { matched = matched.String i n; answers = a; token = refl }))))
matched-begins s st b bytes matched.Plain e t nod a =
    class-begins s st b bytes (class_of st.mode b) refl nod (subst (λ u. NoString u false (b ∷ bytes)) (sym t) a)
    (λ scanned h. undelimited-scanned s st (b ∷ bytes) scanned nod
    (subst (λ u. IsUndelimited u s st false (b ∷ bytes) scanned) (sym t) (record { matched = matched.Plain; answers = a; token = h })))

undelimited-begins : (s : Syntax) (st : ScanState) (b : ℕ) (bytes : List ℕ) (t : Bool) → matches_strings st ≡ t → has_match t (b ∷ bytes) ≡ true
    → NoDelimiter s st false (b ∷ bytes) → Begins s st (b ∷ bytes)
undelimited-begins s st b bytes true t e nod =
    matched-begins s st b bytes (strings.matched false (b ∷ bytes)) e t nod (matched-answers false (b ∷ bytes))
undelimited-begins s st b bytes false t e nod =
    class-begins s st b bytes (class_of st.mode b) refl nod (subst (λ u. NoString u false (b ∷ bytes)) (sym t) tt)
    (λ scanned h. undelimited-scanned s st (b ∷ bytes) scanned nod (subst (λ u. IsUndelimited u s st false (b ∷ bytes) scanned) (sym t) h))

recognised-begins : (s : Syntax) (st : ScanState) (b : ℕ) (bytes : List ℕ) (x : Recognised) → reaches s st (b ∷ bytes) x ≡ true
    → delimiters.Answers false (delimiters.answer s st.mode st.net) (b ∷ bytes) x → Begins s st (b ∷ bytes)
recognised-begins s st b bytes r.NeedMore e a = apart false e refl
recognised-begins s st b bytes (r.Found x n) e a =
    let o = opening st.mode x (drop (length (string x)) (b ∷ bytes)) in
    inr (whole s st (b ∷ bytes) (opened s false (b ∷ bytes) o) (opened-is-told s st.mode x (b ∷ bytes) (drop (length (string x)) (b ∷ bytes)) e)
    (record { recognised = r.Found x n; answers = a; token = refl }))
recognised-begins s st b bytes r.Plain e a = undelimited-begins s st b bytes (matches_strings st) refl e a

tested-begins : (s : Syntax) (st : ScanState) (b : ℕ) (bytes : List ℕ) → token_decided s st (b ∷ bytes) ≡ true → Begins s st (b ∷ bytes)
unfolding token_decided
tested-begins s st b bytes e =
    recognised-begins s st b bytes (recognised s st.mode st.net (b ∷ bytes)) e (recognised-answers s st.mode st.net (b ∷ bytes))

pub decided-told : (s : Syntax) (st : ScanState) (bytes : List ℕ) → 0 < length bytes → IsDecided s st bytes → BeginsStretch s st bytes ⊎ BeginsWhole s st bytes
decided-told s st [] some h = absurd (omega (arith, some))
decided-told s st (b ∷ bytes) some h = tested-begins s st b bytes ((decided-is s st (b ∷ bytes)).1 h)
