-- What is scanned at a place is the token there, whether the text is whole or goes on.
use Rattle.std.proofs.Common.{◌≡◌, ℕ, Bool, true, false, List, [], ◌∷◌, ◌++◌, ◌<◌, None, Some, drop, length, refl, sym, ◌∙◌, ap, append-nil, arith}
use Rattle.sgml_scan.specs.syntax.declared.syntax.Syntax.{Syntax}
use Rattle.sgml_scan.specs.delim.declared.delim.Mode.{Mode}
use Rattle.sgml_scan.specs.delim.declared.delim.Recognised.{Recognised}
use Rattle.sgml_scan.specs.delim.declared.delim.Recognised.TheVariants as r
use Rattle.sgml_scan.specs.delim.Answers as delimiters
use Rattle.sgml_scan.specs.shortref.declared.matching.Matched.{Matched}
use Rattle.sgml_scan.specs.shortref.declared.matching.Matched.TheVariants as matched
use Rattle.sgml_scan.specs.shortref.Matches as strings
use Rattle.sgml_scan.specs.declared.classes.Run.{Run}
use Rattle.sgml_scan.specs.declared.classes.Class.{Class}
use Rattle.sgml_scan.specs.declared.classes.Class.TheVariants as class
use Rattle.sgml_scan.specs.declared.state.ScanState.{ScanState}
use Rattle.sgml_scan.specs.declared.state.Scanned.{Scanned}
use Rattle.sgml_scan.specs.Classes.{class_of, run_of, stretch_at, run_kind}
use Rattle.sgml_scan.specs.Openings.{matches_strings, NoString}
use Rattle.sgml_scan.specs.Tokens.{token, IsOne, IsStretch, IsOfClass, IsPlainToken, IsMatchedToken, IsUndelimited, IsToken, IsScanned}
use Rattle.sgml_theory_spelling.specs.Tokens.{character_token, first_character, string_at, by_string, by_delimiter, token_at}

pub true-false : {A : Type 0} → true ≡ false → A
true-false e = absurd (never e)
  where
    never : true ≡ false → ⊥
    never e = cc

pub apart : {A : Type 0} (t : Bool) → t ≡ true → t ≡ false → A
apart t p q = true-false (sym p ∙ q)

-- ONE BYTE of a stretch, in each text that goes on so

none-some : {A : Type 0} (r : Run) → None ≡ Some r → A
none-some r e = absurd (never e)
  where
    never : None ≡ Some r → ⊥
    never e = cc

class-token : (k : Class) (r : Run) → run_of k ≡ Some r → character_token k ≡ token (run_kind r) 1
class-token (class.Stretch q) r e =
    let same : q ≡ r = cc in
    ap (λ x. token (run_kind x) 1) same
class-token (class.Single k) r e = none-some r e
class-token class.NonSgml r e = none-some r e

character-one : (mode : Mode) (r : Run) (bytes more : List ℕ) → stretch_at mode bytes ≡ Some r → first_character mode (bytes ++ more) ≡ token (run_kind r) 1
character-one mode r [] more e = none-some r e
character-one mode r (b ∷ bytes) more e = class-token (class_of mode b) r e

string-none : (t ended : Bool) (bytes more : List ℕ) → delimiters.MayFollow ended more → NoString t ended bytes → string_at t (bytes ++ more) ≡ None
string-none true ended bytes more f h = h more f
string-none false ended bytes more f h = refl

pub one-token : (s : Syntax) (st : ScanState) (ended : Bool) (r : Run) (bytes more : List ℕ) → delimiters.MayFollow ended more
    → IsOne s st ended r bytes → token_at s st (bytes ++ more) ≡ token (run_kind r) 1
unfolding token_at
one-token s st ended r bytes more f h =
    ap (by_delimiter s st (bytes ++ more)) (h.delimiter more f)
    ∙ ap (by_string st.mode (bytes ++ more)) (string-none (matches_strings st) ended bytes more f h.string)
    ∙ character-one st.mode r bytes more h.byte

pub one-length : (s : Syntax) (st : ScanState) (ended : Bool) (r : Run) (bytes : List ℕ) → IsOne s st ended r bytes → 0 < length bytes
one-length s st ended r [] h = none-some r h.byte
one-length s st ended r (b ∷ bytes) h = omega arith

-- of a stretch each byte is one, in a whole text
pub stretch-tokens : (s : Syntax) (st : ScanState) (r : Run) (bytes : List ℕ) (n i : ℕ)
    → IsStretch s st true r bytes n → i < n → token_at s st (drop i bytes) ≡ token (run_kind r) 1
stretch-tokens s st r bytes n i h l =
    ap (token_at s st) (sym (append-nil (drop i bytes))) ∙ one-token s st true r (drop i bytes) [] (λ t. refl) (h.each i l)

-- ANOTHER TOKEN, in a whole text

abbrev pub IsOther : Scanned → Type 0
IsOther scanned = (r : Run) (n : ℕ) → scanned ≡ token (run_kind r) n → ⊥

class-other : (s : Syntax) (st : ScanState) (bytes : List ℕ) (scanned : Scanned) (k : Class) → IsOther scanned
    → IsOfClass s st true bytes scanned k → character_token k ≡ scanned
class-other s st bytes scanned (class.Stretch q) other h = absurd (other q h.0 h.1)
class-other s st bytes scanned (class.Single k) other h = sym h
class-other s st bytes scanned class.NonSgml other h = sym h

plain-other : (s : Syntax) (st : ScanState) (bytes : List ℕ) (scanned : Scanned) → IsOther scanned
    → IsPlainToken s st true bytes scanned → first_character st.mode bytes ≡ scanned
plain-other s st [] scanned other h = absurd h
plain-other s st (b ∷ bytes) scanned other h = class-other s st (b ∷ bytes) scanned (class_of st.mode b) other h

matched-other : (s : Syntax) (st : ScanState) (bytes : List ℕ) (x : Matched) (scanned : Scanned) → IsOther scanned
    → strings.Answers true strings.answer bytes x → IsMatchedToken s st true bytes x scanned
    → by_string st.mode bytes (strings.answer bytes) ≡ scanned
matched-other s st bytes matched.NeedMore scanned other a h = true-false a.goes_on
matched-other s st bytes (matched.String i n) scanned other a h =
    ap (by_string st.mode bytes) (ap strings.answer (sym (append-nil bytes)) ∙ a [] (λ t. refl)) ∙ sym h
matched-other s st bytes matched.Plain scanned other a h =
    ap (by_string st.mode bytes) (ap strings.answer (sym (append-nil bytes)) ∙ a [] (λ t. refl)) ∙ plain-other s st bytes scanned other h

undelimited-other : (s : Syntax) (st : ScanState) (bytes : List ℕ) (scanned : Scanned) (t : Bool) → IsOther scanned
    → IsUndelimited t s st true bytes scanned → by_string st.mode bytes (string_at t bytes) ≡ scanned
undelimited-other s st bytes scanned true other h = matched-other s st bytes h.matched scanned other h.answers h.token
undelimited-other s st bytes scanned false other h = plain-other s st bytes scanned other h

recognised-other : (s : Syntax) (st : ScanState) (bytes : List ℕ) (x : Recognised) (scanned : Scanned) → IsOther scanned
    → delimiters.Answers true (delimiters.answer s st.mode st.net) bytes x → IsToken s st true bytes x scanned
    → by_delimiter s st bytes (delimiters.answer s st.mode st.net bytes) ≡ scanned
recognised-other s st bytes r.NeedMore scanned other a h = true-false a.goes_on
recognised-other s st bytes (r.Found x n) scanned other a h =
    ap (by_delimiter s st bytes) (ap (delimiters.answer s st.mode st.net) (sym (append-nil bytes)) ∙ a.1 [] (λ t. refl)) ∙ sym h
recognised-other s st bytes r.Plain scanned other a h =
    ap (by_delimiter s st bytes) (ap (delimiters.answer s st.mode st.net) (sym (append-nil bytes)) ∙ a [] (λ t. refl))
    ∙ undelimited-other s st bytes scanned (matches_strings st) other h

pub scanned-token : (s : Syntax) (st : ScanState) (bytes : List ℕ) (scanned : Scanned) → IsOther scanned
    → IsScanned s st true bytes scanned → token_at s st bytes ≡ scanned
unfolding token_at
scanned-token s st bytes scanned other h = recognised-other s st bytes h.recognised scanned other h.answers h.token
