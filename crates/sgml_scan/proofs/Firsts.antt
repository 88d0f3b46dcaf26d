-- In content where no string is matched, what the first byte tells.
use Rattle.std.proofs.Common.{◌≡◌, ℕ, Bool, true, false, List, [], ◌∷◌, ◌++◌, ◌≤◌, Some, length, refl, sym, ◌∙◌, ap, subst, ◌&&◌, ◌==◌, arith, slice_index_or, not, None, inl, inr, ◌<◌, drop}
use Rattle.sgml_syntax.specs.declared.syntax.Syntax.{Syntax}
use Rattle.sgml_delim.specs.declared.delim.Recognised.TheVariants.{Plain}
use Rattle.sgml_delim.specs.declared.delim.Mode.{Mode}
use Rattle.sgml_delim.specs.declared.delim.Mode.TheVariants as m
use Rattle.sgml_delim.proofs.Deciding.{true-false, and-left, and-right}
use Rattle.sgml_markup.specs.declared.kinds.TokenKind.TheVariants as kind
use Rattle.sgml_scan.specs.declared.classes.Run.{Run}
use Rattle.sgml_scan.specs.declared.classes.Run.TheVariants as run
use Rattle.sgml_scan.specs.declared.classes.Class.{Class}
use Rattle.sgml_scan.specs.declared.classes.Class.TheVariants.{Stretch, Single, NonSgml}
use Rattle.sgml_scan.specs.declared.state.ScanState.{ScanState}
use Rattle.sgml_scan.specs.declared.state.Scanned.{Scanned}
use Rattle.sgml_scan.specs.Classes.{is_scanned, class_of, class_in_content, run_of}
use Rattle.sgml_shortref.specs.declared.matching.Matched.TheVariants as matched
use Rattle.sgml_shortref.proofs.Beginning.{some-begins}
use Rattle.sgml_scan.specs.Openings.{matches_strings, NoString}
use Rattle.sgml_scan.specs.Sure.{Sure, IsBound, IsStringBound, is_quiet, is_text, is_word, is_content, is_plain_content, is_ds}
use Rattle.sgml_scan.specs.Tokens.{IsScanned, IsOne, IsOfClass, IsPlainToken, IsMatched, IsUndelimited, token}
use Rattle.sgml_scan.proofs.Standing.{quiet-at, sure-at, text-sure, word-sure, no-subset, not-false}

unmatched : (st : ScanState) → is_plain_content st ≡ true → matches_strings st ≡ false
unmatched st h = not-false (matches_strings st) (and-right (is_content st.mode) (not (matches_strings st)) h)

in-content : (st : ScanState) → is_plain_content st ≡ true → is_content st.mode ≡ true
in-content st h = and-left (is_content st.mode) (not (matches_strings st)) h

content-of : (mode : Mode) (b : ℕ) → is_content mode ≡ true → class_of mode b ≡ class_in_content b
content-of m.Con b e = refl
content-of m.Rcd b e = refl
content-of m.Cdt b e = refl
content-of m.Rcs b e = refl
content-of m.Cds b e = refl
content-of _ b e = absurd (true-false e)

-- of no other run
stretch-is : (k : Class) (r : Run) → run_of k ≡ Some r → k ≡ Stretch r
stretch-is (Stretch q) r e = ap Stretch (run-is q r e)
  where
    run-is : (p q : Run) → Some p ≡ Some q → p ≡ q
    run-is p q e = cc
stretch-is (Single k) r e = cc
stretch-is NonSgml r e = cc

-- a byte with which no delimiter begins, by its class
by-class : (s : Syntax) (st : ScanState) (ended : Bool) (text : List ℕ) (scanned : Scanned) → is_scanned st.mode ≡ true
    → 1 ≤ length text → matches_strings st ≡ false → is_quiet st (slice_index_or text 0 0) ≡ true
    → IsOfClass s st ended text scanned (class_of st.mode (slice_index_or text 0 0)) → IsScanned s st ended text scanned
by-class s st ended [] scanned c l u q h = absurd (omega arith)
by-class s st ended (b ∷ bytes) scanned c l u q h = record {
  recognised = Plain;
  answers = quiet-at s st ended (b ∷ bytes) c l q;
  token = subst (λ t. IsUndelimited t s st ended (b ∷ bytes) scanned) (sym u) h;
}

-- text up to where no character stands
pub text-scanned : (s : Syntax) (st : ScanState) (ended : Bool) (text : List ℕ) (n : ℕ) → is_scanned st.mode ≡ true → is_plain_content st ≡ true → 0 < n → n ≤ length text
    → ((i : ℕ) → i < n → is_text st.net (slice_index_or text i 0) ≡ true) → (IsOne s st ended run.Chars (drop n text) → ⊥) → IsScanned s st ended text (token kind.Chars n)
text-scanned s st ended text n c p some l t end =
    let sure : (i : ℕ) → i < n → Sure st run.Chars (slice_index_or text i 0) = λ i h. text-sure st (slice_index_or text i 0) (unmatched st p) (in-content st p) (t i h) in
    let first = sure 0 some in
    by-class s st ended text (token kind.Chars n) c (omega (arith, some, l)) (unmatched st p) first.quiet
    (subst (λ k. IsOfClass s st ended text (token kind.Chars n) k) (sym (stretch-is (class_of st.mode (slice_index_or text 0 0)) run.Chars first.class))
    (n, refl, record { each = λ i h. sure-at s st ended run.Chars text i c (omega (arith, h, l)) (sure i h); longest = end }))

-- a record end and a record start are quiet
bound-quiet : (st : ScanState) (b : ℕ) → is_content st.mode ≡ true → (b == 60) ≡ false → (b == 38) ≡ false → (b == 93) ≡ false
    → (b == 47) ≡ false → is_quiet st b ≡ true
bound-quiet st b c e f g h = by_net st.net (is_ds st.mode) (no-subset st.mode c)
  where
    by_net : (n d : Bool) → d ≡ false
        → (not (b == 60) && not (b == 38) && not (b == 93) && not (n && (b == 47)) && not (d && (b == 37))) ≡ true
    by_net true d i = rw (e, f, g, h, i) refl
    by_net false d i = rw (e, f, g, i) refl

pub end-scanned : (s : Syntax) (st : ScanState) (ended : Bool) (text : List ℕ) → is_scanned st.mode ≡ true
    → 1 ≤ length text → is_plain_content st ≡ true → slice_index_or text 0 0 ≡ 13 → IsScanned s st ended text (token kind.Re 1)
end-scanned s st ended text c l p e =
    let i = in-content st p in
    let b = slice_index_or text 0 0 in
    by-class s st ended text (token kind.Re 1) c l (unmatched st p)
    (subst (λ x. is_quiet st x ≡ true) (sym e) (bound-quiet st 13 i refl refl refl refl))
    (subst (λ k. IsOfClass s st ended text (token kind.Re 1) k) (sym (content-of st.mode b i ∙ ap class_in_content e)) refl)

pub start-scanned : (s : Syntax) (st : ScanState) (ended : Bool) (text : List ℕ) → is_scanned st.mode ≡ true
    → 1 ≤ length text → is_plain_content st ≡ true → slice_index_or text 0 0 ≡ 10 → IsScanned s st ended text (token kind.Rs 1)
start-scanned s st ended text c l p e =
    let i = in-content st p in
    let b = slice_index_or text 0 0 in
    by-class s st ended text (token kind.Rs 1) c l (unmatched st p)
    (subst (λ x. is_quiet st x ≡ true) (sym e) (bound-quiet st 10 i refl refl refl refl))
    (subst (λ k. IsOfClass s st ended text (token kind.Rs 1) k) (sym (content-of st.mode b i ∙ ap class_in_content e)) refl)

-- no character stands where the text ends, or a record does
none-some : (r : Run) → None ≡ Some r → ⊥
none-some r e = cc

not-character : (mode : Mode) (b c : ℕ) → is_content mode ≡ true → b ≡ c → run_of (class_in_content c) ≡ None
    → run_of (class_of mode b) ≡ Some run.Chars → ⊥
not-character mode b c i e n h = none-some run.Chars (sym n ∙ ap (λ x. run_of (class_in_content x)) (sym e) ∙ ap run_of (sym (content-of mode b i)) ∙ h)

pub bound-not-one : (s : Syntax) (st : ScanState) (ended : Bool) (text : List ℕ) → is_plain_content st ≡ true → IsBound text
    → IsOne s st ended run.Chars text → ⊥
bound-not-one s st ended [] p h one = none-some run.Chars one.byte
bound-not-one s st ended (b ∷ bytes) p (inl e) one = not-character st.mode b 13 (in-content st p) e refl one.byte
bound-not-one s st ended (b ∷ bytes) p (inr e) one = not-character st.mode b 10 (in-content st p) e refl one.byte

-- nor where a string does
pub string-not-one : (s : Syntax) (st : ScanState) (ended : Bool) (text : List ℕ) → matches_strings st ≡ true → IsStringBound text
    → IsOne s st ended run.Chars text → ⊥
string-not-one s st ended [] m h one = none-some run.Chars one.byte
string-not-one s st ended (b ∷ bytes) m h one =
    some-begins b (bytes ++ []) h ((subst (λ t. NoString t ended (b ∷ bytes)) m one.string) [] (λ t. refl))

-- WHERE STRINGS ARE MATCHED

-- a byte with which no delimiter begins, by the string there
pub quiet-scanned : (s : Syntax) (st : ScanState) (ended : Bool) (text : List ℕ) (scanned : Scanned) → is_scanned st.mode ≡ true
    → 1 ≤ length text → matches_strings st ≡ true → is_quiet st (slice_index_or text 0 0) ≡ true
    → IsMatched s st ended text scanned → IsScanned s st ended text scanned
quiet-scanned s st ended text scanned c l m q h = record {
  recognised = Plain;
  answers = quiet-at s st ended text c l q;
  token = subst (λ t. IsUndelimited t s st ended text scanned) (sym m) h;
}

-- no string stands there
plain-matched : (s : Syntax) (st : ScanState) (ended : Bool) (text : List ℕ) (scanned : Scanned) → NoString true ended text
    → IsPlainToken s st ended text scanned → IsMatched s st ended text scanned
plain-matched s st ended text scanned n h = record { matched = matched.Plain; answers = n; token = h }

of-class : (s : Syntax) (st : ScanState) (ended : Bool) (text : List ℕ) (scanned : Scanned) → 1 ≤ length text
    → IsOfClass s st ended text scanned (class_of st.mode (slice_index_or text 0 0)) → IsPlainToken s st ended text scanned
of-class s st ended [] scanned l h = absurd (omega arith)
of-class s st ended (b ∷ bytes) scanned l h = h

-- text up to where no character stands
pub words-scanned : (s : Syntax) (st : ScanState) (ended : Bool) (text : List ℕ) (n : ℕ) → is_scanned st.mode ≡ true → matches_strings st ≡ true → 0 < n → n ≤ length text
    → ((i : ℕ) → i < n → is_word st.net (slice_index_or text i 0) ≡ true) → (IsOne s st ended run.Chars (drop n text) → ⊥) → IsScanned s st ended text (token kind.Chars n)
words-scanned s st ended text n c m some l t end =
    let sure : (i : ℕ) → i < n → Sure st run.Chars (slice_index_or text i 0) = λ i h. word-sure st (slice_index_or text i 0) m (t i h) in
    let each : (i : ℕ) → i < n → IsOne s st ended run.Chars (drop i text) = λ i h. sure-at s st ended run.Chars text i c (omega (arith, h, l)) (sure i h) in
    let first = sure 0 some in
    let long : 1 ≤ length text = omega (arith, some, l) in
    quiet-scanned s st ended text (token kind.Chars n) c long m first.quiet
    (plain-matched s st ended text (token kind.Chars n) (subst (λ u. NoString u ended text) m (each 0 some).string)
    (of-class s st ended text (token kind.Chars n) long
    (subst (λ k. IsOfClass s st ended text (token kind.Chars n) k) (sym (stretch-is (class_of st.mode (slice_index_or text 0 0)) run.Chars first.class))
    (n, refl, record { each = each; longest = end }))))
