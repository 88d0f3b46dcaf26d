-- A text that decides its token decides it when it goes on.
use Rattle.std.proofs.Common.{◌≡◌, ℕ, Bool, true, false, List, [], ◌∷◌, ◌++◌, ◌+◌, ◌<◌, ◌≤◌, ◌==◌, ◌&&◌, length, drop, take, nat_lt, cond, refl, sym, ◌∙◌, ap, if◌then◌else◌, arith, rules, tests, eqb-true}
use Rattle.std.specs.List.{prefix_len}
use Rattle.std.proofs.lemmas.List.{drop-append-le, take-append-le, length-drop, length-append}
use Rattle.std.proofs.lemmas.List.Folds.{prefix_len-append}
use Rattle.sgml_scan.specs.text.declared.name_set.NameSet.{NameSet}
use Rattle.sgml_scan.specs.text.NameCharacters.{is_name_character}
use Rattle.sgml_scan.specs.syntax.declared.syntax.Syntax.{Syntax}
use Rattle.sgml_scan.specs.delim.declared.delim.Verdict.{Verdict}
use Rattle.sgml_scan.specs.delim.declared.delim.Verdict.TheVariants.{Holds, Fails, Undecided}
use Rattle.sgml_scan.specs.delim.Tables.{begins}
use Rattle.sgml_scan.specs.declared.state.ScanState.{ScanState}
use Rattle.sgml_scan.specs.Classes.{is_scanned}
use Rattle.sgml_scan.specs.Decided.{token_decided}
use Rattle.sgml_scan.proofs.Tested.{decided-is}
use Rattle.sgml_scan.proofs.Told.{decided-stays}
use Rattle.sgml_sgmldecl.specs.Machine.{State, Step, refused, goes, ends, Outcome, bad, whole, run, step, go_on}
use Rattle.sgml_theory_reading.specs.decl_parts.Bytes.{name_length}
use Rattle.sgml_scan.specs.text.Characters.{is_word}
use Rattle.sgml_scan.specs.delim.Verdicts.{prefix_verdict}
use Rattle.sgml_theory_spelling.specs.Decided.{keyword_decided, beginning_decided}
use Rattle.sgml_theory_spelling.specs.SgmlDeclared.{has_keyword, keyword_ends}
use Rattle.sgml_theory_spelling.proofs.Tokens.{apart}

-- WHAT IS DECIDED stays (as it does in the layer below)
pub decided-on : (s : Syntax) (st : ScanState) (bytes rest : List ℕ) → is_scanned st.mode ≡ true → token_decided s st bytes ≡ true → token_decided s st (bytes ++ rest) ≡ true
decided-on s st bytes rest c e = (decided-is s st (bytes ++ rest)).1 (decided-stays s st bytes rest c ((decided-is s st bytes).0 e))

-- THE SGML DECLARATION

-- whether a text begins with a string
byte-on : (c b : ℕ) (string bytes rest : List ℕ) (t : Bool) (v : Verdict) → (v ≡ Undecided → ⊥) → (prefix_verdict string bytes ≡ v → prefix_verdict string (bytes ++ rest) ≡ v)
    → (if t then prefix_verdict string bytes else Fails) ≡ v → (if t then prefix_verdict string (bytes ++ rest) else Fails) ≡ v
byte-on c b string bytes rest true v n more e = more e
byte-on c b string bytes rest false v n more e = e

pub prefix-on : (string bytes rest : List ℕ) (v : Verdict) → (v ≡ Undecided → ⊥) → prefix_verdict string bytes ≡ v → prefix_verdict string (bytes ++ rest) ≡ v
prefix-on [] bytes rest v n e = e
prefix-on (c ∷ string) [] rest v n e = absurd (n (sym e))
prefix-on (c ∷ string) (b ∷ bytes) rest v n e = byte-on c b string bytes rest (c == b) v n (prefix-on string bytes rest v n) e

abbrev pub is_holds : Verdict → Bool
is_holds Holds = true
is_holds _ = false

begins-byte : (t u : Bool) (v : Verdict) → u ≡ is_holds v → (t && u) ≡ is_holds (if t then v else Fails)
begins-byte true u v e = e
begins-byte false u v e = refl

pub begins-verdict : (string bytes : List ℕ) → begins string bytes ≡ is_holds (prefix_verdict string bytes)
begins-verdict [] bytes = refl
begins-verdict (c ∷ string) [] = refl
begins-verdict (c ∷ string) (b ∷ bytes) = begins-byte (c == b) (begins string bytes) (prefix_verdict string bytes) (begins-verdict string bytes)

-- its keyword
less : (a b : ℕ) → nat_lt a b ≡ true → a < b
less a b e = search (rules, tests)

pub not-equal : (a b : ℕ) → a < b → (a == b) ≡ false
not-equal a b l = by (a == b) refl
  where
    by : (t : Bool) → (a == b) ≡ t → (a == b) ≡ false
    by true e = let same : a ≡ b = eqb-true a b e in absurd (omega (arith, l, same))
    by false e = e

pub prefix-len-on : (test : ℕ → Bool) (xs ys : List ℕ) → prefix_len test xs < length xs → prefix_len test (xs ++ ys) ≡ prefix_len test xs
prefix-len-on test xs ys l =
    prefix_len-append test xs ys ∙ ap (λ t. cond t (length xs + prefix_len test ys) (prefix_len test xs)) (not-equal (prefix_len test xs) (length xs) l)

two-of : (names : NameSet) (bytes : List ℕ) → keyword_ends names bytes ≡ true → 2 ≤ length bytes
two-of names [] e = apart false e refl
two-of names (a ∷ []) e = apart false e refl
two-of names (a ∷ b ∷ bytes) e = omega arith

word-on : (names : NameSet) (bytes rest : List ℕ) → keyword_ends names bytes ≡ true → name_length names (drop 2 (bytes ++ rest)) ≡ name_length names (drop 2 bytes)
word-on names bytes rest e =
    ap (name_length names) (drop-append-le 2 bytes rest (two-of names bytes e))
    ∙ prefix-len-on (is_name_character names) (drop 2 bytes) rest (less (name_length names (drop 2 bytes)) (length (drop 2 bytes)) e)

pub keyword-on : (names : NameSet) (word bytes rest : List ℕ) → keyword_ends names bytes ≡ true → has_keyword names word (bytes ++ rest) ≡ has_keyword names word bytes
keyword-on names word bytes rest e =
    let l = less (name_length names (drop 2 bytes)) (length (drop 2 bytes)) e in
    ap (λ n. is_word word (take n (drop 2 (bytes ++ rest)))) (word-on names bytes rest e)
    ∙ ap (λ xs. is_word word (take (name_length names (drop 2 bytes)) xs)) (drop-append-le 2 bytes rest (two-of names bytes e))
    ∙ ap (is_word word) (take-append-le (name_length names (drop 2 bytes)) (drop 2 bytes) rest (omega (arith, l)))

keyword-ends-on : (names : NameSet) (bytes rest : List ℕ) → keyword_ends names bytes ≡ true → keyword_ends names (bytes ++ rest) ≡ true
keyword-ends-on names bytes rest e =
    let l = less (name_length names (drop 2 bytes)) (length (drop 2 bytes)) e in
    let same = word-on names bytes rest e in
    let before = length-drop 2 bytes in
    let after = length-drop 2 (bytes ++ rest) in
    let size = length-append bytes rest in
    let less_still : name_length names (drop 2 (bytes ++ rest)) < length (drop 2 (bytes ++ rest)) = omega (arith, l, same, before, after, size) in
    search (rules, tests, less_still)

-- it has a byte
abbrev pub HasLength : Outcome → Type 0
HasLength (bad at) = Unit {0}
HasLength (whole h n) = 0 < n

step-length : (at : ℕ) (x : Step) (follows : State → Outcome) → ((t : State) → HasLength (follows t)) → HasLength (go_on at x follows)
step-length at refused follows more = tt
step-length at (goes t) follows more = more t
step-length at (ends h) follows more = omega arith

pub run-length : (at : ℕ) (s : State) (bs : List ℕ) → HasLength (run at s bs)
unfolding run
run-length at s [] = tt
run-length at s (b ∷ bs) = step-length at (step at s b) (λ t. run (at + 1) t bs) (λ t. run-length (at + 1) t bs)

-- ALL OF IT
and-true : (x y : Bool) → (x && y) ≡ true → (x ≡ true) × (y ≡ true)
and-true true y e = (refl, e)
and-true false y e = apart false e refl

keyword-decided-on : (names : NameSet) (bytes rest : List ℕ) (others more : Bool) → (others ≡ true → more ≡ true)
    → keyword_decided names bytes others ≡ true → keyword_decided names (bytes ++ rest) more ≡ true
keyword-decided-on names bytes rest others more on e =
    let both = and-true (keyword_ends names bytes) others e in
    ap (λ t. t && more) (keyword-ends-on names bytes rest both.0) ∙ on both.1

pub beginning-decided-on : (names : NameSet) (bytes rest : List ℕ) (others more : Bool) (v : Verdict) → (others ≡ true → more ≡ true)
    → beginning_decided names bytes others v ≡ true → beginning_decided names (bytes ++ rest) more v ≡ true
beginning-decided-on names bytes rest others more Holds on e = keyword-decided-on names bytes rest others more on e
beginning-decided-on names bytes rest others more Fails on e = on e
beginning-decided-on names bytes rest others more Undecided on e = e
