-- Separators between declarations are those that a scan would tell.
use Rattle.std.proofs.Common.{◌≡◌, ℕ, ◌<◌, ◌≤◌, ◌==◌, ◌+◌, ◌&&◌, Bool, true, false, not, List, [], ◌∷◌, Option, None, Some, Ok, length, drop, refl, sym, ◌∙◌, ap, subst, inl, inr, arith, if◌then◌else◌, eqb-true}
use Rattle.std.specs.Prelude.{slice_index_or}
use Rattle.std.specs.List.{prefix_len}
use Rattle.std.proofs.lemmas.List.Sums.{prefix_len-le-length, prefix_len_passes, prefix_len_stops}
use Rattle.std.proofs.lemmas.List.{length-drop, get_or-drop}
use Rattle.sgml_text.specs.Characters.{is_separator, is_sgml_character}
use Rattle.sgml_delim.specs.syntax.declared.syntax.Syntax.{Syntax}
use Rattle.sgml_delim.specs.declared.delim.Mode.{Mode}
use Rattle.sgml_delim.specs.declared.delim.Mode.TheVariants as mode
use Rattle.sgml_delim.specs.declared.delim.Recognised.TheVariants as r
use Rattle.sgml_marked.specs.declared.status.Status.{Status}
use Rattle.sgml_marked.specs.declared.status.Status.TheVariants as status
use Rattle.sgml_markup.specs.declared.kinds.TokenKind.TheVariants as kind
use Rattle.sgml_scan.specs.declared.classes.Run.{Run}
use Rattle.sgml_scan.specs.declared.classes.Run.TheVariants as run
use Rattle.sgml_scan.specs.declared.classes.Class.{Class}
use Rattle.sgml_scan.specs.declared.classes.Class.TheVariants as class
use Rattle.sgml_scan.specs.declared.state.ScanState.{ScanState}
use Rattle.sgml_scan.specs.declared.state.Token.{Token}
use Rattle.sgml_scan.specs.declared.state.Scanned.TheVariants as scanned
use Rattle.sgml_scan.specs.Classes.{run_of, stretch_at}
use Rattle.sgml_scan.specs.Sure.{Sure, is_quiet}
use Rattle.sgml_scan.specs.Tokens.{token, IsScanned, IsOne, IsOfClass}
use Rattle.sgml_scan.proofs.Standing.{quiet-at, sure-at}
use Rattle.sgml_declared.specs.theory_reading.Names.{Text}
use Rattle.sgml_declared.specs.theory_spelling.Decided.{is_before}
use Rattle.sgml_declared.specs.theory_standing.Kept.{Kept}
use Rattle.sgml_declared.specs.theory_standing.Prologs.{is_over}
use Rattle.sgml_prolog_steps.specs.Standing.{IsKept}
use Rattle.sgml_prolog_steps.specs.Telling.{mode_in, scanned_in}
use Rattle.sgml_prolog_steps.specs.Found.{rest_in, may_grow, moved_on, innermost, IsScannedIn, IsTokenThere}
use Rattle.sgml_prolog_steps.specs.declared.sort.Sort.TheVariants as sort
use Rattle.sgml_prolog_steps.specs.Sorts.{sort_in, sort_before, sort_inside, is_ignored, is_subset_mode, is_between}
use Rattle.sgml_prolog_steps.specs.Steps.{IsPassed}
use Rattle.sgml_prolog_steps.proofs.Top.{apart}
use Rattle.sgml_prolog_steps.proofs.Told.{told-inside-is}
use Rattle.sgml_prolog_steps.proofs.Shared.{length-moved}
use Rattle.sgml_prolog_steps.proofs.Bytes.{inside-sort, separators-step}

-- WHAT IS SCANNED in a document type where separators stand
abbrev in_subset : ScanState
in_subset = scanned_in mode.Ds

not-byte : (c b : ℕ) → is_separator c ≡ false → is_separator b ≡ true → (b == c) ≡ false
not-byte c b n s = by (b == c) refl
  where
    by : (t : Bool) → (b == c) ≡ t → (b == c) ≡ false
    by true e = apart (is_separator b) s (ap is_separator (eqb-true b c e) ∙ n)
    by false e = e

quiet : (b : ℕ) → is_separator b ≡ true → is_quiet in_subset b ≡ true
quiet b s = λ i. not (not-byte 60 b refl s i) && not (not-byte 38 b refl s i) && not (not-byte 93 b refl s i) && true && not (not-byte 37 b refl s i)

sure : (b : ℕ) → is_separator b ≡ true → Sure in_subset run.Separators b
sure b s = record {
  class = ap (λ t. run_of (if t then class.Stretch run.Separators else if is_sgml_character b then class.Stretch run.Chars else class.NonSgml)) s;
  quiet = quiet b s;
  unmatched = refl;
}

-- another byte is of no such stretch
other-class : (t : Bool) → run_of (if t then class.Stretch run.Chars else class.NonSgml) ≡ Some run.Separators → ⊥
other-class true e = cc
other-class false e = cc

not-one : (s : Syntax) (ended : Bool) (text : List ℕ) → (0 < length text → is_separator (slice_index_or text 0 0) ≡ false) → IsOne s in_subset ended run.Separators text → ⊥
not-one s ended [] h one = never one.byte
  where
    never : None ≡ Some run.Separators → ⊥
    never e = cc
not-one s ended (b ∷ bytes) h one =
    other-class (is_sgml_character b)
    (sym (ap (λ t. run_of (if t then class.Stretch run.Separators else if is_sgml_character b then class.Stretch run.Chars else class.NonSgml)) (h (omega arith))) ∙ one.byte)

first-left : (n : ℕ) (text : List ℕ) → slice_index_or (drop n text) 0 0 ≡ slice_index_or text n 0
first-left n text = get_or-drop n text 0 0 ∙ (let e : n + 0 ≡ n = omega arith in ap (λ m. slice_index_or text m 0) e)

abbrev pub run_length : List ℕ → ℕ
run_length text = prefix_len is_separator text

pub separators-scanned : (s : Syntax) (ended : Bool) (b : ℕ) (bytes : List ℕ) → 0 < run_length (b ∷ bytes) → IsScanned s in_subset ended (b ∷ bytes) (token kind.Separators (run_length (b ∷ bytes)))
separators-scanned s ended b bytes some =
    let text : List ℕ = b ∷ bytes in
    let n : ℕ = run_length text in
    let each : (i : ℕ) → i < n → is_separator (slice_index_or text i 0) ≡ true = λ i l. prefix_len_passes is_separator text i 0 l in
    let first : is_separator b ≡ true = each 0 some in
    let within : n ≤ length text = prefix_len-le-length is_separator text in
    record {
      recognised = r.Plain;
      answers = quiet-at s in_subset ended text refl (omega arith) (quiet b first);
      token = subst (λ t. IsOfClass s in_subset ended text (token kind.Separators n) (if t then class.Stretch run.Separators else if is_sgml_character b then class.Stretch run.Chars else class.NonSgml)) (sym first) (
        n,
        refl,
        record {
          each = λ i l. sure-at s in_subset ended run.Separators text i refl (omega (arith, l, within)) (sure (slice_index_or text i 0) (each i l));
          longest = not-one s ended (drop n text) (λ l. ap is_separator (first-left n text) ∙ prefix_len_stops is_separator text 0 (more n text l));
        },
      );
    }
  where
    more : (n : ℕ) (text : List ℕ) → 0 < length (drop n text) → n < length text
    more n text l = let e = length-drop n text in omega (arith, l, e)

-- IN THE STATE of the reader
subset-mode : (o : Option Status) → is_subset_mode o ≡ true → mode_in o ≡ mode.Ds
subset-mode None e = refl
subset-mode (Some status.Include) e = refl
subset-mode (Some status.Ignore) e = absurd (cc)
subset-mode (Some status.Cdata) e = absurd (cc)
subset-mode (Some status.Rcdata) e = absurd (cc)

both : (x y : Bool) → (not x && y) ≡ true → (x ≡ false) × (y ≡ true)
both false y e = (refl, e)
both true y e = absurd (cc)

scanned-in : (k : Kept) (grows : Bool) (b : ℕ) (bytes : List ℕ) → is_subset_mode (innermost k.sections) ≡ true → 0 < run_length (b ∷ bytes)
    → IsScannedIn k (b ∷ bytes) grows (token kind.Separators (run_length (b ∷ bytes)))
scanned-in k grows b bytes e some =
    subst (λ m. IsScanned k.doctype.syntax (scanned_in m) (not grows) (b ∷ bytes) (token kind.Separators (run_length (b ∷ bytes)))) (sym (subset-mode (innermost k.sections) e))
    (separators-scanned k.doctype.syntax (not grows) b bytes some)

-- the token that stands there
abbrev separators : ℕ → Token
separators n = record { kind = kind.Separators; length = n }

there-by : (k : Kept) (texts : List (ℕ × Text)) (ended : Bool) (xs : List ℕ) → IsKept k → is_over k ≡ false → is_between k ≡ true → rest_in k texts ≡ xs → 0 < run_length xs
    → IsTokenThere k texts ended (separators (run_length xs))
there-by k texts ended [] h g b e some = absurd (omega (arith, some))
there-by k texts ended (x ∷ xs) h g b e some =
    let between = both (is_before k.stage) (is_subset_mode (innermost k.sections)) b in
    told-inside-is k texts ended x xs (scanned.Token (separators (run_length (x ∷ xs)))) between.0 e h g (scanned-in k (may_grow k ended) x xs between.1 some)

sort-of : (k : Kept) → is_between k ≡ true → sort_in k kind.Separators ≡ sort.Separators
sort-of k b = inside-sort k kind.Separators false (both (is_before k.stage) (is_subset_mode (innermost k.sections)) b).0

-- THEY ARE PASSED as such a token is taken
pub separators-passed : (texts : List (ℕ × Text)) (n : ℕ) (old new : Kept) → IsKept old → is_over old ≡ false → is_between old ≡ true → n ≡ run_length (rest_in old texts) → 0 < n
    → new ≡ moved_on n old → IsPassed texts old new
separators-passed texts n old new h g b is some moved = inr (λ c ended asked.
    separators-step texts (separators n) old new h g (sort-of old b) moved c ended asked
    (subst (λ m. IsTokenThere old texts ended (separators m)) (sym is) (there-by old texts ended (rest_in old texts) h g b refl (subst (λ m. 0 < m) is some))))

pub over-moved : (n : ℕ) (old new : Kept) → is_over old ≡ false → new ≡ moved_on n old → is_over new ≡ false
over-moved n old new g moved =
    ap is_over moved
    ∙ (ap (λ m. Rattle.sgml_declared.specs.theory_reading.Reads.is_after_subset old.stage && (m == 1)) (length-moved n old.stack.places) ∙ g)
