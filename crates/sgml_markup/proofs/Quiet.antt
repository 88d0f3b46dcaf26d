-- References in literals, and delimiters in them.
use Rattle.std.proofs.Common.{◌≡◌, ℕ, ◌+◌, ◌*◌, ◌-◌, ◌<◌, ◌≤◌, Bool, true, false, List, [], ◌∷◌, None, Some, length, drop, refl, sym, ◌∙◌, ap, if◌then◌else◌, ◌&&◌, ◌||◌, ◌==◌, arith, min, fold, slice_index_or, take}
use Rattle.std.specs.List.{list_all}
use Rattle.std.proofs.lemmas.Bool.{eqb-true}
use Rattle.sgml_text.specs.Characters.{is_sgml_character}
use Rattle.sgml_syntax.specs.declared.syntax.Syntax.{Syntax}
use Rattle.sgml_delim.specs.declared.delim.Delim.{Delim}
use Rattle.sgml_delim.specs.declared.delim.Delim.TheVariants as d
use Rattle.sgml_delim.specs.declared.delim.Mode.TheVariants as m
use Rattle.sgml_delim.specs.declared.delim.Recognised.TheVariants.{Found, Plain}
use Rattle.sgml_delim.specs.Tables.{string, stands, delims}
use Rattle.sgml_delim.specs.Answers.{Answers, answer}
use Rattle.sgml_markup.specs.References.{wrong_number, wrong_length, in_literal, somewhere, run_of}
use Rattle.sgml_markup.specs.QuickTags.{begins_sgml}
use Rattle.sgml_markup.proofs.EndLemmas.{drop-at}
use Rattle.sgml_delim.proofs.Found.{found-is, plain-is}
use Rattle.sgml_delim.proofs.Deciding.{stands-length, first-stands}

-- a text that begins with no `&` begins with no reference
pub quiet-number : (s : Syntax) (b : ℕ) (bytes : List ℕ) → (38 == b) ≡ false
    → wrong_number s (in_literal s (b ∷ bytes)) (b ∷ bytes) ≡ false
unfolding in_literal stands
quiet-number s b bytes e = rw e (by_lit ((34 == b) && true && true))
  where
    by_lit : (u : Bool) → wrong_number s (if u then Some d.Lit else None) (b ∷ bytes) ≡ false
    by_lit true = refl
    by_lit false = refl

pub quiet-length : (s : Syntax) (b : ℕ) (bytes : List ℕ) → (38 == b) ≡ false
    → wrong_length s (in_literal s (b ∷ bytes)) (b ∷ bytes) ≡ false
unfolding in_literal stands
quiet-length s b bytes e = rw e (by_lit ((34 == b) && true && true))
  where
    by_lit : (u : Bool) → wrong_length s (if u then Some d.Lit else None) (b ∷ bytes) ≡ false
    by_lit true = refl
    by_lit false = refl

not-equal : (b : ℕ) → (b ≡ 38 → ⊥) → (38 == b) ≡ false
not-equal b h = from (38 == b) refl
  where
    from : (t : Bool) → (38 == b) ≡ t → (38 == b) ≡ false
    from false p = p
    from true p = absurd (h (sym (eqb-true 38 b p)))

pub quiet-number-at : (s : Syntax) (bytes : List ℕ) → (1 ≤ length bytes → slice_index_or bytes 0 0 ≡ 38 → ⊥)
    → wrong_number s (in_literal s bytes) bytes ≡ false
unfolding in_literal stands
quiet-number-at s [] h = refl
quiet-number-at s (b ∷ bytes) h = quiet-number s b bytes (not-equal b (h (omega arith)))

pub quiet-length-at : (s : Syntax) (bytes : List ℕ) → (1 ≤ length bytes → slice_index_or bytes 0 0 ≡ 38 → ⊥)
    → wrong_length s (in_literal s bytes) bytes ≡ false
unfolding in_literal stands
quiet-length-at s [] h = refl
quiet-length-at s (b ∷ bytes) h = quiet-length s b bytes (not-equal b (h (omega arith)))

-- what an answer about a literal says
pub literal-found : (s : Syntax) (bytes : List ℕ) (x : Delim) (n : ℕ)
    → Answers true (answer s m.Lit false) bytes (Found x n) → in_literal s bytes ≡ Some x
unfolding in_literal
literal-found s bytes x n a = found-is (answer s m.Lit false) bytes x n a

pub literal-plain : (s : Syntax) (bytes : List ℕ)
    → Answers true (answer s m.Lit false) bytes Plain → in_literal s bytes ≡ None
unfolding in_literal
literal-plain s bytes a = plain-is (answer s m.Lit false) bytes a

pub literal-length : (s : Syntax) (bytes : List ℕ) (x : Delim) → in_literal s bytes ≡ Some x → length (string x) ≤ length bytes
unfolding in_literal
literal-length s bytes x e =
    stands-length s m.Lit false x bytes (first-stands (λ y. stands s m.Lit false y bytes) x (delims m.Lit) e)

-- a search that goes on
pub somewhere-step : (f : List ℕ → Bool) (text : List ℕ) (i : ℕ) → i < length text → f (drop i text) ≡ false
    → somewhere f (drop i text) ≡ somewhere f (drop (i + 1) text)
somewhere-step f text i l e =
    ap (somewhere f) (drop-at i text l)
    ∙ ap (λ t. t || somewhere f (drop (i + 1) text)) (ap f (sym (drop-at i text l)) ∙ e)

pub somewhere-here : (f : List ℕ → Bool) (text : List ℕ) (i : ℕ) → i < length text → f (drop i text) ≡ true
    → somewhere f (drop i text) ≡ true
somewhere-here f text i l e =
    ap (somewhere f) (drop-at i text l)
    ∙ ap (λ t. t || somewhere f (drop (i + 1) text)) (ap f (sym (drop-at i text l)) ∙ e)

pub sgml-step : (text : List ℕ) (i : ℕ) → i < length text → begins_sgml (drop i text) ≡ true
    → list_all is_sgml_character (drop i text) ≡ list_all is_sgml_character (drop (i + 1) text)
sgml-step text i l e =
    ap (list_all is_sgml_character) (drop-at i text l)
    ∙ ap (λ t. t && list_all is_sgml_character (drop (i + 1) text)) (ap begins_sgml (sym (drop-at i text l)) ∙ e)

-- a number that stops at 256
pub saturates : (x : ℕ) (ds : List ℕ)
    → min 256 (fold (λ n b. 10 * n + (b - 48)) (min 256 x) ds) ≡ min 256 (fold (λ n b. 10 * n + (b - 48)) x ds)
saturates x [] = omega arith
saturates x (d ∷ ds) =
    let f = λ (n : ℕ) (b : ℕ). 10 * n + (b - 48) in
    sym (saturates (10 * min 256 x + (d - 48)) ds)
    ∙ ap (λ y. min 256 (fold f y ds)) (omega arith)
    ∙ saturates (10 * x + (d - 48)) ds

pub number-step : (test : ℕ → Bool) (text : List ℕ) (i total number next : ℕ) → i < length text
    → test (slice_index_or text i 0) ≡ true
    → total ≡ min 256 (fold (λ n b. 10 * n + (b - 48)) number (run_of test (drop i text)))
    → next ≡ min 256 (10 * number + (slice_index_or text i 0 - 48))
    → total ≡ min 256 (fold (λ n b. 10 * n + (b - 48)) next (run_of test (drop (i + 1) text)))
number-step test text i total number next l e h is =
    let f = λ (n : ℕ) (b : ℕ). 10 * n + (b - 48) in
    let d = slice_index_or text i 0 in
    let more = run_of test (drop (i + 1) text) in
    h ∙ ap (λ xs. min 256 (fold f number (run_of test xs))) (drop-at i text l)
    ∙ ap (λ t. min 256 (fold f number (if t then d ∷ more else []))) e
    ∙ sym (saturates (10 * number + (d - 48)) more)
    ∙ ap (λ y. min 256 (fold f y more)) (sym is)

taken-step : (t : Bool) (b : ℕ) (bytes run : List ℕ) → take (length run) bytes ≡ run
    → take (length (if t then b ∷ run else [])) (b ∷ bytes) ≡ (if t then b ∷ run else [])
taken-step true b bytes run h = ap (λ xs. b ∷ xs) h
taken-step false b bytes run h = refl

pub run-taken : (test : ℕ → Bool) (text : List ℕ) → take (length (run_of test text)) text ≡ run_of test text
run-taken test [] = refl
run-taken test (b ∷ bytes) = taken-step (test b) b bytes (run_of test bytes) (run-taken test bytes)
