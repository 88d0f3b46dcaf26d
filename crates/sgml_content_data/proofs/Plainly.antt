-- Text at the front of what is unread, where content is scanned without NET and maps.
use Rattle.std.specs.Prelude.{◌≡◌, ℕ, zero, suc, ◌<◌, ◌≤◌, ◌==◌, ◌&&◌, not, cond, Bool, true, false, List, [], ◌∷◌, Ok, length, take, slice_index_or}
use Rattle.std.specs.List.{list_all}
use Rattle.std.proofs.Common.{refl, sym, ap, ◌∙◌, subst, arith}
use Rattle.std.proofs.lemmas.Bool.{eqb-true}
use Rattle.sgml_text.specs.Characters.{is_separator}
use Rattle.sgml_delim.proofs.Deciding.{and-left, true-false}
use Rattle.sgml_scan.specs.markup.declared.kinds.TokenKind.TheVariants as kind
use Rattle.sgml_scan.specs.declared.state.Token.{Token}
use Rattle.sgml_scan.specs.declared.state.Scanned.TheVariants as scanned
use Rattle.sgml_scan.specs.Classes as classes
use Rattle.sgml_scan.specs.Sure.{is_text}
use Rattle.sgml_scan.specs.Tokens.{IsScanned, token}
use Rattle.sgml_scan.proofs.Firsts.{end-scanned, start-scanned}
use Rattle.sgml_events.specs.declared.event.Event.{Event}
use Rattle.sgml_infer.specs.theory_reading.Names.{Text}
use Rattle.sgml_prolog_steps.specs.Found.{rest_in, may_grow}
use Rattle.sgml_content_steps.specs.Found.{IsTokenThere}
use Rattle.sgml_content_steps.specs.declared.found.Found.TheVariants as found
use Rattle.sgml_content_steps.specs.Content.{Content, IsContent}
use Rattle.sgml_content_steps.specs.Steps.{Tells}
use Rattle.sgml_content_steps.proofs.Told.{found-there, some-told}
use Rattle.sgml_content_data.specs.declared.around.Around.{Around}
use Rattle.sgml_content_data.specs.declared.role.Role.TheVariants as role
use Rattle.sgml_content_data.specs.Roles.{around_of, in_text, separator_of, is_data, is_data_there}
use Rattle.sgml_content_data.specs.Steps.{TellsRead, TellsPiece, TellsStretch}
use Rattle.sgml_content_steps.specs.Plainly.{plain_state, TellsPlainly}
use Rattle.sgml_content_data.specs.Alike.{TakesOr, TakesOne, TakesRow, TakesFront, TakesText, chars, counted}
use Rattle.sgml_content_data.proofs.Scanned.{end-token, start-token, data-tells}
use Rattle.sgml_content_data.proofs.Alike.{either}

-- THE TOKEN there, whatever follows
pub token-there : (old : Content) (texts : List (ℕ × Text)) (bytes : Text) (t : Token) → IsContent old → bytes ≡ rest_in old.kept texts → 1 ≤ length bytes
    → ((ended : Bool) → IsScanned old.kept.doctype.syntax plain_state ended bytes (scanned.Token t)) → (ended : Bool) → IsTokenThere old.kept plain_state texts ended t
token-there old texts bytes t is e l s = λ ended.
    found-there old.kept old.kept plain_state texts ended bytes (may_grow old.kept ended) (found.Token t)
    (record { instance = is.instance; mode = refl; same = refl; bytes_are = sym e; grows_is = refl })
    (some-told old.kept.doctype.syntax plain_state bytes (may_grow old.kept ended) (scanned.Token t) (found.Token t) l (s (not (may_grow old.kept ended))) refl)

read-plainly : (texts : List (ℕ × Text)) (t : Token) (old new : Content) (before after : List Event) → ((ended : Bool) → IsTokenThere old.kept plain_state texts ended t)
    → TellsRead texts t old new before after (Ok tt) → TellsPlainly texts old new before after
read-plainly texts t old new before after there s = (s.0, s.1, s.2, λ c ended. s.3 c plain_state refl ended (there ended))

told-read : (texts : List (ℕ × Text)) (t : Token) (old new : Content) (before after : List Event) → Tells texts t old new before after (Ok tt)
    → TellsRead texts t old new before after (Ok tt)
told-read texts t old new before after s = (s.0, s.1, s.2, λ c st read. s.3 c st)

-- by how many bytes
pub some-taken : (texts : List (ℕ × Text)) (old new : Content) (before after : List Event) (r n : ℕ) (went : Bool) → r ≡ counted n went → 0 < n
    → TakesOr (TellsPlainly texts old new before after) old new before after went → TakesText texts old new before after r
some-taken texts old new before after r zero went e l t = absurd (omega (arith, l))
some-taken texts old new before after r (suc n) true e l t = subst (λ k. TakesText texts old new before after k) (sym e) t
some-taken texts old new before after r (suc n) false e l t = subst (λ k. TakesText texts old new before after k) (sym e) t

-- A RECORD END or start
pub end-plainly : (texts : List (ℕ × Text)) (old new : Content) (before after : List Event) (bytes : Text) (r : ℕ) (went : Bool) → IsContent old → bytes ≡ rest_in old.kept texts
    → 1 ≤ length bytes → slice_index_or bytes 0 0 ≡ 13 → TakesOne texts 1 (separator_of old 13) old new before after went → r ≡ counted 1 went
    → TakesText texts old new before after r
end-plainly texts old new before after bytes r went is e l b t c =
    let x : Token = record { kind = kind.Re; length = 1 } in
    some-taken texts old new before after r 1 went c (omega arith)
    (either (TellsPiece texts 1 (separator_of old 13) old new before after (Ok tt)) (TellsPlainly texts old new before after) old new before after went
    (λ p. read-plainly texts x old new before after
    (token-there old texts bytes x is e l (λ ended. end-scanned old.kept.doctype.syntax plain_state ended bytes refl l refl b))
    (told-read texts x old new before after (end-token texts x old new before after (Ok tt) refl p))) t)

pub start-plainly : (texts : List (ℕ × Text)) (old new : Content) (before after : List Event) (bytes : Text) (r : ℕ) (went : Bool) → IsContent old → bytes ≡ rest_in old.kept texts
    → 1 ≤ length bytes → slice_index_or bytes 0 0 ≡ 10 → TakesOne texts 1 (separator_of old 10) old new before after went → r ≡ counted 1 went
    → TakesText texts old new before after r
start-plainly texts old new before after bytes r went is e l b t c =
    let x : Token = record { kind = kind.Rs; length = 1 } in
    some-taken texts old new before after r 1 went c (omega arith)
    (either (TellsPiece texts 1 (separator_of old 10) old new before after (Ok tt)) (TellsPlainly texts old new before after) old new before after went
    (λ p. read-plainly texts x old new before after
    (token-there old texts bytes x is e l (λ ended. start-scanned old.kept.doctype.syntax plain_state ended bytes refl l refl b))
    (told-read texts x old new before after (start-token texts x old new before after (Ok tt) refl p))) t)

-- CHARACTERS
pub row-plainly : (texts : List (ℕ × Text)) (old new : Content) (before after : List Event) (bytes : Text) (r n : ℕ) (went : Bool) → IsContent old → bytes ≡ rest_in old.kept texts
    → 0 < n → n ≤ length bytes → ((ended : Bool) → IsScanned old.kept.doctype.syntax plain_state ended bytes (token kind.Chars n)) → TakesRow texts n old new before after went
    → r ≡ counted n went → TakesText texts old new before after r
row-plainly texts old new before after bytes r n went is e some l s t c =
    some-taken texts old new before after r n went c some
    (either (TellsStretch texts (take n (rest_in old.kept texts)) old new before after (Ok tt)) (TellsPlainly texts old new before after) old new before after went
    (λ p. read-plainly texts (chars n) old new before after (token-there old texts bytes (chars n) is e (omega (arith, some, l)) s)
    (data-tells texts (chars n) n old new before after (Ok tt) refl (omega arith) p)) t)

pub front-plainly : (texts : List (ℕ × Text)) (old new : Content) (before after : List Event) (bytes : Text) (r n : ℕ) (went : Bool) → IsContent old → bytes ≡ rest_in old.kept texts
    → 0 < n → n ≤ length bytes → ((ended : Bool) → IsScanned old.kept.doctype.syntax plain_state ended bytes (token kind.Chars n)) → TakesFront texts n old new before after went
    → r ≡ counted n went → TakesText texts old new before after r
front-plainly texts old new before after bytes r n went is e some l s t c =
    some-taken texts old new before after r n went c some
    (either (TellsRead texts (chars n) old new before after (Ok tt)) (TellsPlainly texts old new before after) old new before after went
    (λ p. read-plainly texts (chars n) old new before after (token-there old texts bytes (chars n) is e (omega (arith, some, l)) s) p) t)

-- text is data where there is #PCDATA
no-bound : (b c : ℕ) → classes.is_data c ≡ false → classes.is_data b ≡ true → (b == c) ≡ false
no-bound b c f e = by (b == c) refl
  where
    by : (t : Bool) → (b == c) ≡ t → (b == c) ≡ false
    by false p = p
    by true p = absurd (true-false (sym f ∙ ap classes.is_data (sym (eqb-true b c p)) ∙ e))

in-text-data : (s p q : Bool) → p ≡ false → q ≡ false → is_data (cond s (cond p role.RecordEnd (cond q role.RecordStart role.Data)) role.Data) ≡ true
in-text-data false p q e f = refl
in-text-data true p q e f =
    ap (λ (x : Bool). is_data (cond x role.RecordEnd (cond q role.RecordStart role.Data))) e
    ∙ ap (λ (x : Bool). is_data (cond x role.RecordStart role.Data)) f

text-data : (b : ℕ) → is_text false b ≡ true → is_data_there in_text b ≡ true
text-data b e =
    let a = classes.is_data b in
    let q = not (b == 60) in
    let r = not (b == 38) in
    let t = not (b == 93) in
    let u = not (false && (b == 47)) in
    let e3 = and-left (a && q && r && t) u e in
    let e2 = and-left (a && q && r) t e3 in
    let d = and-left a q (and-left (a && q) r e2) in
    in-text-data (is_separator b) (b == 13) (b == 10) (no-bound b 13 refl d) (no-bound b 10 refl d)

all-data : (n : ℕ) (xs : List ℕ) → n ≤ length xs → ((i : ℕ) → i < n → is_text false (slice_index_or xs i 0) ≡ true) → list_all (is_data_there in_text) (take n xs) ≡ true
all-data zero [] l s = refl
all-data zero (x ∷ xs) l s = refl
all-data (suc n) [] l s = absurd (omega (arith, l))
all-data (suc n) (x ∷ xs) l s = λ j.
    text-data x (s 0 (omega arith)) j && all-data n xs (omega (arith, l)) (λ i h. s (suc i) (omega (arith, h))) j

pub data-there : (old : Content) (texts : List (ℕ × Text)) (a : Around) (bytes : Text) (n : ℕ) → a ≡ around_of old → a ≡ in_text → bytes ≡ rest_in old.kept texts → n ≤ length bytes
    → ((i : ℕ) → i < n → is_text false (slice_index_or bytes i 0) ≡ true) → list_all (is_data_there (around_of old)) (take n (rest_in old.kept texts)) ≡ true
data-there old texts a bytes n e f g l s =
    ap (λ (z : Around). list_all (is_data_there z) (take n (rest_in old.kept texts))) (sym e ∙ f)
    ∙ (ap (λ bs. list_all (is_data_there in_text) (take n bs)) (sym g) ∙ all-data n bytes l s)

pub text-data-there : (old : Content) (texts : List (ℕ × Text)) (bytes : Text) (n : ℕ) → bytes ≡ rest_in old.kept texts → n ≤ length bytes
    → ((i : ℕ) → i < n → is_text false (slice_index_or bytes i 0) ≡ true) → list_all (is_data_there in_text) (take n (rest_in old.kept texts)) ≡ true
text-data-there old texts bytes n e l s = ap (λ bs. list_all (is_data_there in_text) (take n bs)) (sym e) ∙ all-data n bytes l s

pub is-some : (n : ℕ) → (n ≡ 0 → ⊥) → 0 < n
is-some zero e = absurd (e refl)
is-some (suc n) e = omega arith

pub one-data : (p : ℕ → Bool) (bytes rest : Text) → bytes ≡ rest → 1 ≤ length bytes → p (slice_index_or bytes 0 0) ≡ true → list_all p (take 1 rest) ≡ true
one-data p bytes rest e l h = ap (λ xs. list_all p (take 1 xs)) (sym e) ∙ of_first bytes l h
  where
    take-none : (xs : List ℕ) → take 0 xs ≡ []
    take-none [] = refl
    take-none (x ∷ xs) = refl

    of_first : (xs : List ℕ) → 1 ≤ length xs → p (slice_index_or xs 0 0) ≡ true → list_all p (take 1 xs) ≡ true
    of_first [] l h = absurd (omega (arith, l))
    of_first (x ∷ xs) l h = λ i. h i && list_all p (take-none xs i)
