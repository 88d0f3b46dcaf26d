-- Text where a short reference map is in force: what stands at each of its bytes.
use Rattle.std.specs.Prelude.{◌≡◌, ℕ, zero, suc, ◌<◌, ◌≤◌, ◌==◌, ◌&&◌, ◌||◌, not, Bool, true, false, List, [], ◌∷◌, ◌++◌, Option, None, Some, is_some, length, take, drop, slice_index_or, Ok, if◌then◌else◌}
use Rattle.std.specs.List.{list_all}
use Rattle.std.proofs.Common.{refl, sym, ap, ◌∙◌, subst, arith}
use Rattle.std.proofs.lemmas.Bool.{eqb-true}
use Rattle.sgml_text.specs.Characters.{is_separator}
use Rattle.sgml_delim.proofs.Deciding.{and-left, true-false}
use Rattle.sgml_shortref.specs.Matches as strings
use Rattle.sgml_shortref.specs.declared.matching.Matched.TheVariants as matched
use Rattle.sgml_scan.specs.markup.declared.kinds.TokenKind.TheVariants as kind
use Rattle.sgml_scan.specs.declared.classes.Run.TheVariants.{Chars}
use Rattle.sgml_scan.specs.declared.state.Token.{Token}
use Rattle.sgml_scan.specs.declared.state.Scanned.TheVariants as scanned
use Rattle.sgml_scan.specs.Classes as classes
use Rattle.sgml_scan.specs.Sure.{is_text, is_word, is_quiet, IsStringBound}
use Rattle.sgml_scan.specs.Tokens.{IsScanned, IsOne, token}
use Rattle.sgml_scan.proofs.Standing.{text-sure}
use Rattle.sgml_scan.proofs.Runs.{scanned-stretch}
use Rattle.sgml_scan.proofs.Firsts.{string-not-one, words-scanned, quiet-scanned}
use Rattle.sgml_scan.specs.syntax.declared.syntax.Syntax.{Syntax}
use Rattle.sgml_theory_reading.specs.Names.{Name, Text}
use Rattle.sgml_theory_reading.specs.Pieces.{Kind, Char, ShortRef, Meaning}
use Rattle.sgml_theory_reading.specs.Facets.{byte_item}
use Rattle.sgml_theory_reading.specs.records.Items.{Data as DataItem}
use Rattle.sgml_theory_reading.specs.records.Facts.{takes_end}
use Rattle.sgml_theory_reading.specs.Characters.{ordinary}
use Rattle.sgml_theory_reading.specs.Unread.{Outside}
use Rattle.sgml_declared.specs.theory_spelling.Sized.{sized}
use Rattle.sgml_declared.specs.theory_spelling.Content.{entity_of_string}
use Rattle.sgml_declared.specs.theory_standing.Held.{Held, state_of, IsSpelledIn}
use Rattle.sgml_inside.specs.Inside.{facts_of, map_in}
use Rattle.sgml_prolog_steps.specs.Found.{rest_in, may_grow}
use Rattle.sgml_content_steps.specs.Standing.{IsHeld}
use Rattle.sgml_content_steps.specs.Found.{IsTokenThere}
use Rattle.sgml_content_steps.specs.declared.found.Found.TheVariants as found
use Rattle.sgml_content_steps.specs.Content.{Content, Holds, IsContent}
use Rattle.sgml_content_steps.specs.Plainly.{plain_state}
use Rattle.sgml_content_steps.proofs.Told.{found-there, some-told}
use Rattle.sgml_content_data.specs.declared.around.Around.{Around}
use Rattle.sgml_content_data.specs.Roles.{around_of, in_text, is_data_there}
use Rattle.sgml_content_data.specs.Steps.{AreThere}
use Rattle.sgml_content_data.proofs.Roles.{around-held, data-there}
use Rattle.sgml_content_data.proofs.Scanned.{characters-there}
use Rattle.sgml_content_data.proofs.Plainly as plainly
use Rattle.sgml_content_references.specs.declared.mapping.Mapped.TheVariants as mapping
use Rattle.sgml_content_references.specs.Strings.{mapped_to, mapped_in, string_in}
use Rattle.sgml_content_references.specs.Ordinary.{is_content_where, some_by, has_items_in, is_content_in}
use Rattle.sgml_content_references.specs.Mapped.{mapped_state, BeginsString, StartsOwn, IsOwnString, IsTextThere, AreTextThere, IsTextEnd}
use Rattle.sgml_content_references.proofs.Alike.{plain}
use Rattle.sgml_content_references.proofs.Stringing.{ordinary-next}
use Rattle.sgml_content_references.proofs.DataStanding.{ordinary-held, means-content}

-- THE ROW, byte by byte, with the text behind it
abbrev pub IsRow : Content → Text → Text → Type 0
IsRow c [] after = Unit {0}
IsRow c (b ∷ bs) after = IsTextThere c (b ∷ (bs ++ after)) × IsRow c bs after

abbrev pub NoneBehind : Content → Text → Type 0
NoneBehind c after = (ended : Bool) → IsOne c.kept.doctype.syntax mapped_state ended Chars after → ⊥

pub take-drop : (n : ℕ) (xs : Text) → take n xs ++ drop n xs ≡ xs
take-drop zero [] = refl
take-drop zero (x ∷ xs) = refl
take-drop (suc n) [] = refl
take-drop (suc n) (x ∷ xs) = ap (λ ys. x ∷ ys) (take-drop n xs)

pub row-from : (c : Content) (n : ℕ) (xs : Text) → n ≤ length xs → AreTextThere c xs n → IsRow c (take n xs) (drop n xs)
row-from c zero [] l h = tt
row-from c zero (x ∷ xs) l h = tt
row-from c (suc n) [] l h = absurd (omega (arith, l))
row-from c (suc n) (x ∷ xs) l h = (
  subst (λ ys. IsTextThere c (x ∷ ys)) (sym (take-drop n xs)) (h 0 (omega arith)),
  row-from c n xs (omega (arith, l)) (λ i k. h (suc i) (omega (arith, k))),
)

-- A WORD from there on, up to a string or the row's end
record Word (c : Content) (xs : Text) : Type 0 where
  size : ℕ
  within : size ≤ length xs
  words : (i : ℕ) → i < size → is_word false (slice_index_or xs i 0) ≡ true
  end : (ended : Bool) → IsOne c.kept.doctype.syntax mapped_state ended Chars (drop size xs) → ⊥

and-true : (a b : Bool) → a ≡ true → b ≡ true → (a && b) ≡ true
and-true true b e f = f
and-true false b e f = absurd (true-false e)

word-here : (b : ℕ) → is_text false b ≡ true → strings.begins_string b ≡ false → is_word false b ≡ true
word-here b e f = and-true (is_text false b) (not (strings.begins_string b)) e (ap not f)

no-word : (c : Content) (xs : Text) → NoneBehind c xs → Word c xs
no-word c [] none = record { size = 0; within = omega arith; words = λ i l. absurd (omega (arith, l)); end = none }
no-word c (x ∷ xs) none = record { size = 0; within = omega arith; words = λ i l. absurd (omega (arith, l)); end = none }

more-word : (c : Content) (b : ℕ) (xs : Text) → is_word false b ≡ true → Word c xs → Word c (b ∷ xs)
more-word c b xs e w = record {
  size = suc w.size;
  within = (let l = w.within in omega (arith, l));
  words = at;
  end = w.end;
}
  where
    at : (i : ℕ) → i < suc w.size → is_word false (slice_index_or (b ∷ xs) i 0) ≡ true
    at zero l = e
    at (suc i) l = w.words i (omega (arith, l))

word-by : (t : Bool) (c : Content) (b : ℕ) (xs : Text) → strings.begins_string b ≡ t → is_text false b ≡ true → Word c xs → Word c (b ∷ xs)
word-by true c b xs f e w = no-word c (b ∷ xs) (λ ended one. string-not-one c.kept.doctype.syntax mapped_state ended (b ∷ xs) refl f one)
word-by false c b xs f e w = more-word c b xs (word-here b e f) w

word-there : (c : Content) (bs after : Text) → IsRow c bs after → NoneBehind c after → Word c (bs ++ after)
word-there c [] after row none = no-word c after none
word-there c (b ∷ bs) after row none = word-by (strings.begins_string b) c b (bs ++ after) refl row.0.is_text (word-there c bs after row.1 none)

-- THE TOKEN there
token-at : (c : Content) (texts : List (ℕ × Text)) (bytes : Text) (t : Token) → IsContent c → bytes ≡ rest_in c.kept texts → 1 ≤ length bytes
    → ((ended : Bool) → IsScanned c.kept.doctype.syntax mapped_state ended bytes (scanned.Token t)) → (ended : Bool) → IsTokenThere c.kept mapped_state texts ended t
token-at c texts bytes t is e l s = λ ended.
    found-there c.kept c.kept mapped_state texts ended bytes (may_grow c.kept ended) (found.Token t)
    (record { instance = is.instance; mode = refl; same = refl; bytes_are = sym e; grows_is = refl })
    (some-told c.kept.doctype.syntax mapped_state bytes (may_grow c.kept ended) (scanned.Token t) (found.Token t) l (s (not (may_grow c.kept ended))) refl)

-- A CHARACTER
take-none : (xs : Text) → take 0 xs ≡ []
take-none [] = refl
take-none (x ∷ xs) = refl

take-first : (b : ℕ) (xs : Text) → take 1 (b ∷ xs) ≡ b ∷ []
take-first b xs = ap (λ ys. b ∷ ys) (take-none xs)

one-text : (b : ℕ) (xs : Text) → is_text false b ≡ true → (i : ℕ) → i < 1 → is_text false (slice_index_or (b ∷ xs) i 0) ≡ true
one-text b xs e zero l = e
one-text b xs e (suc i) l = absurd (omega (arith, l))

-- data where there is #PCDATA
pub data-at : (c : Content) (texts : List (ℕ × Text)) (b : ℕ) (xs : Text) → around_of c ≡ in_text → rest_in c.kept texts ≡ b ∷ xs → is_text false b ≡ true
    → list_all (is_data_there (around_of c)) (take 1 (rest_in c.kept texts)) ≡ true
data-at c texts b xs a r e =
    plainly.data-there c texts (around_of c) (b ∷ xs) 1 refl a (sym r) (omega arith) (one-text b xs e)

all-one : (p : ℕ → Bool) (b : ℕ) (xs ys : Text) → xs ≡ b ∷ ys → list_all p (take 1 xs) ≡ true → p b ≡ true
all-one p b xs ys e h = and-left (p b) (list_all p []) (ap (list_all p) (sym (take-first b ys)) ∙ (ap (λ zs. list_all p (take 1 zs)) (sym e) ∙ h))

character-spelled : (outside : Outside) (texts : List (ℕ × Text)) (ended : Bool) (c : Content) (x : Held) (b : ℕ) (xs : Text) (m : ℕ) → IsContent c → Holds c x → IsHeld c.kept mapped_state x
    → around_of c ≡ in_text → rest_in c.kept texts ≡ b ∷ xs → is_text false b ≡ true
    → ((ended : Bool) → IsScanned c.kept.doctype.syntax mapped_state ended (b ∷ xs) (token kind.Chars (suc m)))
    → IsSpelledIn outside x texts ended (Ok (sized 1 (Char b)))
character-spelled outside texts ended c x b xs m is h held a r e s =
    let t : Token = record { kind = kind.Chars; length = suc m } in
    let there = subst (λ ys. AreThere c.kept mapped_state texts ended ys) (ap (take 1) r ∙ take-first b xs)
    (characters-there c.kept mapped_state texts ended t 1 (token-at c texts (b ∷ xs) t is (sym r) (omega arith) s ended) refl (omega arith)) in
    subst (λ (y : Kind). IsSpelledIn outside x texts ended (Ok (sized 1 y)))
    (data-there (around_of c) (state_of x) mapped_state.mode b refl (around-held c x h)
    (all-one (is_data_there (around_of c)) b (rest_in c.kept texts) xs r (data-at c texts b xs a r e)))
    (there.0 outside x held)

-- A STRING
no-byte : (b c : ℕ) → classes.is_data c ≡ false → is_text false b ≡ true → (b == c) ≡ false
no-byte b c f e = by (b == c) refl
  where
    is-data : classes.is_data b ≡ true
    is-data =
        let q = not (b == 60) in
        let r = not (b == 38) in
        let t = not (b == 93) in
        let u = not (false && (b == 47)) in
        and-left (classes.is_data b) q (and-left (classes.is_data b && q) r (and-left (classes.is_data b && q && r) t (and-left (classes.is_data b && q && r && t) u e)))

    by : (t : Bool) → (b == c) ≡ t → (b == c) ≡ false
    by false p = p
    by true p = absurd (true-false (sym f ∙ ap classes.is_data (sym (eqb-true b c p)) ∙ is-data))

pub data-item : (b : ℕ) → is_text false b ≡ true → byte_item b ≡ DataItem
data-item b e = rw (no-byte b 13 refl e, no-byte b 10 refl e) refl

content-byte : (live : Bool) (b : ℕ) → is_text false b ≡ true → is_content_where live b ≡ true
content-byte live b e = rw (no-byte b 13 refl e, no-byte b 10 refl e) refl

items-by : (t text : Bool) → text ≡ true → (if t then text else true) ≡ true
items-by true text e = e
items-by false text e = refl

pub content-at : (c : Content) (b : ℕ) → around_of c ≡ in_text → is_text false b ≡ true → is_content_in c (b ∷ []) ≡ true
content-at c b a e =
    let items = items-by (list_all is_separator (b ∷ [])) (around_of c).text (ap (λ (z : Around). z.text) a) in
    let live = takes_end (facts_of c.inside.elements) in
    and-true (has_items_in c (b ∷ [])) (some_by live (b ∷ [])) items (ap (λ t. t || false) (content-byte live b e))

none-name : (o : Option Name) → is_some o ≡ false → o ≡ None
none-name None e = refl
none-name (Some n) e = cc

string-spelled-at : (outside : Outside) (texts : List (ℕ × Text)) (ended : Bool) (c : Content) (x : Held) (b : ℕ) (xs : Text) → IsContent c → Holds c x → IsHeld c.kept mapped_state x
    → around_of c ≡ in_text → rest_in c.kept texts ≡ b ∷ xs → is_text false b ≡ true → IsOwnString c (b ∷ xs)
    → IsSpelledIn outside x texts ended (Ok (sized 1 (plain (b ∷ []) true)))
string-spelled-at outside texts ended c x b xs is h held a r e own =
    let number = own.0 in
    let t : Token = record { kind = kind.ShortRef number; length = 1 } in
    let quiet : is_quiet mapped_state b ≡ true = (text-sure plain_state b refl refl e).quiet in
    let there = token-at c texts (b ∷ xs) t is (sym r) (omega arith)
    (λ f. quiet-scanned c.kept.doctype.syntax mapped_state f (b ∷ xs) (token (kind.ShortRef number) 1) refl (omega arith) refl quiet
    (record { matched = matched.String number 1; answers = λ rest g. own.1 rest (λ z. absurd (true-false z)); token = refl })) ended in
    let named : mapped_in c number ≡ mapping.Nothing = ap (mapped_to c.kept.doctype) (none-name (entity_of_string c.kept.doctype (map_in c.inside.elements) number) own.2) in
    let stands = ordinary-next texts t c number is refl named mapped_state ended there outside x h held in
    let own-bytes : string_in c.kept texts 1 ≡ b ∷ [] = ap (take 1) r ∙ take-first b xs in
    subst (λ (m : Meaning). IsSpelledIn outside x texts ended (Ok (sized 1 (ShortRef (b ∷ []) m)))) (ordinary-held c x (b ∷ []) h ∙ means-content c (b ∷ []) (content-at c b a e))
    (subst (λ ys. IsSpelledIn outside x texts ended (Ok (sized 1 (ShortRef ys (ordinary (state_of x) ys))))) own-bytes stands)

-- WHICHEVER
abbrev pub kind_by : Bool → ℕ → Kind
kind_by true b = plain (b ∷ []) true
kind_by false b = Char b

abbrev pub kind_at : ℕ → Kind
kind_at b = kind_by (strings.begins_string b) b

some-word : (c : Content) (b : ℕ) (xs : Text) → is_text false b ≡ true → strings.begins_string b ≡ false → Word c xs
    → (m : ℕ) × ((ended : Bool) → IsScanned c.kept.doctype.syntax mapped_state ended (b ∷ xs) (token kind.Chars (suc m)))
unfolding more-word
some-word c b xs e f w =
    let v = more-word c b xs (word-here b e f) w in
    (w.size, λ ended. words-scanned c.kept.doctype.syntax mapped_state ended (b ∷ xs) (suc w.size) refl refl (omega arith) v.within v.words (v.end ended))

spelled-by : (t : Bool) (outside : Outside) (texts : List (ℕ × Text)) (ended : Bool) (c : Content) (x : Held) (b : ℕ) (bs after : Text) → strings.begins_string b ≡ t → IsContent c → Holds c x
    → IsHeld c.kept mapped_state x → around_of c ≡ in_text → rest_in c.kept texts ≡ b ∷ (bs ++ after) → IsRow c (b ∷ bs) after → NoneBehind c after
    → IsSpelledIn outside x texts ended (Ok (sized 1 (kind_by t b)))
spelled-by true outside texts ended c x b bs after f is h held a r row none =
    string-spelled-at outside texts ended c x b (bs ++ after) is h held a r row.0.is_text (row.0.own f)
spelled-by false outside texts ended c x b bs after f is h held a r row none =
    let w = some-word c b (bs ++ after) row.0.is_text f (word-there c bs after row.1 none) in
    character-spelled outside texts ended c x b (bs ++ after) w.0 is h held a r row.0.is_text w.1

pub spelled-at : (outside : Outside) (texts : List (ℕ × Text)) (ended : Bool) (c : Content) (x : Held) (b : ℕ) (bs after : Text) → IsContent c → Holds c x
    → IsHeld c.kept mapped_state x → around_of c ≡ in_text → rest_in c.kept texts ≡ b ∷ (bs ++ after) → IsRow c (b ∷ bs) after → NoneBehind c after
    → IsSpelledIn outside x texts ended (Ok (sized 1 (kind_at b)))
spelled-at outside texts ended c x b bs after = spelled-by (strings.begins_string b) outside texts ended c x b bs after refl

-- WHERE IT ENDS: at another string, or where text does
pub first-of : (i : ℕ) (xs : Text) → slice_index_or (drop i xs) 0 0 ≡ slice_index_or xs i 0
first-of zero [] = refl
first-of zero (x ∷ xs) = refl
first-of (suc i) [] = refl
first-of (suc i) (x ∷ xs) = first-of i xs

bound-of : (xs : Text) → BeginsString xs → IsStringBound xs
bound-of [] e = tt
bound-of (x ∷ xs) e = e

pub string-ends : (c : Content) (text : Text) (n : ℕ) → BeginsString (drop n text) → IsTextEnd c text n
string-ends c text n e some ended one = string-not-one c.kept.doctype.syntax mapped_state ended (drop n text) refl (bound-of (drop n text) e) one

abbrev pub ScannedPlain : Syntax → Text → ℕ → Type 0
ScannedPlain s text n = 0 < n → (ended : Bool) → IsScanned s plain_state ended text (token kind.Chars n)

text-ended : (c : Content) (text : Text) (n : ℕ) → ScannedPlain c.kept.doctype.syntax text n → IsTextEnd c text n
text-ended c text n s some ended one =
    (scanned-stretch c.kept.doctype.syntax plain_state ended text Chars n (s some ended)).longest (record { byte = one.byte; delimiter = one.delimiter; string = tt })

pub text-ends : (c : Content) (text : Text) (z : Content) (syntax : Syntax) (n : ℕ) → z ≡ c → syntax ≡ z.kept.doctype.syntax → ScannedPlain syntax text n → IsTextEnd c text n
text-ends c text z syntax n same e s =
    text-ended c text n (subst (λ (y : Content). ScannedPlain y.kept.doctype.syntax text n) same (subst (λ (x : Syntax). ScannedPlain x text n) e s))

pub texts-there : (c : Content) (text : Text) (n : ℕ) → ((i : ℕ) → i < n → is_text false (slice_index_or text i 0) ≡ true) → ((i : ℕ) → i < n → StartsOwn c (drop i text)) → AreTextThere c text n
texts-there c text n s own i l = record { is_text = ap (is_text false) (first-of i text) ∙ s i l; own = own i l }
