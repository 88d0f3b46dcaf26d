-- Whole tags: what stands between the delimiters of a tag that the grammar spells.
use Rattle.std.proofs.Common.{◌≡◌, ◌≢◌, ℕ, zero, suc, nat_le, subst, ◌+◌, ◌-◌, ◌≤◌, Bool, true, false, not, List, [], ◌∷◌, ◌++◌, length, take, drop, refl, sym, ◌∙◌, ap, if◌then◌else◌, ◌==◌, ◌||◌, ◌&&◌, arith, append_assoc, length-append, slice_index_or, inl, inr, ◌↔◌, Err}
use Rattle.std.specs.List.{list_all, list_any}
use Rattle.std.proofs.lemmas.List.{drop_all, length-take}
use Rattle.std.proofs.lemmas.Bool.{eqb-true, leb-true, leb-false}
use Rattle.std.proofs.lemmas.Bool.Decides.{nat_tests}
use Rattle.sgml_text.specs.declared.reason.Reason.TheVariants.{TagSyntax}
use Rattle.sgml_text.specs.NameCharacters.{is_name_character, is_name_start, is_name_of}
use Rattle.sgml_syntax.specs.declared.syntax.Syntax.{Syntax}
use Rattle.sgml_markup.specs.declared.kinds.TokenKind.{TokenKind}
use Rattle.sgml_markup.specs.declared.kinds.TagState.TheVariants.{ElementName}
use Rattle.sgml_text.specs.Characters.{is_separator, is_quote}
use Rattle.sgml_markup.specs.Tags.{is_tag, tag_parts, wrong_number_in, wrong_length_in}
use Rattle.sgml_markup.specs.Forms.{if_tag, judged_tag, parts_of, unclosed, closes, last_byte}
use Rattle.sgml_markup.specs.TagForm.{Value, Value.Quoted, Value.Unquoted, Specification, Specification.Named, Specification.Alone, spell_value, spell, spell_all, has_bytes, is_token, AreSeparators, ValueStands, Stands, ends_quoted, AllStand, IsClose, SpellsBody, SpellsForm, body_places}
use Rattle.sgml_delim.proofs.Deciding.{true-false, and-left, and-right}
use Rattle.sgml_markup.proofs.Walking.{unclosed-within}
use Rattle.sgml_markup.proofs.Bytes.{take-front, size-before, last-is}
use Rattle.sgml_markup.proofs.FormSteps.{name-byte, start-is-name}
use Rattle.sgml_markup.proofs.FormParts.{body-reads}
use Rattle.sgml_markup.proofs.FormFound.{found-form}

-- a text whose last byte closes no tag
abbrev pub last_open : List ℕ → Bool
last_open [] = true
last_open (b ∷ bytes) = if has_bytes bytes then last_open bytes else not (closes b)

open-append : (xs ys : List ℕ) → last_open xs ≡ true → last_open ys ≡ true → last_open (xs ++ ys) ≡ true
open-append [] ys e f = f
open-append (b ∷ []) [] e f = e
open-append (b ∷ []) (y ∷ ys) e f = f
open-append (b ∷ c ∷ xs) ys e f = open-append (c ∷ xs) ys e f

open-all : (test : ℕ → Bool) → ((b : ℕ) → test b ≡ true → closes b ≡ false) → (xs : List ℕ) → list_all test xs ≡ true → last_open xs ≡ true
open-all test h [] e = refl
open-all test h (b ∷ []) e = ap not (h b (and-left (test b) true e))
open-all test h (b ∷ c ∷ xs) e = open-all test h (c ∷ xs) (and-right (test b) (list_all test (c ∷ xs)) e)

open-name : (s : Syntax) (xs : List ℕ) → list_all (is_name_character s.names) xs ≡ true → last_open xs ≡ true
open-name s xs e = open-all (is_name_character s.names) (λ b h. (name-byte s.names b h).close) xs e

separator-open : (b : ℕ) → is_separator b ≡ true → closes b ≡ false
separator-open b e = grind (arith, nat_tests)

open-separators : (xs : List ℕ) → AreSeparators xs → last_open xs ≡ true
open-separators xs e = open-all is_separator separator-open xs e

quote-open : (q : ℕ) → is_quote q ≡ true → closes q ≡ false
quote-open q e = grind (arith, nat_tests)

open-quoted : (q : ℕ) (xs : List ℕ) → is_quote q ≡ true → last_open (xs ++ q ∷ []) ≡ true
open-quoted q [] e = ap not (quote-open q e)
open-quoted q (b ∷ []) e = ap not (quote-open q e)
open-quoted q (b ∷ c ∷ xs) e = open-quoted q (c ∷ xs) e

open-value : (s : Syntax) (v : Value) → ValueStands s v → last_open (61 ∷ spell_value v) ≡ true
open-value s (Quoted q text) h = open-quoted q (61 ∷ q ∷ text) h.0
open-value s (Unquoted []) h = refl
open-value s (Unquoted (b ∷ more)) h = open-append (61 ∷ []) (b ∷ more) refl (open-name s (b ∷ more) h.0)

open-after : (s : Syntax) (after : List ℕ) (v : Value) → AreSeparators after → ValueStands s v → last_open (61 ∷ (after ++ spell_value v)) ≡ true
open-after s [] v e h = open-value s v h
open-after s (b ∷ after) v e h =
    open-append (61 ∷ b ∷ after) (spell_value v) (open-append (61 ∷ []) (b ∷ after) refl (open-separators (b ∷ after) e)) (value v h)
  where
    value : (u : Value) → ValueStands s u → last_open (spell_value u) ≡ true
    value (Quoted q text) g = open-quoted q (q ∷ text) g.0
    value (Unquoted []) g = refl
    value (Unquoted (c ∷ more)) g = open-name s (c ∷ more) g.0

pub name-all : (s : Syntax) (xs : List ℕ) → is_name_of s.names xs ≡ true → list_all (is_name_character s.names) xs ≡ true
name-all s [] e = refl
name-all s (b ∷ more) e =
    ap (λ t. t && list_all (is_name_character s.names) more)
    (start-is-name s.names b (and-left (is_name_start s.names b) (list_all (is_name_character s.names) more) e))
    ∙ and-right (is_name_start s.names b) (list_all (is_name_character s.names) more) e

pub token-all : (s : Syntax) (xs : List ℕ) → is_token s.names xs ≡ true → list_all (is_name_character s.names) xs ≡ true
token-all s [] e = refl
token-all s (b ∷ more) e = e

open-specification : (s : Syntax) (x : Specification) → Stands s x → last_open (spell x) ≡ true
open-specification s (Named gap name before after v) h =
    open-append gap (name ++ (before ++ 61 ∷ (after ++ spell_value v))) (open-separators gap h.0)
    (open-append name (before ++ 61 ∷ (after ++ spell_value v)) (open-name s name (name-all s name h.1))
    (open-append before (61 ∷ (after ++ spell_value v)) (open-separators before h.2) (open-after s after v h.3 h.4)))
open-specification s (Alone gap token) h =
    open-append gap token (open-separators gap h.0) (open-name s token (token-all s token h.1))

open-specifications : (s : Syntax) (free : Bool) (xs : List Specification) → AllStand s free xs → last_open (spell_all xs) ≡ true
open-specifications s free [] h = refl
open-specifications s free (x ∷ xs) h =
    open-append (spell x) (spell_all xs) (open-specification s x h.1) (open-specifications s (ends_quoted x) xs h.2)

open-body : (s : Syntax) (closing : Bool) (body : List ℕ) → SpellsBody s closing body → last_open body ≡ true
open-body s closing body h =
    ap last_open h.is
    ∙ open-append h.name (spell_all h.specifications ++ h.last) (open-name s h.name h.named)
    (open-append (spell_all h.specifications) h.last (open-specifications s false h.specifications h.stand) (open-separators h.last h.separators))

-- the last byte
last-next : (b c : ℕ) (xs : List ℕ) → last_byte (b ∷ c ∷ xs) ≡ last_byte (c ∷ xs)
last-next b c xs =
    let e : length (b ∷ c ∷ xs) - 1 ≡ suc (length (c ∷ xs) - 1) = omega arith in
    ap (λ n. slice_index_or (b ∷ c ∷ xs) n 0) e

last-not : (xs : List ℕ) → last_open xs ≡ true → closes (last_byte xs) ≡ false
last-not [] e = refl
last-not (b ∷ []) e = not-true (closes b) e
  where
    not-true : (t : Bool) → not t ≡ true → t ≡ false
    not-true false f = refl
    not-true true f = absurd (true-false f)
last-not (b ∷ c ∷ xs) e = ap closes (last-next b c xs) ∙ last-not (c ∷ xs) e

open-back : (xs ys : List ℕ) → has_bytes ys ≡ true → last_open ys ≡ true → last_open (xs ++ ys) ≡ true
open-back [] ys e f = f
open-back (b ∷ []) [] e f = absurd (true-false e)
open-back (b ∷ []) (y ∷ ys) e f = f
open-back (b ∷ c ∷ xs) ys e f = open-back (c ∷ xs) ys e f

pub drop-front : (xs ys : List ℕ) → drop (length xs) (xs ++ ys) ≡ ys
drop-front [] ys = refl
drop-front (x ∷ xs) ys = drop-front xs ys

unclosed-close : (xs : List ℕ) (b : ℕ) → closes b ≡ true → unclosed (xs ++ b ∷ []) ≡ xs
unclosed-close xs b e =
    ap (λ t. if t then take (length (xs ++ b ∷ []) - 1) (xs ++ b ∷ []) else xs ++ b ∷ []) (ap closes (last-is xs b) ∙ e)
    ∙ ap (λ n. take n (xs ++ b ∷ [])) (size-before xs b)
    ∙ take-front xs (b ∷ [])

unclosed-open : (xs : List ℕ) → closes (last_byte xs) ≡ false → unclosed xs ≡ xs
unclosed-open xs e = ap (λ t. if t then take (length xs - 1) xs else xs) e

pub append-none : (xs : List ℕ) → xs ++ [] ≡ xs
append-none [] = refl
append-none (x ∷ xs) = ap (λ ys. x ∷ ys) (append-none xs)

closed-text : (delimiter text : List ℕ) (b : ℕ) → closes b ≡ true → drop (length delimiter) (unclosed (delimiter ++ (text ++ b ∷ []))) ≡ text
closed-text delimiter text b e =
    ap (λ xs. drop (length delimiter) (unclosed xs)) (sym (append_assoc delimiter text (b ∷ [])))
    ∙ ap (drop (length delimiter)) (unclosed-close (delimiter ++ text) b e)
    ∙ drop-front delimiter text

open-text : (delimiter text : List ℕ) → last_open text ≡ true → drop (length delimiter) (unclosed (delimiter ++ (text ++ []))) ≡ text
open-text delimiter [] e =
    let inside = unclosed-within (delimiter ++ []) in
    let size : length (unclosed (delimiter ++ [])) ≤ length delimiter = omega (arith, inside, ap length (append-none delimiter)) in
    drop_all (length delimiter) (unclosed (delimiter ++ [])) size
open-text delimiter (b ∷ text) e =
    ap (λ xs. drop (length delimiter) (unclosed (delimiter ++ xs))) (append-none (b ∷ text))
    ∙ ap (drop (length delimiter)) (unclosed-open (delimiter ++ (b ∷ text)) (last-not (delimiter ++ (b ∷ text)) (open-back delimiter (b ∷ text) refl e)))
    ∙ drop-front delimiter (b ∷ text)

pub text-is : (s : Syntax) (closing : Bool) (start : ℕ) (markup : List ℕ) (h : SpellsForm s closing start markup)
    → drop start (unclosed markup) ≡ h.text
text-is s closing start markup h =
    ap (λ n. drop n (unclosed markup)) (sym h.begins)
    ∙ ap (λ xs. drop (length h.delimiter) (unclosed xs)) h.is
    ∙ by_close h.close h.closes
  where
    by_close : (close : List ℕ) → IsClose close → drop (length h.delimiter) (unclosed (h.delimiter ++ (h.text ++ close))) ≡ h.text
    by_close close (inl e) =
        ap (λ xs. drop (length h.delimiter) (unclosed (h.delimiter ++ (h.text ++ xs)))) e ∙ closed-text h.delimiter h.text 62 refl
    by_close close (inr (inl e)) =
        ap (λ xs. drop (length h.delimiter) (unclosed (h.delimiter ++ (h.text ++ xs)))) e ∙ closed-text h.delimiter h.text 47 refl
    by_close close (inr (inr e)) =
        ap (λ xs. drop (length h.delimiter) (unclosed (h.delimiter ++ (h.text ++ xs)))) e
        ∙ open-text h.delimiter h.text (open-body s closing h.text h.body)

pub form-parts : (s : Syntax) (closing : Bool) (start : ℕ) (markup : List ℕ) (h : SpellsForm s closing start markup)
    → parts_of s closing start markup ≡ body_places h.body start
form-parts s closing start markup h =
    ap (tag_parts s closing start (ElementName start)) (text-is s closing start markup h)
    ∙ ap (λ r. r.1) (body-reads s closing start h.text h.body)

-- a text and its last byte
record Closed (xs : List ℕ) : Type 0 where
  front : List ℕ
  last : ℕ
  closes : closes last ≡ true
  is : xs ≡ front ++ last ∷ []

split-last : (xs : List ℕ) → closes (last_byte xs) ≡ true → Closed xs
split-last [] e = absurd (true-false e)
split-last (b ∷ []) e = record { front = []; last = b; closes = e; is = refl }
split-last (b ∷ c ∷ xs) e =
    let h = split-last (c ∷ xs) (sym (ap closes (last-next b c xs)) ∙ e) in
    record { front = b ∷ h.front; last = h.last; closes = h.closes; is = ap (λ ys. b ∷ ys) h.is }

front-back : (n : ℕ) (xs : List ℕ) → xs ≡ take n xs ++ drop n xs
front-back zero xs = refl
front-back (suc n) [] = refl
front-back (suc n) (x ∷ xs) = ap (λ ys. x ∷ ys) (front-back n xs)

close-is : (b : ℕ) → closes b ≡ true → IsClose (b ∷ [])
close-is b e = by_first (b == 62) refl e
  where
    by_first : (t : Bool) → (b == 62) ≡ t → (t || (b == 47)) ≡ true → IsClose (b ∷ [])
    by_first true p f = inl (ap (λ c. c ∷ []) (eqb-true b 62 p))
    by_first false p f = inr (inl (ap (λ c. c ∷ []) (eqb-true b 47 f)))

taken-size : (n : ℕ) (xs : List ℕ) → n ≤ length xs → length (take n xs) ≡ n
taken-size n xs h = let len = length-take n xs in omega (arith, h, len)

form-open : (s : Syntax) (closing : Bool) (start : ℕ) (markup : List ℕ) → start ≤ length markup → unclosed markup ≡ markup
    → SpellsBody s closing (drop start (unclosed markup)) → SpellsForm s closing start markup
form-open s closing start markup room e body = record {
  delimiter = take start markup;
  text = drop start (unclosed markup);
  close = [];
  body = body;
  begins = taken-size start markup room;
  closes = inr (inr refl);
  is = front-back start markup ∙ ap (λ xs. take start markup ++ drop start xs) (sym e)
      ∙ ap (λ xs. take start markup ++ xs) (sym (append-none (drop start (unclosed markup))));
}

form-closed : (s : Syntax) (closing : Bool) (start : ℕ) (markup : List ℕ) → start ≤ length markup → Closed markup
    → SpellsBody s closing (drop start (unclosed markup)) → SpellsForm s closing start markup
form-closed s closing start markup room h body = by_room (nat_le start (length h.front)) refl
  where
    front : unclosed markup ≡ h.front
    front = ap unclosed h.is ∙ unclosed-close h.front h.last h.closes

    size : length markup ≡ length h.front + 1
    size = ap length h.is ∙ length-append h.front (h.last ∷ [])

    by_room : (t : Bool) → nat_le start (length h.front) ≡ t → SpellsForm s closing start markup
    by_room true p = record {
      delimiter = take start h.front;
      text = drop start (unclosed markup);
      close = h.last ∷ [];
      body = body;
      begins = taken-size start h.front (leb-true start (length h.front) p);
      closes = close-is h.last h.closes;
      is = h.is ∙ ap (λ xs. xs ++ h.last ∷ []) (front-back start h.front ∙ ap (λ xs. take start h.front ++ drop start xs) (sym front))
          ∙ append_assoc (take start h.front) (drop start (unclosed markup)) (h.last ∷ []);
    }
    by_room false p =
        let over = leb-false start (length h.front) p in
        let sum = size in
        let inside : length (unclosed markup) ≤ start = subst (λ xs. length xs ≤ start) (sym front) (omega (arith, over)) in
        record {
          delimiter = markup;
          text = drop start (unclosed markup);
          close = [];
          body = body;
          begins = omega (arith, over, sum, room);
          closes = inr (inr refl);
          is = sym (append-none markup) ∙ ap (λ xs. markup ++ (xs ++ [])) (sym (drop_all start (unclosed markup) inside));
        }

pub form-spelled : (s : Syntax) (closing : Bool) (start : ℕ) (markup : List ℕ) → start ≤ length markup
    → is_tag s closing start (ElementName start) (drop start (unclosed markup)) ≡ true → SpellsForm s closing start markup
form-spelled s closing start markup room e = by_close (closes (last_byte markup)) refl
  where
    body : SpellsBody s closing (drop start (unclosed markup))
    body = found-form s closing start (ElementName start) (drop start (unclosed markup)) e

    by_close : (t : Bool) → closes (last_byte markup) ≡ t → SpellsForm s closing start markup
    by_close false p = form-open s closing start markup room (unclosed-open markup p) body
    by_close true p = form-closed s closing start markup room (split-last markup p) body

pub form-is-tag : (s : Syntax) (closing : Bool) (start : ℕ) (markup : List ℕ) → SpellsForm s closing start markup
    → is_tag s closing start (ElementName start) (drop start (unclosed markup)) ≡ true
form-is-tag s closing start markup h =
    ap (is_tag s closing start (ElementName start)) (text-is s closing start markup h)
    ∙ ap (λ r. r.0) (body-reads s closing start h.text h.body)

-- what refuses a tag for its form
if-good : (good number long : Bool) (k : TokenKind) → (if_tag good number long k ≢ Err TagSyntax) → good ≡ true
if-good true number long k h = refl
if-good false number long k h = absurd (h refl)

if-not : (number long : Bool) (k : TokenKind) → if_tag true number long k ≢ Err TagSyntax
if-not true long k e = cc
if-not false true k e = cc
if-not false false k e = cc

pub form-judged : (s : Syntax) (closing : Bool) (start : ℕ) (k : TokenKind) (markup : List ℕ) → start ≤ length markup
    → (judged_tag s closing start k markup ≢ Err TagSyntax) ↔ SpellsForm s closing start markup
form-judged s closing start k markup room = (
  λ h. form-spelled s closing start markup room (if-good good number long k h),
  λ h e. if-not number long k (ap (λ t. if_tag t number long k) (sym (form-is-tag s closing start markup h)) ∙ e),
)
  where
    good : Bool
    good = is_tag s closing start (ElementName start) (drop start (unclosed markup))

    number : Bool
    number = list_any (wrong_number_in s markup) (parts_of s closing start markup)

    long : Bool
    long = list_any (wrong_length_in s markup) (parts_of s closing start markup)
