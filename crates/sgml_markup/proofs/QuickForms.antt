-- A tag that needs no second look ends where it is said to, and is a tag.
use Rattle.std.proofs.Common.{◌≡◌, ℕ, suc, ◌+◌, ◌-◌, ◌≤◌, Bool, true, false, not, List, [], ◌∷◌, ◌++◌, None, Some, length, take, drop, refl, sym, ◌∙◌, ap, if◌then◌else◌, ◌==◌, ◌&&◌, ◌||◌, arith, append_assoc, length-append, eq-eqb, Ok, Err, inl}
use Rattle.std.specs.List.{list_all, list_any}
use Rattle.std.proofs.lemmas.List.{length-take}
use Rattle.std.proofs.lemmas.Bool.Decides.{nat_tests}
use Rattle.sgml_text.specs.declared.reason.Reason.TheVariants.{NonSgml, TagSyntax}
use Rattle.sgml_text.specs.NameCharacters.{is_name_character}
use Rattle.sgml_syntax.specs.declared.syntax.Syntax.{Syntax}
use Rattle.sgml_markup.specs.declared.kinds.Form.TheVariants as form
use Rattle.sgml_markup.specs.declared.kinds.TokenKind.{TokenKind}
use Rattle.sgml_markup.specs.declared.kinds.TokenKind.TheVariants as kind
use Rattle.sgml_markup.specs.declared.kinds.Part.{Part}
use Rattle.sgml_markup.specs.declared.kinds.PartKind.{PartKind}
use Rattle.sgml_markup.specs.declared.kinds.PartKind.TheVariants as part
use Rattle.sgml_text.specs.Characters.{is_sgml_character, is_separator, is_quote}
use Rattle.sgml_markup.specs.Ends.{tag_end, ends_with, ends_before}
use Rattle.sgml_delim.specs.Ends.{later}
use Rattle.sgml_markup.specs.References.{has_wrong_number, has_wrong_length, too_long}
use Rattle.sgml_markup.specs.Tags.{bytes_of, wrong_number_in, wrong_length_in}
use Rattle.sgml_markup.specs.Forms.{begins_tagc, judged, judged_form, judged_tag, judged_end_tag}
use Rattle.sgml_markup.specs.TagForm.{Value, Value.Quoted, Value.Unquoted, Specification, Specification.Named, Specification.Alone, spell_value, gap_of, spell, spell_all, has_bytes, AreSeparators, ValueStands, Stands, ends_quoted, AllStand, SpellsForm, place_of, places_of, places}
use Rattle.sgml_markup.specs.QuickTags.{IsQuickValue, IsQuick, AllQuick, IsQuickTag}
use Rattle.sgml_delim.proofs.Deciding.{true-false, and-left, and-right}
use Rattle.sgml_markup.proofs.EndLemmas.{later-later, later-zero}
use Rattle.sgml_markup.proofs.Walking.{if-tag-along}
use Rattle.sgml_markup.proofs.Spelling.{end-with, end-after, literal-end, quote-ends-none}
use Rattle.sgml_markup.proofs.Bytes.{name-named, take-front, take-past, all-append, last-is}
use Rattle.sgml_markup.proofs.FormMarkup.{form-is-tag, form-parts, drop-front, name-all, token-all, append-none}

-- where a tag doesn't end
abbrev Skips : Bool → List ℕ → Type 0
Skips shorttag xs = (ys : List ℕ) → tag_end shorttag None (xs ++ ys) ≡ later (length xs) (tag_end shorttag None ys)

record Inner (shorttag : Bool) (b : ℕ) : Type 0 where
  quote : is_quote b ≡ false
  with_ : ends_with shorttag b ≡ false
  before : ends_before shorttag b ≡ false

skip-byte : (shorttag : Bool) (b : ℕ) (ys : List ℕ) → Inner shorttag b → tag_end shorttag None (b ∷ ys) ≡ later 1 (tag_end shorttag None ys)
skip-byte shorttag b ys h =
    end-after shorttag b ys h.with_ h.before ∙ ap (λ t. later 1 (tag_end shorttag (if t then Some b else None) ys)) h.quote

skips-none : (shorttag : Bool) → Skips shorttag []
skips-none shorttag ys = sym (later-zero (tag_end shorttag None ys))

skips-append : (shorttag : Bool) (xs zs : List ℕ) → Skips shorttag xs → Skips shorttag zs → Skips shorttag (xs ++ zs)
skips-append shorttag xs zs f g ys =
    let len = length-append xs zs in
    ap (tag_end shorttag None) (append_assoc xs zs ys) ∙ f (zs ++ ys) ∙ ap (later (length xs)) (g ys)
    ∙ later-later (length xs) (length zs) (tag_end shorttag None ys)
    ∙ ap (λ n. later n (tag_end shorttag None ys)) (sym len)

skips-all : (shorttag : Bool) (test : ℕ → Bool) → ((b : ℕ) → test b ≡ true → Inner shorttag b) → (xs : List ℕ) → list_all test xs ≡ true
    → Skips shorttag xs
skips-all shorttag test f [] h = skips-none shorttag
skips-all shorttag test f (b ∷ xs) h = λ ys.
    skip-byte shorttag b (xs ++ ys) (f b (and-left (test b) (list_all test xs) h))
    ∙ ap (later 1) (skips-all shorttag test f xs (and-right (test b) (list_all test xs) h) ys)
    ∙ later-later 1 (length xs) (tag_end shorttag None ys)
    ∙ ap (λ n. later n (tag_end shorttag None ys)) (omega arith)

skips-literal : (shorttag : Bool) (q : ℕ) (text : List ℕ) → is_quote q ≡ true → list_all (λ b. not (b == q)) text ≡ true
    → Skips shorttag (q ∷ (text ++ q ∷ []))
skips-literal shorttag q text e h ys =
    let none = quote-ends-none shorttag q e in
    let len = length-append text (q ∷ []) in
    ap (λ xs. tag_end shorttag None (q ∷ xs)) (append_assoc text (q ∷ []) ys)
    ∙ end-after shorttag q (text ++ q ∷ ys) none.0 none.1
    ∙ ap (λ t. later 1 (tag_end shorttag (if t then Some q else None) (text ++ q ∷ ys))) e
    ∙ ap (later 1) (literal-end shorttag q text ys h (eq-eqb q q refl))
    ∙ later-later 1 (length text + 1) (tag_end shorttag None ys)
    ∙ ap (λ n. later n (tag_end shorttag None ys)) (omega (arith, len))

and-no : (t : Bool) → (t && false) ≡ false
and-no true = refl
and-no false = refl

inner-of : (shorttag : Bool) (b : ℕ) → is_quote b ≡ false → (b == 62) ≡ false → (b == 47) ≡ false → (b == 60) ≡ false → Inner shorttag b
inner-of shorttag b q e f g = record {
  quote = q;
  with_ = ap (λ t. t || (shorttag && (b == 47))) e ∙ ap (λ t. shorttag && t) f ∙ and-no shorttag;
  before = ap (λ t. shorttag && t) g ∙ and-no shorttag;
}

name-inner : (s : Syntax) (b : ℕ) → is_name_character s.names b ≡ true → Inner s.shorttag b
name-inner s b e = let h = name-named s.names b e in inner-of s.shorttag b h.no_quote h.no_tagc h.no_net h.no_stago

record Parting (b : ℕ) : Type 0 where
  quote : is_quote b ≡ false
  tagc : (b == 62) ≡ false
  net : (b == 47) ≡ false
  stago : (b == 60) ≡ false
  sgml : is_sgml_character b ≡ true

parting : (b : ℕ) → is_separator b ≡ true → Parting b
parting b e = record {
  quote = grind (arith, nat_tests);
  tagc = grind (arith, nat_tests);
  net = grind (arith, nat_tests);
  stago = grind (arith, nat_tests);
  sgml = grind (arith, nat_tests);
}

separator-inner : (shorttag : Bool) (b : ℕ) → is_separator b ≡ true → Inner shorttag b
separator-inner shorttag b e = let h = parting b e in inner-of shorttag b h.quote h.tagc h.net h.stago

skips-name : (s : Syntax) (xs : List ℕ) → list_all (is_name_character s.names) xs ≡ true → Skips s.shorttag xs
skips-name s xs h = skips-all s.shorttag (is_name_character s.names) (name-inner s) xs h

skips-separators : (s : Syntax) (xs : List ℕ) → AreSeparators xs → Skips s.shorttag xs
skips-separators s xs h = skips-all s.shorttag is_separator (separator-inner s.shorttag) xs h

skips-equals : (s : Syntax) → Skips s.shorttag (61 ∷ [])
skips-equals s = skips-all s.shorttag (λ b. b == 61) (λ b e. equals b e) (61 ∷ []) refl
  where
    equals : (b : ℕ) → (b == 61) ≡ true → Inner s.shorttag b
    equals b e =
        inner-of s.shorttag b (grind (arith, nat_tests)) (grind (arith, nat_tests)) (grind (arith, nat_tests)) (grind (arith, nat_tests))

skips-value : (s : Syntax) (v : Value) → ValueStands s v → Skips s.shorttag (spell_value v)
skips-value s (Quoted q text) h = skips-literal s.shorttag q text h.0 h.1
skips-value s (Unquoted token) h = skips-name s token (token-all s token h.0)

skips-specification : (s : Syntax) (x : Specification) → Stands s x → Skips s.shorttag (spell x)
skips-specification s (Named gap name before after v) h =
    skips-append s.shorttag gap (name ++ (before ++ 61 ∷ (after ++ spell_value v))) (skips-separators s gap h.0)
    (skips-append s.shorttag name (before ++ 61 ∷ (after ++ spell_value v)) (skips-name s name (name-all s name h.1))
    (skips-append s.shorttag before (61 ∷ (after ++ spell_value v)) (skips-separators s before h.2)
    (skips-append s.shorttag (61 ∷ []) (after ++ spell_value v) (skips-equals s)
    (skips-append s.shorttag after (spell_value v) (skips-separators s after h.3) (skips-value s v h.4)))))
skips-specification s (Alone gap token) h =
    skips-append s.shorttag gap token (skips-separators s gap h.0) (skips-name s token (token-all s token h.1))

skips-specifications : (s : Syntax) (free : Bool) (xs : List Specification) → AllStand s free xs → Skips s.shorttag (spell_all xs)
skips-specifications s free [] h = skips-none s.shorttag
skips-specifications s free (x ∷ xs) h =
    skips-append s.shorttag (spell x) (spell_all xs) (skips-specification s x h.1) (skips-specifications s (ends_quoted x) xs h.2)

-- its bytes are SGML characters
sgml-all : (test : ℕ → Bool) → ((b : ℕ) → test b ≡ true → is_sgml_character b ≡ true) → (xs : List ℕ) → list_all test xs ≡ true → list_all is_sgml_character xs ≡ true
sgml-all test f [] h = refl
sgml-all test f (b ∷ xs) h =
    ap (λ t. t && list_all is_sgml_character xs) (f b (and-left (test b) (list_all test xs) h)) ∙ sgml-all test f xs (and-right (test b) (list_all test xs) h)

sgml-name : (s : Syntax) (xs : List ℕ) → list_all (is_name_character s.names) xs ≡ true → list_all is_sgml_character xs ≡ true
sgml-name s xs h = sgml-all (is_name_character s.names) (λ b e. (name-named s.names b e).sgml) xs h

sgml-separators : (xs : List ℕ) → AreSeparators xs → list_all is_sgml_character xs ≡ true
sgml-separators xs h = sgml-all is_separator (λ b e. (parting b e).sgml) xs h

quote-sgml : (q : ℕ) → is_quote q ≡ true → is_sgml_character q ≡ true
quote-sgml q e = grind (arith, nat_tests)

sgml-value : (s : Syntax) (v : Value) → ValueStands s v → IsQuickValue s v → list_all is_sgml_character (spell_value v) ≡ true
sgml-value s (Quoted q text) h quick =
    ap (λ t. t && list_all is_sgml_character (text ++ q ∷ [])) (quote-sgml q h.0)
    ∙ all-append is_sgml_character text (q ∷ []) quick.sgml (ap (λ t. t && true) (quote-sgml q h.0))
sgml-value s (Unquoted token) h quick = sgml-name s token (token-all s token h.0)

sgml-specification : (s : Syntax) (x : Specification) → Stands s x → IsQuick s x → list_all is_sgml_character (spell x) ≡ true
sgml-specification s (Named gap name before after v) h quick =
    all-append is_sgml_character gap (name ++ (before ++ 61 ∷ (after ++ spell_value v))) (sgml-separators gap h.0)
    (all-append is_sgml_character name (before ++ 61 ∷ (after ++ spell_value v)) (sgml-name s name (name-all s name h.1))
    (all-append is_sgml_character before (61 ∷ (after ++ spell_value v)) (sgml-separators before h.2)
    (all-append is_sgml_character after (spell_value v) (sgml-separators after h.3) (sgml-value s v h.4 quick.1))))
sgml-specification s (Alone gap token) h quick =
    all-append is_sgml_character gap token (sgml-separators gap h.0) (sgml-name s token (token-all s token h.1))

sgml-specifications : (s : Syntax) (free : Bool) (xs : List Specification) → AllStand s free xs → AllQuick s xs
    → list_all is_sgml_character (spell_all xs) ≡ true
sgml-specifications s free [] h quick = refl
sgml-specifications s free (x ∷ xs) h quick =
    all-append is_sgml_character (spell x) (spell_all xs) (sgml-specification s x h.1 quick.0) (sgml-specifications s (ends_quoted x) xs h.2 quick.1)

-- its parts are of lengths and references that may be
short-less : (s : Syntax) (m n : ℕ) → m ≤ n → too_long s n ≡ false → too_long s m ≡ false
short-less s m n l e = grind (arith, nat_tests)

name-short : (s : Syntax) (markup : List ℕ) (k : PartKind) (from n : ℕ) → too_long s n ≡ false
    → too_long s (length (bytes_of markup (record { kind = k; from = from; to = from + n }))) ≡ false
name-short s markup k from n e =
    let len = length-take (from + n - from) (drop from markup) in
    short-less s (length (take (from + n - from) (drop from markup))) n (omega (arith, len)) e

bytes-are : (k : PartKind) (front text rest : List ℕ) (from : ℕ) → from ≡ length front
    → bytes_of (front ++ (text ++ rest)) (record { kind = k; from = from; to = from + length text }) ≡ text
bytes-are k front text rest from e =
    let size : from + length text - from ≡ length text = omega arith in
    ap (λ n. take n (drop from (front ++ (text ++ rest)))) size
    ∙ ap (λ n. take (length text) (drop n (front ++ (text ++ rest)))) e
    ∙ ap (take (length text)) (drop-front front (text ++ rest))
    ∙ take-front text rest

-- nothing is wrong with these parts
record Fine (s : Syntax) (markup : List ℕ) (parts : List Part) : Type 0 where
  number : list_any (wrong_number_in s markup) parts ≡ false
  long : list_any (wrong_length_in s markup) parts ≡ false

fine-more : (s : Syntax) (markup : List ℕ) (p : Part) (parts : List Part) → wrong_number_in s markup p ≡ false → wrong_length_in s markup p ≡ false
    → Fine s markup parts → Fine s markup (p ∷ parts)
fine-more s markup p parts e f h = record {
  number = ap (λ t. t || list_any (wrong_number_in s markup) parts) e ∙ h.number;
  long = ap (λ t. t || list_any (wrong_length_in s markup) parts) f ∙ h.long;
}

fine-value : (s : Syntax) (markup front rest : List ℕ) (v : Value) (at : ℕ) (parts : List Part) → markup ≡ front ++ (spell_value v ++ rest)
    → at ≡ length front → IsQuickValue s v → Fine s markup parts → Fine s markup (place_of v at ∷ parts)
fine-value s markup front rest (Quoted q text) at parts is e quick h =
    fine-more s markup (place_of (Quoted q text) at) parts
    (ap (has_wrong_number s) bytes ∙ quick.number) (ap (has_wrong_length s) bytes ∙ quick.short) h
  where
    bytes : bytes_of markup (place_of (Quoted q text) at) ≡ text
    bytes =
        let len = length-append front (q ∷ []) in
        ap (λ xs. bytes_of xs (place_of (Quoted q text) at))
        (is ∙ ap (λ xs. front ++ q ∷ xs) (append_assoc text (q ∷ []) rest) ∙ sym (append_assoc front (q ∷ []) (text ++ q ∷ rest)))
        ∙ bytes-are part.Quoted (front ++ q ∷ []) text (q ∷ rest) (at + 1) (omega (arith, len, e))
fine-value s markup front rest (Unquoted token) at parts is e quick h = fine-more s markup (place_of (Unquoted token) at) parts refl refl h

fine-specification : (s : Syntax) (markup front rest : List ℕ) (x : Specification) (at : ℕ) (parts : List Part) → markup ≡ front ++ (spell x ++ rest)
    → at ≡ length front → IsQuick s x → Fine s markup parts → Fine s markup (places_of x (at + length (gap_of x)) ++ parts)
fine-specification s markup front rest (Named gap name before after v) at parts is e quick h =
    let from = at + length gap in
    let place = from + length name + length before + 1 + length after in
    fine-more s markup (record { kind = part.AttributeName; from = from; to = from + length name }) (place_of v place ∷ parts) refl
    (name-short s markup part.AttributeName from (length name) quick.0)
    (fine-value s markup (front ++ (gap ++ (name ++ (before ++ 61 ∷ after)))) rest v place parts
    (is ∙ spelled front gap name before after (spell_value v) rest) size quick.1 h)
  where
    size : at + length gap + length name + length before + 1 + length after ≡ length (front ++ (gap ++ (name ++ (before ++ 61 ∷ after))))
    size =
        let len1 = length-append front (gap ++ (name ++ (before ++ 61 ∷ after))) in
        let len2 = length-append gap (name ++ (before ++ 61 ∷ after)) in
        let len3 = length-append name (before ++ 61 ∷ after) in
        let len4 = length-append before (61 ∷ after) in
        omega (arith, e, len1, len2, len3, len4)

    spelled : (fs gs ns bs cs vs rs : List ℕ)
        → fs ++ ((gs ++ (ns ++ (bs ++ 61 ∷ (cs ++ vs)))) ++ rs) ≡ (fs ++ (gs ++ (ns ++ (bs ++ 61 ∷ cs)))) ++ (vs ++ rs)
    spelled fs gs ns bs cs vs rs =
        ap (λ ws. fs ++ ((gs ++ (ns ++ ws)) ++ rs)) (sym (append_assoc bs (61 ∷ cs) vs))
        ∙ ap (λ ws. fs ++ ((gs ++ ws) ++ rs)) (sym (append_assoc ns (bs ++ 61 ∷ cs) vs))
        ∙ ap (λ ws. fs ++ (ws ++ rs)) (sym (append_assoc gs (ns ++ (bs ++ 61 ∷ cs)) vs))
        ∙ ap (λ ws. fs ++ ws) (append_assoc (gs ++ (ns ++ (bs ++ 61 ∷ cs))) vs rs)
        ∙ sym (append_assoc fs (gs ++ (ns ++ (bs ++ 61 ∷ cs))) (vs ++ rs))
fine-specification s markup front rest (Alone gap token) at parts is e quick h =
    fine-more s markup (record { kind = part.Bare; from = at + length gap; to = at + length gap + length token }) parts refl refl h

fine-all : (s : Syntax) (markup front rest : List ℕ) (xs : List Specification) (at : ℕ) → markup ≡ front ++ (spell_all xs ++ rest)
    → at ≡ length front → AllQuick s xs → Fine s markup (places xs at)
fine-all s markup front rest [] at is e quick = record { number = refl; long = refl }
fine-all s markup front rest (x ∷ xs) at is e quick =
    let len = length-append front (spell x) in
    fine-specification s markup front (spell_all xs ++ rest) x at (places xs (at + length (spell x)))
    (is ∙ ap (λ ys. front ++ ys) (append_assoc (spell x) (spell_all xs) rest)) e quick.0
    (fine-all s markup (front ++ spell x) rest xs (at + length (spell x))
    (is ∙ ap (λ ys. front ++ ys) (append_assoc (spell x) (spell_all xs) rest) ∙ sym (append_assoc front (spell x) (spell_all xs ++ rest)))
    (omega (arith, e, len)) quick.1)

-- what a tag has between its delimiters
abbrev body_of : {s : Syntax} {closing : Bool} {text : List ℕ} {n : ℕ} → IsQuickTag s closing text n → List ℕ
body_of h = h.name ++ spell_all h.ends.specifications

quick-judged : (s : Syntax) (closing : Bool) (start : ℕ) (k : TokenKind) (delimiter text : List ℕ) (n : ℕ) (h : IsQuickTag s closing text n)
    → length delimiter ≡ start → judged_tag s closing start k (delimiter ++ (body_of h ++ 62 ∷ [])) ≡ Ok k
quick-judged s closing start k delimiter text n h e =
    if-tag-along k (form-is-tag s closing start markup spelled)
    (ap (list_any (wrong_number_in s markup)) (form-parts s closing start markup spelled) ∙ fine.number)
    (ap (list_any (wrong_length_in s markup)) (form-parts s closing start markup spelled) ∙ fine.long)
  where
    markup : List ℕ
    markup = delimiter ++ (body_of h ++ 62 ∷ [])

    spelled : SpellsForm s closing start markup
    spelled = record {
      delimiter = delimiter;
      text = body_of h;
      close = 62 ∷ [];
      body = record {
        name = h.name;
        specifications = h.ends.specifications;
        last = [];
        named = h.named;
        stand = h.ends.stand;
        separators = refl;
        alone = h.alone;
        is = ap (λ xs. h.name ++ xs) (sym (append-none (spell_all h.ends.specifications)));
      };
      begins = e;
      closes = inl refl;
      is = refl;
    }

    fine : Fine s markup (record { kind = part.ElementName; from = start; to = start + length h.name } ∷ places h.ends.specifications (start + length h.name))
    fine =
        let len = length-append delimiter h.name in
        fine-more s markup (record { kind = part.ElementName; from = start; to = start + length h.name })
        (places h.ends.specifications (start + length h.name)) refl
        (name-short s markup part.ElementName start (length h.name) h.short)
        (fine-all s markup (delimiter ++ h.name) (62 ∷ []) h.ends.specifications (start + length h.name)
        (ap (λ xs. delimiter ++ xs) (append_assoc h.name (spell_all h.ends.specifications) (62 ∷ []))
        ∙ sym (append_assoc delimiter h.name (spell_all h.ends.specifications ++ 62 ∷ [])))
        (omega (arith, len, e)) h.ends.quick)

-- the whole tag
text-spelled : {s : Syntax} {closing : Bool} {text : List ℕ} {n : ℕ} (h : IsQuickTag s closing text n) → text ≡ body_of h ++ 62 ∷ h.ends.rest
text-spelled h =
    h.is ∙ ap (λ xs. h.name ++ xs) h.ends.is ∙ sym (append_assoc h.name (spell_all h.ends.specifications) (62 ∷ h.ends.rest))

text-size : {s : Syntax} {closing : Bool} {text : List ℕ} {n : ℕ} (h : IsQuickTag s closing text n) → n ≡ suc (length (body_of h))
text-size h =
    let adds = h.adds in
    let size = h.ends.size in
    let len = length-append h.name (spell_all h.ends.specifications) in
    omega (arith, adds, size, len)

text-taken : {s : Syntax} {closing : Bool} {text : List ℕ} {n : ℕ} (h : IsQuickTag s closing text n) → take n text ≡ body_of h ++ 62 ∷ []
text-taken {text = text} h =
    ap (λ k. take k text) (text-size h) ∙ ap (take (suc (length (body_of h)))) (text-spelled h) ∙ take-past (body_of h) h.ends.rest 62

pub quick-ends : (s : Syntax) (closing : Bool) (text : List ℕ) (n : ℕ) → IsQuickTag s closing text n → tag_end s.shorttag None text ≡ Some n
quick-ends s closing text n h =
    ap (tag_end s.shorttag None) (text-spelled h)
    ∙ skips-append s.shorttag h.name (spell_all h.ends.specifications) (skips-name s h.name h.named)
    (skips-specifications s false h.ends.specifications h.ends.stand) (62 ∷ h.ends.rest)
    ∙ ap (later (length (body_of h))) (end-with s.shorttag 62 h.ends.rest refl)
    ∙ ap (λ k. Some k) (let size = text-size h in omega (arith, size))

body-sgml : (s : Syntax) (closing : Bool) (text : List ℕ) (n : ℕ) (h : IsQuickTag s closing text n) → list_all is_sgml_character (body_of h ++ 62 ∷ []) ≡ true
body-sgml s closing text n h =
    all-append is_sgml_character (body_of h) (62 ∷ [])
    (all-append is_sgml_character h.name (spell_all h.ends.specifications) (sgml-name s h.name h.named)
    (sgml-specifications s false h.ends.specifications h.ends.stand h.ends.quick)) refl

body-full : (s : Syntax) (closing : Bool) (text : List ℕ) (n : ℕ) (h : IsQuickTag s closing text n) → begins_tagc (body_of h ++ 62 ∷ []) ≡ false
body-full s closing text n h = by_name h.name h.named h.some
  where
    by_name : (xs : List ℕ) → list_all (is_name_character s.names) xs ≡ true → has_bytes xs ≡ true
        → begins_tagc ((xs ++ spell_all h.ends.specifications) ++ 62 ∷ []) ≡ false
    by_name [] e f = absurd (true-false f)
    by_name (b ∷ xs) e f = (name-named s.names b (and-left (is_name_character s.names b) (list_all (is_name_character s.names) xs) e)).no_tagc

pub start-quick : (s : Syntax) (d : ℕ) (text : List ℕ) (n : ℕ) → is_sgml_character d ≡ true → IsQuickTag s false text n
    → judged s form.StartTag (d ∷ take n text) ≡ Ok kind.StartTag
start-quick s d text n e h =
    let body = body_of h in
    let markup = d ∷ (body ++ 62 ∷ []) in
    ap (λ xs. judged s form.StartTag (d ∷ xs)) (text-taken h)
    ∙ ap (λ t. if t && list_all is_sgml_character (body ++ 62 ∷ []) then judged_form s form.StartTag markup else Err NonSgml) e
    ∙ ap (λ t. if t then judged_form s form.StartTag markup else Err NonSgml) (body-sgml s false text n h)
    ∙ ap (λ t. if t then Ok kind.EmptyStart else judged_tag s false 1 kind.StartTag markup) (body-full s false text n h)
    ∙ quick-judged s false 1 kind.StartTag (d ∷ []) text n h refl

pub end-quick : (s : Syntax) (c d : ℕ) (text : List ℕ) (n : ℕ) → is_sgml_character c ≡ true → is_sgml_character d ≡ true → IsQuickTag s true text n
    → judged s form.EndTag (c ∷ d ∷ take n text) ≡ Ok kind.EndTag
end-quick s c d text n e f h =
    let body = body_of h in
    let markup = c ∷ d ∷ (body ++ 62 ∷ []) in
    ap (λ xs. judged s form.EndTag (c ∷ d ∷ xs)) (text-taken h)
    ∙ ap (λ t. if t && (is_sgml_character d && list_all is_sgml_character (body ++ 62 ∷ [])) then judged_form s form.EndTag markup else Err NonSgml) e
    ∙ ap (λ t. if t && list_all is_sgml_character (body ++ 62 ∷ []) then judged_form s form.EndTag markup else Err NonSgml) f
    ∙ ap (λ t. if t then judged_form s form.EndTag markup else Err NonSgml) (body-sgml s true text n h)
    ∙ ap (λ t. if t then Ok kind.EmptyEnd else judged_end_tag s markup) (body-full s true text n h)
    ∙ ap (λ b. if b == 47 then Err TagSyntax else judged_tag s true 2 kind.EndTag markup) (last-is (c ∷ d ∷ body) 62)
    ∙ quick-judged s true 2 kind.EndTag (c ∷ d ∷ []) text n h refl
