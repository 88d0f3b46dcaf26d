-- A tag that is spelled by the grammar is of a form, and its parts are those of the spelling.
use Rattle.std.proofs.Common.{◌≡◌, ℕ, suc, ◌+◌, Bool, true, false, not, List, [], ◌∷◌, ◌++◌, length, refl, sym, ◌∙◌, ap, ◌==◌, arith, append_assoc, length-append}
use Rattle.std.specs.List.{list_all}
use Rattle.sgml_text.specs.NameCharacters.{is_name_character, is_name_start, is_name_of}
use Rattle.sgml_syntax.specs.declared.syntax.Syntax.{Syntax}
use Rattle.sgml_markup.specs.declared.kinds.Part.{Part}
use Rattle.sgml_markup.specs.declared.kinds.PartKind.TheVariants as part
use Rattle.sgml_markup.specs.declared.kinds.TagState.TheVariants.{ElementName, Closing, Ready, Word, AfterWord, Bare, Literal}
use Rattle.sgml_markup.specs.declared.kinds.TagState.TheVariants as state
use Rattle.sgml_text.specs.Characters.{is_separator}
use Rattle.sgml_markup.specs.Tags.{goes_to, ends_part, with_part, part_of, is_good}
use Rattle.sgml_markup.specs.TagForm.{Value, Value.Quoted, Value.Unquoted, Specification, Specification.Named, Specification.Alone, spell_value, gap_of, content_of, spell, spell_all, has_bytes, is_token, AreSeparators, ValueStands, Stands, is_quoted, ends_quoted, AllStand, SpellsBody, place_of, places_of, places, body_places}
use Rattle.sgml_delim.proofs.Deciding.{true-false, and-left, and-right}
use Rattle.sgml_markup.proofs.FormSteps.{read, add, by-step, over, over-all, name-stays, closing-stays, ready-stays, word-stays, after-stays, value-stays, bare-stays, literal-stays, bare-is, name-separator, ready-name, word-separator, word-equals, after-name, value-quote, value-name, bare-separator, literal-quote, start-is-name}

abbrev pub bare : ℕ → ℕ → Part
bare from to = record { kind = part.Bare; from = from; to = to }

-- what is read of specifications, and the separators after them, from each state
pub record Reads (s : Syntax) (xs : List Specification) (last : List ℕ) : Type 0 where
  pub ready : (free : Bool) (at to : ℕ) → AllStand s free xs → to ≡ at
      → read s false at Ready (spell_all xs ++ last) ≡ (true, places xs to)
  pub bare_value : (from at to : ℕ) → AllStand s false xs → s.shorttag ≡ true → to ≡ at
      → read s false at (Bare from) (spell_all xs ++ last) ≡ (true, bare from at ∷ places xs to)
  pub word : (from at to : ℕ) (w : Bool) → AllStand s false xs → s.shorttag ≡ true → to ≡ at
      → read s false at (Word from w) (spell_all xs ++ last) ≡ (true, bare from at ∷ places xs to)

-- separators alone
ready-end : (s : Syntax) (at : ℕ) (last : List ℕ) → AreSeparators last → read s false at Ready last ≡ (true, [])
ready-end s at last h = over-all s false Ready is_separator (ready-stays s false) at (at + length last) last h refl

bare-end : (s : Syntax) (from at : ℕ) (last : List ℕ) → AreSeparators last → s.shorttag ≡ true
    → read s false at (Bare from) last ≡ (true, bare from at ∷ [])
bare-end s from at [] h short = ap (λ st. (is_good st.next, with_part st.part [])) (bare-is s from at Ready short)
bare-end s from at (b ∷ last) h short =
    by-step s false at (Bare from) b last (ends_part part.Bare from at Ready)
    (bare-separator s at from b (and-left (is_separator b) (list_all is_separator last) h) short)
    ∙ ap (add (part_of part.Bare from at)) (ready-end s (at + 1) last (and-right (is_separator b) (list_all is_separator last) h))

word-end : (s : Syntax) (from at : ℕ) (w : Bool) (last : List ℕ) → AreSeparators last → s.shorttag ≡ true
    → read s false at (Word from w) last ≡ (true, bare from at ∷ [])
word-end s from at w [] h short = ap (λ st. (is_good st.next, with_part st.part [])) (bare-is s from at Ready short)
word-end s from at w (b ∷ last) h short =
    by-step s false at (Word from w) b last (goes_to (AfterWord from at w))
    (word-separator s at from b w (and-left (is_separator b) (list_all is_separator last) h))
    ∙ over-all s false (AfterWord from at w) is_separator (after-stays s false from at w) (at + 1) (at + 1 + length last) last
    (and-right (is_separator b) (list_all is_separator last) h) refl
    ∙ ap (λ st. (is_good st.next, with_part st.part [])) (bare-is s from at Ready short)

pub reads-none : (s : Syntax) (last : List ℕ) → AreSeparators last → Reads s [] last
reads-none s last h = record {
  ready = λ free at to stand e. ready-end s at last h;
  bare_value = λ from at to stand short e. bare-end s from at last h short;
  word = λ from at to w stand short e. word-end s from at w last h short;
}

-- separators before a specification
bare-gap : (s : Syntax) (from at : ℕ) (gap rest : List ℕ) → has_bytes gap ≡ true → AreSeparators gap → s.shorttag ≡ true
    → read s false at (Bare from) (gap ++ rest) ≡ add (part_of part.Bare from at) (read s false (at + length gap) Ready rest)
bare-gap s from at [] rest e h short = absurd (true-false e)
bare-gap s from at (b ∷ gap) rest e h short =
    by-step s false at (Bare from) b (gap ++ rest) (ends_part part.Bare from at Ready)
    (bare-separator s at from b (and-left (is_separator b) (list_all is_separator gap) h) short)
    ∙ ap (add (part_of part.Bare from at))
    (over s false Ready is_separator (ready-stays s false) (at + 1) (at + suc (length gap)) gap rest
    (and-right (is_separator b) (list_all is_separator gap) h) (omega arith))

word-gap : (s : Syntax) (from at : ℕ) (w : Bool) (gap rest : List ℕ) → has_bytes gap ≡ true → AreSeparators gap
    → read s false at (Word from w) (gap ++ rest) ≡ read s false (at + length gap) (AfterWord from at w) rest
word-gap s from at w [] rest e h = absurd (true-false e)
word-gap s from at w (b ∷ gap) rest e h =
    by-step s false at (Word from w) b (gap ++ rest) (goes_to (AfterWord from at w))
    (word-separator s at from b w (and-left (is_separator b) (list_all is_separator gap) h))
    ∙ over s false (AfterWord from at w) is_separator (after-stays s false from at w) (at + 1) (at + suc (length gap)) gap rest
    (and-right (is_separator b) (list_all is_separator gap) h) (omega arith)

name-gap : (s : Syntax) (from at : ℕ) (gap rest : List ℕ) → has_bytes gap ≡ true → AreSeparators gap
    → read s false at (ElementName from) (gap ++ rest) ≡ add (part_of part.ElementName from at) (read s false (at + length gap) Ready rest)
name-gap s from at [] rest e h = absurd (true-false e)
name-gap s from at (b ∷ gap) rest e h =
    by-step s false at (ElementName from) b (gap ++ rest) (ends_part part.ElementName from at Ready)
    (name-separator s false at from b (and-left (is_separator b) (list_all is_separator gap) h))
    ∙ ap (add (part_of part.ElementName from at))
    (over s false Ready is_separator (ready-stays s false) (at + 1) (at + suc (length gap)) gap rest
    (and-right (is_separator b) (list_all is_separator gap) h) (omega arith))

-- a word at the head of a specification
word-from : (s : Syntax) (at to b : ℕ) (more rest : List ℕ) → is_name_character s.names b ≡ true
    → list_all (is_name_character s.names) more ≡ true → to ≡ at + length (b ∷ more)
    → read s false at Ready (b ∷ (more ++ rest)) ≡ read s false to (Word at (is_name_start s.names b)) rest
word-from s at to b more rest e h is =
    by-step s false at Ready b (more ++ rest) (goes_to (Word at (is_name_start s.names b))) (ready-name s at b e)
    ∙ over s false (Word at (is_name_start s.names b)) (is_name_character s.names) (word-stays s false at (is_name_start s.names b))
    (at + 1) to more rest h (omega (arith, is))

equals-from : (s : Syntax) (from at to : ℕ) (before rest : List ℕ) → AreSeparators before → to ≡ at + length before + 1
    → read s false at (Word from true) (before ++ 61 ∷ rest) ≡ add (part_of part.AttributeName from at) (read s false to state.Value rest)
equals-from s from at to [] rest h is =
    by-step s false at (Word from true) 61 rest (ends_part part.AttributeName from at state.Value) (word-equals s at from)
    ∙ ap (λ n. add (part_of part.AttributeName from at) (read s false n state.Value rest)) (omega (arith, is))
equals-from s from at to (b ∷ before) rest h is =
    word-gap s from at true (b ∷ before) (61 ∷ rest) refl h
    ∙ ap (λ n. add (part_of part.AttributeName from at) (read s false n state.Value rest)) (omega (arith, is))

-- a value
regroup : (xs : List ℕ) (c : ℕ) (ys : List ℕ) → (xs ++ c ∷ []) ++ ys ≡ xs ++ c ∷ ys
regroup xs c ys = append_assoc xs (c ∷ []) ys

value-from : (s : Syntax) (v : Value) (xs : List Specification) (last : List ℕ) (at to : ℕ) → ValueStands s v → AllStand s (is_quoted v) xs
    → Reads s xs last → to ≡ at + length (spell_value v)
    → read s false at state.Value (spell_value v ++ (spell_all xs ++ last)) ≡ (true, place_of v at ∷ places xs to)
value-from s (Quoted q text) xs last at to h stand reads is =
    let rest = spell_all xs ++ last in
    let len = length-append text (q ∷ []) in
    ap (λ ys. read s false at state.Value (q ∷ ys)) (regroup text q rest)
    ∙ by-step s false at state.Value q (text ++ q ∷ rest) (goes_to (Literal q (at + 1))) (value-quote s at q h.0)
    ∙ over s false (Literal q (at + 1)) (λ b. not (b == q)) (literal-stays s false q (at + 1)) (at + 1) (at + 1 + length text) text (q ∷ rest)
    h.1 refl
    ∙ by-step s false (at + 1 + length text) (Literal q (at + 1)) q rest (ends_part part.Quoted (at + 1) (at + 1 + length text) Ready)
    (literal-quote s (at + 1 + length text) q (at + 1))
    ∙ ap (add (part_of part.Quoted (at + 1) (at + 1 + length text)))
    (reads.ready true (at + 1 + length text + 1) to stand (omega (arith, is, len)))
value-from s (Unquoted []) xs last at to h stand reads is = absurd (true-false h.0)
value-from s (Unquoted (b ∷ more)) xs last at to h stand reads is =
    let rest = spell_all xs ++ last in
    let named = and-left (is_name_character s.names b) (list_all (is_name_character s.names) more) h.0 in
    by-step s false at state.Value b (more ++ rest) (goes_to (Bare at)) (value-name s at b named)
    ∙ over s false (Bare at) (is_name_character s.names) (bare-stays s false at) (at + 1) (at + suc (length more)) more rest
    (and-right (is_name_character s.names b) (list_all (is_name_character s.names) more) h.0) (omega arith)
    ∙ reads.bare_value at (at + suc (length more)) to stand h.1 is

-- a specification after its separators
named-from : (s : Syntax) (gap name before after : List ℕ) (v : Value) (xs : List Specification) (last : List ℕ) (at to : ℕ)
    → Stands s (Named gap name before after v) → AllStand s (is_quoted v) xs → Reads s xs last
    → to ≡ at + length (content_of (Named gap name before after v))
    → read s false at Ready (content_of (Named gap name before after v) ++ (spell_all xs ++ last))
    ≡ (true, places_of (Named gap name before after v) at ++ places xs to)
named-from s gap [] before after v xs last at to h stand reads is = absurd (true-false h.1)
named-from s gap (b ∷ more) before after v xs last at to h stand reads is =
    let rest = spell_all xs ++ last in
    let start = and-left (is_name_start s.names b) (list_all (is_name_character s.names) more) h.1 in
    let all = and-right (is_name_start s.names b) (list_all (is_name_character s.names) more) h.1 in
    let end = at + length (b ∷ more) in
    let value = end + length before + 1 in
    let len1 = length-append more (before ++ 61 ∷ (after ++ spell_value v)) in
    let len2 = length-append before (61 ∷ (after ++ spell_value v)) in
    let len3 = length-append after (spell_value v) in
    let size : to ≡ value + length after + length (spell_value v) = omega (arith, is, len1, len2, len3) in
    ap (λ ys. read s false at Ready (b ∷ ys)) (spelled more before after (spell_value v) rest)
    ∙ word-from s at end b more (before ++ 61 ∷ (after ++ (spell_value v ++ rest))) (start-is-name s.names b start) all refl
    ∙ ap (λ w. read s false end (Word at w) (before ++ 61 ∷ (after ++ (spell_value v ++ rest)))) start
    ∙ equals-from s at end value before (after ++ (spell_value v ++ rest)) h.2 refl
    ∙ ap (add (part_of part.AttributeName at end))
    (over s false state.Value is_separator (value-stays s false) value (value + length after) after (spell_value v ++ rest) h.3 refl
    ∙ value-from s v xs last (value + length after) to h.4 stand reads size)
  where
    spelled : (xs ys zs vs rs : List ℕ) → (xs ++ (ys ++ 61 ∷ (zs ++ vs))) ++ rs ≡ xs ++ (ys ++ 61 ∷ (zs ++ (vs ++ rs)))
    spelled xs ys zs vs rs =
        append_assoc xs (ys ++ 61 ∷ (zs ++ vs)) rs
        ∙ ap (λ ws. xs ++ ws) (append_assoc ys (61 ∷ (zs ++ vs)) rs ∙ ap (λ ws. ys ++ 61 ∷ ws) (append_assoc zs vs rs))

alone-from : (s : Syntax) (gap token : List ℕ) (xs : List Specification) (last : List ℕ) (at to : ℕ)
    → Stands s (Alone gap token) → AllStand s false xs → Reads s xs last → to ≡ at + length token
    → read s false at Ready (token ++ (spell_all xs ++ last)) ≡ (true, places_of (Alone gap token) at ++ places xs to)
alone-from s gap [] xs last at to h stand reads is = absurd (true-false h.1)
alone-from s gap (b ∷ more) xs last at to h stand reads is =
    let named = and-left (is_name_character s.names b) (list_all (is_name_character s.names) more) h.1 in
    let all = and-right (is_name_character s.names b) (list_all (is_name_character s.names) more) h.1 in
    word-from s at (at + length (b ∷ more)) b more (spell_all xs ++ last) named all refl
    ∙ reads.word at (at + length (b ∷ more)) to (is_name_start s.names b) stand h.2 is

content-from : (s : Syntax) (x : Specification) (xs : List Specification) (last : List ℕ) (at to : ℕ)
    → Stands s x → AllStand s (ends_quoted x) xs → Reads s xs last → to ≡ at + length (content_of x)
    → read s false at Ready (content_of x ++ (spell_all xs ++ last)) ≡ (true, places_of x at ++ places xs to)
content-from s (Named gap name before after v) xs last at to h stand reads is = named-from s gap name before after v xs last at to h stand reads is
content-from s (Alone gap token) xs last at to h stand reads is = alone-from s gap token xs last at to h stand reads is

spelled-first : (x : Specification) (xs : List Specification) (last : List ℕ)
    → spell_all (x ∷ xs) ++ last ≡ gap_of x ++ (content_of x ++ (spell_all xs ++ last))
spelled-first x xs last =
    append_assoc (spell x) (spell_all xs) last ∙ append_assoc (gap_of x) (content_of x) (spell_all xs ++ last)

gap-stands : (s : Syntax) (x : Specification) → Stands s x → AreSeparators (gap_of x)
gap-stands s (Named gap name before after v) h = h.0
gap-stands s (Alone gap token) h = h.0

-- each content begins with a name character
pub record Begins (s : Syntax) (content : List ℕ) : Type 0 where
  pub first : ℕ
  pub more : List ℕ
  pub name : is_name_character s.names first ≡ true
  pub is : content ≡ first ∷ more

token-begins : (s : Syntax) (token : List ℕ) → is_token s.names token ≡ true → Begins s token
token-begins s [] h = absurd (true-false h)
token-begins s (b ∷ more) h =
    record { first = b; more = more; name = and-left (is_name_character s.names b) (list_all (is_name_character s.names) more) h; is = refl }

name-begins : (s : Syntax) (name rest : List ℕ) → is_name_of s.names name ≡ true → Begins s (name ++ rest)
name-begins s [] rest h = absurd (true-false h)
name-begins s (b ∷ more) rest h = record {
  first = b;
  more = more ++ rest;
  name = start-is-name s.names b (and-left (is_name_start s.names b) (list_all (is_name_character s.names) more) h);
  is = refl;
}

content-begins : (s : Syntax) (x : Specification) → Stands s x → Begins s (content_of x)
content-begins s (Named gap name before after v) h = name-begins s name (before ++ 61 ∷ (after ++ spell_value v)) h.1
content-begins s (Alone gap token) h = token-begins s token h.1

after-word : (s : Syntax) (from to at : ℕ) (w : Bool) (content rest : List ℕ) → Begins s content → s.shorttag ≡ true
    → read s false at (AfterWord from to w) (content ++ rest) ≡ add (part_of part.Bare from to) (read s false at Ready (content ++ rest))
after-word s from to at w content rest h short =
    ap (λ ys. read s false at (AfterWord from to w) (ys ++ rest)) h.is
    ∙ by-step s false at (AfterWord from to w) h.first (h.more ++ rest) (ends_part part.Bare from to (Word at (is_name_start s.names h.first)))
    (after-name s at from to h.first w h.name short)
    ∙ ap (add (part_of part.Bare from to))
    (sym (by-step s false at Ready h.first (h.more ++ rest) (goes_to (Word at (is_name_start s.names h.first))) (ready-name s at h.first h.name)))
    ∙ ap (λ ys. add (part_of part.Bare from to) (read s false at Ready (ys ++ rest))) (sym h.is)

-- one specification more
content-next : (s : Syntax) (x : Specification) (xs : List Specification) (last : List ℕ) (at to : ℕ)
    → Stands s x → AllStand s (ends_quoted x) xs → Reads s xs last → to ≡ at
    → read s false (at + length (gap_of x)) Ready (content_of x ++ (spell_all xs ++ last)) ≡ (true, places (x ∷ xs) to)
content-next s x xs last at to h stand reads e =
    let len = length-append (gap_of x) (content_of x) in
    content-from s x xs last (at + length (gap_of x)) (at + length (spell x)) h stand reads (omega (arith, len))
    ∙ ap (λ n. (true, places (x ∷ xs) n)) (sym e)

reads-more : (s : Syntax) (x : Specification) (xs : List Specification) (last : List ℕ) → Reads s xs last → Reads s (x ∷ xs) last
reads-more s x xs last reads = record {
  ready = λ free at to h e.
      ap (read s false at Ready) (spelled-first x xs last)
      ∙ over s false Ready is_separator (ready-stays s false) at (at + length (gap_of x)) (gap_of x) (content_of x ++ (spell_all xs ++ last))
      (gap-stands s x h.1) refl
      ∙ content-next s x xs last at to h.1 h.2 reads e;
  bare_value = λ from at to h short e.
      ap (read s false at (Bare from)) (spelled-first x xs last)
      ∙ bare-gap s from at (gap_of x) (content_of x ++ (spell_all xs ++ last)) h.0 (gap-stands s x h.1) short
      ∙ ap (add (part_of part.Bare from at)) (content-next s x xs last at to h.1 h.2 reads e);
  word = λ from at to w h short e.
      ap (read s false at (Word from w)) (spelled-first x xs last)
      ∙ word-gap s from at w (gap_of x) (content_of x ++ (spell_all xs ++ last)) h.0 (gap-stands s x h.1)
      ∙ after-word s from at (at + length (gap_of x)) w (content_of x) (spell_all xs ++ last) (content-begins s x h.1) short
      ∙ ap (add (part_of part.Bare from at)) (content-next s x xs last at to h.1 h.2 reads e);
}

all-read : (s : Syntax) (xs : List Specification) (last : List ℕ) → AreSeparators last → Reads s xs last
all-read s [] last h = reads-none s last h
all-read s (x ∷ xs) last h = reads-more s x xs last (all-read s xs last h)

-- after the element's name
name-end : (s : Syntax) (closing : Bool) (from at : ℕ) (last : List ℕ) → AreSeparators last
    → read s closing at (ElementName from) last ≡ (true, record { kind = part.ElementName; from = from; to = at } ∷ [])
name-end s closing from at [] h = refl
name-end s true from at (b ∷ last) h =
    by-step s true at (ElementName from) b last (ends_part part.ElementName from at Closing)
    (name-separator s true at from b (and-left (is_separator b) (list_all is_separator last) h))
    ∙ ap (add (part_of part.ElementName from at))
    (over-all s true Closing is_separator (closing-stays s) (at + 1) (at + 1 + length last) last
    (and-right (is_separator b) (list_all is_separator last) h) refl)
name-end s false from at (b ∷ last) h =
    by-step s false at (ElementName from) b last (ends_part part.ElementName from at Ready)
    (name-separator s false at from b (and-left (is_separator b) (list_all is_separator last) h))
    ∙ ap (add (part_of part.ElementName from at)) (ready-end s (at + 1) last (and-right (is_separator b) (list_all is_separator last) h))

name-next : (s : Syntax) (closing : Bool) (from at : ℕ) (xs : List Specification) (last : List ℕ) → AreSeparators last
    → AllStand s false xs → (closing ≡ true → xs ≡ [])
    → read s closing at (ElementName from) (spell_all xs ++ last)
    ≡ (true, record { kind = part.ElementName; from = from; to = at } ∷ places xs at)
name-next s closing from at [] last h stand alone = name-end s closing from at last h
name-next s true from at (x ∷ xs) last h stand alone = absurd (not-empty x xs (alone refl))
  where
    not-empty : (y : Specification) (ys : List Specification) → y ∷ ys ≡ [] → ⊥
    not-empty y ys e = cc
name-next s false from at (x ∷ xs) last h stand alone =
    ap (read s false at (ElementName from)) (spelled-first x xs last)
    ∙ name-gap s from at (gap_of x) (content_of x ++ (spell_all xs ++ last)) stand.0 (gap-stands s x stand.1)
    ∙ ap (add (part_of part.ElementName from at)) (content-next s x xs last at at stand.1 stand.2 (all-read s xs last h) refl)

pub body-reads : (s : Syntax) (closing : Bool) (at : ℕ) (body : List ℕ) (h : SpellsBody s closing body)
    → read s closing at (ElementName at) body ≡ (true, body_places h at)
body-reads s closing at body h =
    ap (read s closing at (ElementName at)) h.is
    ∙ over s closing (ElementName at) (is_name_character s.names) (name-stays s closing at) at (at + length h.name) h.name
    (spell_all h.specifications ++ h.last) h.named refl
    ∙ name-next s closing at (at + length h.name) h.specifications h.last h.separators h.stand h.alone
