-- One byte more of a tag.
use Rattle.std.proofs.Common.{◌⊎◌, inl, inr, sym, ◌∷◌, ◌-◌, ◌≡◌, ℕ, suc, ◌+◌, ◌<◌, ◌≤◌, Bool, true, false, not, List, [], Option, None, Some, length, drop, drop-drop, refl, ◌∙◌, ap, subst, if◌then◌else◌, ◌||◌, ◌==◌, arith, slice_index_or, take, Ok, eq-eqb}
use Rattle.std.specs.List.{list_any}
use Rattle.std.proofs.lemmas.List.{drop_all, length-drop, length-take}
use Rattle.sgml_text.specs.NameCharacters.{is_name_character, is_name_start}
use Rattle.sgml_syntax.specs.declared.syntax.Syntax.{Syntax}
use Rattle.sgml_markup.specs.declared.kinds.Part.{Part}
use Rattle.sgml_markup.specs.declared.kinds.PartKind.TheVariants as part
use Rattle.sgml_markup.specs.declared.kinds.TagState.{TagState}
use Rattle.sgml_markup.specs.declared.kinds.TagState.TheVariants.{ElementName, Closing, Ready, Word, AfterWord, Value, Bare, Literal, Failed}
use Rattle.sgml_markup.specs.declared.kinds.TagStep.{TagStep}
use Rattle.sgml_text.specs.Characters.{is_separator, is_quote}
use Rattle.sgml_markup.specs.Tags.{tag_step, tag_last, goes_to, ends_part, fails, after_name, ends_bare, begins_word, names_attribute, tag_parts, with_part, Behind, is_tag, is_good, wrong_number_in, wrong_number_at, wrong_length_in, wrong_length_at}
use Rattle.sgml_markup.specs.declared.kinds.TokenKind.{TokenKind}
use Rattle.sgml_markup.specs.Forms.{if_tag, judged_tag, unclosed, closes, last_byte, IsPlainName}
use Rattle.sgml_markup.specs.References.{run_of, too_long}
use Rattle.sgml_markup.proofs.EndLemmas.{drop-at}

-- a part that ends by this place
abbrev pub PartBehind : ℕ → Option Part → Type 0
PartBehind at None = Unit {0}
PartBehind at (Some p) = (p.from ≤ p.to) × (p.to ≤ at)

-- what is known of a step at a place
pub record Sound (at : ℕ) (step : TagStep) : Type 0 where
  pub next : Behind (at + 1) step.next
  pub part : PartBehind at step.part

sound-if : (at : ℕ) (t : Bool) (x y : TagStep) → Sound at x → Sound at y → Sound at (if t then x else y)
sound-if at true x y g h = g
sound-if at false x y g h = h

sound-fails : (at : ℕ) → Sound at fails
sound-fails at = record { next = tt; part = tt }

sound-closing : (at from : ℕ) (closing : Bool) → from ≤ at → Sound at (ends_part part.ElementName from at (after_name closing))
sound-closing at from true h = record { next = tt; part = (h, omega arith) }
sound-closing at from false h = record { next = tt; part = (h, omega arith) }

sound-named : (at from to : ℕ) (is_name : Bool) → from ≤ to → to ≤ at → Sound at (names_attribute from to is_name)
sound-named at from to true h l = record { next = tt; part = (h, l) }
sound-named at from to false h l = sound-fails at

sound-bare : (s : Syntax) (at from to : ℕ) (next : TagState) → from ≤ to → to ≤ at → Behind (at + 1) next
    → Sound at (ends_bare s from to next)
sound-bare s at from to next h l b =
    sound-if at s.shorttag (ends_part part.Bare from to next) fails (record { next = b; part = (h, l) }) (sound-fails at)

pub step-sound : (s : Syntax) (closing : Bool) (at : ℕ) (state : TagState) (b : ℕ) → Behind at state
    → Sound at (tag_step s closing at state b)
step-sound s closing at (ElementName from) b h =
    let later : from ≤ at + 1 = omega (arith, h) in
    sound-if at (is_name_character s.names b) _ _ (record { next = later; part = tt })
    (sound-if at (is_separator b) _ _ (sound-closing at from closing h) (sound-fails at))
step-sound s closing at Closing b h =
    sound-if at (is_separator b) (goes_to Closing) fails (record { next = tt; part = tt }) (sound-fails at)
step-sound s closing at Ready b h =
    let now : at ≤ at + 1 = omega arith in
    sound-if at (is_separator b) (goes_to Ready) _ (record { next = tt; part = tt })
    (sound-if at (is_name_character s.names b) (goes_to (begins_word s at b)) fails (record { next = now; part = tt }) (sound-fails at))
step-sound s closing at (Word from is_name) b h =
    let later : from ≤ at + 1 = omega (arith, h) in
    let to : at ≤ at + 1 = omega arith in
    let same : at ≤ at = omega arith in
    sound-if at (is_name_character s.names b) (goes_to (Word from is_name)) _ (record { next = later; part = tt })
    (sound-if at (is_separator b) (goes_to (AfterWord from at is_name)) _ (record { next = (h, to); part = tt })
    (sound-if at (b == 61) (names_attribute from at is_name) fails (sound-named at from at is_name h same) (sound-fails at)))
step-sound s closing at (AfterWord from to is_name) b h =
    let later : to ≤ at + 1 = omega (arith, h.1) in
    let now : at ≤ at + 1 = omega arith in
    sound-if at (is_separator b) (goes_to (AfterWord from to is_name)) _ (record { next = (h.0, later); part = tt })
    (sound-if at (b == 61) (names_attribute from to is_name) _ (sound-named at from to is_name h.0 h.1)
    (sound-if at (is_name_character s.names b) (ends_bare s from to (begins_word s at b)) fails
    (sound-bare s at from to (begins_word s at b) h.0 h.1 now) (sound-fails at)))
step-sound s closing at Value b h =
    let now : at ≤ at + 1 = omega arith in
    let next : at + 1 ≤ at + 1 = omega arith in
    sound-if at (is_separator b) (goes_to Value) _ (record { next = tt; part = tt })
    (sound-if at (is_quote b) (goes_to (Literal b (at + 1))) _ (record { next = next; part = tt })
    (sound-if at (is_name_character s.names b) (goes_to (Bare at)) fails (record { next = now; part = tt }) (sound-fails at)))
step-sound s closing at (Bare from) b h =
    let later : from ≤ at + 1 = omega (arith, h) in
    let same : at ≤ at = omega arith in
    sound-if at (is_name_character s.names b) (goes_to (Bare from)) _ (record { next = later; part = tt })
    (sound-if at (is_separator b) (ends_bare s from at Ready) fails (sound-bare s at from at Ready h same tt) (sound-fails at))
step-sound s closing at (Literal q from) b h =
    let later : from ≤ at + 1 = omega (arith, h) in
    let same : at ≤ at = omega arith in
    sound-if at (b == q) (ends_part part.Quoted from at Ready) (goes_to (Literal q from))
    (record { next = tt; part = (h, same) }) (record { next = later; part = tt })
step-sound s closing at Failed b h = sound-fails at

pub last-sound : (s : Syntax) (closing : Bool) (at : ℕ) (state : TagState) → Behind at state
    → Sound at (tag_last s closing at state)
last-sound s closing at (ElementName from) h = record { next = tt; part = (h, omega arith) }
last-sound s closing at Closing h = record { next = tt; part = tt }
last-sound s closing at Ready h = record { next = tt; part = tt }
last-sound s closing at (Word from is_name) h = sound-bare s at from at Ready h (omega arith) tt
last-sound s closing at (AfterWord from to is_name) h = sound-bare s at from to Ready h.0 h.1 tt
last-sound s closing at Value h = sound-fails at
last-sound s closing at (Bare from) h = sound-bare s at from at Ready h (omega arith) tt
last-sound s closing at (Literal q from) h = sound-fails at
last-sound s closing at Failed h = sound-fails at

pub parts-at : (s : Syntax) (closing : Bool) (at : ℕ) (state : TagState) (body : List ℕ) → at < length body
    → tag_parts s closing at state (drop at body)
    ≡ with_part (tag_step s closing at state (slice_index_or body at 0)).part
    (tag_parts s closing (at + 1) (tag_step s closing at state (slice_index_or body at 0)).next (drop (at + 1) body))
parts-at s closing at state body l = ap (tag_parts s closing at state) (drop-at at body l)

pub parts-over : (s : Syntax) (closing : Bool) (at : ℕ) (state : TagState) (body : List ℕ) → length body ≤ at
    → tag_parts s closing at state (drop at body) ≡ with_part (tag_last s closing at state).part []
parts-over s closing at state body l = ap (tag_parts s closing at state) (drop_all at body l)

pub ready-over : (s : Syntax) (closing : Bool) (at : ℕ) (body : List ℕ) → length body ≤ at → tag_parts s closing at Ready (drop at body) ≡ []
ready-over s closing at body l = parts-over s closing at Ready body l

-- where no step is left
pub tag-over : (s : Syntax) (closing : Bool) (at : ℕ) (state : TagState) (body : List ℕ) → length body ≤ at
    → is_tag s closing at state (drop at body) ≡ is_good (tag_last s closing at state).next
tag-over s closing at state body l = ap (is_tag s closing at state) (drop_all at body l)

-- a test of the parts
pub number-with : (s : Syntax) (text : List ℕ) (o : Option Part) (ps : List Part)
    → list_any (wrong_number_in s text) (with_part o ps) ≡ (wrong_number_at s text o || list_any (wrong_number_in s text) ps)
number-with s text None ps = refl
number-with s text (Some p) ps = refl

pub length-with : (s : Syntax) (text : List ℕ) (o : Option Part) (ps : List Part)
    → list_any (wrong_length_in s text) (with_part o ps) ≡ (wrong_length_at s text o || list_any (wrong_length_in s text) ps)
length-with s text None ps = refl
length-with s text (Some p) ps = refl

pub or-none : (a b c : Bool) → b ≡ c → (a || (b || false)) ≡ (a || c)
or-none true b c e = refl
or-none false true c e = e
or-none false false c e = e

pub or-regroup : (a b c : Bool) → (a || (b || c)) ≡ ((a || b) || c)
or-regroup true b c = refl
or-regroup false b c = refl

pub if-tag-along : (k : TokenKind) {good good' number number' long long' : Bool} → good ≡ good' → number ≡ number' → long ≡ long'
    → if_tag good number long k ≡ if_tag good' number' long' k
if-tag-along k {good = good} {good' = good'} {number = number} {number' = number'} {long = long} {long' = long'} e f g =
    ap (λ t. if_tag t number long k) e ∙ ap (λ t. if_tag good' t long k) f ∙ ap (λ t. if_tag good' number' t k) g

-- a tag that has a name alone
run-all : (test : ℕ → Bool) (b : ℕ) (bytes : List ℕ) → length (run_of test (b ∷ bytes)) ≡ suc (length bytes)
    → (test b ≡ true) × (length (run_of test bytes) ≡ length bytes)
run-all test b bytes e = by_test (test b) refl e
  where
    by_test : (t : Bool) → test b ≡ t → length (if t then b ∷ run_of test bytes else []) ≡ suc (length bytes)
        → (test b ≡ true) × (length (run_of test bytes) ≡ length bytes)
    by_test true p f = (p, omega (arith, f))
    by_test false p f = absurd (omega (arith, f))

named-on : (s : Syntax) (closing : Bool) (at from b : ℕ) → is_name_character s.names b ≡ true
    → tag_step s closing at (ElementName from) b ≡ goes_to (ElementName from)
named-on s closing at from b e =
    ap (λ t. if t then goes_to (ElementName from) else if is_separator b then ends_part part.ElementName from at (after_name closing) else fails) e

name-is-tag : (s : Syntax) (closing : Bool) (at from : ℕ) (bytes : List ℕ)
    → length (run_of (is_name_character s.names) bytes) ≡ length bytes → is_tag s closing at (ElementName from) bytes ≡ true
name-is-tag s closing at from [] e = refl
name-is-tag s closing at from (b ∷ bytes) e =
    let all = run-all (is_name_character s.names) b bytes e in
    ap (λ step. is_tag s closing (at + 1) step.next bytes) (named-on s closing at from b all.0)
    ∙ name-is-tag s closing (at + 1) from bytes all.1

name-parts : (s : Syntax) (closing : Bool) (at from : ℕ) (bytes : List ℕ)
    → length (run_of (is_name_character s.names) bytes) ≡ length bytes
    → tag_parts s closing at (ElementName from) bytes ≡ record { kind = part.ElementName; from = from; to = at + length bytes } ∷ []
name-parts s closing at from [] e = ap (λ n. record { kind = part.ElementName; from = from; to = n } ∷ []) (omega arith)
name-parts s closing at from (b ∷ bytes) e =
    let all = run-all (is_name_character s.names) b bytes e in
    ap (λ step. with_part step.part (tag_parts s closing (at + 1) step.next bytes)) (named-on s closing at from b all.0)
    ∙ name-parts s closing (at + 1) from bytes all.1
    ∙ ap (λ n. record { kind = part.ElementName; from = from; to = n } ∷ []) (omega arith)

pub unclosed-within : (markup : List ℕ) → length (unclosed markup) ≤ length markup
unclosed-within markup = by_close (closes (last_byte markup))
  where
    by_close : (t : Bool) → length (if t then take (length markup - 1) markup else markup) ≤ length markup
    by_close true = let len = length-take (length markup - 1) markup in omega (arith, len)
    by_close false = omega arith

pub plain-name-judged : (s : Syntax) (closing : Bool) (start : ℕ) (k : TokenKind) (markup : List ℕ) → start ≤ length markup
    → IsPlainName s start markup → judged_tag s closing start k markup ≡ Ok k
plain-name-judged s closing start k markup room h =
    let body = drop start (unclosed markup) in
    let p : Part = record { kind = part.ElementName; from = start; to = start + length body } in
    let parts = name-parts s closing start start body h.name in
    let inside = unclosed-within markup in
    let len1 = length-drop start (unclosed markup) in
    let len2 = length-drop start markup in
    let len3 = length-take (start + length body - start) (drop start markup) in
    let size : length (take (start + length body - start) (drop start markup)) ≡ length body = omega (arith, inside, len1, len2, len3) in
    if-tag-along k (name-is-tag s closing start start body h.name)
    (ap (list_any (wrong_number_in s markup)) parts)
    (ap (list_any (wrong_length_in s markup)) parts ∙ ap (λ n. too_long s n || false) size ∙ ap (λ t. t || false) h.short)

-- bytes that leave a state as it is
abbrev pub StaysOn : Syntax → (ℕ → Bool) → TagState → Type 0
StaysOn s test state = (closing : Bool) (at b : ℕ) → test b ≡ true → tag_step s closing at state b ≡ goes_to state

same-form : (s : Syntax) (test : ℕ → Bool) (state : TagState) → StaysOn s test state → (closing : Bool) (at : ℕ) (bytes : List ℕ)
    → is_tag s closing at state bytes
    ≡ is_tag s closing (at + length (run_of test bytes)) state (drop (length (run_of test bytes)) bytes)
same-form s test state stays closing at [] = ap (λ n. is_tag s closing n state []) (omega arith)
same-form s test state stays closing at (b ∷ bytes) =
    by_test (test b) refl (same-form s test state stays closing (at + 1) bytes)
  where
    run : List ℕ
    run = run_of test bytes

    by_test : (t : Bool) → test b ≡ t
        → is_tag s closing (at + 1) state bytes ≡ is_tag s closing (at + 1 + length run) state (drop (length run) bytes)
        → is_tag s closing at state (b ∷ bytes)
        ≡ is_tag s closing (at + length (if t then b ∷ run else [])) state (drop (length (if t then b ∷ run else [])) (b ∷ bytes))
    by_test true e h =
        ap (λ step. is_tag s closing (at + 1) step.next bytes) (stays closing at b e) ∙ h
        ∙ ap (λ n. is_tag s closing n state (drop (length run) bytes)) (omega arith)
    by_test false e h = ap (λ n. is_tag s closing n state (b ∷ bytes)) (omega arith)

same-parts : (s : Syntax) (test : ℕ → Bool) (state : TagState) → StaysOn s test state → (closing : Bool) (at : ℕ) (bytes : List ℕ)
    → tag_parts s closing at state bytes
    ≡ tag_parts s closing (at + length (run_of test bytes)) state (drop (length (run_of test bytes)) bytes)
same-parts s test state stays closing at [] = ap (λ n. tag_parts s closing n state []) (omega arith)
same-parts s test state stays closing at (b ∷ bytes) =
    by_test (test b) refl (same-parts s test state stays closing (at + 1) bytes)
  where
    run : List ℕ
    run = run_of test bytes

    by_test : (t : Bool) → test b ≡ t
        → tag_parts s closing (at + 1) state bytes ≡ tag_parts s closing (at + 1 + length run) state (drop (length run) bytes)
        → tag_parts s closing at state (b ∷ bytes)
        ≡ tag_parts s closing (at + length (if t then b ∷ run else [])) state (drop (length (if t then b ∷ run else [])) (b ∷ bytes))
    by_test true e h =
        ap (λ step. with_part step.part (tag_parts s closing (at + 1) step.next bytes)) (stays closing at b e) ∙ h
        ∙ ap (λ n. tag_parts s closing n state (drop (length run) bytes)) (omega arith)
    by_test false e h = ap (λ n. tag_parts s closing n state (b ∷ bytes)) (omega arith)

element-stays : (s : Syntax) (from : ℕ) → StaysOn s (is_name_character s.names) (ElementName from)
element-stays s from = λ closing at b e. named-on s closing at from b e

word-stays : (s : Syntax) (from : ℕ) (is_name : Bool) → StaysOn s (is_name_character s.names) (Word from is_name)
word-stays s from is_name = λ closing at b e.
    ap (λ t. if t then goes_to (Word from is_name) else if is_separator b then goes_to (AfterWord from at is_name) else if b == 61 then names_attribute from at is_name else fails) e

bare-stays : (s : Syntax) (from : ℕ) → StaysOn s (is_name_character s.names) (Bare from)
bare-stays s from = λ closing at b e.
    ap (λ t. if t then goes_to (Bare from) else if is_separator b then ends_bare s from at Ready else fails) e

-- what a state is in which names go on
abbrev pub IsNaming : TagState → Type 0
IsNaming (ElementName from) = Unit {0}
IsNaming (Word from is_name) = Unit {0}
IsNaming (Bare from) = Unit {0}
IsNaming _ = ⊥

naming-stays : (s : Syntax) (state : TagState) → IsNaming state → StaysOn s (is_name_character s.names) state
naming-stays s (ElementName from) h = element-stays s from
naming-stays s (Word from is_name) h = word-stays s from is_name
naming-stays s (Bare from) h = bare-stays s from
naming-stays s Closing h = absurd h
naming-stays s Ready h = absurd h
naming-stays s (AfterWord from to is_name) h = absurd h
naming-stays s Value h = absurd h
naming-stays s (Literal q from) h = absurd h
naming-stays s Failed h = absurd h

pub run-form : (s : Syntax) (state : TagState) (n : ℕ) (bytes : List ℕ) → IsNaming state
    → n ≡ length (run_of (is_name_character s.names) bytes) → (closing : Bool) (at : ℕ)
    → is_tag s closing at state bytes ≡ is_tag s closing (at + n) state (drop n bytes)
run-form s state n bytes h e closing at =
    same-form s (is_name_character s.names) state (naming-stays s state h) closing at bytes
    ∙ ap (λ k. is_tag s closing (at + k) state (drop k bytes)) (sym e)

pub run-parts : (s : Syntax) (state : TagState) (n : ℕ) (bytes : List ℕ) → IsNaming state
    → n ≡ length (run_of (is_name_character s.names) bytes) → (closing : Bool) (at : ℕ)
    → tag_parts s closing at state bytes ≡ tag_parts s closing (at + n) state (drop n bytes)
run-parts s state n bytes h e closing at =
    same-parts s (is_name_character s.names) state (naming-stays s state h) closing at bytes
    ∙ ap (λ k. tag_parts s closing (at + k) state (drop k bytes)) (sym e)

-- the bytes of a literal up to its quote
literal-stays : (s : Syntax) (q from : ℕ) → StaysOn s (λ b. not (b == q)) (Literal q from)
literal-stays s q from = λ closing at b e. by_test at (b == q) e
  where
    by_test : (at : ℕ) (t : Bool) → not t ≡ true → (if t then ends_part part.Quoted from at Ready else goes_to (Literal q from)) ≡ goes_to (Literal q from)
    by_test at true e = cc
    by_test at false e = refl

pub literal-form : (s : Syntax) (state : TagState) (q from n : ℕ) (bytes : List ℕ) → state ≡ Literal q from
    → n ≡ length (run_of (λ b. not (b == q)) bytes) → (closing : Bool) (at : ℕ)
    → is_tag s closing at state bytes ≡ is_tag s closing (at + n) state (drop n bytes)
literal-form s state q from n bytes is e closing at = rw is (
    same-form s (λ b. not (b == q)) (Literal q from) (literal-stays s q from) closing at bytes
    ∙ ap (λ k. is_tag s closing (at + k) (Literal q from) (drop k bytes)) (sym e))

pub literal-parts : (s : Syntax) (state : TagState) (q from n : ℕ) (bytes : List ℕ) → state ≡ Literal q from
    → n ≡ length (run_of (λ b. not (b == q)) bytes) → (closing : Bool) (at : ℕ)
    → tag_parts s closing at state bytes ≡ tag_parts s closing (at + n) state (drop n bytes)
literal-parts s state q from n bytes is e closing at = rw is (
    same-parts s (λ b. not (b == q)) (Literal q from) (literal-stays s q from) closing at bytes
    ∙ ap (λ k. tag_parts s closing (at + k) (Literal q from) (drop k bytes)) (sym e))

-- a place of a state may be later
pub behind-later : (at n : ℕ) (state : TagState) → Behind at state → Behind (at + n) state
behind-later at n (ElementName from) h = omega (arith, h)
behind-later at n (Word from is_name) h = omega (arith, h)
behind-later at n (AfterWord from to is_name) h = (h.0, omega (arith, h.1))
behind-later at n (Bare from) h = omega (arith, h)
behind-later at n (Literal q from) h = omega (arith, h)
behind-later at n Closing h = tt
behind-later at n Ready h = tt
behind-later at n Value h = tt
behind-later at n Failed h = tt

pub naming-of : (state : TagState)
    → ((x : ℕ) × (state ≡ ElementName x)) ⊎ (((x : ℕ) × (y : Bool) × (state ≡ Word x y)) ⊎ ((x : ℕ) × (state ≡ Bare x))) → IsNaming state
naming-of state (inl h) = subst (λ st. IsNaming st) (sym h.1) tt
naming-of state (inr (inl h)) = subst (λ st. IsNaming st) (sym h.2) tt
naming-of state (inr (inr h)) = subst (λ st. IsNaming st) (sym h.1) tt

-- the part that the element's name is, at the tag's end and at a separator
pub name-last : (s : Syntax) (closing : Bool) (at from n : ℕ) (body : List ℕ)
    → n ≡ length (run_of (is_name_character s.names) (drop at body)) → at + n ≡ length body
    → tag_parts s closing at (ElementName from) (drop at body) ≡ record { kind = part.ElementName; from = from; to = at + n } ∷ []
name-last s closing at from n body run ends =
    let size = length-drop at body in
    let all : length (run_of (is_name_character s.names) (drop at body)) ≡ length (drop at body) = omega (arith, run, ends, size) in
    name-parts s closing at from (drop at body) all
    ∙ ap (λ k. record { kind = part.ElementName; from = from; to = k } ∷ []) (omega (arith, ends, size))

pub name-next : (s : Syntax) (closing : Bool) (at from n : ℕ) (body : List ℕ)
    → n ≡ length (run_of (is_name_character s.names) (drop at body)) → at + n < length body
    → is_name_character s.names (slice_index_or body (at + n) 0) ≡ false → is_separator (slice_index_or body (at + n) 0) ≡ true
    → tag_parts s closing at (ElementName from) (drop at body)
    ≡ record { kind = part.ElementName; from = from; to = at + n } ∷ tag_parts s closing (at + n + 1) (after_name closing) (drop (at + n + 1) body)
name-next s closing at from n body run room other parts =
    let b = slice_index_or body (at + n) 0 in
    let ended : TagStep = ends_part part.ElementName from (at + n) (after_name closing) in
    let step : tag_step s closing (at + n) (ElementName from) b ≡ ended =
    ap (λ t. if t then goes_to (ElementName from) else if is_separator b then ended else fails) other
    ∙ ap (λ t. if t then ended else fails) parts in
    run-parts s (ElementName from) n (drop at body) tt run closing at
    ∙ ap (tag_parts s closing (at + n) (ElementName from)) (drop-drop n at body)
    ∙ parts-at s closing (at + n) (ElementName from) body room
    ∙ ap (λ st. with_part st.part (tag_parts s closing (at + n + 1) st.next (drop (at + n + 1) body))) step

-- the part that the name of an attribute is, where `=` stands behind it
pub attribute-next : (s : Syntax) (closing : Bool) (at n : ℕ) (body : List ℕ) → at < length body
    → is_separator (slice_index_or body at 0) ≡ false → is_name_character s.names (slice_index_or body at 0) ≡ true
    → is_name_start s.names (slice_index_or body at 0) ≡ true
    → n ≡ length (run_of (is_name_character s.names) (drop (at + 1) body)) → at + 1 + n < length body
    → slice_index_or body (at + 1 + n) 0 ≡ 61 → is_name_character s.names (slice_index_or body (at + 1 + n) 0) ≡ false
    → tag_parts s closing at Ready (drop at body)
    ≡ record { kind = part.AttributeName; from = at; to = at + 1 + n } ∷ tag_parts s closing (at + 1 + n + 1) Value (drop (at + 1 + n + 1) body)
attribute-next s closing at n body room other name start run inside sign ends =
    let b = slice_index_or body at 0 in
    let to = at + 1 + n in
    let c = slice_index_or body to 0 in
    let word : tag_step s closing at Ready b ≡ goes_to (Word at true) =
    ap (λ t. if t then goes_to Ready else if is_name_character s.names b then goes_to (begins_word s at b) else fails) other
    ∙ ap (λ t. if t then goes_to (begins_word s at b) else fails) name
    ∙ ap (λ t. goes_to (Word at t)) start in
    let named : TagStep = ends_part part.AttributeName at to Value in
    let step : tag_step s closing to (Word at true) c ≡ named =
    ap (λ t. if t then goes_to (Word at true) else if is_separator c then goes_to (AfterWord at to true) else if c == 61 then names_attribute at to true else fails) ends
    ∙ ap (λ x. if is_separator x then goes_to (AfterWord at to true) else if x == 61 then names_attribute at to true else fails) sign in
    parts-at s closing at Ready body room
    ∙ ap (λ st. with_part st.part (tag_parts s closing (at + 1) st.next (drop (at + 1) body))) word
    ∙ run-parts s (Word at true) n (drop (at + 1) body) tt run closing (at + 1)
    ∙ ap (tag_parts s closing to (Word at true)) (drop-drop n (at + 1) body)
    ∙ parts-at s closing to (Word at true) body inside
    ∙ ap (λ st. with_part st.part (tag_parts s closing (to + 1) st.next (drop (to + 1) body))) step

-- the part that a value without quotes is, at the tag's end and at a separator
bare-run : (s : Syntax) (closing : Bool) (at n : ℕ) (body : List ℕ) → at < length body
    → is_separator (slice_index_or body at 0) ≡ false → is_quote (slice_index_or body at 0) ≡ false
    → is_name_character s.names (slice_index_or body at 0) ≡ true
    → n ≡ length (run_of (is_name_character s.names) (drop (at + 1) body))
    → tag_parts s closing at Value (drop at body) ≡ tag_parts s closing (at + 1 + n) (Bare at) (drop (at + 1 + n) body)
bare-run s closing at n body room other unquoted name run =
    let b = slice_index_or body at 0 in
    let bare : tag_step s closing at Value b ≡ goes_to (Bare at) =
    ap (λ t. if t then goes_to Value else if is_quote b then goes_to (Literal b (at + 1)) else if is_name_character s.names b then goes_to (Bare at) else fails) other
    ∙ ap (λ t. if t then goes_to (Literal b (at + 1)) else if is_name_character s.names b then goes_to (Bare at) else fails) unquoted
    ∙ ap (λ t. if t then goes_to (Bare at) else fails) name in
    parts-at s closing at Value body room
    ∙ ap (λ st. with_part st.part (tag_parts s closing (at + 1) st.next (drop (at + 1) body))) bare
    ∙ run-parts s (Bare at) n (drop (at + 1) body) tt run closing (at + 1)
    ∙ ap (tag_parts s closing (at + 1 + n) (Bare at)) (drop-drop n (at + 1) body)

pub bare-last : (s : Syntax) (closing : Bool) (at n : ℕ) (body : List ℕ) → at < length body
    → is_separator (slice_index_or body at 0) ≡ false → is_quote (slice_index_or body at 0) ≡ false
    → is_name_character s.names (slice_index_or body at 0) ≡ true → s.shorttag ≡ true
    → n ≡ length (run_of (is_name_character s.names) (drop (at + 1) body)) → at + 1 + n ≡ length body
    → tag_parts s closing at Value (drop at body) ≡ record { kind = part.Bare; from = at; to = at + 1 + n } ∷ []
bare-last s closing at n body room other unquoted name short run ends =
    let to = at + 1 + n in
    bare-run s closing at n body room other unquoted name run
    ∙ parts-over s closing to (Bare at) body (omega (arith, ends))
    ∙ ap (λ t. with_part (if t then ends_part part.Bare at to Ready else fails).part []) short

pub bare-next : (s : Syntax) (closing : Bool) (at n : ℕ) (body : List ℕ) → at < length body
    → is_separator (slice_index_or body at 0) ≡ false → is_quote (slice_index_or body at 0) ≡ false
    → is_name_character s.names (slice_index_or body at 0) ≡ true → s.shorttag ≡ true
    → n ≡ length (run_of (is_name_character s.names) (drop (at + 1) body)) → at + 1 + n < length body
    → is_name_character s.names (slice_index_or body (at + 1 + n) 0) ≡ false → is_separator (slice_index_or body (at + 1 + n) 0) ≡ true
    → tag_parts s closing at Value (drop at body)
    ≡ record { kind = part.Bare; from = at; to = at + 1 + n } ∷ tag_parts s closing (at + 1 + n + 1) Ready (drop (at + 1 + n + 1) body)
bare-next s closing at n body room other unquoted name short run inside ends parts =
    let to = at + 1 + n in
    let c = slice_index_or body to 0 in
    let ended : TagStep = ends_part part.Bare at to Ready in
    let step : tag_step s closing to (Bare at) c ≡ ended =
    ap (λ t. if t then goes_to (Bare at) else if is_separator c then ends_bare s at to Ready else fails) ends
    ∙ ap (λ t. if t then ends_bare s at to Ready else fails) parts
    ∙ ap (λ t. if t then ended else fails) short in
    bare-run s closing at n body room other unquoted name run
    ∙ parts-at s closing to (Bare at) body inside
    ∙ ap (λ st. with_part st.part (tag_parts s closing (to + 1) st.next (drop (to + 1) body))) step

-- the part that a literal is
pub quoted-next : (s : Syntax) (closing : Bool) (at n : ℕ) (body : List ℕ) → at < length body
    → is_separator (slice_index_or body at 0) ≡ false → is_quote (slice_index_or body at 0) ≡ true
    → n ≡ length (run_of (λ b. not (b == slice_index_or body at 0)) (drop (at + 1) body)) → at + 1 + n < length body
    → slice_index_or body (at + 1 + n) 0 ≡ slice_index_or body at 0
    → tag_parts s closing at Value (drop at body)
    ≡ record { kind = part.Quoted; from = at + 1; to = at + 1 + n } ∷ tag_parts s closing (at + 1 + n + 1) Ready (drop (at + 1 + n + 1) body)
quoted-next s closing at n body room other quote run inside ends =
    let q = slice_index_or body at 0 in
    let from = at + 1 in
    let to = at + 1 + n in
    let c = slice_index_or body to 0 in
    let ended : TagStep = ends_part part.Quoted from to Ready in
    let begun : tag_step s closing at Value q ≡ goes_to (Literal q from) =
    ap (λ t. if t then goes_to Value else if is_quote q then goes_to (Literal q from) else if is_name_character s.names q then goes_to (Bare at) else fails) other
    ∙ ap (λ t. if t then goes_to (Literal q from) else if is_name_character s.names q then goes_to (Bare at) else fails) quote in
    let step : tag_step s closing to (Literal q from) c ≡ ended =
    ap (λ t. if t then ended else goes_to (Literal q from)) (eq-eqb c q ends) in
    parts-at s closing at Value body room
    ∙ ap (λ st. with_part st.part (tag_parts s closing (at + 1) st.next (drop (at + 1) body))) begun
    ∙ literal-parts s (Literal q from) q from n (drop (at + 1) body) refl run closing (at + 1)
    ∙ ap (tag_parts s closing to (Literal q from)) (drop-drop n (at + 1) body)
    ∙ parts-at s closing to (Literal q from) body inside
    ∙ ap (λ st. with_part st.part (tag_parts s closing (to + 1) st.next (drop (to + 1) body))) step

-- a separator between specifications
pub separator-next : (s : Syntax) (closing : Bool) (at : ℕ) (body : List ℕ) → at < length body → is_separator (slice_index_or body at 0) ≡ true
    → tag_parts s closing at Ready (drop at body) ≡ tag_parts s closing (at + 1) Ready (drop (at + 1) body)
separator-next s closing at body room e =
    let b = slice_index_or body at 0 in
    let step : tag_step s closing at Ready b ≡ goes_to Ready =
    ap (λ t. if t then goes_to Ready else if is_name_character s.names b then goes_to (begins_word s at b) else fails) e in
    parts-at s closing at Ready body room
    ∙ ap (λ st. with_part st.part (tag_parts s closing (at + 1) st.next (drop (at + 1) body))) step
