-- A literal of a tag goes on after its quote up to the first quote that is the same.
use Rattle.std.proofs.Common.{◌≡◌, ◌≤◌, ◌+◌, ◌-◌, ◌∷◌, ◌++◌, ◌==◌, ℕ, Bool, true, false, List, [], suc, zero, Option, Some, None, refl, sym, ap, ◌∙◌, subst, arith, length, drop, take, slice_index_or, if◌then◌else◌, eqb-true}
use Rattle.std.proofs.lemmas.List.{get_or-drop, drop-drop, take-append-drop}
use Rattle.sgml_starts.specs.text.Characters.{is_separator, is_quote}
use Rattle.sgml_starts.specs.text.NameCharacters.{is_name_character}
use Rattle.sgml_starts.specs.syntax.declared.syntax.Syntax.{Syntax}
use Rattle.sgml_starts.specs.delim.Ends.{later}
use Rattle.sgml_starts.specs.markup.declared.kinds.Part.{Part}
use Rattle.sgml_starts.specs.markup.declared.kinds.PartKind.{PartKind}
use Rattle.sgml_starts.specs.markup.declared.kinds.PartKind.TheVariants as part
use Rattle.sgml_starts.specs.markup.declared.kinds.TagState.{TagState}
use Rattle.sgml_starts.specs.markup.declared.kinds.TagState.TheVariants.{ElementName, Closing, Ready, Word, AfterWord, Value, Bare, Literal, Failed}
use Rattle.sgml_starts.specs.markup.declared.kinds.TagStep.{TagStep}
use Rattle.sgml_starts.specs.markup.Tags.{tag_step, tag_last, goes_to, ends_part, fails, after_name, ends_bare, begins_word, names_attribute, tag_parts, with_part}
use Rattle.sgml_starts.specs.markup.Forms.{unclosed, closes, last_byte, begins_tagc, begins_slash, parts_of, parts_of_tag}
use Rattle.sgml_starts.specs.decl_parts.Ends.{quote_end}
use Rattle.sgml_theory_starts.specs.Read.{quote_before}

-- where the literal ends
abbrev pub EndsThere : List ℕ → Part → PartKind → Type 0
EndsThere tag p part.Quoted = quote_end (quote_before tag p) (drop p.from tag) ≡ Some (suc (p.to - p.from))
EndsThere tag p _ = Unit {0}

abbrev pub EndThere : List ℕ → List Part → Type 0
EndThere tag [] = Unit {0}
EndThere tag (p ∷ ps) = EndsThere tag p p.kind × EndThere tag ps

abbrev EndsOption : List ℕ → Option Part → Type 0
EndsOption tag None = Unit {0}
EndsOption tag (Some p) = EndsThere tag p p.kind

-- a quote that stands further on is the first from its beginning on
abbrev IsInside : List ℕ → ℕ → TagState → Type 0
IsInside tag at (Literal q from) =
    (from ≤ at) × (slice_index_or tag (from - 1) 0 ≡ q)
    × ((m : ℕ) → quote_end q (drop at tag) ≡ Some m → quote_end q (drop from tag) ≡ Some ((at - from) + m))
IsInside tag at _ = Unit {0}

record Steps (tag : List ℕ) (at : ℕ) (step : TagStep) : Type 0 where
  next : IsInside tag (at + 1) step.next
  part : EndsOption tag step.part

-- by a test
either : (tag : List ℕ) (at : ℕ) (t : Bool) (x y : TagStep) → (t ≡ true → Steps tag at x) → (t ≡ false → Steps tag at y) → Steps tag at (if t then x else y)
either tag at true x y g h = g refl
either tag at false x y g h = h refl

fail : (tag : List ℕ) (at : ℕ) → Steps tag at fails
fail tag at = record { next = tt; part = tt }

named : (tag : List ℕ) (at from : ℕ) (closing : Bool) → Steps tag at (ends_part part.ElementName from at (after_name closing))
named tag at from true = record { next = tt; part = tt }
named tag at from false = record { next = tt; part = tt }

attribute : (tag : List ℕ) (at from to : ℕ) (is_name : Bool) → Steps tag at (names_attribute from to is_name)
attribute tag at from to true = record { next = tt; part = tt }
attribute tag at from to false = fail tag at

bare : (tag : List ℕ) (s : Syntax) (at from to : ℕ) (next : TagState) → IsInside tag (at + 1) next → Steps tag at (ends_bare s from to next)
bare tag s at from to next h = either tag at s.shorttag (ends_part part.Bare from to next) fails (λ e. record { next = h; part = tt }) (λ e. fail tag at)

-- the quote is the byte that stands here, or not
quote-here : (q b : ℕ) (rest : List ℕ) → (b == q) ≡ true → quote_end q (b ∷ rest) ≡ Some 1
quote-here q b rest e = ap (λ t. if t then Some 1 else later 1 (quote_end q rest)) e

quote-later : (q b m : ℕ) (rest : List ℕ) → (b == q) ≡ false → quote_end q rest ≡ Some m → quote_end q (b ∷ rest) ≡ Some (1 + m)
quote-later q b m rest e h = ap (λ t. if t then Some 1 else later 1 (quote_end q rest)) e ∙ ap (later 1) h

begun : (tag : List ℕ) (at b : ℕ) → slice_index_or tag at 0 ≡ b → IsInside tag (at + 1) (Literal b (at + 1))
begun tag at b here =
    let back : (at + 1) - 1 ≡ at = omega arith in (
      omega arith,
      ap (λ n. slice_index_or tag n 0) back ∙ here,
      λ m e. let same : m ≡ ((at + 1) - (at + 1)) + m = omega arith in e ∙ ap Some same,
    )

literal-ends : (tag : List ℕ) (at q from b : ℕ) → IsInside tag at (Literal q from) → drop at tag ≡ b ∷ drop (at + 1) tag → (b == q) ≡ true
    → Steps tag at (ends_part part.Quoted from at Ready)
literal-ends tag at q from b h here e =
    let end : quote_end q (drop at tag) ≡ Some 1 = ap (quote_end q) here ∙ quote-here q b (drop (at + 1) tag) e in
    let sum : (at - from) + 1 ≡ suc (at - from) = omega arith in
    record { next = tt; part = subst (λ k. quote_end k (drop from tag) ≡ Some (suc (at - from))) (sym h.1) (h.2 1 end ∙ ap Some sum) }

literal-goes : (tag : List ℕ) (at q from b : ℕ) → IsInside tag at (Literal q from) → drop at tag ≡ b ∷ drop (at + 1) tag → (b == q) ≡ false
    → Steps tag at (goes_to (Literal q from))
literal-goes tag at q from b h here e = record {
  next =
      let low : from ≤ at = h.0 in (
        omega (arith, low),
        h.1,
        λ m end.
            let there : quote_end q (drop at tag) ≡ Some (1 + m) = ap (quote_end q) here ∙ quote-later q b m (drop (at + 1) tag) e end in
            let sum : (at - from) + (1 + m) ≡ ((at + 1) - from) + m = omega (arith, low) in
            h.2 (1 + m) there ∙ ap Some sum,
      );
  part = tt;
}

byte-at : (tag : List ℕ) (at b : ℕ) (rest : List ℕ) → drop at tag ≡ b ∷ rest → slice_index_or tag at 0 ≡ b
byte-at tag at b rest here =
    let same : at ≡ at + 0 = omega arith in
    ap (λ n. slice_index_or tag n 0) same ∙ sym (get_or-drop at tag 0 0) ∙ ap (λ (l : List ℕ). slice_index_or l 0 0) here

step : (tag : List ℕ) (s : Syntax) (closing : Bool) (at : ℕ) (state : TagState) (b : ℕ) → IsInside tag at state → drop at tag ≡ b ∷ drop (at + 1) tag
    → Steps tag at (tag_step s closing at state b)
step tag s closing at (ElementName from) b h here =
    either tag at (is_name_character s.names b) _ _ (λ e. record { next = tt; part = tt })
    (λ e. either tag at (is_separator b) _ _ (λ f. named tag at from closing) (λ f. fail tag at))
step tag s closing at Closing b h here =
    either tag at (is_separator b) (goes_to Closing) fails (λ e. record { next = tt; part = tt }) (λ e. fail tag at)
step tag s closing at Ready b h here =
    either tag at (is_separator b) (goes_to Ready) _ (λ e. record { next = tt; part = tt })
    (λ e. either tag at (is_name_character s.names b) (goes_to (begins_word s at b)) fails (λ f. record { next = tt; part = tt }) (λ f. fail tag at))
step tag s closing at (Word from is_name) b h here =
    either tag at (is_name_character s.names b) (goes_to (Word from is_name)) _ (λ e. record { next = tt; part = tt })
    (λ e. either tag at (is_separator b) (goes_to (AfterWord from at is_name)) _ (λ f. record { next = tt; part = tt })
    (λ f. either tag at (b == 61) (names_attribute from at is_name) fails (λ g. attribute tag at from at is_name) (λ g. fail tag at)))
step tag s closing at (AfterWord from to is_name) b h here =
    either tag at (is_separator b) (goes_to (AfterWord from to is_name)) _ (λ e. record { next = tt; part = tt })
    (λ e. either tag at (b == 61) (names_attribute from to is_name) _ (λ f. attribute tag at from to is_name)
    (λ f. either tag at (is_name_character s.names b) (ends_bare s from to (begins_word s at b)) fails
    (λ g. bare tag s at from to (begins_word s at b) tt) (λ g. fail tag at)))
step tag s closing at Value b h here =
    either tag at (is_separator b) (goes_to Value) _ (λ e. record { next = tt; part = tt })
    (λ e. either tag at (is_quote b) (goes_to (Literal b (at + 1))) _
    (λ f. record { next = begun tag at b (byte-at tag at b (drop (at + 1) tag) here); part = tt })
    (λ f. either tag at (is_name_character s.names b) (goes_to (Bare at)) fails (λ g. record { next = tt; part = tt }) (λ g. fail tag at)))
step tag s closing at (Bare from) b h here =
    either tag at (is_name_character s.names b) (goes_to (Bare from)) _ (λ e. record { next = tt; part = tt })
    (λ e. either tag at (is_separator b) (ends_bare s from at Ready) fails (λ f. bare tag s at from at Ready tt) (λ f. fail tag at))
step tag s closing at (Literal q from) b h here =
    either tag at (b == q) (ends_part part.Quoted from at Ready) (goes_to (Literal q from))
    (literal-ends tag at q from b h here) (literal-goes tag at q from b h here)
step tag s closing at Failed b h here = fail tag at

last : (tag : List ℕ) (s : Syntax) (closing : Bool) (at : ℕ) (state : TagState) → Steps tag at (tag_last s closing at state)
last tag s closing at (ElementName from) = record { next = tt; part = tt }
last tag s closing at Closing = record { next = tt; part = tt }
last tag s closing at Ready = record { next = tt; part = tt }
last tag s closing at (Word from is_name) = bare tag s at from at Ready tt
last tag s closing at (AfterWord from to is_name) = bare tag s at from to Ready tt
last tag s closing at Value = fail tag at
last tag s closing at (Bare from) = bare tag s at from at Ready tt
last tag s closing at (Literal q from) = fail tag at
last tag s closing at Failed = fail tag at

with-one : (tag : List ℕ) (o : Option Part) (ps : List Part) → EndsOption tag o → EndThere tag ps → EndThere tag (with_part o ps)
with-one tag None ps h g = g
with-one tag (Some p) ps h g = (h, g)

-- byte after byte, where more may follow the bytes
next-of : (tag : List ℕ) (at b : ℕ) (rest : List ℕ) → drop at tag ≡ b ∷ rest → drop (at + 1) tag ≡ rest
next-of tag at b rest here = sym (drop-drop 1 at tag) ∙ ap (drop 1) here

walk : (tag : List ℕ) (s : Syntax) (closing : Bool) (at : ℕ) (state : TagState) (bytes more : List ℕ) → IsInside tag at state → drop at tag ≡ bytes ++ more
    → EndThere tag (tag_parts s closing at state bytes)
walk tag s closing at state [] more h here = with-one tag (tag_last s closing at state).part [] (last tag s closing at state).part tt
walk tag s closing at state (b ∷ bytes) more h here =
    let later : drop (at + 1) tag ≡ bytes ++ more = next-of tag at b (bytes ++ more) here in
    let now : Steps tag at (tag_step s closing at state b) = step tag s closing at state b h (here ∙ ap (λ (l : List ℕ). b ∷ l) (sym later)) in
    with-one tag (tag_step s closing at state b).part _ now.part
    (walk tag s closing (at + 1) (tag_step s closing at state b).next bytes more now.next later)

-- what is dropped of the first bytes is dropped of all
pub drop-taken : (n m : ℕ) (xs : List ℕ) → (more : List ℕ) × (drop n xs ≡ drop n (take m xs) ++ more)
drop-taken zero m xs = (drop m xs, sym (take-append-drop m xs))
drop-taken (suc n) zero xs = (drop (suc n) xs, refl)
drop-taken (suc n) (suc m) [] = ([], refl)
drop-taken (suc n) (suc m) (x ∷ xs) = drop-taken n m xs

drop-unclosed : (n : ℕ) (tag : List ℕ) (t : Bool) → (more : List ℕ) × (drop n tag ≡ drop n (if t then take (length tag - 1) tag else tag) ++ more)
drop-unclosed n tag true = drop-taken n (length tag - 1) tag
drop-unclosed n tag false = ([], sym (append-nil (drop n tag)))
  where
    append-nil : (xs : List ℕ) → xs ++ [] ≡ xs
    append-nil [] = refl
    append-nil (x ∷ xs) = ap (λ (l : List ℕ). x ∷ l) (append-nil xs)

in-parts : (tag : List ℕ) (s : Syntax) (closing : Bool) (start : ℕ) → EndThere tag (parts_of s closing start tag)
in-parts tag s closing start =
    let dropped = drop-unclosed start tag (closes (last_byte tag)) in
    walk tag s closing start (ElementName start) (drop start (unclosed tag)) dropped.0 tt dropped.1

if-not : (tag : List ℕ) (t : Bool) (ps : List Part) → EndThere tag ps → EndThere tag (if t then [] else ps)
if-not tag true ps h = tt
if-not tag false ps h = h

if-either : (tag : List ℕ) (t : Bool) (ps qs : List Part) → EndThere tag ps → EndThere tag qs → EndThere tag (if t then ps else qs)
if-either tag true ps qs h g = h
if-either tag false ps qs h g = g

-- THE LITERALS of any tag do
pub literals-end : (tag : List ℕ) (s : Syntax) → EndThere tag (parts_of_tag s tag)
literals-end [] s = tt
literals-end (first ∷ rest) s =
    if-not (first ∷ rest) (begins_tagc rest) _
    (if-either (first ∷ rest) (begins_slash rest) _ _
    (if-not (first ∷ rest) (begins_tagc (drop 1 rest)) _ (in-parts (first ∷ rest) s true 2))
    (in-parts (first ∷ rest) s false 1))

-- THE BYTES up to the quote, and the quote
no-end : {A : Type 0} (n : ℕ) → None ≡ Some n → A
no-end n e = cc e

pub end-some : (q : ℕ) (xs : List ℕ) → quote_end q xs ≡ Some 0 → ⊥
end-some q [] e = no-end 0 e
end-some q (b ∷ xs) e = by (b == q) (quote_end q xs) e
  where
    by : (t : Bool) (o : Option ℕ) → (if t then Some 1 else later 1 o) ≡ Some 0 → ⊥
    by true o e = cc e
    by false None e = cc e
    by false (Some m) e = let sum : 1 + m ≡ 0 = cc e in omega (arith, sum)

end-by : (q b n : ℕ) (xs : List ℕ) (t : Bool) (o : Option ℕ) → (b == q) ≡ t → quote_end q xs ≡ o → (if t then Some 1 else later 1 o) ≡ Some (suc n)
    → ((m : ℕ) → quote_end q xs ≡ Some (suc m) → take (suc m) xs ≡ take m xs ++ q ∷ []) → take (suc n) (b ∷ xs) ≡ take n (b ∷ xs) ++ q ∷ []
end-by q b n xs true o is at e again =
    let one : 1 ≡ suc n = cc e in
    let none : 0 ≡ n = omega (arith, one) in
    let same : b ≡ q = eqb-true b q is in
    subst (λ k. take (suc k) (b ∷ xs) ≡ take k (b ∷ xs) ++ q ∷ []) none (ap (λ c. c ∷ []) same)
end-by q b n xs false None is at e again = no-end (suc n) e
end-by q b zero xs false (Some m) is at e again =
    let sum : 1 + m ≡ 1 = cc e in
    let none : m ≡ 0 = omega (arith, sum) in
    absurd (end-some q xs (at ∙ ap Some none))
end-by q b (suc n) xs false (Some m) is at e again =
    let sum : 1 + m ≡ suc (suc n) = cc e in
    let size : m ≡ suc n = omega (arith, sum) in
    ap (λ (l : List ℕ). b ∷ l) (again n (at ∙ ap Some size))

pub end-taken : (q n : ℕ) (xs : List ℕ) → quote_end q xs ≡ Some (suc n) → take (suc n) xs ≡ take n xs ++ q ∷ []
end-taken q n [] e = no-end (suc n) e
end-taken q n (b ∷ xs) e = end-by q b n xs (b == q) (quote_end q xs) refl refl e (λ m. end-taken q m xs)
