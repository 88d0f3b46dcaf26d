-- The end of a tag is the one by its grammar.
use Rattle.std.proofs.Common.{◌≡◌, ℕ, suc, Bool, true, false, not, List, [], ◌∷◌, ◌++◌, ◌+◌, Option, None, Some, length, refl, sym, ◌∙◌, ap, subst, if◌then◌else◌, ◌==◌, ◌&&◌, ◌||◌, arith, MatchBool, append_assoc, length-append, eq-eqb, ◌⊎◌, inl, inr}
use Rattle.std.specs.List.{list_all}
use Rattle.sgml_markup.specs.Ends.{quoting, ends_with, ends_before, tag_end}
use Rattle.sgml_delim.specs.Ends.{later}
use Rattle.sgml_text.specs.Characters.{is_quote}
use Rattle.sgml_markup.specs.TagGrammar.{TagItem, TagItem.Byte, TagItem.Quoted, spell_all, AllStand, SpellsTag}
use Rattle.std.proofs.lemmas.Bool.{eqb-true}
use Rattle.sgml_markup.proofs.EndLemmas.{later-later, later-zero}
use Rattle.sgml_delim.proofs.Deciding.{true-false, and-left, and-right}
use Rattle.sgml_delim.proofs.Ending.{none-is}

some-is : (m n : ℕ) → Some m ≡ Some n → m ≡ n
some-is m n e = cc

not-true : (t : Bool) → not t ≡ true → t ≡ false
not-true false e = refl
not-true true e = absurd (true-false e)

-- every spelling ends there

pub end-with : (shorttag : Bool) (b : ℕ) (bytes : List ℕ) → ends_with shorttag b ≡ true → tag_end shorttag None (b ∷ bytes) ≡ Some 1
end-with shorttag b bytes e =
    ap (λ t. if t then Some 1 else if ends_before shorttag b then Some 0 else later 1 (tag_end shorttag (quoting None b) bytes)) e

end-before : (shorttag : Bool) (b : ℕ) (bytes : List ℕ) → ends_with shorttag b ≡ false → ends_before shorttag b ≡ true
    → tag_end shorttag None (b ∷ bytes) ≡ Some 0
end-before shorttag b bytes e f =
    ap (λ t. if t then Some 1 else if ends_before shorttag b then Some 0 else later 1 (tag_end shorttag (quoting None b) bytes)) e
    ∙ ap (λ t. if t then Some 0 else later 1 (tag_end shorttag (quoting None b) bytes)) f

pub end-after : (shorttag : Bool) (b : ℕ) (bytes : List ℕ) → ends_with shorttag b ≡ false → ends_before shorttag b ≡ false
    → tag_end shorttag None (b ∷ bytes) ≡ later 1 (tag_end shorttag (quoting None b) bytes)
end-after shorttag b bytes e f =
    ap (λ t. if t then Some 1 else if ends_before shorttag b then Some 0 else later 1 (tag_end shorttag (quoting None b) bytes)) e
    ∙ ap (λ t. if t then Some 0 else later 1 (tag_end shorttag (quoting None b) bytes)) f

pub literal-end : (shorttag : Bool) (q : ℕ) (text bytes : List ℕ) → list_all (λ b. not (b == q)) text ≡ true → (q == q) ≡ true
    → tag_end shorttag (Some q) (text ++ q ∷ bytes) ≡ later (length text + 1) (tag_end shorttag None bytes)
literal-end shorttag q [] bytes h e = ap (λ t. later 1 (tag_end shorttag (if t then None else Some q) bytes)) e
literal-end shorttag q (b ∷ text) bytes h e =
    ap (λ t. later 1 (tag_end shorttag (if t then None else Some q) (text ++ q ∷ bytes)))
    (not-true (b == q) (and-left (not (b == q)) (list_all (λ c. not (c == q)) text) h))
    ∙ ap (later 1) (literal-end shorttag q text bytes (and-right (not (b == q)) (list_all (λ c. not (c == q)) text) h) e)
    ∙ later-later 1 (length text + 1) (tag_end shorttag None bytes)
    ∙ ap (λ n. later n (tag_end shorttag None bytes)) (omega arith)

pub quote-is : (q : ℕ) → is_quote q ≡ true → (q ≡ 34) ⊎ (q ≡ 39)
quote-is q e = by_first (q == 34) refl e
  where
    by_first : (t : Bool) → (q == 34) ≡ t → (t || (q == 39)) ≡ true → (q ≡ 34) ⊎ (q ≡ 39)
    by_first true p f = inl (eqb-true q 34 p)
    by_first false p f = inr (eqb-true q 39 f)

pub quote-ends-none : (shorttag : Bool) (q : ℕ) → is_quote q ≡ true → (ends_with shorttag q ≡ false) × (ends_before shorttag q ≡ false)
quote-ends-none shorttag q e = elim (quote-is q e) [
  | inl h ↦ subst (λ c. (ends_with shorttag c ≡ false) × (ends_before shorttag c ≡ false)) (sym h) (first shorttag)
  | inr h ↦ subst (λ c. (ends_with shorttag c ≡ false) × (ends_before shorttag c ≡ false)) (sym h) (second shorttag)
]
  where
    first : (t : Bool) → (ends_with t 34 ≡ false) × (ends_before t 34 ≡ false)
    first true = (refl, refl)
    first false = (refl, refl)

    second : (t : Bool) → (ends_with t 39 ≡ false) × (ends_before t 39 ≡ false)
    second true = (refl, refl)
    second false = (refl, refl)

-- a byte that ends a tag is no quote
ender-unquoted : (shorttag : Bool) (b : ℕ) → (ends_with shorttag b ≡ true) ⊎ (ends_before shorttag b ≡ true) → is_quote b ≡ false
ender-unquoted shorttag b h = from (is_quote b) refl
  where
    from : (t : Bool) → is_quote b ≡ t → is_quote b ≡ false
    from false p = p
    from true p =
        let none = quote-ends-none shorttag b p in
        elim h [ inl e ↦ absurd (true-false (sym none.0 ∙ e)) | inr e ↦ absurd (true-false (sym none.1 ∙ e)) ]

spelled-end : (shorttag : Bool) (items : List TagItem) (bytes : List ℕ) → AllStand shorttag items
    → tag_end shorttag None (spell_all items ++ bytes) ≡ later (length (spell_all items)) (tag_end shorttag None bytes)
spelled-end shorttag [] bytes h = sym (later-zero (tag_end shorttag None bytes))
spelled-end shorttag (Byte b ∷ items) bytes h =
    end-after shorttag b (spell_all items ++ bytes) h.0.1 h.0.2
    ∙ ap (λ t. later 1 (tag_end shorttag (if t then Some b else None) (spell_all items ++ bytes))) h.0.0
    ∙ ap (later 1) (spelled-end shorttag items bytes h.1)
    ∙ later-later 1 (length (spell_all items)) (tag_end shorttag None bytes)
    ∙ ap (λ n. later n (tag_end shorttag None bytes)) (omega arith)
spelled-end shorttag (Quoted q text ∷ items) bytes h =
    let none = quote-ends-none shorttag q h.0.0 in
    let rest = spell_all items ++ bytes in
    ap (λ xs. tag_end shorttag None (q ∷ xs)) (regroup text q (spell_all items) bytes)
    ∙ end-after shorttag q (text ++ q ∷ rest) none.0 none.1
    ∙ ap (λ t. later 1 (tag_end shorttag (if t then Some q else None) (text ++ q ∷ rest))) h.0.0
    ∙ ap (later 1) (literal-end shorttag q text rest h.0.1 (eq-eqb q q refl) ∙ ap (later (length text + 1)) (spelled-end shorttag items bytes h.1))
    ∙ ap (later 1) (later-later (length text + 1) (length (spell_all items)) (tag_end shorttag None bytes))
    ∙ later-later 1 (length text + 1 + length (spell_all items)) (tag_end shorttag None bytes)
    ∙ ap (λ n. later n (tag_end shorttag None bytes)) (size text q (spell_all items))
  where
    regroup : (xs : List ℕ) (c : ℕ) (ys zs : List ℕ) → ((xs ++ c ∷ []) ++ ys) ++ zs ≡ xs ++ c ∷ (ys ++ zs)
    regroup xs c ys zs = append_assoc (xs ++ c ∷ []) ys zs ∙ append_assoc xs (c ∷ []) (ys ++ zs)

    size : (xs : List ℕ) (c : ℕ) (ys : List ℕ) → 1 + (length xs + 1 + length ys) ≡ suc (length ((xs ++ c ∷ []) ++ ys))
    size xs c ys =
        let one = length-append (xs ++ c ∷ []) ys in
        let two = length-append xs (c ∷ []) in
        omega (arith, one, two)

pub spelled-ends : (shorttag : Bool) (bytes : List ℕ) (n : ℕ) → SpellsTag shorttag bytes n → tag_end shorttag None bytes ≡ Some n
spelled-ends shorttag bytes n h =
    ap (tag_end shorttag None) h.is ∙ spelled-end shorttag h.items (h.last ∷ h.more) h.stand
    ∙ by_end (ends_with shorttag h.last) refl h.ends
  where
    by_end : (t : Bool) → ends_with shorttag h.last ≡ t
        → MatchBool t (n ≡ length (spell_all h.items) + 1) ((ends_before shorttag h.last ≡ true) × (n ≡ length (spell_all h.items)))
        → later (length (spell_all h.items)) (tag_end shorttag None (h.last ∷ h.more)) ≡ Some n
    by_end true e f = ap (later (length (spell_all h.items))) (end-with shorttag h.last h.more e) ∙ ap (λ k. Some k) (sym f)
    by_end false e f =
        ap (later (length (spell_all h.items))) (end-before shorttag h.last h.more e f.0)
        ∙ ap (λ k. Some k) (let is = f.1 in omega (arith, is))

-- every end is of a spelling

-- a literal that ends, and what follows
pub record Closes (shorttag : Bool) (q : ℕ) (bytes : List ℕ) (n : ℕ) : Type 0 where
  pub text : List ℕ
  pub rest : List ℕ
  pub size : ℕ
  pub absent : list_all (λ b. not (b == q)) text ≡ true
  pub is : bytes ≡ text ++ q ∷ rest
  pub adds : n ≡ length text + 1 + size
  pub spelled : SpellsTag shorttag rest size

abbrev pub Found : Bool → Option ℕ → List ℕ → ℕ → Type 0
Found shorttag None bytes n = SpellsTag shorttag bytes n
Found shorttag (Some q) bytes n = Closes shorttag q bytes n

later-inv : (o : Option ℕ) (n : ℕ) → later 1 o ≡ Some n → (m : ℕ) × (o ≡ Some m) × (n ≡ 1 + m)
later-inv None n e = none-is n e
later-inv (Some m) n e = (m, refl, sym (some-is (1 + m) n e))

with-byte : (shorttag : Bool) (b m n : ℕ) (bytes : List ℕ) → is_quote b ≡ false → ends_with shorttag b ≡ false → ends_before shorttag b ≡ false
    → n ≡ 1 + m → SpellsTag shorttag bytes m → SpellsTag shorttag (b ∷ bytes) n
with-byte shorttag b m n bytes q e f is h = record {
  items = Byte b ∷ h.items;
  last = h.last;
  more = h.more;
  stand = ((q, e, f), h.stand);
  is = ap (λ xs. b ∷ xs) h.is;
  unquoted = h.unquoted;
  ends = by_end (ends_with shorttag h.last) h.ends;
}
  where
    by_end : (t : Bool) → MatchBool t (m ≡ length (spell_all h.items) + 1) ((ends_before shorttag h.last ≡ true) × (m ≡ length (spell_all h.items)))
        → MatchBool t (n ≡ suc (length (spell_all h.items)) + 1) ((ends_before shorttag h.last ≡ true) × (n ≡ suc (length (spell_all h.items))))
    by_end true g = omega (arith, g, is)
    by_end false g = (g.0, let low = g.1 in omega (arith, low, is))

with-literal : (shorttag : Bool) (q m n : ℕ) (bytes : List ℕ) → is_quote q ≡ true → n ≡ 1 + m → Closes shorttag q bytes m
    → SpellsTag shorttag (q ∷ bytes) n
with-literal shorttag q m n bytes e is h = record {
  items = Quoted q h.text ∷ h.spelled.items;
  last = h.spelled.last;
  more = h.spelled.more;
  stand = ((e, h.absent), h.spelled.stand);
  is = ap (λ xs. q ∷ xs) (h.is ∙ ap (λ xs. h.text ++ q ∷ xs) h.spelled.is ∙ sym (regroup h.text q (spell_all h.spelled.items) (h.spelled.last ∷ h.spelled.more)));
  unquoted = h.spelled.unquoted;
  ends = by_end (ends_with shorttag h.spelled.last) h.spelled.ends;
}
  where
    regroup : (xs : List ℕ) (c : ℕ) (ys zs : List ℕ) → ((xs ++ c ∷ []) ++ ys) ++ zs ≡ xs ++ c ∷ (ys ++ zs)
    regroup xs c ys zs = append_assoc (xs ++ c ∷ []) ys zs ∙ append_assoc xs (c ∷ []) (ys ++ zs)

    size : length ((h.text ++ q ∷ []) ++ spell_all h.spelled.items) ≡ length h.text + 1 + length (spell_all h.spelled.items)
    size =
        let one = length-append (h.text ++ q ∷ []) (spell_all h.spelled.items) in
        let two = length-append h.text (q ∷ []) in
        omega (arith, one, two)

    by_end : (t : Bool)
        → MatchBool t (h.size ≡ length (spell_all h.spelled.items) + 1) ((ends_before shorttag h.spelled.last ≡ true) × (h.size ≡ length (spell_all h.spelled.items)))
        → MatchBool t (n ≡ suc (length ((h.text ++ q ∷ []) ++ spell_all h.spelled.items)) + 1)
        ((ends_before shorttag h.spelled.last ≡ true) × (n ≡ suc (length ((h.text ++ q ∷ []) ++ spell_all h.spelled.items))))
    by_end true g = let adds = h.adds in let len = size in omega (arith, g, is, adds, len)
    by_end false g = (g.0, let low = g.1 in let adds = h.adds in let len = size in omega (arith, low, is, adds, len))

here : (shorttag : Bool) (b n : ℕ) (bytes : List ℕ) → is_quote b ≡ false
    → MatchBool (ends_with shorttag b) (n ≡ 1) ((ends_before shorttag b ≡ true) × (n ≡ 0)) → SpellsTag shorttag (b ∷ bytes) n
here shorttag b n bytes q ends = record { items = []; last = b; more = bytes; stand = tt; is = refl; unquoted = q; ends = ends }

found-outside : (shorttag : Bool) (b n : ℕ) (bytes : List ℕ)
    → ((quote : Option ℕ) (m : ℕ) → tag_end shorttag quote bytes ≡ Some m → Found shorttag quote bytes m)
    → tag_end shorttag None (b ∷ bytes) ≡ Some n → SpellsTag shorttag (b ∷ bytes) n
found-outside shorttag b n bytes more e = by_with (ends_with shorttag b) refl
  where
    by_quote : (t : Bool) → is_quote b ≡ t → ends_with shorttag b ≡ false → ends_before shorttag b ≡ false
        → later 1 (tag_end shorttag (if t then Some b else None) bytes) ≡ Some n → SpellsTag shorttag (b ∷ bytes) n
    by_quote true p f g h =
        let inv = later-inv (tag_end shorttag (Some b) bytes) n h in
        with-literal shorttag b inv.0 n bytes p inv.2 (more (Some b) inv.0 inv.1)
    by_quote false p f g h =
        let inv = later-inv (tag_end shorttag None bytes) n h in
        with-byte shorttag b inv.0 n bytes p f g inv.2 (more None inv.0 inv.1)

    by_before : (t : Bool) → ends_before shorttag b ≡ t → ends_with shorttag b ≡ false → SpellsTag shorttag (b ∷ bytes) n
    by_before true p f =
        here shorttag b n bytes (ender-unquoted shorttag b (inr p))
        (subst (λ t. MatchBool t (n ≡ 1) ((ends_before shorttag b ≡ true) × (n ≡ 0))) (sym f)
        (p, some-is n 0 (sym e ∙ end-before shorttag b bytes f p)))
    by_before false p f = by_quote (is_quote b) refl f p (sym (end-after shorttag b bytes f p) ∙ e)

    by_with : (t : Bool) → ends_with shorttag b ≡ t → SpellsTag shorttag (b ∷ bytes) n
    by_with true p =
        here shorttag b n bytes (ender-unquoted shorttag b (inl p))
        (subst (λ t. MatchBool t (n ≡ 1) ((ends_before shorttag b ≡ true) × (n ≡ 0))) (sym p)
        (some-is n 1 (sym e ∙ end-with shorttag b bytes p)))
    by_with false p = by_before (ends_before shorttag b) refl p

found-inside : (shorttag : Bool) (q b n : ℕ) (bytes : List ℕ)
    → ((quote : Option ℕ) (m : ℕ) → tag_end shorttag quote bytes ≡ Some m → Found shorttag quote bytes m)
    → tag_end shorttag (Some q) (b ∷ bytes) ≡ Some n → Closes shorttag q (b ∷ bytes) n
found-inside shorttag q b n bytes more e = by_quote (b == q) refl e
  where
    by_quote : (t : Bool) → (b == q) ≡ t → later 1 (tag_end shorttag (if t then None else Some q) bytes) ≡ Some n
        → Closes shorttag q (b ∷ bytes) n
    by_quote true p h =
        let inv = later-inv (tag_end shorttag None bytes) n h in
        record {
          text = [];
          rest = bytes;
          size = inv.0;
          absent = refl;
          is = ap (λ c. c ∷ bytes) (eqb-true b q p);
          adds = let len = inv.2 in omega (arith, len);
          spelled = more None inv.0 inv.1;
        }
    by_quote false p h =
        let inv = later-inv (tag_end shorttag (Some q) bytes) n h in
        let closes = more (Some q) inv.0 inv.1 in
        record {
          text = b ∷ closes.text;
          rest = closes.rest;
          size = closes.size;
          absent = ap (λ t. not t && list_all (λ c. not (c == q)) closes.text) p ∙ closes.absent;
          is = ap (λ xs. b ∷ xs) closes.is;
          adds = let len = inv.2 in let adds = closes.adds in omega (arith, len, adds);
          spelled = closes.spelled;
        }

pub found : (shorttag : Bool) (quote : Option ℕ) (bytes : List ℕ) (n : ℕ) → tag_end shorttag quote bytes ≡ Some n
    → Found shorttag quote bytes n
found shorttag None [] n e = none-is n e
found shorttag (Some q) [] n e = none-is n e
found shorttag None (b ∷ bytes) n e = found-outside shorttag b n bytes (λ quote m f. found shorttag quote bytes m f) e
found shorttag (Some q) (b ∷ bytes) n e = found-inside shorttag q b n bytes (λ quote m f. found shorttag quote bytes m f) e
