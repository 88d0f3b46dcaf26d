-- No part of a literal but the quote that ends it passes over such a quote, and no other part stands
-- in it.
use Rattle.std.proofs.Common.{length, ◌≡◌, ◌≤◌, ◌<◌, ℕ, zero, suc, Bool, true, false, List, [], ◌∷◌, ◌+◌, Option, None, Some, Result, Ok, Err, take, drop, refl, sym, ◌∙◌, ap, subst, if◌then◌else◌, ◌==◌, ◌&&◌, ◌||◌, not, nat_le, arith, eqb-true}
use Rattle.std.specs.List.{prefix_len}
use Rattle.sgml_text.specs.declared.name_set.NameSet.{NameSet}
use Rattle.sgml_text.specs.NameCharacters.{is_name_character, is_marked}
use Rattle.sgml_text.specs.Characters.{is_digit, is_quote}
use Rattle.sgml_decl_parts.specs.declared.form.LiteralKind.{LiteralKind}
use Rattle.sgml_decl_parts.specs.declared.form.LiteralKind.TheVariants as kind
use Rattle.sgml_decl_parts.specs.declared.part.Part.{Part}
use Rattle.sgml_decl_parts.specs.declared.part.Part.TheVariants.{Gap, Name, Token, Reserved, Sign, Quote, EndQuote, Data, Char, NoChar, Refer, TextEnd, Closing}
use Rattle.sgml_decl_parts.specs.declared.part.PartFault.{PartFault}
use Rattle.sgml_decl_parts.specs.declared.part.PartFault.TheVariants.{Unclosed}
use Rattle.sgml_decl_parts.specs.declared.part.Here.{Here}
use Rattle.sgml_decl_parts.specs.declared.part.Opened.{Opened}
use Rattle.sgml_decl_parts.specs.Bytes.{name_length, begins_name, begins_digit, reference_end, number_after}
use Rattle.sgml_delim.specs.Ends.{later}
use Rattle.sgml_decl_parts.specs.Ends.{quote_end}
use Rattle.sgml_decl_parts.specs.Parts.{entity_reference, function_character, function_of, function_reference, numbered, number_reference, character_at, coded_at, general_at, parameter_at, or_coded, referring_at, is_ordinary, or_data, literal_at, part_in}

abbrev pub other : ℕ → ℕ → Bool
other q b = not (b == q)

-- how many bytes have none of these quotes
abbrev pub free : ℕ → List ℕ → ℕ
free q bytes = prefix_len (other q) bytes

-- which parts stand in a literal; where it is its text, none passes over its quote
abbrev pub InLiteral : Bool → ℕ → List ℕ → Part → Type 0
InLiteral its q bytes EndQuote = (its ≡ true) × (quote_end q bytes ≡ Some 1)
InLiteral its q bytes (Data n) = its ≡ true → n ≤ free q bytes
InLiteral its q bytes (Char n u) = its ≡ true → n ≤ free q bytes
InLiteral its q bytes (NoChar n) = its ≡ true → n ≤ free q bytes
InLiteral its q bytes (Refer n m) = its ≡ true → m ≤ free q bytes
InLiteral its q bytes TextEnd = its ≡ false
InLiteral its q bytes _ = ⊥

clash : {A : Type 0} → true ≡ false → A
clash e = absurd (never e)
  where
    never : true ≡ false → ⊥
    never e = cc

step : (q b : ℕ) (xs : List ℕ) → (b == q) ≡ false → free q (b ∷ xs) ≡ suc (free q xs)
step q b xs e = rw e (omega arith)

longer-by : (p r : ℕ → Bool) (b : ℕ) (xs : List ℕ) (t : Bool) → p b ≡ t → (p b ≡ true → r b ≡ true) → prefix_len p xs ≤ prefix_len r xs → prefix_len p (b ∷ xs) ≤ prefix_len r (b ∷ xs)
longer-by p r b xs true is h more = rw (is, h is) (omega (arith, more))
longer-by p r b xs false is h more = rw is (omega arith)

longer : (p r : ℕ → Bool) → ((b : ℕ) → p b ≡ true → r b ≡ true) → (xs : List ℕ) → prefix_len p xs ≤ prefix_len r xs
longer p r h [] = omega arith
longer p r h (b ∷ xs) = longer-by p r b xs (p b) refl (h b) (longer p r h xs)

-- after a front with none there are as many less
sum-by : (q b k : ℕ) (xs : List ℕ) (t : Bool) → (b == q) ≡ t → suc k ≤ free q (b ∷ xs) → (k ≤ free q xs → free q xs ≡ k + free q (drop k xs)) → free q (b ∷ xs) ≡ suc k + free q (drop k xs)
sum-by q b k xs true is few more = absurd (none (rw is at few))
  where
    none : suc k ≤ 0 → ⊥
    none e = omega (arith, e)
sum-by q b k xs false is few more =
    let one : free q (b ∷ xs) ≡ suc (free q xs) = step q b xs is in
    let rest : free q xs ≡ k + free q (drop k xs) = more (omega (arith, few, one)) in
    omega (arith, one, rest)

pub free-drop : (q k : ℕ) (xs : List ℕ) → k ≤ free q xs → free q xs ≡ k + free q (drop k xs)
free-drop q zero xs few = omega arith
free-drop q (suc k) [] few = absurd (omega (arith, few))
free-drop q (suc k) (b ∷ xs) few = sum-by q b k xs (b == q) refl few (free-drop q k xs)

-- the end that is there stays as far after such a front
end-by : (q b k n : ℕ) (xs : List ℕ) (t : Bool) → (b == q) ≡ t → suc k ≤ free q (b ∷ xs) → quote_end q (b ∷ xs) ≡ Some n
    → ((m : ℕ) → k ≤ free q xs → quote_end q xs ≡ Some m → later k (quote_end q (drop k xs)) ≡ Some m)
    → later (suc k) (quote_end q (drop k xs)) ≡ Some n
end-by q b k n xs true is few e more = absurd (none (rw is at few))
  where
    none : suc k ≤ 0 → ⊥
    none h = omega (arith, h)
end-by q b k n xs false is few e more =
    let one : free q (b ∷ xs) ≡ suc (free q xs) = step q b xs is in
    found (quote_end q xs) refl (rw is at e)
  where
    later-suc : (o : Option ℕ) (m : ℕ) → later k o ≡ Some m → later (suc k) o ≡ Some (1 + m)
    later-suc None m h = cc
    later-suc (Some j) m h = let s : k + j ≡ m = cc h in ap Some (omega (arith, s))

    found : (o : Option ℕ) → quote_end q xs ≡ o → later 1 o ≡ Some n → later (suc k) (quote_end q (drop k xs)) ≡ Some n
    found None at h = cc
    found (Some m) at h =
        let one : free q (b ∷ xs) ≡ suc (free q xs) = step q b xs is in
        later-suc (quote_end q (drop k xs)) m (more m (omega (arith, few, one)) at) ∙ h

later-zero : (o : Option ℕ) → later 0 o ≡ o
later-zero None = refl
later-zero (Some n) = ap Some (omega arith)

pub end-drop : (q k n : ℕ) (xs : List ℕ) → k ≤ free q xs → quote_end q xs ≡ Some n → later k (quote_end q (drop k xs)) ≡ Some n
end-drop q zero n xs few e = later-zero (quote_end q xs) ∙ e
end-drop q (suc k) n [] few e = absurd (omega (arith, few))
end-drop q (suc k) n (b ∷ xs) few e = end-by q b k n xs (b == q) refl few e (λ m. end-drop q k m xs)

-- what is no quote
no-quote-mark : (marks : List Bool) → is_marked marks 34 ≡ false
no-quote-mark [] = refl
no-quote-mark (x ∷ []) = refl
no-quote-mark (x ∷ y ∷ []) = refl
no-quote-mark (x ∷ y ∷ z ∷ []) = refl
no-quote-mark (x ∷ y ∷ z ∷ w ∷ []) = refl
no-quote-mark (x ∷ y ∷ z ∷ w ∷ v ∷ vs) = refl

no-apostrophe-mark : (marks : List Bool) → is_marked marks 39 ≡ false
no-apostrophe-mark [] = refl
no-apostrophe-mark (x ∷ []) = refl
no-apostrophe-mark (x ∷ y ∷ []) = refl
no-apostrophe-mark (x ∷ y ∷ z ∷ []) = refl
no-apostrophe-mark (x ∷ y ∷ z ∷ w ∷ []) = refl
no-apostrophe-mark (x ∷ y ∷ z ∷ w ∷ v ∷ vs) = refl

name-34 : (names : NameSet) → is_name_character names 34 ≡ false
name-34 names = rw (no-quote-mark names.start, no-quote-mark names.more) refl

name-39 : (names : NameSet) → is_name_character names 39 ≡ false
name-39 names = rw (no-apostrophe-mark names.start, no-apostrophe-mark names.more) refl

-- a byte for which a test holds that fails for both quotes
not-quote : (p : ℕ → Bool) (q b : ℕ) (u v w : Bool) → (q == 34) ≡ u → (q == 39) ≡ v → (b == q) ≡ w → (u || v) ≡ true → p 34 ≡ false → p 39 ≡ false → p b ≡ true → not w ≡ true
not-quote p q b u v false a c d is f g h = refl
not-quote p q b true v true a c d is f g h =
    let at : b ≡ 34 = eqb-true b q d ∙ eqb-true q 34 a in clash (sym h ∙ ap p at ∙ f)
not-quote p q b false true true a c d is f g h =
    let at : b ≡ 39 = eqb-true b q d ∙ eqb-true q 39 c in clash (sym h ∙ ap p at ∙ g)
not-quote p q b false false true a c d is f g h = clash (sym is)

others : (p : ℕ → Bool) (q b : ℕ) → is_quote q ≡ true → p 34 ≡ false → p 39 ≡ false → p b ≡ true → other q b ≡ true
others p q b is f g h = not-quote p q b (q == 34) (q == 39) (b == q) refl refl refl is f g h

name-free : (names : NameSet) (q : ℕ) (xs : List ℕ) → is_quote q ≡ true → name_length names xs ≤ free q xs
name-free names q xs is = longer (is_name_character names) (other q) (λ b h. others (is_name_character names) q b is (name-34 names) (name-39 names) h) xs

digit-free : (q : ℕ) (xs : List ℕ) → is_quote q ≡ true → prefix_len is_digit xs ≤ free q xs
digit-free q xs is = longer is_digit (other q) (λ b h. others is_digit q b is refl refl h) xs

abbrev ends : ℕ → Bool
ends b = (b == 59) || (b == 13)

end-free-by : (q b : ℕ) (xs : List ℕ) (t : Bool) → ends b ≡ t → is_quote q ≡ true → (if t then 1 else 0) ≤ free q (b ∷ xs)
end-free-by q b xs true is quote =
    let nq : other q b ≡ true = others ends q b quote refl refl is in rw nq (omega arith)
end-free-by q b xs false is quote = omega arith

end-free : (q : ℕ) (xs : List ℕ) → is_quote q ≡ true → reference_end xs ≤ free q xs
end-free q [] is = omega arith
end-free q (b ∷ xs) is = end-free-by q b xs (ends b) refl is

-- a run and what ends a reference after it
run-free : (q n : ℕ) (xs : List ℕ) → is_quote q ≡ true → n ≤ free q xs → n + reference_end (drop n xs) ≤ free q xs
run-free q n xs is few =
    let all : free q xs ≡ n + free q (drop n xs) = free-drop q n xs few in
    let last : reference_end (drop n xs) ≤ free q (drop n xs) = end-free q (drop n xs) is in
    omega (arith, all, last)

one-free : (q b k : ℕ) (xs : List ℕ) → (b == q) ≡ false → k ≤ free q xs → 1 + k ≤ free q (b ∷ xs)
one-free q b k xs nq few = let one : free q (b ∷ xs) ≡ suc (free q xs) = step q b xs nq in omega (arith, one, few)

-- THE PARTS
abbrev Free : Bool → ℕ → ℕ → Type 0
Free its q b = its ≡ true → (b == q) ≡ false

entity-in : (names : NameSet) (its : Bool) (q b : ℕ) (xs : List ℕ) → is_quote q ≡ true → Free its q b → InLiteral its q (b ∷ xs) (entity_reference names xs)
entity-in names its q b xs is nq = λ e.
    let run = run-free q (name_length names xs) xs is (name-free names q xs is) in
    let all : 1 + (name_length names xs + reference_end (drop (name_length names xs) xs)) ≤ free q (b ∷ xs) = one-free q b _ xs (nq e) run in
    omega (arith, all)

ordinary-other : (q b : ℕ) (t : Bool) → (b == q) ≡ t → is_ordinary q b ≡ true → other q b ≡ true
ordinary-other q b true is h = clash (sym h ∙ (rw is refl))
ordinary-other q b false is h = rw is refl

data-in : (its : Bool) (q b : ℕ) (xs : List ℕ) → Free its q b → InLiteral its q (b ∷ xs) (Data (1 + prefix_len (is_ordinary q) xs))
data-in its q b xs nq = λ e. one-free q b (prefix_len (is_ordinary q) xs) xs (nq e) (longer (is_ordinary q) (other q) (λ c h. ordinary-other q c (c == q) refl h) xs)

hash-free : (q : ℕ) (xs : List ℕ) (k : ℕ) → is_quote q ≡ true → k ≤ free q xs → 1 + k ≤ free q (35 ∷ xs)
hash-free q xs k is few =
    let nq : other q 35 ≡ true = others (λ b. b == 35) q 35 is refl refl refl in
    rw nq (omega (arith, few))

abbrev InIf : Bool → ℕ → List ℕ → Option Part → Type 0
InIf its q bytes None = Unit {0}
InIf its q bytes (Some p) = InLiteral its q bytes p

function-in : (its : Bool) (q size : ℕ) (bytes : List ℕ) (o : Option ℕ) → (its ≡ true → size ≤ free q bytes) → InLiteral its q bytes (function_of size o)
function-in its q size bytes None few = few
function-in its q size bytes (Some b) few = few

numbered-in : (its : Bool) (q size n : ℕ) (bytes : List ℕ) (t : Bool) → nat_le n 255 ≡ t → (its ≡ true → size ≤ free q bytes) → InLiteral its q bytes (numbered size n)
numbered-in its q size n bytes true is few = rw is few
numbered-in its q size n bytes false is few = rw is few

coded-size : (its : Bool) (q b n : ℕ) (xs : List ℕ) → is_quote q ≡ true → Free its q b → n ≤ free q xs → its ≡ true → 2 + n + reference_end (drop n xs) ≤ free q (b ∷ 35 ∷ xs)
coded-size its q b n xs is nq few e =
    let run : n + reference_end (drop n xs) ≤ free q xs = run-free q n xs is few in
    let more : 1 + (n + reference_end (drop n xs)) ≤ free q (35 ∷ xs) = hash-free q xs _ is run in
    let all : 1 + (1 + (n + reference_end (drop n xs))) ≤ free q (b ∷ 35 ∷ xs) = one-free q b _ (35 ∷ xs) (nq e) more in
    omega (arith, all)

character-by : (names : NameSet) (fold its : Bool) (q b : ℕ) (xs : List ℕ) (u v : Bool) → begins_digit xs ≡ u → begins_name names xs ≡ v → is_quote q ≡ true → Free its q b
    → InIf its q (b ∷ 35 ∷ xs) (character_at names fold xs)
character-by names fold its q b xs true v d n is nq =
    rw d (numbered-in its q (2 + prefix_len is_digit xs + reference_end (drop (prefix_len is_digit xs) xs)) (number_after 0 (take (prefix_len is_digit xs) xs)) (b ∷ 35 ∷ xs) _ refl
    (coded-size its q b (prefix_len is_digit xs) xs is nq (digit-free q xs is)))
character-by names fold its q b xs false true d n is nq =
    rw (d, n) (function-in its q (2 + name_length names xs + reference_end (drop (name_length names xs) xs)) (b ∷ 35 ∷ xs) (function_character fold (take (name_length names xs) xs))
    (coded-size its q b (name_length names xs) xs is nq (name-free names q xs is)))
character-by names fold its q b xs false false d n is nq = rw (d, n) tt

coded-by : (names : NameSet) (fold its : Bool) (q b c : ℕ) (xs : List ℕ) (t : Bool) → (c == 35) ≡ t → is_quote q ≡ true → Free its q b → InIf its q (b ∷ c ∷ xs) (coded_at names fold (c ∷ xs))
coded-by names fold its q b c xs true at is nq =
    let same : c ≡ 35 = eqb-true c 35 at in
    rw at (subst (λ (d : ℕ). InIf its q (b ∷ d ∷ xs) (character_at names fold xs)) (sym same) (character-by names fold its q b xs (begins_digit xs) (begins_name names xs) refl refl is nq))
coded-by names fold its q b c xs false at is nq = rw at tt

coded-in : (names : NameSet) (fold its : Bool) (q b : ℕ) (xs : List ℕ) → is_quote q ≡ true → Free its q b → InIf its q (b ∷ xs) (coded_at names fold xs)
coded-in names fold its q b [] is nq = tt
coded-in names fold its q b (c ∷ xs) is nq = coded-by names fold its q b c xs (c == 35) refl is nq

if-in : (its : Bool) (q : ℕ) (bytes : List ℕ) (t : Bool) (o : Option Part) → InIf its q bytes o → InIf its q bytes (if t then o else None)
if-in its q bytes true o h = h
if-in its q bytes false o h = tt

or-coded-in : (names : NameSet) (fold its : Bool) (q b : ℕ) (xs : List ℕ) (o : Option Part) → is_quote q ≡ true → Free its q b → InIf its q (b ∷ xs) o → InIf its q (b ∷ xs) (or_coded names fold b xs o)
or-coded-in names fold its q b xs (Some p) is nq h = h
or-coded-in names fold its q b xs None is nq h = if-in its q (b ∷ xs) (b == 38) (coded_at names fold xs) (coded-in names fold its q b xs is nq)

referring-in : (names : NameSet) (fold its : Bool) (k : LiteralKind) (q b : ℕ) (xs : List ℕ) → is_quote q ≡ true → Free its q b → InIf its q (b ∷ xs) (referring_at names fold k b xs)
referring-in names fold its kind.Parameter q b xs is nq =
    or-coded-in names fold its q b xs (parameter_at names b xs) is nq (if-in its q (b ∷ xs) ((b == 37) && begins_name names xs) (Some (entity_reference names xs)) (entity-in names its q b xs is nq))
referring-in names fold its kind.Value q b xs is nq =
    or-coded-in names fold its q b xs (general_at names b xs) is nq (if-in its q (b ∷ xs) ((b == 38) && begins_name names xs) (Some (entity_reference names xs)) (entity-in names its q b xs is nq))
referring-in names fold its kind.NoLiteral q b xs is nq = tt
referring-in names fold its kind.Plain q b xs is nq = tt

or-data-in : (its : Bool) (q b : ℕ) (xs : List ℕ) (o : Option Part) → Free its q b → InIf its q (b ∷ xs) o → InLiteral its q (b ∷ xs) (or_data q xs o)
or-data-in its q b xs (Some p) nq h = h
or-data-in its q b xs None nq h = data-in its q b xs nq

literal-by : (names : NameSet) (fold its : Bool) (o : Opened) (b : ℕ) (xs : List ℕ) (t : Bool) → (b == o.quote) ≡ t → is_quote o.quote ≡ true → InLiteral its o.quote (b ∷ xs) (literal_at names fold o its b xs)
literal-by names fold true o b xs true at is = rw at (refl, rw at refl)
literal-by names fold false o b xs true at is =
    rw at (or-data-in false o.quote b xs (referring_at names fold o.kind b xs) (λ e. clash (sym e)) (referring-in names fold false o.kind o.quote b xs is (λ e. clash (sym e))))
literal-by names fold its o b xs false at is =
    rw at (or-data-in its o.quote b xs (referring_at names fold o.kind b xs) (λ e. at) (referring-in names fold its o.kind o.quote b xs is (λ e. at)))

same-part : (r p : Part) → (let read : Result Part PartFault = Ok r in read ≡ Ok p) → r ≡ p
same-part r p e = cc

end-in : (base its : Bool) (q : ℕ) (p : Part) → (if base || its then Err Unclosed else Ok TextEnd) ≡ Ok p → InLiteral its q [] p
end-in true its q p e = cc
end-in false true q p e = cc
end-in false false q p e = subst (InLiteral false q []) (same-part TextEnd p e) refl

pub in_literal : (names : NameSet) (fold : Bool) (h : Here) (o : Opened) (bytes : List ℕ) (p : Part) → is_quote o.quote ≡ true
    → part_in names fold h (Some o) bytes ≡ Ok p → InLiteral h.in_its_text o.quote bytes p
in_literal names fold h o [] p is e = end-in h.at_base h.in_its_text o.quote p e
in_literal names fold h o (b ∷ xs) p is e =
    subst (InLiteral h.in_its_text o.quote (b ∷ xs)) (same-part (literal_at names fold o h.in_its_text b xs) p e) (literal-by names fold h.in_its_text o b xs (b == o.quote) refl is)
