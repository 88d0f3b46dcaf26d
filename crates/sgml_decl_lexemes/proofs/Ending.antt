-- A declaration ends where its own text does.
use Rattle.std.proofs.Common.{◌≡◌, ℕ, suc, ◌+◌, ◌-◌, ◌<◌, ◌≤◌, Bool, true, false, List, [], ◌∷◌, ◌++◌, length, drop, take, Option, None, Some, Ok, refl, sym, ◌∙◌, ap, ◌==◌, ◌&&◌, if◌then◌else◌, arith, eq-eqb, eqb-true, subst}
use Rattle.std.proofs.lemmas.List.{length-drop, length-append, length-take-le, drop-take}
use Rattle.sgml_text.specs.declared.place.Place.{Place}
use Rattle.sgml_text.specs.declared.name_set.NameSet.{NameSet}
use Rattle.sgml_text.specs.declared.reason.Reason.TheVariants as reason
use Rattle.sgml_decl_parts.specs.sgml_delim.declared.delim.Delim.{Delim}
use Rattle.sgml_decl_parts.specs.sgml_delim.declared.delim.Delim.TheVariants.{Dso}
use Rattle.sgml_entity.specs.declared.kinds.Entity.{Entity}
use Rattle.sgml_entity.specs.Stack.{Stack, place_at, moved, moved_to, lower, offset_of}
use Rattle.sgml_decl_parts.specs.declared.form.Form.{Form}
use Rattle.sgml_decl_parts.specs.declared.part.Part.{Part}
use Rattle.sgml_decl_parts.specs.declared.part.Part.TheVariants.{Sign, EndQuote, Closing}
use Rattle.sgml_text.specs.Characters.{all_sgml}
use Rattle.sgml_decl_parts.specs.sgml_delim.Ends.{later}
use Rattle.sgml_decl_parts.specs.Ends.{quote_end, construct_end}
use Rattle.sgml_decl_parts.specs.declared.ends.Construct.{Construct}
use Rattle.sgml_decl_parts.specs.declared.ends.Construct.TheVariants.{Literal}
use Rattle.sgml_decl_parts.specs.Parts.{Fits}
use Rattle.sgml_decl_parts.proofs.Continuing.{end_within}
use Rattle.sgml_decl_lexemes.specs.Sources.{Source, top_text, unread, text_at, or_empty}
use Rattle.sgml_decl_lexemes.specs.Readings.{entity_of, State, Reading, ahead, advanced, after, judged, judged_dso, judged_sign, is_last, is_dso, is_literal, closes, EndsWithQuote, Goes}
use Rattle.sgml_decl_lexemes.specs.Declares.{Asked, Whole, Bad, own, own_by, text, rest, may_grow, without_end, end_offset, end_by, source, begins, is_begun, EndsAfter}
use Rattle.sgml_decl_lexemes.proofs.Quoting.{IsLast}
use Rattle.sgml_decl_lexemes.proofs.Going.{SoFar, ends-literal}

both : (a b : Bool) → (a && b) ≡ true → (a ≡ true) × (b ≡ true)
both true b e = (refl, e)
both false b e = cc

dso-last : (last : Bool) (form : Form) (no_char : Bool) → judged_dso last form no_char ≡ Ok (Sign Dso) → last ≡ true
dso-last true form no_char ok = refl
dso-last false form no_char ok = cc

sign-last : (last : Bool) (r : Reading) (d : Delim) → is_dso d ≡ true → judged_sign last r d ≡ Ok (Sign d) → last ≡ true
sign-last last r Dso is ok = dso-last last _ r.no_char ok
sign-last last r _ is ok = cc

-- the last part stands at the last byte of the own text
last-part : (I : Source) (t : State) (p : Part) → (is_literal I.construct ≡ true → IsLast I t p) → closes I.construct p ≡ true → Fits (length t.stack.places == I.height) (ahead I t) p → judged I (ahead I t) t p ≡ Ok p
    → ((length t.stack.places == I.height) ≡ true) × (length (ahead I t) ≡ 1)
last-part I t EndQuote quote is f ok = let last = quote is in (last.at_base, last.one)
last-part I t Closing quote is f ok = f
last-part I t (Sign d) quote is f ok =
    let last = both (length t.stack.places == I.height) (length (ahead I t) == 1) (sign-last (is_last I (ahead I t) t.stack.places) t.reading d is ok) in
    (last.0, eqb-true (length (ahead I t)) 1 last.1)
last-part I t _ quote is f ok = cc

one-byte : (I : Source) (bytes : List ℕ) (t : State) (p : Part) → closes I.construct p ≡ true → (after I bytes p t).stack ≡ advanced 1 t.stack
one-byte I bytes t EndQuote is = refl
one-byte I bytes t Closing is = refl
one-byte I bytes t (Sign d) is = refl
one-byte I bytes t _ is = cc

pub base-text : (I : Source) (height e : ℕ) → (height == I.height) ≡ true → top_text I height e ≡ I.own
base-text I height e is = rw is refl

end-by : (I : Source) (e at : ℕ) (below above ps : List Place) → ps ≡ above ++ (place_at e at ∷ below) → I.height ≡ suc (length below)
    → (length ps == I.height) ≡ true → length (unread I ps) ≡ 1 → moved 1 ps ≡ place_at e (length I.own) ∷ below
end-by I e at below [] ps is height same last =
    let base : (suc (length below) == I.height) ≡ true = ap (λ (x : List Place). length x == I.height) (sym is) ∙ same in
    let bytes : unread I ps ≡ drop at I.own = ap (unread I) is ∙ ap (drop at) (base-text I (suc (length below)) e base) in
    let size : length (drop at I.own) ≡ length I.own - at = length-drop at I.own in
    let one : length (drop at I.own) ≡ 1 = ap length (sym bytes) ∙ last in
    ap (moved 1) is ∙ ap (λ (n : ℕ). place_at e n ∷ below) (omega (arith, size, one))
end-by I e at below (a ∷ more) ps is height same last =
    let count : length ps ≡ suc (length more + suc (length below)) = ap length is ∙ ap suc (length-append more (place_at e at ∷ below)) in
    let equal : length ps ≡ I.height = eqb-true (length ps) I.height same in
    absurd (omega (arith, count, equal, height))

moved-places : (ps : List Place) (n : ℕ) → 0 < length ps → place_at (entity_of ps) n ∷ lower ps ≡ moved_to n ps
moved-places [] n some = absurd (omega arith)
moved-places (p ∷ ps) n some = refl

literal-is : (c : Construct) → is_literal c ≡ true → (q : ℕ) × (c ≡ Literal q)
literal-is (Literal q) is = (q, refl)
literal-is _ is = cc

last-literal : (I : Source) (s : Stack) (t next : State) → SoFar I s t → (g : Goes I t true next) → is_literal I.construct ≡ true → IsLast I t g.part
last-literal I s t next h g is = let quote = literal-is I.construct is in ends-literal I s t next quote.0 quote.1 h g

pub ended : (I : Source) (s : Stack) (t next : State) → 0 < length s.places → SoFar I s t → Goes I t true next → next.stack.places ≡ moved_to (length I.own) s.places
ended I s t next some h g =
    let last = last-part I t g.part (last-literal I s t next h g) g.done_is g.fits g.goes in
    ap (λ (x : Stack). x.places) (g.stack_is ∙ one-byte I (ahead I t) t g.part g.done_is)
    ∙ end-by I (entity_of s.places) h.on_top.stands.at (lower s.places) h.on_top.stands.above t.stack.places h.on_top.stands.is h.height_is last.0 last.1
    ∙ moved-places s.places (length I.own) some

-- the length of the own text
pub grown-no : (grows : Bool) (bytes o : List ℕ) → without_end grows bytes ≡ Whole o → ⊥
grown-no true bytes o e = cc
grown-no false bytes o e = by (all_sgml bytes) e
  where
    by : (b : Bool) → (if b then Bad reason.Unclosed else Bad reason.NonSgml) ≡ Whole o → ⊥
    by true e = cc
    by false e = cc

whole-by : (b : Bool) (x o : List ℕ) → (if b then Whole x else Bad reason.NonSgml) ≡ Whole o → o ≡ x
whole-by true x o e = cc
whole-by false x o e = cc

size-by : (names : NameSet) (c : Construct) (grows : Bool) (at : ℕ) (t o : List ℕ) (d : Option ℕ) → construct_end names c (drop at t) ≡ d → own_by names grows at t d ≡ Whole o → length o ≡ end_by at d
size-by names c grows at t o None is e = absurd (grown-no grows (drop at t) o e)
size-by names c grows at t o (Some n) is e =
    let end = end_within names c (drop at t) n is in
    let few : n ≤ length (drop at t) = end.few in
    let some : 1 ≤ n = end.some in
    let size : length (drop at t) ≡ length t - at = length-drop at t in
    let low : at + n ≤ length t = omega arith in
    ap length (whole-by (all_sgml (take n (drop at t))) (take (at + n) t) o e) ∙ length-take-le (at + n) t low

pub own-size : (q : Asked) (o : List ℕ) → Whole o ≡ own q → length o ≡ end_offset q
own-size q o is = size-by q.syntax.names q.construct (may_grow q) (offset_of q.stack.places) (text q) o (construct_end q.syntax.names q.construct (rest q)) refl (sym is)

-- an end that was scanned lies in the text
pub scanned-within : (names : NameSet) (c : Construct) (at : ℕ) (t : List ℕ) (n : ℕ) → EndsAfter names c (drop at t) n → at + n ≤ length t
scanned-within names c at t n h =
    let end = end_within names c (drop at t) n h.ends in
    let few : n ≤ length (drop at t) = end.few in
    let some : 1 ≤ n = end.some in
    let size : length (drop at t) ≡ length t - at = length-drop at t in
    omega (arith, few, some, size)

-- the own text of a literal ends with its first quote
abbrev Taken : ℕ → List ℕ → ℕ → Type 0
Taken q xs n = quote_end q (take n xs) ≡ Some (length (take n xs))

taken-first : (q b m : ℕ) (xs : List ℕ) → 1 ≡ m → (b == q) ≡ true → Taken q (b ∷ xs) m
taken-first q b m xs one is = subst (λ (k : ℕ). quote_end q (take k (b ∷ xs)) ≡ Some (length (take k (b ∷ xs)))) one (rw is refl)

taken-later : (q b m : ℕ) (xs : List ℕ) → (b == q) ≡ false → Taken q xs m → Taken q (b ∷ xs) (suc m)
taken-later q b m xs is again = rw is (ap (later 1) again ∙ ap Some (omega arith))

taken-found : (q b n : ℕ) (xs : List ℕ) (o : Option ℕ) → quote_end q xs ≡ o → later 1 o ≡ Some n → (b == q) ≡ false → ((m : ℕ) → quote_end q xs ≡ Some m → Taken q xs m) → Taken q (b ∷ xs) n
taken-found q b n xs None at h is again = cc
taken-found q b n xs (Some m) at h is again =
    let sum : 1 + m ≡ n = cc h in
    let size : suc m ≡ n = omega (arith, sum) in
    subst (Taken q (b ∷ xs)) size (taken-later q b m xs is (again m at))

taken-by : (q b n : ℕ) (xs : List ℕ) (t : Bool) → (b == q) ≡ t → (if t then Some 1 else later 1 (quote_end q xs)) ≡ Some n → ((m : ℕ) → quote_end q xs ≡ Some m → Taken q xs m) → Taken q (b ∷ xs) n
taken-by q b n xs true is h again = taken-first q b n xs (cc h) is
taken-by q b n xs false is h again = taken-found q b n xs (quote_end q xs) refl h is again

quote-taken : (q : ℕ) (xs : List ℕ) (n : ℕ) → quote_end q xs ≡ Some n → Taken q xs n
quote-taken q [] n e = cc
quote-taken q (b ∷ xs) n e = taken-by q b n xs (b == q) refl e (λ m. quote-taken q xs m)

quote-by : (names : NameSet) (c : Construct) (grows : Bool) (at : ℕ) (t o : List ℕ) (d : Option ℕ) → construct_end names c (drop at t) ≡ d → own_by names grows at t d ≡ Whole o
    → is_begun c (drop at t) ≡ true → EndsWithQuote c (drop at o)
quote-by names (Literal q) grows at t o None is e begun = absurd (grown-no grows (drop at t) o e)
quote-by names (Literal q) grows at t o (Some n) is e begun =
    let front : drop at o ≡ take n (drop at t) = ap (drop at) (whole-by (all_sgml (take n (drop at t))) (take (at + n) t) o e) ∙ drop-take at n t in
    (begun, subst (λ (xs : List ℕ). quote_end q xs ≡ Some (length xs)) (sym front) (quote-taken q (drop at t) n is))
quote-by names _ grows at t o d is e begun = tt

pub begun-by : (c : Construct) (es : List Entity) (texts : List (ℕ × List ℕ)) (ps : List Place) → begins c es texts ps ≡ true → is_begun c (drop (offset_of ps) (or_empty (text_at es texts (entity_of ps)))) ≡ true
begun-by c es texts [] is = cc
begun-by c es texts (p ∷ ps) is = is

pub own-unread : (q : Asked) (o : List ℕ) (ps : List Place) → q.stack.places ≡ ps → 0 < length ps → unread (source q o) ps ≡ drop (offset_of ps) o
own-unread q o [] is some = absurd (omega (arith, some))
own-unread q o (p ∷ ps) is some =
    ap (drop p.at) (base-text (source q o) (length (p ∷ ps)) p.entity (eq-eqb (length (p ∷ ps)) (length q.stack.places) (ap length (sym is))))

pub begun-some : (c : Construct) (es : List Entity) (texts : List (ℕ × List ℕ)) (ps : List Place) → begins c es texts ps ≡ true → 0 < length ps
begun-some c es texts [] is = cc
begun-some c es texts (p ∷ ps) is = omega arith

pub own-quote : (q : Asked) (o : List ℕ) (I : Source) → Whole o ≡ own q → I ≡ source q o → begins q.construct q.entities q.texts q.stack.places ≡ true → EndsWithQuote q.construct (unread I q.stack.places)
own-quote q o I is same begun =
    let bytes : unread I q.stack.places ≡ drop (offset_of q.stack.places) o =
    ap (λ (J : Source). unread J q.stack.places) same ∙ own-unread q o q.stack.places refl (begun-some q.construct q.entities q.texts q.stack.places begun) in
    subst (EndsWithQuote q.construct) (sym bytes)
    (quote-by q.syntax.names q.construct (may_grow q) (offset_of q.stack.places) (text q) o (construct_end q.syntax.names q.construct (rest q)) refl (sym is)
    (begun-by q.construct q.entities q.texts q.stack.places begun))
