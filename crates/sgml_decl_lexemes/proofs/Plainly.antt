-- A literal of a tag that begins no reference is its bytes.
use Rattle.std.proofs.Common.{◌≡◌, ℕ, zero, suc, ◌+◌, ◌-◌, ◌≤◌, Bool, true, false, List, [], ◌∷◌, ◌++◌, length, drop, take, map, Some, Ok, Err, refl, sym, ◌∙◌, ap, subst, if◌then◌else◌, ◌==◌, ◌&&◌, ◌||◌, not, arith, eq-eqb, eqb-true}
use Rattle.std.proofs.lemmas.List.{drop-drop, map-append, length-drop, drop-append-le, take-append-le, take-append-drop, append_assoc, drop-take}
use Rattle.std.specs.List.{prefix_len, list_all}
use Rattle.sgml_text.specs.declared.place.Place.{Place}
use Rattle.sgml_text.specs.declared.reason.Reason.TheVariants as reason
use Rattle.sgml_decl_lexemes.specs.declared.fault.Fault.TheVariants.{Refusing}
use Rattle.sgml_entity.specs.Stack.{Stack, place_at, moved, moved_to, offset_of}
use Rattle.sgml_text.specs.declared.unit.Unit.{Unit as AnyUnit}
use Rattle.sgml_text.specs.declared.unit.Unit.TheVariants as unit
use Rattle.sgml_decl_parts.specs.declared.form.Form.TheVariants as f
use Rattle.sgml_decl_parts.specs.declared.part.Part.{Part}
use Rattle.sgml_decl_parts.specs.declared.part.Part.TheVariants.{EndQuote, Data}
use Rattle.sgml_decl_parts.specs.declared.ends.Construct.{Construct}
use Rattle.sgml_decl_parts.specs.declared.ends.Construct.TheVariants.{Literal}
use Rattle.sgml_decl_parts.specs.Bytes.{begins_name}
use Rattle.sgml_text.specs.Characters.{is_sgml_character, all_sgml, is_quote}
use Rattle.sgml_decl_parts.specs.sgml_delim.Ends.{later}
use Rattle.sgml_decl_parts.specs.Ends.{quote_end, before, construct_end}
use Rattle.sgml_text.specs.Units.{characters}
use Rattle.sgml_decl_parts.specs.Parts.{is_ordinary, literal_at}
use Rattle.sgml_decl_lexemes.specs.declared.lexeme.Lexeme.TheVariants.{Value}
use Rattle.sgml_decl_lexemes.specs.Sources.{Source, top_text, unread}
use Rattle.sgml_decl_lexemes.specs.Readings.{State, Reading, ahead, advanced, next_part, judged_part, is_literal, after, nothing_read, first_form, begun, quoted, start}
use Rattle.sgml_decl_lexemes.specs.Declares.{StandsAtStart, state, is_closed, ReadsParts, HasLexemes, Own, Whole, Bad, own, own_by, text, rest, may_grow, source, is_begun, is_plain, PlainLiterals, AnswersBy, Asked, end_by, end_offset}
use Rattle.sgml_decl_lexemes.proofs.Quoting.{the_literal}
use Rattle.sgml_decl_lexemes.proofs.Ending.{begun-by, own-unread}
use Rattle.sgml_decl_lexemes.proofs.Running.{begins-of}

-- a byte that begins no reference and isn't the quote
abbrev pub plain : ℕ → ℕ → Bool
plain q b = not ((b == q) || (b == 38))

abbrev reading_at : Source → ℕ → List AnyUnit → Reading
reading_at I q us = record { form = f.Default; lexemes = []; literal = Some (the_literal I q); bytes = []; units = us; after_group = false; no_char = false }

abbrev at_place : Source → Stack → ℕ → List ℕ → ℕ → State
at_place I s q done k = record { reading = reading_at I q (map unit.Byte done); stack = advanced k s }

-- the part that stands there
data-by : (I : Source) (q b : ℕ) (ys : List ℕ) (u v : Bool) → (b == q) ≡ u → (b == 38) ≡ v → not (u || v) ≡ true
    → literal_at I.syntax.names I.syntax.general_fold (the_literal I q) true b ys ≡ Data (1 + prefix_len (is_ordinary q) ys)
data-by I q b ys true v is amp e = cc e
data-by I q b ys false true is amp e = cc e
data-by I q b ys false false is amp e = rw (is, amp) (rw amp refl)

quote-by : (I : Source) (q : ℕ) (ys : List ℕ) → literal_at I.syntax.names I.syntax.general_fold (the_literal I q) true q ys ≡ EndQuote
quote-by I q ys = rw (eq-eqb q q refl) refl

moved-count : (k : ℕ) (ps : List Place) → length (moved k ps) ≡ length ps
moved-count k [] = refl
moved-count k (p ∷ ps) = refl

pub in-its-text : (I : Source) (s : Stack) (k : ℕ) → StandsAtStart I s → (I.height == length (advanced k s).places) ≡ true
in-its-text I s k b = eq-eqb I.height (length (advanced k s).places) (b.height ∙ sym (moved-count k s.places))

next-data : (I : Source) (s : Stack) (q b k : ℕ) (done ys : List ℕ) → StandsAtStart I s → plain q b ≡ true → ahead I (at_place I s q done k) ≡ b ∷ ys
    → next_part I (at_place I s q done k) ≡ Ok (Data (1 + prefix_len (is_ordinary q) ys))
next-data I s q b k done ys begins is bytes =
    rw (bytes, in-its-text I s k begins) (ap (λ (p : Part). judged_part I (b ∷ ys) (at_place I s q done k) (Ok p)) (data-by I q b ys (b == q) (b == 38) refl refl is))

no-fault : (t : Bool) → (if t && false then Err (Refusing reason.CharNumber) else Ok EndQuote) ≡ Ok EndQuote
no-fault true = refl
no-fault false = refl

next-quote : (I : Source) (s : Stack) (q k : ℕ) (done ys : List ℕ) → StandsAtStart I s → ahead I (at_place I s q done k) ≡ q ∷ ys → next_part I (at_place I s q done k) ≡ Ok EndQuote
next-quote I s q k done ys begins bytes =
    rw (bytes, in-its-text I s k begins) (ap (λ (p : Part). judged_part I (q ∷ ys) (at_place I s q done k) (Ok p)) (quote-by I q ys) ∙ no-fault (is_literal I.construct))

drop-none : (m : ℕ) → drop {A = ℕ} m [] ≡ []
drop-none zero = refl
drop-none (suc m) = refl

-- what is left after so many bytes
pub left-after : (I : Source) (s : Stack) (k n : ℕ) → unread I (advanced (k + n) s).places ≡ drop n (unread I (advanced k s).places)
left-after I s k n = by s.places
  where
    by : (ps : List Place) → unread I (moved (k + n) ps) ≡ drop n (unread I (moved k ps))
    by [] = sym (drop-none n)
    by (p ∷ ps) =
        let text : List ℕ = top_text I (length (p ∷ ps)) p.entity in
        ap (λ (m : ℕ). drop m text) (omega arith) ∙ sym (drop-drop n (p.at + k) text)

-- a run of ordinary bytes ends before the quote
not-ordinary : (q : ℕ) → is_ordinary q q ≡ false
not-ordinary q = rw (eq-eqb q q refl) refl

run-few : (q : ℕ) (xs : List ℕ) → prefix_len (is_ordinary q) (xs ++ q ∷ []) ≤ length xs
run-few q [] = rw (not-ordinary q) (omega arith)
run-few q (b ∷ xs) = by (is_ordinary q b) refl (run-few q xs)
  where
    by : (t : Bool) → is_ordinary q b ≡ t → prefix_len (is_ordinary q) (xs ++ q ∷ []) ≤ length xs → prefix_len (is_ordinary q) (b ∷ (xs ++ q ∷ [])) ≤ suc (length xs)
    by true is few = rw is (omega (arith, few))
    by false is few = rw is (omega arith)

pub both : (a b : Bool) → (a && b) ≡ true → (a ≡ true) × (b ≡ true)
both true b e = (refl, e)
both false b e = cc e

all-drop : (p : ℕ → Bool) (n : ℕ) (xs : List ℕ) → list_all p xs ≡ true → list_all p (drop n xs) ≡ true
all-drop p zero xs h = h
all-drop p (suc n) [] h = h
all-drop p (suc n) (x ∷ xs) h = all-drop p n xs (both (p x) (list_all p xs) h).1

same-state : (x y : State) → x.reading ≡ y.reading → x.stack ≡ y.stack → x ≡ y
same-state x y a b = ap (λ (r : Reading). record x { reading = r }) a ∙ ap (λ (t : Stack). record { reading = y.reading; stack = t }) b

pub advanced-twice : (s : Stack) (k n : ℕ) → advanced n (advanced k s) ≡ advanced (k + n) s
advanced-twice s k n = ap (λ (ps : List Place). record s { places = ps }) (by s.places)
  where
    by : (ps : List Place) → moved n (moved k ps) ≡ moved (k + n) ps
    by [] = refl
    by (p ∷ ps) = ap (λ (m : ℕ). place_at p.entity m ∷ ps) (omega arith)

more-units : (I : Source) (q : ℕ) (done bs : List ℕ) → reading_at I q (map unit.Byte done ++ map unit.Byte bs) ≡ reading_at I q (map unit.Byte (done ++ bs))
more-units I q done bs = ap (reading_at I q) (sym (map-append unit.Byte done bs))

abbrev Read : Source → Stack → ℕ → List ℕ → ℕ → Type 0
Read I s q text k = HasLexemes I s (Value (map unit.Byte text) ∷ []) (advanced k s)

last-read : (I : Source) (s : Stack) (q : ℕ) (done : List ℕ) (k : ℕ) (ps : List Part) → StandsAtStart I s → is_literal I.construct ≡ true → ReadsParts I s ps → is_closed I.construct ps ≡ false
    → state I s ps ≡ at_place I s q done k → ahead I (at_place I s q done k) ≡ q ∷ [] → Read I s q done (k + 1)
last-read I s q done k ps b literal h open_ is bytes = record {
  parts = EndQuote ∷ ps;
  reads = (h, open_, ap (next_part I) is ∙ next-quote I s q k done [] b bytes);
  whole = literal;
  lexemes_are = ap (λ (t : State). (after I (ahead I t) EndQuote t).reading.lexemes) (sym is);
  stack_is = sym (advanced-twice s k 1) ∙ ap (λ (t : State). (after I (ahead I t) EndQuote t).stack) (sym is);
}

run : (I : Source) (s : Stack) (q m : ℕ) (done xs : List ℕ) (k : ℕ) (ps : List Part) → StandsAtStart I s → is_literal I.construct ≡ true → length xs ≤ m → ReadsParts I s ps → is_closed I.construct ps ≡ false
    → state I s ps ≡ at_place I s q done k → ahead I (at_place I s q done k) ≡ xs ++ q ∷ [] → list_all (plain q) xs ≡ true → Read I s q (done ++ xs) (k + length xs + 1)
run I s q m done [] k ps b literal few h open_ is bytes all =
    let end = last-read I s q done k ps b literal h open_ is bytes in
    subst (λ (n : ℕ). Read I s q (done ++ []) n) (omega arith) (subst (λ (xs : List ℕ). Read I s q xs (k + 1)) (sym (append-nil done)) end)
  where
    append-nil : (xs : List ℕ) → xs ++ [] ≡ xs
    append-nil [] = refl
    append-nil (x ∷ xs) = ap (λ (ys : List ℕ). x ∷ ys) (append-nil xs)
run I s q zero done (x ∷ xs) k ps b literal few h open_ is bytes all = absurd (omega (arith, few))
run I s q (suc m) done (x ∷ xs) k ps b literal few h open_ is bytes all =
    let n : ℕ = 1 + prefix_len (is_ordinary q) (xs ++ q ∷ []) in
    let short : prefix_len (is_ordinary q) (xs ++ q ∷ []) ≤ length xs = run-few q xs in
    let within : n ≤ length (x ∷ xs) = omega (arith, short) in
    let size : length (drop n (x ∷ xs)) ≡ length (x ∷ xs) - n = length-drop n (x ∷ xs) in
    let first = both (plain q x) (list_all (plain q) xs) all in
    let next : next_part I (state I s ps) ≡ Ok (Data n) = ap (next_part I) is ∙ next-data I s q x k done (xs ++ q ∷ []) b first.0 bytes in
    let taken : take n (ahead I (at_place I s q done k)) ≡ take n (x ∷ xs) = ap (take n) bytes ∙ take-append-le n (x ∷ xs) (q ∷ []) within in
    let there : state I s (Data n ∷ ps) ≡ at_place I s q (done ++ take n (x ∷ xs)) (k + n) =
    ap (λ (t : State). after I (ahead I t) (Data n) t) is
    ∙ same-state (after I (ahead I (at_place I s q done k)) (Data n) (at_place I s q done k)) (at_place I s q (done ++ take n (x ∷ xs)) (k + n))
    (ap (λ (bs : List ℕ). reading_at I q (map unit.Byte done ++ map unit.Byte bs)) taken ∙ more-units I q done (take n (x ∷ xs))) (advanced-twice s k n) in
    let left : ahead I (at_place I s q (done ++ take n (x ∷ xs)) (k + n)) ≡ drop n (x ∷ xs) ++ q ∷ [] =
    left-after I s k n ∙ ap (drop n) bytes ∙ drop-append-le n (x ∷ xs) (q ∷ []) within in
    let end = run I s q m (done ++ take n (x ∷ xs)) (drop n (x ∷ xs)) (k + n) (Data n ∷ ps) b literal (omega (arith, size, few)) (h, open_, next) refl there left (all-drop (plain q) n (x ∷ xs) all) in
    subst (λ (j : ℕ). Read I s q (done ++ (x ∷ xs)) j) (omega (arith, size, within))
    (subst (λ (text : List ℕ). Read I s q text (k + n + length (drop n (x ∷ xs)) + 1)) (append_assoc done (take n (x ∷ xs)) (drop n (x ∷ xs)) ∙ ap (λ (ys : List ℕ). done ++ ys) (take-append-drop n (x ∷ xs))) end)

-- WHERE READING BEGINS
started : (I : Source) (s : Stack) (q : ℕ) → StandsAtStart I s → I.construct ≡ Literal q → start I s ≡ at_place I s q [] 0
started I s q b is =
    ap (λ (c : Construct). record { reading = begun c (length (advanced (before c) s).places) (nothing_read (first_form c (begins_name I.syntax.names (unread I (advanced (before c) s).places)))); stack = advanced (before c) s }) is
    ∙ ap (λ (n : ℕ). record { reading = quoted q n (nothing_read f.Default); stack = advanced 0 s }) (moved-count 0 s.places ∙ sym b.height)

pub unmoved : (I : Source) (ps : List Place) → unread I (moved 0 ps) ≡ unread I ps
unmoved I [] = refl
unmoved I (p ∷ ps) = ap (λ (m : ℕ). drop m (top_text I (length (p ∷ ps)) p.entity)) (omega arith)

read-plainly : (I : Source) (s : Stack) (q : ℕ) (xs : List ℕ) → StandsAtStart I s → I.construct ≡ Literal q → unread I s.places ≡ xs ++ q ∷ [] → list_all (plain q) xs ≡ true → Read I s q xs (length xs + 1)
read-plainly I s q xs b is bytes all =
    subst (λ (n : ℕ). Read I s q xs n) (omega arith)
    (run I s q (length xs) [] xs 0 [] b (ap is_literal is) (omega arith) tt refl (started I s q b is) (unmoved I s.places ∙ bytes) all)

-- THE ANSWER
end-found : (q : ℕ) (xs more : List ℕ) → list_all (is_plain q) xs ≡ true → quote_end q (xs ++ (q ∷ more)) ≡ Some (length xs + 1)
end-found q [] more all = rw (eq-eqb q q refl) refl
end-found q (b ∷ xs) more all =
    let here = both (is_plain q b) (list_all (is_plain q) xs) all in
    by (b == q) refl here.0 (end-found q xs more here.1)
  where
    never : (t : Bool) → (t && false) ≡ true → ⊥
    never true e = cc e
    never false e = cc e

    by : (t : Bool) → (b == q) ≡ t → is_plain q b ≡ true → quote_end q (xs ++ (q ∷ more)) ≡ Some (length xs + 1) → quote_end q (b ∷ (xs ++ (q ∷ more))) ≡ Some (suc (length xs) + 1)
    by true is plainly again = absurd (never (is_sgml_character b) (rw is at plainly))
    by false is plainly again = rw is (ap (later 1) again ∙ ap Some (omega arith))

weaker : (q : ℕ) (xs : List ℕ) → list_all (is_plain q) xs ≡ true → (list_all (plain q) xs ≡ true) × (list_all is_sgml_character xs ≡ true)
weaker q [] all = (refl, refl)
weaker q (b ∷ xs) all =
    let here = both (is_plain q b) (list_all (is_plain q) xs) all in
    let first = both (is_sgml_character b) (plain q b) here.0 in
    let others = weaker q xs here.1 in
    (join (plain q b) (list_all (plain q) xs) first.1 others.0, join (is_sgml_character b) (list_all is_sgml_character xs) first.0 others.1)
  where
    join : (t u : Bool) → t ≡ true → u ≡ true → (t && u) ≡ true
    join true u a b = b
    join false u a b = cc a

quote-sgml-by : (q : ℕ) (u v : Bool) → (q == 34) ≡ u → (q == 39) ≡ v → (u || v) ≡ true → is_sgml_character q ≡ true
quote-sgml-by q true v a c is = let at : q ≡ 34 = eqb-true q 34 a in ap is_sgml_character at
quote-sgml-by q false true a c is = let at : q ≡ 39 = eqb-true q 39 c in ap is_sgml_character at
quote-sgml-by q false false a c is = cc is

all-sgml : (q : ℕ) (xs : List ℕ) → is_quote q ≡ true → list_all is_sgml_character xs ≡ true → all_sgml (xs ++ q ∷ []) ≡ true
all-sgml q [] is all = rw (quote-sgml-by q (q == 34) (q == 39) refl refl is) refl
all-sgml q (x ∷ xs) is all =
    let here = both (is_sgml_character x) (list_all is_sgml_character xs) all in
    rw here.0 (all-sgml q xs is here.1)

pub front : (xs : List ℕ) (q : ℕ) (more : List ℕ) → take (length xs + 1) (xs ++ (q ∷ more)) ≡ xs ++ q ∷ []
front [] q more = refl
front (x ∷ xs) q more =
    let same : suc (length xs + 1) ≡ suc (length xs) + 1 = omega arith in
    subst (λ (n : ℕ). take n (x ∷ (xs ++ (q ∷ more))) ≡ x ∷ (xs ++ q ∷ [])) same (ap (λ (ys : List ℕ). x ∷ ys) (front xs q more))

is-quote : (c : Construct) (q : ℕ) (bytes : List ℕ) → c ≡ Literal q → is_begun c bytes ≡ true → is_quote q ≡ true
is-quote (Literal x) q bytes same is = let at : x ≡ q = cc same in ap is_quote (sym at) ∙ is
is-quote _ q bytes same is = cc same

pub plain_literals : PlainLiterals
plain_literals q quote bytes more is begun bytes_are all =
    let n : ℕ = length bytes + 1 in
    let at : ℕ = offset_of q.stack.places in
    let weak = weaker quote bytes all in
    let quote_is : is_quote quote ≡ true = is-quote q.construct quote (rest q) is (begun-by q.construct q.entities q.texts q.stack.places begun) in
    let found : construct_end q.syntax.names q.construct (rest q) ≡ Some n = ap (λ (c : Construct). construct_end q.syntax.names c (rest q)) is ∙ ap (quote_end quote) bytes_are ∙ end-found quote bytes more all in
    let part : take n (rest q) ≡ bytes ++ quote ∷ [] = ap (take n) bytes_are ∙ front bytes quote more in
    let sgml : all_sgml (take n (rest q)) ≡ true = ap all_sgml part ∙ all-sgml quote bytes quote_is weak.1 in
    let whole : own q ≡ Whole (take (at + n) (text q)) =
    ap (own_by q.syntax.names (may_grow q) at (text q)) found ∙ ap (λ (t : Bool). if t then Whole (take (at + n) (text q)) else Bad reason.NonSgml) sgml in
    let o : List ℕ = take (at + n) (text q) in
    let b = begins-of q o begun whole in
    let unread_is : unread (source q o) q.stack.places ≡ bytes ++ quote ∷ [] = own-unread q o q.stack.places refl b.some ∙ drop-take at n (text q) ∙ part in
    subst (λ (w : Own). AnswersBy q w (Ok (Value (characters bytes) ∷ [])) (advanced n q.stack)) (sym whole)
    (read-plainly (source q o) q.stack quote bytes b is unread_is weak.0)

moved-on : (n : ℕ) (ps : List Place) → moved n ps ≡ moved_to (offset_of ps + n) ps
moved-on n [] = refl
moved-on n (p ∷ ps) = refl

pub plain-after : (q : Asked) (quote : ℕ) (bytes more : List ℕ) → q.construct ≡ Literal quote → rest q ≡ bytes ++ (quote ∷ more) → list_all (is_plain quote) bytes ≡ true
    → moved (length bytes + 1) q.stack.places ≡ moved_to (end_offset q) q.stack.places
plain-after q quote bytes more is bytes_are all =
    let found : construct_end q.syntax.names q.construct (rest q) ≡ Some (length bytes + 1) =
    ap (λ (c : Construct). construct_end q.syntax.names c (rest q)) is ∙ ap (quote_end quote) bytes_are ∙ end-found quote bytes more all in
    moved-on (length bytes + 1) q.stack.places ∙ ap (λ (n : ℕ). moved_to n q.stack.places) (sym (ap (end_by (offset_of q.stack.places)) found))

-- all bytes of the longest front for which a test holds
front-by : (p : ℕ → Bool) (b : ℕ) (xs : List ℕ) (t : Bool) → p b ≡ t → list_all p (take (prefix_len p xs) xs) ≡ true → list_all p (take (prefix_len p (b ∷ xs)) (b ∷ xs)) ≡ true
front-by p b xs true is again =
    let same : suc (prefix_len p xs) ≡ 1 + prefix_len p xs = omega arith in
    rw is (subst (λ (n : ℕ). list_all p (take n (b ∷ xs)) ≡ true) same (rw is again))
front-by p b xs false is again = rw is refl

pub all-front : (p : ℕ → Bool) (xs : List ℕ) → list_all p (take (prefix_len p xs) xs) ≡ true
all-front p [] = refl
all-front p (b ∷ xs) = front-by p b xs (p b) refl (all-front p xs)
