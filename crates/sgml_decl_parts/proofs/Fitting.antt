-- A part stands within the text, has bytes, and is the end of a text or the end of all only where that
-- can be.
use Rattle.std.proofs.Common.{length, ◌≡◌, ◌≤◌, ◌<◌, ℕ, zero, suc, Bool, true, false, List, [], ◌∷◌, ◌+◌, ◌-◌, Option, None, Some, Result, Ok, Err, take, drop, refl, sym, ◌∙◌, ap, subst, if◌then◌else◌, ◌==◌, ◌&&◌, ◌||◌, not, nat_le, arith, eqb-true}
use Rattle.std.proofs.lemmas.List.{length-drop}
use Rattle.std.proofs.lemmas.List.Sums.{prefix_len-le-length}
use Rattle.sgml_decl_parts.proofs.Names.{name-some}
use Rattle.std.specs.List.{prefix_len}
use Rattle.sgml_text.specs.declared.name_set.NameSet.{NameSet}
use Rattle.sgml_text.specs.NameCharacters.{is_name_start, is_name_character}
use Rattle.sgml_text.specs.Characters.{is_digit, is_separator, is_quote}
use Rattle.sgml_delim.specs.declared.delim.Delim.{Delim}
use Rattle.sgml_delim.specs.declared.delim.Delim.TheVariants as d
use Rattle.sgml_decl_parts.specs.declared.form.LiteralKind.{LiteralKind}
use Rattle.sgml_decl_parts.specs.declared.form.LiteralKind.TheVariants as kind
use Rattle.sgml_decl_parts.specs.declared.part.Part.{Part}
use Rattle.sgml_decl_parts.specs.declared.part.Part.TheVariants.{Gap, Name, Token, Reserved, Sign, Quote, EndQuote, Data, Char, NoChar, Refer, TextEnd, Closing}
use Rattle.sgml_decl_parts.specs.declared.part.PartFault.{PartFault}
use Rattle.sgml_decl_parts.specs.declared.part.PartFault.TheVariants.{Unclosed, Syntax}
use Rattle.sgml_decl_parts.specs.declared.part.Here.{Here}
use Rattle.sgml_decl_parts.specs.declared.part.Opened.{Opened}
use Rattle.sgml_decl_parts.specs.Bytes.{name_length, begins_name, begins_with, begins_digit, reference_end, number_after}
use Rattle.sgml_decl_parts.specs.Parts.{entity_reference, percent_at, hash_at, comment_at, group_sign, outer_sign, or_syntax, common_at, inner_at, closing_at, minus_at, outer_at, function_character, function_of, function_reference, numbered, number_reference, character_at, coded_at, general_at, parameter_at, or_coded, referring_at, is_ordinary, or_data, literal_at, end_at, part_in, part_at, size_of, Fills, Fits}

-- a part with bytes, within so many
abbrev Filled : ℕ → Part → Type 0
Filled k p = Fills p × (size_of p ≤ k)

abbrev FilledOk : ℕ → Result Part PartFault → Type 0
FilledOk k (Ok p) = Filled k p
FilledOk k (Err f) = Unit {0}

abbrev FilledIf : ℕ → Option Part → Type 0
FilledIf k None = Unit {0}
FilledIf k (Some p) = Filled k p

end-by : (t : Bool) (k : ℕ) → (if t then 1 else 0) ≤ suc k
end-by true k = omega arith
end-by false k = omega arith

end-few : (xs : List ℕ) → reference_end xs ≤ length xs
end-few [] = omega arith
end-few (b ∷ xs) = end-by ((b == 59) || (b == 13)) (length xs)

run-few : (n : ℕ) (xs : List ℕ) → n ≤ length xs → n + reference_end (drop n xs) ≤ length xs
run-few n xs few =
    let last : reference_end (drop n xs) ≤ length (drop n xs) = end-few (drop n xs) in
    let size : length (drop n xs) ≡ length xs - n = length-drop n xs in
    omega (arith, few, last, size)

-- references
entity-filled : (names : NameSet) (xs : List ℕ) → begins_name names xs ≡ true → Filled (suc (length xs)) (entity_reference names xs)
entity-filled names xs is =
    let some : 0 < name_length names xs = name-some names xs is in
    let run : name_length names xs + reference_end (drop (name_length names xs) xs) ≤ length xs = run-few (name_length names xs) xs (prefix_len-le-length (is_name_character names) xs) in
    ((some, omega (arith, some)), omega (arith, run))

percent-by : (names : NameSet) (xs : List ℕ) (t : Bool) → begins_name names xs ≡ t → Filled (suc (length xs)) (percent_at names xs)
percent-by names xs true is = rw is (entity-filled names xs is)
percent-by names xs false is = rw is (omega arith, omega arith)

hash-by : (names : NameSet) (xs : List ℕ) (t : Bool) → begins_name names xs ≡ t → Filled (suc (length xs)) (hash_at names xs)
hash-by names xs true is =
    let few : name_length names xs ≤ length xs = prefix_len-le-length (is_name_character names) xs in
    rw is (name-some names xs is, omega (arith, few))
hash-by names xs false is = rw is (omega arith, omega arith)

-- comments
comment-by : (n b : ℕ) (xs : List ℕ) (t u : Bool) → (b == 45) ≡ t → begins_with 45 xs ≡ u → FilledOk (n + 1 + length xs) (comment_at (n + 1) xs) → FilledOk (n + suc (length xs)) (comment_at n (b ∷ xs))
comment-by n b [] true true is more again = cc more
comment-by n b (c ∷ xs) true true is more again = rw (is, more) (omega arith, omega arith)
comment-by n b xs true false is more again = rw (is, more) (subst (λ (k : ℕ). FilledOk k (comment_at (n + 1) xs)) (omega arith) again)
comment-by n b xs false u is more again = rw is (subst (λ (k : ℕ). FilledOk k (comment_at (n + 1) xs)) (omega arith) again)

comment-filled : (n : ℕ) (xs : List ℕ) → FilledOk (n + length xs) (comment_at n xs)
comment-filled n [] = tt
comment-filled n (b ∷ xs) = comment-by n b xs (b == 45) (begins_with 45 xs) refl refl (comment-filled (n + 1) xs)

minus-by : (b : ℕ) (xs : List ℕ) (t : Bool) → (b == 45) ≡ t → FilledOk (suc (suc (length xs))) (minus_at (b ∷ xs))
minus-by b xs true is = rw is (subst (λ (k : ℕ). FilledOk k (comment_at 2 xs)) (omega arith) (comment-filled 2 xs))
minus-by b xs false is = rw is (omega arith, omega arith)

minus-filled : (xs : List ℕ) → FilledOk (suc (length xs)) (minus_at xs)
minus-filled [] = (omega arith, omega arith)
minus-filled (b ∷ xs) = minus-by b xs (b == 45) refl

-- what both modes have
sign-filled : (k : ℕ) (s : Option Delim) → FilledOk (suc k) (or_syntax s)
sign-filled k None = tt
sign-filled k (Some s) = (omega arith, omega arith)

five : {A : Type 0} (P : A → Type 0) (a b c e g : Bool) (v w x y z o : A) → P v → P w → P x → P y → P z → P o
    → P (if a then v else if b then w else if c then x else if e then y else if g then z else o)
five P true b c e g v w x y z o hv hw hx hy hz ho = hv
five P false true c e g v w x y z o hv hw hx hy hz ho = hw
five P false false true e g v w x y z o hv hw hx hy hz ho = hx
five P false false false true g v w x y z o hv hw hx hy hz ho = hy
five P false false false false true v w x y z o hv hw hx hy hz ho = hz
five P false false false false false v w x y z o hv hw hx hy hz ho = ho

run-filled : (p : ℕ → Bool) (xs : List ℕ) → (0 < 1 + prefix_len p xs) × (1 + prefix_len p xs ≤ suc (length xs))
run-filled p xs = let few : prefix_len p xs ≤ length xs = prefix_len-le-length p xs in (omega arith, omega (arith, few))

common-filled : (names : NameSet) (s : Option Delim) (b : ℕ) (xs : List ℕ) → FilledOk (suc (length xs)) (common_at names s b xs)
common-filled names s b xs =
    five (FilledOk (suc (length xs))) (is_separator b) (is_name_start names b) (is_name_character names b) (b == 35) (b == 37)
    (Ok (Gap (1 + prefix_len is_separator xs))) (Ok (Name (1 + name_length names xs))) (Ok (Token (1 + name_length names xs))) (Ok (hash_at names xs)) (Ok (percent_at names xs)) (or_syntax s)
    (run-filled is_separator xs) (run-filled (is_name_character names) xs) (run-filled (is_name_character names) xs)
    (hash-by names xs (begins_name names xs) refl) (percent-by names xs (begins_name names xs) refl) (sign-filled (length xs) s)

-- how a filled part fits
filled-fits : (base : Bool) (bytes : List ℕ) (p : Part) → Filled (length bytes) p → Fits base bytes p
filled-fits base bytes (Gap n) h = h.0
filled-fits base bytes (Name n) h = h.0
filled-fits base bytes (Token n) h = h.0
filled-fits base bytes (Reserved n) h = h.0
filled-fits base bytes (Sign s) h = h.0
filled-fits base bytes (Quote b) h = h.0
filled-fits base bytes EndQuote h = h.0
filled-fits base bytes (Data n) h = h.0
filled-fits base bytes (Char n u) h = h.0
filled-fits base bytes (NoChar n) h = h.0
filled-fits base bytes (Refer n m) h = h.0
filled-fits base bytes TextEnd h = absurd h.0
filled-fits base bytes Closing h = absurd h.0

abbrev pub Fitting : Bool → List ℕ → Result Part PartFault → Type 0
Fitting base bytes (Ok p) = Fits base bytes p × (size_of p ≤ length bytes)
Fitting base bytes (Err f) = Unit {0}

fitting : (base : Bool) (bytes : List ℕ) (r : Result Part PartFault) → FilledOk (length bytes) r → Fitting base bytes r
fitting base bytes (Ok p) h = (filled-fits base bytes p h, h.1)
fitting base bytes (Err f) h = tt

inner-by : (names : NameSet) (b : ℕ) (xs : List ℕ) (t : Bool) → ((b == 45) && begins_with 45 xs) ≡ t → FilledOk (suc (length xs)) (inner_at names b xs)
inner-by names b xs true is = rw is tt
inner-by names b xs false is = rw is (common-filled names (group_sign b) b xs)

closing-fits : (base : Bool) (b : ℕ) (xs : List ℕ) → Fitting base (b ∷ xs) (closing_at base xs)
closing-fits true b [] = ((refl, refl), omega arith)
closing-fits false b [] = tt
closing-fits base b (c ∷ xs) = tt

three : {A : Type 0} (P : A → Type 0) (a b c : Bool) (v w x o : A) → P v → P w → P x → P o → P (if a then v else if b then w else if c then x else o)
three P true b c v w x o hv hw hx ho = hv
three P false true c v w x o hv hw hx ho = hw
three P false false true v w x o hv hw hx ho = hx
three P false false false v w x o hv hw hx ho = ho

outer-fits : (names : NameSet) (base after_group : Bool) (b : ℕ) (xs : List ℕ) → Fitting base (b ∷ xs) (outer_at names base after_group b xs)
outer-fits names base after_group b xs =
    three (Fitting base (b ∷ xs)) (b == 45) (is_quote b) (b == 62) (minus_at xs) (Ok (Quote b)) (closing_at base xs) (common_at names (outer_sign after_group b) b xs)
    (fitting base (b ∷ xs) (minus_at xs) (minus-filled xs)) (omega arith, omega arith) (closing-fits base b xs)
    (fitting base (b ∷ xs) (common_at names (outer_sign after_group b) b xs) (common-filled names (outer_sign after_group b) b xs))

-- in a literal
function-filled : (k size : ℕ) (o : Option ℕ) → 0 < size → size ≤ k → Filled k (function_of size o)
function-filled k size None some few = (some, few)
function-filled k size (Some b) some few = (some, few)

numbered-by : (k size n : ℕ) (t : Bool) → nat_le n 255 ≡ t → 0 < size → size ≤ k → Filled k (numbered size n)
numbered-by k size n true is some few = rw is (some, few)
numbered-by k size n false is some few = rw is (some, few)

character-by : (names : NameSet) (fold : Bool) (xs : List ℕ) (u v : Bool) → begins_digit xs ≡ u → begins_name names xs ≡ v → FilledIf (suc (suc (length xs))) (character_at names fold xs)
character-by names fold xs true v e n =
    let run : prefix_len is_digit xs + reference_end (drop (prefix_len is_digit xs) xs) ≤ length xs = run-few (prefix_len is_digit xs) xs (prefix_len-le-length is_digit xs) in
    rw e (numbered-by (suc (suc (length xs))) (2 + prefix_len is_digit xs + reference_end (drop (prefix_len is_digit xs) xs)) (number_after 0 (take (prefix_len is_digit xs) xs)) _ refl (omega arith) (omega (arith, run)))
character-by names fold xs false true e n =
    let run : name_length names xs + reference_end (drop (name_length names xs) xs) ≤ length xs = run-few (name_length names xs) xs (prefix_len-le-length (is_name_character names) xs) in
    rw (e, n) (function-filled (suc (suc (length xs))) (2 + name_length names xs + reference_end (drop (name_length names xs) xs)) (function_character fold (take (name_length names xs) xs)) (omega arith) (omega (arith, run)))
character-by names fold xs false false e n = rw (e, n) tt

coded-by : (names : NameSet) (fold : Bool) (c : ℕ) (xs : List ℕ) (t : Bool) → (c == 35) ≡ t → FilledIf (suc (suc (length xs))) (coded_at names fold (c ∷ xs))
coded-by names fold c xs true is = rw is (character-by names fold xs (begins_digit xs) (begins_name names xs) refl refl)
coded-by names fold c xs false is = rw is tt

coded-filled : (names : NameSet) (fold : Bool) (xs : List ℕ) → FilledIf (suc (length xs)) (coded_at names fold xs)
coded-filled names fold [] = tt
coded-filled names fold (c ∷ xs) = coded-by names fold c xs (c == 35) refl

if-filled : (k : ℕ) (t : Bool) (o : Option Part) → FilledIf k o → FilledIf k (if t then o else None)
if-filled k true o h = h
if-filled k false o h = tt

reference-by : (names : NameSet) (xs : List ℕ) (t u : Bool) → begins_name names xs ≡ u → FilledIf (suc (length xs)) (if t && u then Some (entity_reference names xs) else None)
reference-by names xs true true is = entity-filled names xs is
reference-by names xs true false is = tt
reference-by names xs false u is = tt

or-coded-filled : (names : NameSet) (fold : Bool) (b : ℕ) (xs : List ℕ) (o : Option Part) → FilledIf (suc (length xs)) o → FilledIf (suc (length xs)) (or_coded names fold b xs o)
or-coded-filled names fold b xs (Some p) h = h
or-coded-filled names fold b xs None h = if-filled (suc (length xs)) (b == 38) (coded_at names fold xs) (coded-filled names fold xs)

referring-filled : (names : NameSet) (fold : Bool) (k : LiteralKind) (b : ℕ) (xs : List ℕ) → FilledIf (suc (length xs)) (referring_at names fold k b xs)
referring-filled names fold kind.Parameter b xs = or-coded-filled names fold b xs (parameter_at names b xs) (reference-by names xs (b == 37) (begins_name names xs) refl)
referring-filled names fold kind.Value b xs = or-coded-filled names fold b xs (general_at names b xs) (reference-by names xs (b == 38) (begins_name names xs) refl)
referring-filled names fold kind.NoLiteral b xs = tt
referring-filled names fold kind.Plain b xs = tt

or-data-filled : (q : ℕ) (xs : List ℕ) (o : Option Part) → FilledIf (suc (length xs)) o → Filled (suc (length xs)) (or_data q xs o)
or-data-filled q xs (Some p) h = h
or-data-filled q xs None h = run-filled (is_ordinary q) xs

if-part : (k : ℕ) (t : Bool) (p : Part) → Filled (suc k) p → Filled (suc k) (if t then EndQuote else p)
if-part k true p h = (omega arith, omega arith)
if-part k false p h = h

literal-filled : (names : NameSet) (fold : Bool) (o : Opened) (its : Bool) (b : ℕ) (xs : List ℕ) → Filled (suc (length xs)) (literal_at names fold o its b xs)
literal-filled names fold o its b xs =
    if-part (length xs) ((b == o.quote) && its) (or_data o.quote xs (referring_at names fold o.kind b xs))
    (or-data-filled o.quote xs (referring_at names fold o.kind b xs) (referring-filled names fold o.kind b xs))

end-fits : (h : Here) (base its : Bool) (o : Option Opened) → h.at_base ≡ base → h.in_its_text ≡ its → Fitting h.at_base [] (end_at h o)
end-fits h true its None is e = rw is tt
end-fits h false its None is e = rw is (refl, omega arith)
end-fits h true its (Some o) is e = rw is tt
end-fits h false true (Some o) is e = rw (is, e) tt
end-fits h false false (Some o) is e = rw (is, e) (refl, omega arith)

mode-fits : (names : NameSet) (h : Here) (b : ℕ) (xs : List ℕ) (t : Bool) → Fitting h.at_base (b ∷ xs) (if t then inner_at names b xs else outer_at names h.at_base h.after_group b xs)
mode-fits names h b xs true = fitting h.at_base (b ∷ xs) (inner_at names b xs) (inner-by names b xs ((b == 45) && begins_with 45 xs) refl)
mode-fits names h b xs false = outer-fits names h.at_base h.after_group b xs

all-fit : (names : NameSet) (fold : Bool) (h : Here) (o : Option Opened) (bytes : List ℕ) → Fitting h.at_base bytes (part_in names fold h o bytes)
all-fit names fold h o [] = end-fits h h.at_base h.in_its_text o refl refl
all-fit names fold h (Some o) (b ∷ xs) =
    fitting h.at_base (b ∷ xs) (Ok (literal_at names fold o h.in_its_text b xs)) (literal-filled names fold o h.in_its_text b xs)
all-fit names fold h None (b ∷ xs) = mode-fits names h b xs h.in_group

pub part_fits : (names : NameSet) (fold : Bool) (h : Here) (bytes : List ℕ) (p : Part) → part_at names fold h bytes ≡ Ok p → Fits h.at_base bytes p × (size_of p ≤ length bytes)
part_fits names fold h bytes p found = subst (Fitting h.at_base bytes) found (all-fit names fold h h.literal bytes)
