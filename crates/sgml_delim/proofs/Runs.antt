-- A run of bytes that stay where the byte before stands ends nothing.
use Rattle.std.proofs.Common.{length, ◌≡◌, ℕ, zero, suc, Bool, true, false, not, List, [], ◌∷◌, ◌+◌, ◌<◌, ◌≤◌, Option, None, Some, drop, slice_index_or, refl, sym, ◌∙◌, ap, subst, if◌then◌else◌, ◌==◌, ◌&&◌, ◌||◌, arith}
use Rattle.std.specs.List.{prefix_len}
use Rattle.std.proofs.Math.Seq.{drop-cons}
use Rattle.std.proofs.lemmas.List.{drop-drop}
use Rattle.sgml_text.specs.declared.name_set.NameSet.{NameSet}
use Rattle.sgml_text.specs.NameCharacters.{is_name_character, is_marked}
use Rattle.sgml_text.specs.Characters.{is_letter, is_digit}
use Rattle.sgml_delim.specs.declared.ends.Inside.{Inside}
use Rattle.sgml_delim.specs.declared.ends.Inside.TheVariants.{Between, Name, Minus, Literal, Comment, CommentMinus}
use Rattle.sgml_delim.specs.declared.ends.Ender.{Ender}
use Rattle.sgml_delim.specs.Ends.{later, ends_declaration, is_outside, inside_after, stays_in, end_after}
use Rattle.sgml_delim.proofs.Ending.{no-end}

pub none-stays : (p : ℕ → Bool) (xs : List ℕ) → ((b : ℕ) → p b ≡ false) → 0 ≡ prefix_len p xs
none-stays p [] h = refl
none-stays p (b ∷ xs) h = rw (h b) refl

later-none : (o : Option ℕ) → o ≡ later 0 o
later-none None = refl
later-none (Some n) = ap Some (omega arith)

pub later-later : (i k : ℕ) (o : Option ℕ) → later i (later k o) ≡ later (i + k) o
later-later i k None = refl
later-later i k (Some n) = ap Some (omega arith)

-- a byte that stays ends nothing, and what follows it stands where it stood
record Stays (names : NameSet) (ender : Ender) (inside : Inside) (b : ℕ) : Type 0 where
  same : inside_after names inside b ≡ inside
  unended-here : (is_outside inside && ends_declaration ender b) ≡ false

is-name : (l d s m : Bool) → (l || d) ≡ true → (l || d || s || m) ≡ true
is-name true d s m h = refl
is-name false true s m h = refl
is-name false false s m h = absurd (never h)
  where
    never : false ≡ true → ⊥
    never h = cc

other : (t : Bool) → not t ≡ true → t ≡ false
other true h = absurd (never h)
  where
    never : false ≡ true → ⊥
    never h = cc
other false h = refl

never-true : {A : Type 0} → false ≡ true → A
never-true h = absurd (never h)
  where
    never : false ≡ true → ⊥
    never h = cc

stays : (names : NameSet) (ender : Ender) (inside : Inside) (b : ℕ) → stays_in inside b ≡ true → Stays names ender inside b
stays names ender Name b h =
    let is : is_name_character names b ≡ true = is-name (is_letter b) (is_digit b) (is_marked names.start b) (is_marked names.more b) h in
    record { same = rw is refl; unended-here = no-end names ender b is }
stays names ender (Literal q) b h = record { same = rw (other (b == q) h) refl; unended-here = refl }
stays names ender Comment b h = record { same = rw (other (b == 45) h) refl; unended-here = refl }
stays names ender Between b h = never-true h
stays names ender Minus b h = never-true h
stays names ender CommentMinus b h = never-true h

unended : (t : Bool) (o : Option ℕ) → t ≡ false → (if t then Some 1 else later 1 o) ≡ later 1 o
unended true o h = never-true (sym h)
unended false o h = refl

drop-one : (k b : ℕ) (xs : List ℕ) → drop (1 + k) (b ∷ xs) ≡ drop k xs
drop-one k b xs = let e : 1 + k ≡ suc k = omega arith in rw e refl

-- the end is as many bytes later as stay
abbrev IsRun : NameSet → Ender → Inside → List ℕ → Type 0
IsRun names ender inside xs =
    end_after names ender inside xs ≡ later (prefix_len (stays_in inside) xs) (end_after names ender inside (drop (prefix_len (stays_in inside) xs) xs))

run-by : (names : NameSet) (ender : Ender) (inside : Inside) (b : ℕ) (xs : List ℕ) (t : Bool) → stays_in inside b ≡ t
    → IsRun names ender inside xs → IsRun names ender inside (b ∷ xs)
run-by names ender inside b xs false is more = rw is (later-none (end_after names ender inside (b ∷ xs)))
run-by names ender inside b xs true is more =
    let s = stays names ender inside b is in
    let k : ℕ = prefix_len (stays_in inside) xs in
    let first : end_after names ender inside (b ∷ xs) ≡ later 1 (end_after names ender (inside_after names inside b) xs) =
    unended (is_outside inside && ends_declaration ender b) (end_after names ender (inside_after names inside b) xs) s.unended-here in
    let rest : end_after names ender inside (b ∷ xs) ≡ later (1 + k) (end_after names ender inside (drop (1 + k) (b ∷ xs))) =
    first
    ∙ ap (λ (x : Inside). later 1 (end_after names ender x xs)) s.same
    ∙ ap (later 1) more
    ∙ later-later 1 k (end_after names ender inside (drop k xs))
    ∙ ap (λ (ys : List ℕ). later (1 + k) (end_after names ender inside ys)) (sym (drop-one k b xs)) in
    rw is rest

pub run : (names : NameSet) (ender : Ender) (inside : Inside) (xs : List ℕ) → IsRun names ender inside xs
run names ender inside [] = refl
run names ender inside (b ∷ xs) = run-by names ender inside b xs (stays_in inside b) refl (run names ender inside xs)

next-one : (i : ℕ) → suc i ≡ i + 1
next-one i = omega arith

more-bytes : (i n : ℕ) → (i + 1) + n ≡ i + (1 + n)
more-bytes i n = omega arith

-- one byte more, and those that stay with it
pub step : (names : NameSet) (ender : Ender) (inside : Inside) (xs : List ℕ) (i : ℕ) → i < length xs
    → (is_outside inside && ends_declaration ender (slice_index_or xs i 0)) ≡ false
    → (next : Inside) → next ≡ inside_after names inside (slice_index_or xs i 0)
    → (n : ℕ) → n ≡ prefix_len (stays_in next) (drop (i + 1) xs)
    → end_after names ender inside (drop i xs) ≡ later (1 + n) (end_after names ender next (drop (i + (1 + n)) xs))
step names ender inside xs i within unended-here next is n count =
    let b : ℕ = slice_index_or xs i 0 in
    let ys : List ℕ = drop (i + 1) xs in
    let at : drop i xs ≡ b ∷ ys = drop-cons xs i 0 within ∙ ap (λ (m : ℕ). b ∷ drop m xs) (next-one i) in
    ap (end_after names ender inside) at
    ∙ unended (is_outside inside && ends_declaration ender b) (end_after names ender (inside_after names inside b) ys) unended-here
    ∙ ap (λ (x : Inside). later 1 (end_after names ender x ys)) (sym is)
    ∙ ap (later 1) (run names ender next ys)
    ∙ ap (λ (m : ℕ). later 1 (later m (end_after names ender next (drop m ys)))) (sym count)
    ∙ later-later 1 n (end_after names ender next (drop n ys))
    ∙ ap (λ (zs : List ℕ). later (1 + n) (end_after names ender next zs)) (drop-drop n (i + 1) xs ∙ ap (λ (m : ℕ). drop m xs) (more-bytes i n))
