-- The string that is told stands there.
use Rattle.std.proofs.Common.{arith, ◌∙◌, ap, sym, refl, subst, ◌≡◌, ◌≤◌, ◌+◌, ◌==◌, ℕ, Bool, true, false, if◌then◌else◌, List, [], ◌∷◌, ◌++◌, length, append-nil, append_assoc, length-append, Option, Some, None}
use Rattle.std.proofs.lemmas.List.{nil_from_length}
use Rattle.std.specs.Prelude.{slice_get}
use Rattle.sgml_shortref.specs.Strings.{Mark, Is, Blanks, is_blank, strings, AllBlank, Spells, Matches}
use Rattle.sgml_shortref.specs.Matches.{blanks, next_after, is_record_end, after_start, from_blank, hyphens, signs, sign_in, answer_from, answer}
use Rattle.sgml_shortref.specs.declared.matching.Next.TheVariants.{RecordEnd, Other}

false-true : {b : Bool} → b ≡ false → b ≡ true → ⊥
false-true p q = cc

equal-numbers : (a b : ℕ) → (a == b) ≡ true → a ≡ b
equal-numbers a b e = grind arith

not-zero : (k : ℕ) → (k == 0) ≡ false → 1 ≤ k
not-zero k e = grind arith

-- a text in its blanks and the rest
record Split (bytes : List ℕ) : Type 0 where
  run : List ℕ
  rest : List ℕ
  is : bytes ≡ run ++ rest
  blank : AllBlank run
  as_many : blanks bytes ≡ length run
  ended : is_record_end (next_after bytes) ≡ true → (more : List ℕ) × (rest ≡ 13 ∷ more)

record-end-by : (t : Bool) (b : ℕ) (bytes : List ℕ) → (b == 13) ≡ t → is_record_end (if t then RecordEnd else Other) ≡ true
    → (more : List ℕ) × ((b ∷ bytes) ≡ 13 ∷ more)
record-end-by true b bytes e h = (bytes, ap (λ x. x ∷ bytes) (equal-numbers b 13 e))
record-end-by false b bytes e h = absurd (false-true refl h)

split-by : (t : Bool) (b : ℕ) (bytes : List ℕ) → is_blank b ≡ t → Split bytes → Split (b ∷ bytes)
split-by true b bytes e s = record {
  run = b ∷ s.run;
  rest = s.rest;
  is = ap (λ xs. b ∷ xs) s.is;
  blank = (e, s.blank);
  as_many = ap (λ t. if t then 1 + blanks bytes else 0) e ∙ (let k : blanks bytes ≡ length s.run = s.as_many in omega arith);
  ended = λ h. s.ended (sym (ap (λ t. is_record_end (if t then next_after bytes else if b == 13 then RecordEnd else Other)) e) ∙ h);
}
split-by false b bytes e s = record {
  run = [];
  rest = b ∷ bytes;
  is = refl;
  blank = tt;
  as_many = ap (λ t. if t then 1 + blanks bytes else 0) e;
  ended = λ h. record-end-by (b == 13) b bytes refl (sym (ap (λ t. is_record_end (if t then next_after bytes else if b == 13 then RecordEnd else Other)) e) ∙ h);
}

split : (bytes : List ℕ) → Split bytes
split [] = record { run = []; rest = []; is = refl; blank = tt; as_many = refl; ended = λ h. absurd (false-true refl h) }
split (b ∷ bytes) = split-by (is_blank b) b bytes refl (split bytes)

abbrev At : List ℕ → ℕ × ℕ → Type 0
At text p = Matches text p.0 p.1

there : (text : List ℕ) (i n : ℕ) (marks : List Mark) (word rest : List ℕ) → slice_get strings i ≡ Some marks → text ≡ word ++ rest
    → Spells marks word → n ≡ length word → At text (i, n)
there text i n marks word rest is begins spelled long =
    record { marks = marks; is_string = is; word = word; rest = rest; begins = begins; spelled = spelled; as_long = long }

run-length : (run : List ℕ) → length (run ++ (13 ∷ [])) ≡ length run + 1
run-length run = length-append run (13 ∷ [])

before-end : (bytes : List ℕ) (s : Split bytes) (more : List ℕ) → s.rest ≡ 13 ∷ more → bytes ≡ (s.run ++ (13 ∷ [])) ++ more
before-end bytes s more e = s.is ∙ ap (λ r. s.run ++ r) e ∙ sym (append_assoc s.run (13 ∷ []) more)

start-by : (t u : Bool) (bytes : List ℕ) (s : Split bytes) → (blanks bytes == 0) ≡ t → is_record_end (next_after bytes) ≡ u
    → At (10 ∷ bytes) (if u then (if t then (4, 2) else (5, blanks bytes + 2)) else if t then (2, 1) else (3, blanks bytes + 1))
start-by true true bytes s e f =
    let end = s.ended f in
    let none : s.run ≡ [] = nil_from_length s.run (sym s.as_many ∙ equal-numbers (blanks bytes) 0 e) in
    there (10 ∷ bytes) 4 2 (Is 10 ∷ Is 13 ∷ []) (10 ∷ 13 ∷ []) end.0 refl
    (ap (λ r. 10 ∷ r) (s.is ∙ ap (λ r. r ++ s.rest) none ∙ end.1)) (13 ∷ [], refl, ([], refl, refl)) refl
start-by false true bytes s e f =
    let end = s.ended f in
    let some : 1 ≤ blanks bytes = not-zero (blanks bytes) e in
    let k : blanks bytes ≡ length s.run = s.as_many in
    let m : length (s.run ++ (13 ∷ [])) ≡ length s.run + 1 = run-length s.run in
    there (10 ∷ bytes) 5 (blanks bytes + 2) (Is 10 ∷ Blanks 1 ∷ Is 13 ∷ []) (10 ∷ (s.run ++ (13 ∷ []))) end.0 refl
    (ap (λ r. 10 ∷ r) (before-end bytes s end.0 end.1))
    (s.run ++ (13 ∷ []), refl, (s.run, 13 ∷ [], refl, omega arith, s.blank, ([], refl, refl))) (omega arith)
start-by true false bytes s e f =
    there (10 ∷ bytes) 2 1 (Is 10 ∷ []) (10 ∷ []) bytes refl refl ([], refl, refl) refl
start-by false false bytes s e f =
    let some : 1 ≤ blanks bytes = not-zero (blanks bytes) e in
    let k : blanks bytes ≡ length s.run = s.as_many in
    there (10 ∷ bytes) 3 (blanks bytes + 1) (Is 10 ∷ Blanks 1 ∷ []) (10 ∷ s.run) s.rest refl
    (ap (λ r. 10 ∷ r) s.is) (s.run, refl, (s.run, [], sym (append-nil s.run), omega arith, s.blank, refl)) (omega arith)

blank-is : (b : ℕ) → is_blank b ≡ true → (b == 9) ≡ false → b ≡ 32
blank-is b e f = grind arith

blank-by : (t u v : Bool) (b : ℕ) (bytes : List ℕ) (s : Split bytes) → is_blank b ≡ true → (blanks bytes == 0) ≡ t → is_record_end (next_after bytes) ≡ u → (b == 9) ≡ v
    → At (b ∷ bytes) (if u then (6, blanks bytes + 2) else if t then (if v then (0, 1) else (7, 1)) else (8, blanks bytes + 1))
blank-by t true v b bytes s h e f g =
    let end = s.ended f in
    let k : blanks bytes ≡ length s.run = s.as_many in
    let m : length (s.run ++ (13 ∷ [])) ≡ length s.run + 1 = run-length s.run in
    there (b ∷ bytes) 6 (blanks bytes + 2) (Blanks 1 ∷ Is 13 ∷ []) (b ∷ (s.run ++ (13 ∷ []))) end.0 refl
    (ap (λ r. b ∷ r) (before-end bytes s end.0 end.1))
    (b ∷ s.run, 13 ∷ [], refl, omega arith, (h, s.blank), ([], refl, refl)) (omega arith)
blank-by true false true b bytes s h e f g =
    there (b ∷ bytes) 0 1 (Is 9 ∷ []) (b ∷ []) bytes refl refl ([], ap (λ x. x ∷ []) (equal-numbers b 9 g), refl) refl
blank-by true false false b bytes s h e f g =
    there (b ∷ bytes) 7 1 (Is 32 ∷ []) (b ∷ []) bytes refl refl ([], ap (λ x. x ∷ []) (blank-is b h g), refl) refl
blank-by false false v b bytes s h e f g =
    let some : 1 ≤ blanks bytes = not-zero (blanks bytes) e in
    let k : blanks bytes ≡ length s.run = s.as_many in
    there (b ∷ bytes) 8 (blanks bytes + 1) (Blanks 2 ∷ []) (b ∷ s.run) s.rest refl
    (ap (λ r. b ∷ r) s.is) (b ∷ s.run, [], sym (append-nil (b ∷ s.run)), omega arith, (h, s.blank), refl) (omega arith)

hyphen-by : (t : Bool) (c : ℕ) (bytes : List ℕ) → (c == 45) ≡ t → At (45 ∷ c ∷ bytes) (if t then (19, 2) else (18, 1))
hyphen-by true c bytes e =
    there (45 ∷ c ∷ bytes) 19 2 (Is 45 ∷ Is 45 ∷ []) (45 ∷ c ∷ []) bytes refl refl
    (c ∷ [], refl, ([], ap (λ x. x ∷ []) (equal-numbers c 45 e), refl)) refl
hyphen-by false c bytes e = there (45 ∷ c ∷ bytes) 18 1 (Is 45 ∷ []) (45 ∷ []) (c ∷ bytes) refl refl ([], refl, refl) refl

hyphens-there : (bytes : List ℕ) → At (45 ∷ bytes) (hyphens bytes)
hyphens-there [] = there (45 ∷ []) 18 1 (Is 45 ∷ []) (45 ∷ []) [] refl refl ([], refl, refl) refl
hyphens-there (c ∷ bytes) = hyphen-by (c == 45) c bytes refl

abbrev Rows : List (ℕ × ℕ) → Type 0
Rows [] = Unit {0}
Rows (sign ∷ more) = (slice_get strings sign.1 ≡ Some (Is sign.0 ∷ [])) × Rows more

some-is : (a b : ℕ × ℕ) → Some a ≡ Some b → a ≡ b
some-is a b e = ap some_or e
  where
    some_or : Option (ℕ × ℕ) → ℕ × ℕ
    some_or (Some p) = p
    some_or None = a

none-some : (p : ℕ × ℕ) (o : Option (ℕ × ℕ)) → o ≡ None → o ≡ Some p → ⊥
none-some p o d e = cc

sign-by : (t : Bool) (c i b : ℕ) (more : List (ℕ × ℕ)) (bytes : List ℕ) (p : ℕ × ℕ) → (c == b) ≡ t → slice_get strings i ≡ Some (Is c ∷ [])
    → (sign_in more b ≡ Some p → At (b ∷ bytes) p) → (if t then Some (i, 1) else sign_in more b) ≡ Some p → At (b ∷ bytes) p
sign-by true c i b more bytes p e row rest h =
    subst (At (b ∷ bytes)) (some-is (i, 1) p h)
    (there (b ∷ bytes) i 1 (Is c ∷ []) (b ∷ []) bytes row refl ([], ap (λ x. x ∷ []) (sym (equal-numbers c b e)), refl) refl)
sign-by false c i b more bytes p e row rest h = rest h

sign-there : (table : List (ℕ × ℕ)) → Rows table → (b : ℕ) (bytes : List ℕ) (p : ℕ × ℕ) → sign_in table b ≡ Some p → At (b ∷ bytes) p
sign-there [] rows b bytes p h = absurd (none-some p None refl h)
sign-there (sign ∷ more) rows b bytes p h =
    sign-by (sign.0 == b) sign.0 sign.1 b more bytes p refl rows.0 (λ g. sign-there more rows.1 b bytes p g) h

rows : Rows signs
rows = (refl, (refl, (refl, (refl, (refl, (refl, (refl, (refl, (refl, (refl, (refl, (refl, (refl, (refl, (refl, (refl, (refl, (refl, (refl, (refl, (refl, (refl, tt))))))))))))))))))))))

from-there : (x y z : Bool) (b : ℕ) (bytes : List ℕ) (p : ℕ × ℕ) → (b == 10) ≡ x → is_blank b ≡ y → (b == 45) ≡ z
    → answer_from x y z b bytes ≡ Some p → At (b ∷ bytes) p
from-there true y z b bytes p e f g h =
    subst (At (b ∷ bytes)) (some-is (after_start (blanks bytes) (next_after bytes)) p h)
    (subst (λ c. At (c ∷ bytes) (after_start (blanks bytes) (next_after bytes))) (sym (equal-numbers b 10 e))
    (start-by (blanks bytes == 0) (is_record_end (next_after bytes)) bytes (split bytes) refl refl))
from-there false true z b bytes p e f g h =
    subst (At (b ∷ bytes)) (some-is (from_blank b (blanks bytes) (next_after bytes)) p h)
    (blank-by (blanks bytes == 0) (is_record_end (next_after bytes)) (b == 9) b bytes (split bytes) f refl refl refl)
from-there false false true b bytes p e f g h =
    subst (At (b ∷ bytes)) (some-is (hyphens bytes) p h)
    (subst (λ c. At (c ∷ bytes) (hyphens bytes)) (sym (equal-numbers b 45 g)) (hyphens-there bytes))
from-there false false false b bytes p e f g h = sign-there signs rows b bytes p h

pub told-stands : (text : List ℕ) (number n : ℕ) → answer text ≡ Some (number, n) → Matches text number n
told-stands [] number n h = absurd (none-some (number, n) (answer []) refl h)
told-stands (b ∷ bytes) number n h =
    from-there (b == 10) (is_blank b) (b == 45) b bytes (number, n) refl refl refl h
