-- No string at the head of a text is longer than the one that is told, and no two have one length.
use Rattle.std.proofs.Common.{arith, ◌∙◌, ap, sym, refl, subst, ◌≡◌, ◌≤◌, ◌+◌, ◌==◌, ℕ, suc, zero, Bool, true, false, if◌then◌else◌, List, [], ◌∷◌, ◌++◌, length, take, append-nil, append_assoc, length-append, Option, Some, None}
use Rattle.std.proofs.lemmas.List.{take_at}
use Rattle.std.specs.Prelude.{slice_get}
use Rattle.sgml_shortref.specs.Strings.{Mark, Is, Blanks, is_blank, strings, AllBlank, Spells, Matches, AtLeast}
use Rattle.sgml_shortref.specs.Matches.{blanks, next_after, is_record_end, after_start, from_blank, hyphens, answer_from, answer}
use Rattle.sgml_shortref.specs.declared.matching.Next.{Next}
use Rattle.sgml_shortref.specs.declared.matching.Next.TheVariants.{Border, RecordEnd, Other}

false-true : {b : Bool} → b ≡ false → b ≡ true → ⊥
false-true p q = cc

-- what is told of a word of this string, alone and in any text
abbrev Told : ℕ → List Mark → Type 0
Told i marks = (word : List ℕ) → Spells marks word → (answer word ≡ Some (i, length word)) × ((rest : List ℕ) → AtLeast (length word) (answer (word ++ rest)))

abbrev Each : ℕ → List (List Mark) → Type 0
Each i [] = Unit {0}
Each i (marks ∷ more) = Told i marks × Each (i + 1) more

some-marks : (marks other : List Mark) → Some other ≡ Some marks → other ≡ marks
some-marks marks other e = ap (λ o. some_or o) e
  where
    some_or : Option (List Mark) → List Mark
    some_or (Some z) = z
    some_or None = marks

none-marks : (marks : List Mark) (o : Option (List Mark)) → o ≡ None → o ≡ Some marks → ⊥
none-marks marks o d e = cc

told-at : (i : ℕ) (all : List (List Mark)) (k : ℕ) (marks : List Mark) → Each i all → slice_get all k ≡ Some marks → Told (i + k) marks
told-at i [] k marks each e = absurd (none-marks marks None refl e)
told-at i (first ∷ more) zero marks each e =
    let at : i ≡ i + zero = omega arith in
    subst (λ n. Told n marks) at (subst (λ m. Told i m) (some-marks marks first e) each.0)
told-at i (first ∷ more) (suc k) marks each e =
    let at : (i + 1) + k ≡ i + suc k = omega arith in
    subst (λ n. Told n marks) at (told-at (i + 1) more k marks each.1 e)

-- strings of one and of two bytes
abbrev of-word : ℕ → List ℕ → Type 0
of-word i word = (answer word ≡ Some (i, length word)) × ((rest : List ℕ) → AtLeast (length word) (answer (word ++ rest)))

one-byte : (c i : ℕ) → of-word i (c ∷ []) → Told i (Is c ∷ [])
one-byte c i told word (rest, is, end) =
    subst (of-word i) (sym (is ∙ ap (λ r. c ∷ r) end)) told

two-bytes : (c d i : ℕ) → of-word i (c ∷ d ∷ []) → Told i (Is c ∷ Is d ∷ [])
two-bytes c d i told word (rest, is, (last, step, end)) =
    subst (of-word i) (sym (is ∙ ap (λ r. c ∷ r) (step ∙ ap (λ r. d ∷ r) end))) told

sign : (c i : ℕ) → ((rest : List ℕ) → answer (c ∷ rest) ≡ Some (i, 1)) → Told i (Is c ∷ [])
sign c i told = one-byte c i (told [], λ rest. ((i, 1), told rest, omega arith))

-- runs of blanks
run-blanks : (run rest : List ℕ) → AllBlank run → blanks (run ++ rest) ≡ length run + blanks rest
run-blanks [] rest h = omega arith
run-blanks (b ∷ run) rest h =
    let more : blanks (run ++ rest) ≡ length run + blanks rest = run-blanks run rest h.1 in
    ap (λ t. if t then 1 + blanks (run ++ rest) else 0) h.0 ∙ omega arith

run-next : (run rest : List ℕ) → AllBlank run → next_after (run ++ rest) ≡ next_after rest
run-next [] rest h = refl
run-next (b ∷ run) rest h =
    ap (λ t. if t then next_after (run ++ rest) else if b == 13 then RecordEnd else Other) h.0 ∙ run-next run rest h.1

abbrev second : ℕ × ℕ → ℕ
second p = p.1

start-least-by : (t u : Bool) (k : ℕ) → (t ≡ true → k ≡ 0) → k + 1 ≤ second (if u then (if t then (4, 2) else (5, k + 2)) else if t then (2, 1) else (3, k + 1))
start-least-by true true k e = let z : k ≡ 0 = e refl in omega arith
start-least-by true false k e = let z : k ≡ 0 = e refl in omega arith
start-least-by false true k e = omega arith
start-least-by false false k e = omega arith

is-zero : (k : ℕ) → (k == 0) ≡ true → k ≡ 0
is-zero k e = grind arith

start-least : (k : ℕ) (next : Next) → k + 1 ≤ second (after_start k next)
start-least k next = start-least-by (k == 0) (is_record_end next) k (is-zero k)

blank-least-by : (t u v : Bool) (k : ℕ) → (t ≡ true → k ≡ 0) → k + 1 ≤ second (if u then (6, k + 2) else if t then (if v then (0, 1) else (7, 1)) else (8, k + 1))
blank-least-by t true v k e = omega arith
blank-least-by true false true k e = let z : k ≡ 0 = e refl in omega arith
blank-least-by true false false k e = let z : k ≡ 0 = e refl in omega arith
blank-least-by false false v k e = omega arith

blank-least : (b k : ℕ) (next : Next) → k + 1 ≤ second (from_blank b k next)
blank-least b k next = blank-least-by (k == 0) (is_record_end next) (b == 9) k (is-zero k)

blank-no-start : (b : ℕ) → is_blank b ≡ true → (b == 10) ≡ false
blank-no-start b e = grind arith

blank-answer : (b : ℕ) (bytes : List ℕ) → is_blank b ≡ true → answer (b ∷ bytes) ≡ Some (from_blank b (blanks bytes) (next_after bytes))
blank-answer b bytes e =
    ap (λ t. answer_from t (is_blank b) (b == 45) b bytes) (blank-no-start b e)
    ∙ ap (λ t. answer_from false t (b == 45) b bytes) e

more-than-none : (k : ℕ) → 1 ≤ k → (k == 0) ≡ false
more-than-none k l = grind arith

start-least-text : (n : ℕ) (bytes : List ℕ) → n ≤ blanks bytes + 1 → AtLeast n (answer (10 ∷ bytes))
start-least-text n bytes l =
    let least : blanks bytes + 1 ≤ second (after_start (blanks bytes) (next_after bytes)) = start-least (blanks bytes) (next_after bytes) in
    (after_start (blanks bytes) (next_after bytes), refl, omega arith)

blank-least-text : (b n : ℕ) (bytes : List ℕ) → is_blank b ≡ true → n ≤ blanks bytes + 1 → AtLeast n (answer (b ∷ bytes))
blank-least-text b n bytes e l =
    let least : blanks bytes + 1 ≤ second (from_blank b (blanks bytes) (next_after bytes)) = blank-least b (blanks bytes) (next_after bytes) in
    (from_blank b (blanks bytes) (next_after bytes), blank-answer b bytes e, omega arith)

-- the strings that begin with RS
rs : Told 2 (Is 10 ∷ [])
rs = one-byte 10 2 (refl, λ rest. start-least-text 1 rest (omega arith))

rs-re : Told 4 (Is 10 ∷ Is 13 ∷ [])
rs-re = two-bytes 10 13 4 (refl, λ rest. ((4, 2), refl, omega arith))

after-run : (k : ℕ) (next : Next) → 1 ≤ k → is_record_end next ≡ false → after_start k next ≡ (3, k + 1)
after-run k next l e =
    ap (λ t. if t then (if k == 0 then (4, 2) else (5, k + 2)) else if k == 0 then (2, 1) else (3, k + 1)) e
    ∙ ap (λ t. if t then (2, 1) else (3, k + 1)) (more-than-none k l)

ended-run : (k : ℕ) → 1 ≤ k → after_start k RecordEnd ≡ (5, k + 2)
ended-run k l = ap (λ t. if t then (4, 2) else (5, k + 2)) (more-than-none k l)

rs-b-run : (run : List ℕ) → 1 ≤ length run → AllBlank run → of-word 3 (10 ∷ run)
rs-b-run run l h =
    let n : length run + 1 ≡ suc (length run) = omega arith in
    let none : blanks run ≡ length run = ap blanks (sym (append-nil run)) ∙ run-blanks run [] h ∙ omega arith in
    let end : next_after run ≡ Border = ap next_after (sym (append-nil run)) ∙ run-next run [] h in (
      ap (λ k. Some (after_start k (next_after run))) none
          ∙ ap (λ next. Some (after_start (length run) next)) end
          ∙ ap Some (after-run (length run) Border l refl)
          ∙ ap (λ k. Some (3, k)) n,
      λ rest.
          let more : blanks (run ++ rest) ≡ length run + blanks rest = run-blanks run rest h in
          start-least-text (suc (length run)) (run ++ rest) (omega arith),
    )

rs-b : Told 3 (Is 10 ∷ Blanks 1 ∷ [])
rs-b word (tail, is, (run, rest, step, l, h, end)) =
    subst (of-word 3) (sym (is ∙ ap (λ r. 10 ∷ r) (step ∙ ap (λ r. run ++ r) end ∙ append-nil run))) (rs-b-run run l h)

rs-b-re-run : (run rest : List ℕ) → 1 ≤ length run → AllBlank run → answer (10 ∷ (run ++ (13 ∷ rest))) ≡ Some (5, length run + 2)
rs-b-re-run run rest l h =
    let k : blanks (run ++ (13 ∷ rest)) ≡ length run = run-blanks run (13 ∷ rest) h ∙ omega arith in
    ap (λ k. Some (after_start k (next_after (run ++ (13 ∷ rest))))) k
    ∙ ap (λ next. Some (after_start (length run) next)) (run-next run (13 ∷ rest) h)
    ∙ ap Some (ended-run (length run) l)

run-length : (run : List ℕ) → length (run ++ (13 ∷ [])) ≡ length run + 1
run-length run = length-append run (13 ∷ [])

rs-b-re-word : (run : List ℕ) → 1 ≤ length run → AllBlank run → of-word 5 (10 ∷ (run ++ (13 ∷ [])))
rs-b-re-word run l h =
    let n : length run + 2 ≡ suc (length (run ++ (13 ∷ []))) = let m : length (run ++ (13 ∷ [])) ≡ length run + 1 = run-length run in omega arith in (
      rs-b-re-run run [] l h ∙ ap (λ k. Some (5, k)) n,
      λ rest. (
        (5, length run + 2),
        ap (λ r. answer (10 ∷ r)) (append_assoc run (13 ∷ []) rest) ∙ rs-b-re-run run rest l h,
        omega (arith, n),
      ),
    )

rs-b-re : Told 5 (Is 10 ∷ Blanks 1 ∷ Is 13 ∷ [])
rs-b-re word (tail, is, (run, rest, step, l, h, (last, re, end))) =
    subst (of-word 5) (sym (is ∙ ap (λ r. 10 ∷ r) (step ∙ ap (λ r. run ++ r) (re ∙ ap (λ r. 13 ∷ r) end)))) (rs-b-re-word run l h)

-- the strings that begin with a blank
tab : Told 0 (Is 9 ∷ [])
tab = one-byte 9 0 (refl, λ rest. blank-least-text 9 1 rest refl (omega arith))

space : Told 7 (Is 32 ∷ [])
space = one-byte 32 7 (refl, λ rest. blank-least-text 32 1 rest refl (omega arith))

b-re-run : (b : ℕ) (run rest : List ℕ) → is_blank b ≡ true → AllBlank run → answer (b ∷ (run ++ (13 ∷ rest))) ≡ Some (6, length run + 2)
b-re-run b run rest e h =
    let k : blanks (run ++ (13 ∷ rest)) ≡ length run = run-blanks run (13 ∷ rest) h ∙ omega arith in
    blank-answer b (run ++ (13 ∷ rest)) e
    ∙ ap (λ k. Some (from_blank b k (next_after (run ++ (13 ∷ rest))))) k
    ∙ ap (λ next. Some (from_blank b (length run) next)) (run-next run (13 ∷ rest) h)

b-re-word : (run : List ℕ) → 1 ≤ length run → AllBlank run → of-word 6 (run ++ (13 ∷ []))
b-re-word [] l h = absurd (omega arith)
b-re-word (b ∷ run) l h =
    let n : length run + 2 ≡ suc (length (run ++ (13 ∷ []))) = let m : length (run ++ (13 ∷ [])) ≡ length run + 1 = run-length run in omega arith in (
      b-re-run b run [] h.0 h.1 ∙ ap (λ k. Some (6, k)) n,
      λ rest. (
        (6, length run + 2),
        ap (λ r. answer (b ∷ r)) (append_assoc run (13 ∷ []) rest) ∙ b-re-run b run rest h.0 h.1,
        omega (arith, n),
      ),
    )

b-re : Told 6 (Blanks 1 ∷ Is 13 ∷ [])
b-re word (run, rest, is, l, h, (last, re, end)) =
    subst (of-word 6) (sym (is ∙ ap (λ r. run ++ r) (re ∙ ap (λ r. 13 ∷ r) end))) (b-re-word run l h)

bb-word : (run : List ℕ) → 2 ≤ length run → AllBlank run → of-word 8 run
bb-word [] l h = absurd (omega arith)
bb-word (b ∷ run) l h =
    let none : blanks run ≡ length run = ap blanks (sym (append-nil run)) ∙ run-blanks run [] h.1 ∙ omega arith in
    let end : next_after run ≡ Border = ap next_after (sym (append-nil run)) ∙ run-next run [] h.1 in
    let some : 1 ≤ length run = omega arith in
    let n : length run + 1 ≡ suc (length run) = omega arith in (
      blank-answer b run h.0
          ∙ ap (λ k. Some (from_blank b k (next_after run))) none
          ∙ ap (λ next. Some (from_blank b (length run) next)) end
          ∙ ap (λ t. Some (if t then (if b == 9 then (0, 1) else (7, 1)) else (8, length run + 1))) (more-than-none (length run) some)
          ∙ ap (λ k. Some (8, k)) n,
      λ rest.
          let more : blanks (run ++ rest) ≡ length run + blanks rest = run-blanks run rest h.1 in
          blank-least-text b (suc (length run)) (run ++ rest) h.0 (omega arith),
    )

bb : Told 8 (Blanks 2 ∷ [])
bb word (run, rest, is, l, h, end) =
    subst (of-word 8) (sym (is ∙ ap (λ r. run ++ r) end ∙ append-nil run)) (bb-word run l h)

-- the hyphens
hyphen-least-by : (t : Bool) → 1 ≤ second (if t then (19, 2) else (18, 1))
hyphen-least-by true = omega arith
hyphen-least-by false = omega arith

hyphen-least : (rest : List ℕ) → 1 ≤ second (hyphens rest)
hyphen-least [] = omega arith
hyphen-least (b ∷ rest) = hyphen-least-by (b == 45)

hyphen : Told 18 (Is 45 ∷ [])
hyphen = one-byte 45 18 (refl, λ rest. (hyphens rest, refl, hyphen-least rest))

two-hyphens : Told 19 (Is 45 ∷ Is 45 ∷ [])
two-hyphens = two-bytes 45 45 19 (refl, λ rest. ((19, 2), refl, omega arith))

each-from-16 : Each 16 ((Is 43 ∷ []) ∷ (Is 44 ∷ []) ∷ (Is 45 ∷ []) ∷ (Is 45 ∷ Is 45 ∷ []) ∷ (Is 58 ∷ []) ∷ (Is 59 ∷ [])
    ∷ (Is 61 ∷ []) ∷ (Is 64 ∷ []) ∷ (Is 91 ∷ []) ∷ (Is 93 ∷ []) ∷ (Is 94 ∷ []) ∷ (Is 95 ∷ []) ∷ (Is 123 ∷ [])
    ∷ (Is 124 ∷ []) ∷ (Is 125 ∷ []) ∷ (Is 126 ∷ []) ∷ [])
each-from-16 =
    (sign 43 16 (λ rest. refl), (sign 44 17 (λ rest. refl), (hyphen, (two-hyphens, (sign 58 20 (λ rest. refl), (sign 59 21 (λ rest. refl), (sign 61 22 (λ rest. refl), (sign 64 23 (λ rest. refl), (sign 91 24 (λ rest. refl), (sign 93 25 (λ rest. refl), (sign 94 26 (λ rest. refl), (sign 95 27 (λ rest. refl), (sign 123 28 (λ rest. refl), (sign 124 29 (λ rest. refl), (sign 125 30 (λ rest. refl), (sign 126 31 (λ rest. refl), tt))))))))))))))))

each : Each 0 strings
each =
    (tab, (sign 13 1 (λ rest. refl), (rs, (rs-b, (rs-re, (rs-b-re, (b-re, (space, (bb, (sign 34 9 (λ rest. refl), (sign 35 10 (λ rest. refl), (sign 37 11 (λ rest. refl), (sign 39 12 (λ rest. refl), (sign 40 13 (λ rest. refl), (sign 41 14 (λ rest. refl), (sign 42 15 (λ rest. refl), each-from-16))))))))))))))))

told : (number : ℕ) (marks : List Mark) → slice_get strings number ≡ Some marks → Told number marks
told number marks e =
    let at : 0 + number ≡ number = omega arith in
    subst (λ n. Told n marks) at (told-at 0 strings number marks each e)

pub matched-longest : (text : List ℕ) (number n : ℕ) → Matches text number n → AtLeast n (answer text)
matched-longest text number n m =
    subst (λ k. AtLeast k (answer text)) (sym m.as_long)
    (subst (λ t. AtLeast (length m.word) (answer t)) (sym m.begins) ((told number m.marks m.is_string m.word m.spelled).1 m.rest))

same-number : (a b : ℕ × ℕ) → Some a ≡ Some b → a.0 ≡ b.0
same-number a b e = ap first_or e
  where
    first_or : Option (ℕ × ℕ) → ℕ
    first_or (Some p) = p.0
    first_or None = 0

same-word : (text : List ℕ) (n : ℕ) (word rest : List ℕ) → text ≡ word ++ rest → n ≡ length word → take n text ≡ word
same-word text n word rest is long = ap (take n) is ∙ take_at word rest n (sym long)

pub matched-once : (text : List ℕ) (number other n : ℕ) → Matches text number n → Matches text other n → number ≡ other
matched-once text number other n a b =
    same-number (number, length a.word) (other, length b.word)
    (sym (told number a.marks a.is_string a.word a.spelled).0
    ∙ ap answer (sym (same-word text n a.word a.rest a.begins a.as_long) ∙ same-word text n b.word b.rest b.begins b.as_long)
    ∙ (told other b.marks b.is_string b.word b.spelled).0)
