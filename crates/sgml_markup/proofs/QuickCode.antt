-- What a text begins with, by the lengths of its runs.
use Rattle.std.proofs.Common.{◌≡◌, ℕ, ◌+◌, ◌<◌, Bool, true, false, not, List, [], ◌∷◌, ◌++◌, length, take, drop, refl, sym, ◌∙◌, ap, subst, if◌then◌else◌, ◌==◌, ◌&&◌, ◌||◌, arith, append_assoc, length-append, drop-drop}
use Rattle.std.specs.List.{list_all}
use Rattle.std.proofs.lemmas.Bool.{eqb-true}
use Rattle.std.proofs.lemmas.Bool.Decides.{nat_tests}
use Rattle.sgml_text.specs.NameCharacters.{is_name_character, is_name_of}
use Rattle.sgml_syntax.specs.declared.syntax.Syntax.{Syntax}
use Rattle.sgml_text.specs.Characters.{is_separator, is_sgml_character, is_quote}
use Rattle.sgml_markup.specs.Forms.{begins_tagc}
use Rattle.sgml_markup.specs.References.{run_of, has_wrong_number, has_wrong_length, too_long}
use Rattle.sgml_markup.specs.TagForm.{Value.Quoted, Value.Unquoted, Specification, Specification.Named, spell_value, spell, spell_all, has_bytes, is_token, ends_quoted, AllStand, gap_of}
use Rattle.sgml_markup.specs.QuickTags.{is_calm, IsFine, begins_with, begins_start, BeginsName, BeginsValue, BeginsAttribute, BeginsSpecification, EndsQuickly, IsQuickTag}
use Rattle.sgml_delim.proofs.Deciding.{true-false, and-left, and-right}
use Rattle.sgml_markup.proofs.FormSteps.{start-is-name}
use Rattle.sgml_markup.proofs.Quiet.{quiet-number, quiet-length, run-taken}
use Rattle.sgml_markup.proofs.FormMarkup.{drop-front}

-- the run that a text begins with
pub run-split : (test : ℕ → Bool) (bytes : List ℕ) → bytes ≡ run_of test bytes ++ drop (length (run_of test bytes)) bytes
run-split test [] = refl
run-split test (b ∷ bytes) = by_test (test b) (run-split test bytes)
  where
    by_test : (t : Bool) → bytes ≡ run_of test bytes ++ drop (length (run_of test bytes)) bytes
        → b ∷ bytes ≡ (if t then b ∷ run_of test bytes else []) ++ drop (length (if t then b ∷ run_of test bytes else [])) (b ∷ bytes)
    by_test true h = ap (λ xs. b ∷ xs) h
    by_test false h = refl

pub run-passes : (test : ℕ → Bool) (bytes : List ℕ) → list_all test (run_of test bytes) ≡ true
run-passes test [] = refl
run-passes test (b ∷ bytes) = by_test (test b) refl (run-passes test bytes)
  where
    by_test : (t : Bool) → test b ≡ t → list_all test (run_of test bytes) ≡ true → list_all test (if t then b ∷ run_of test bytes else []) ≡ true
    by_test true p h = ap (λ t. t && list_all test (run_of test bytes)) p ∙ h
    by_test false p h = refl

run-split-at : (test : ℕ → Bool) (n : ℕ) (bytes : List ℕ) → n ≡ length (run_of test bytes) → bytes ≡ run_of test bytes ++ drop n bytes
run-split-at test n bytes e = run-split test bytes ∙ ap (λ k. run_of test bytes ++ drop k bytes) (sym e)

all-other : (test other : ℕ → Bool) → ((b : ℕ) → test b ≡ true → other b ≡ true) → (xs : List ℕ) → list_all test xs ≡ true → list_all other xs ≡ true
all-other test other f [] h = refl
all-other test other f (b ∷ xs) h =
    ap (λ t. t && list_all other xs) (f b (and-left (test b) (list_all test xs) h))
    ∙ all-other test other f xs (and-right (test b) (list_all test xs) h)

-- a text without its quote and `&`
calm-sgml : (q b : ℕ) → is_calm q b ≡ true → is_sgml_character b ≡ true
calm-sgml q b e = and-right (not (b == q)) (is_sgml_character b) (and-left (not (b == q) && is_sgml_character b) (not (b == 38)) e)

calm-other : (q b : ℕ) → is_calm q b ≡ true → (38 == b) ≡ false
calm-other q b e = other b (and-right (not (b == q) && is_sgml_character b) (not (b == 38)) e)
  where
    other : (b : ℕ) → not (b == 38) ≡ true → (38 == b) ≡ false
    other b e = grind (arith, nat_tests)

calm-fine : (s : Syntax) (q : ℕ) (text : List ℕ) → list_all (is_calm q) text ≡ true → IsFine s text
calm-fine s q [] h = record { sgml = refl; number = refl; short = refl }
calm-fine s q (b ∷ text) h =
    let first = and-left (is_calm q b) (list_all (is_calm q) text) h in
    let rest = calm-fine s q text (and-right (is_calm q b) (list_all (is_calm q) text) h) in
    record {
      sgml = ap (λ t. t && list_all is_sgml_character text) (calm-sgml q b first) ∙ rest.sgml;
      number = ap (λ t. t || has_wrong_number s text) (quiet-number s b text (calm-other q b first)) ∙ rest.number;
      short = ap (λ t. t || has_wrong_length s text) (quiet-length s b text (calm-other q b first)) ∙ rest.short;
    }

begins-is : (c : ℕ) (bytes : List ℕ) → begins_with c bytes ≡ true → bytes ≡ c ∷ drop 1 bytes
begins-is c [] h = absurd (true-false h)
begins-is c (b ∷ bytes) h = ap (λ x. x ∷ bytes) (eqb-true b c h)

pub tagc-is : (bytes : List ℕ) → begins_tagc bytes ≡ true → bytes ≡ 62 ∷ drop 1 bytes
tagc-is [] h = absurd (true-false h)
tagc-is (b ∷ bytes) h = ap (λ x. x ∷ bytes) (eqb-true b 62 h)

some-bytes : (xs : List ℕ) (n : ℕ) → n ≡ length xs → 0 < n → has_bytes xs ≡ true
some-bytes [] n e h = absurd (omega (arith, e, h))
some-bytes (x ∷ xs) n e h = refl

-- a literal up to its quote
quoted-begins : (s : Syntax) (test : ℕ → Bool) (q n : ℕ) (text rest : List ℕ) → is_quote q ≡ true → begins_with q text ≡ true → rest ≡ drop 1 text
    → ((b : ℕ) → test b ≡ true → not (b == q) ≡ true) → n ≡ length (run_of test rest) → begins_with q (drop n rest) ≡ true
    → IsFine s (run_of test rest) → BeginsValue s text (1 + (n + 1))
quoted-begins s test q n text rest quote begins is other e ends fine =
    let run = run_of test rest in
    let len = length-append run (q ∷ []) in
    record {
      value = Quoted q run;
      rest = drop 1 (drop n rest);
      stands = (quote, all-other test (λ b. not (b == q)) other run (run-passes test rest));
      quick = fine;
      is = begins-is q text begins
          ∙ ap (λ xs. q ∷ xs) (sym is ∙ run-split-at test n rest e ∙ ap (λ xs. run ++ xs) (begins-is q (drop n rest) ends)
          ∙ sym (append_assoc run (q ∷ []) (drop 1 (drop n rest))));
      size = omega (arith, e, len);
    }

pub literal-begins : (s : Syntax) (q n : ℕ) (text rest : List ℕ) → is_quote q ≡ true → begins_with q text ≡ true → rest ≡ drop 1 text
    → n ≡ length (run_of (is_calm q) rest) → begins_with q (drop n rest) ≡ true → BeginsValue s text (1 + (n + 1))
literal-begins s q n text rest quote begins is e ends =
    quoted-begins s (is_calm q) q n text rest quote begins is
    (λ b h. and-left (not (b == q)) (is_sgml_character b) (and-left (not (b == q) && is_sgml_character b) (not (b == 38)) h)) e ends
    (calm-fine s q (run_of (is_calm q) rest) (run-passes (is_calm q) rest))

pub judged-begins : (s : Syntax) (q n : ℕ) (text rest : List ℕ) → is_quote q ≡ true → begins_with q text ≡ true → rest ≡ drop 1 text
    → n ≡ length (run_of (λ b. not (b == q)) rest) → begins_with q (drop n rest) ≡ true → IsFine s (take n rest)
    → BeginsValue s text (1 + (n + 1))
judged-begins s q n text rest quote begins is e ends fine =
    quoted-begins s (λ b. not (b == q)) q n text rest quote begins is (λ b h. h) e ends
    (subst (IsFine s) (ap (λ k. take k rest) e ∙ run-taken (λ b. not (b == q)) rest) fine)

pub token-begins : (s : Syntax) (n : ℕ) (text : List ℕ) → n ≡ length (run_of (is_name_character s.names) text) → 0 < n → s.shorttag ≡ true
    → BeginsValue s text n
token-begins s n text e some short =
    let run = run_of (is_name_character s.names) text in
    record {
      value = Unquoted run;
      rest = drop n text;
      stands = (token run (some-bytes run n e some) (run-passes (is_name_character s.names) text), short);
      quick = tt;
      is = run-split-at (is_name_character s.names) n text e;
      size = e;
    }
  where
    token : (xs : List ℕ) → has_bytes xs ≡ true → list_all (is_name_character s.names) xs ≡ true → is_token s.names xs ≡ true
    token [] g h = absurd (true-false g)
    token (x ∷ xs) g h = h

pub name-begins : (s : Syntax) (n : ℕ) (text : List ℕ) → begins_start s.names text ≡ true
    → n ≡ length (run_of (is_name_character s.names) text) → too_long s n ≡ false → BeginsName s text n
name-begins s n text begins e short = record {
  name = run_of (is_name_character s.names) text;
  rest = drop n text;
  stands = named text begins;
  short = ap (too_long s) (sym e) ∙ short;
  is = run-split-at (is_name_character s.names) n text e;
  size = e;
}
  where
    named : (xs : List ℕ) → begins_start s.names xs ≡ true → is_name_of s.names (run_of (is_name_character s.names) xs) ≡ true
    named [] h = absurd (true-false h)
    named (b ∷ xs) h =
        ap (λ t. is_name_of s.names (if t then b ∷ run_of (is_name_character s.names) xs else [])) (start-is-name s.names b h)
        ∙ ap (λ t. t && list_all (is_name_character s.names) (run_of (is_name_character s.names) xs)) h
        ∙ run-passes (is_name_character s.names) xs

pub specification-begins : (s : Syntax) (gap n : ℕ) (text : List ℕ) → gap ≡ length (run_of is_separator text) → 0 < gap
    → BeginsAttribute s (drop gap text) n → BeginsSpecification s text (gap + n)
specification-begins s gap n text e some h =
    let run = run_of is_separator text in
    let value = spell_value h.value in
    let len1 = length-append run (h.name ++ 61 ∷ value) in
    let len2 = length-append h.name (61 ∷ value) in
    let size = h.size in
    record {
      specification = Named run h.name [] [] h.value;
      rest = h.rest;
      gap = some-bytes run gap e some;
      stands = (run-passes is_separator text, h.named, refl, refl, h.stands);
      quick = (h.short, h.quick);
      is = run-split-at is_separator gap text e ∙ ap (λ xs. run ++ xs) h.is ∙ sym (regroup run h.name value h.rest);
      size = omega (arith, e, len1, len2, size);
    }
  where
    regroup : (xs ys vs rs : List ℕ) → (xs ++ (ys ++ 61 ∷ vs)) ++ rs ≡ xs ++ (ys ++ 61 ∷ (vs ++ rs))
    regroup xs ys vs rs =
        append_assoc xs (ys ++ 61 ∷ vs) rs ∙ ap (λ ws. xs ++ ws) (append_assoc ys (61 ∷ vs) rs)

-- specifications up to TAGC
abbrev pub quick-end : (s : Syntax) (text : List ℕ) → begins_tagc text ≡ true → EndsQuickly s text 1
quick-end s text h = record { specifications = []; rest = drop 1 text; stand = tt; quick = tt; is = tagc-is text h; size = refl }

all-later : (s : Syntax) (free : Bool) (xs : List Specification) → AllStand s false xs → AllStand s free xs
all-later s free [] h = tt
all-later s free (x ∷ xs) h = (or-true free h.0, h.1, h.2)
  where
    or-true : (t : Bool) → has_bytes (gap_of x) ≡ true → (t || has_bytes (gap_of x)) ≡ true
    or-true true e = refl
    or-true false e = e

quick-more : (s : Syntax) (n m : ℕ) (text : List ℕ) → BeginsSpecification s text n → EndsQuickly s (drop n text) m → EndsQuickly s text (n + m)
quick-more s n m text g h =
    let x = g.specification in
    let rest : drop n text ≡ g.rest = ap (λ k. drop k text) g.size ∙ ap (drop (length (spell x))) g.is ∙ drop-front (spell x) g.rest in
    let len = length-append (spell x) (spell_all h.specifications) in
    let one = g.size in
    let two = h.size in
    record {
      specifications = x ∷ h.specifications;
      rest = h.rest;
      stand = (g.gap, g.stands, all-later s (ends_quoted x) h.specifications h.stand);
      quick = (g.quick, h.quick);
      is = g.is ∙ ap (λ xs. spell x ++ xs) (sym rest ∙ h.is) ∙ sym (append_assoc (spell x) (spell_all h.specifications) (62 ∷ h.rest));
      size = omega (arith, len, one, two);
    }

pub quick-goes-on : (s : Syntax) (at n : ℕ) (text : List ℕ) → BeginsSpecification s (drop at text) n
    → ((k : ℕ) → EndsQuickly s (drop at text) k → EndsQuickly s text (at + k))
    → (k : ℕ) → EndsQuickly s (drop (at + n) text) k → EndsQuickly s text (at + n + k)
quick-goes-on s at n text g before k h =
    let here : EndsQuickly s (drop n (drop at text)) k = subst (λ xs. EndsQuickly s xs k) (sym (drop-drop n at text)) h in
    let e : at + (n + k) ≡ at + n + k = omega arith in
    subst (EndsQuickly s text) e (before (n + k) (quick-more s n k (drop at text) g here))

pub quick-tag : (s : Syntax) (closing : Bool) (n size : ℕ) (text : List ℕ) → n ≡ length (run_of (is_name_character s.names) text) → 0 < n
    → too_long s n ≡ false → (h : EndsQuickly s (drop n text) size) → (closing ≡ true → h.specifications ≡ []) → IsQuickTag s closing text (n + size)
quick-tag s closing n size text e some short h alone =
    let run = run_of (is_name_character s.names) text in
    record {
      name = run;
      after = drop n text;
      size = size;
      named = run-passes (is_name_character s.names) text;
      some = some-bytes run n e some;
      short = ap (too_long s) (sym e) ∙ short;
      ends = h;
      alone = alone;
      is = run-split-at (is_name_character s.names) n text e;
      adds = ap (λ k. k + size) e;
    }
