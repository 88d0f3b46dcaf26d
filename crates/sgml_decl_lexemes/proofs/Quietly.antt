-- An end that is found at one look is the end.
use Rattle.std.proofs.Common.{◌≡◌, ℕ, zero, suc, ◌+◌, Bool, true, false, List, [], ◌∷◌, drop, take, None, Some, if◌then◌else◌, Option, refl, sym, ◌∙◌, ap, subst, ◌==◌, ◌&&◌, ◌||◌, not, arith, eq-eqb, eqb-true}
use Rattle.std.specs.List.{list_all}
use Rattle.sgml_text.specs.declared.name_set.NameSet.{NameSet}
use Rattle.sgml_text.specs.declared.reason.Reason.TheVariants as reason
use Rattle.sgml_text.specs.Characters.{is_quote, is_sgml_character, all_sgml}
use Rattle.sgml_text.specs.NameCharacters.{is_name_character}
use Rattle.sgml_decl_parts.specs.sgml_delim.declared.ends.Inside.{Inside}
use Rattle.sgml_decl_parts.specs.sgml_delim.declared.ends.Inside.TheVariants as inside
use Rattle.sgml_decl_parts.specs.sgml_delim.declared.ends.Ender.{Ender}
use Rattle.sgml_decl_parts.specs.sgml_delim.declared.ends.Ender.TheVariants as ender
use Rattle.sgml_decl_parts.specs.sgml_delim.Ends.{later, inside_after, is_outside, is_doctype, ender_of, ends_declaration, end_after}
use Rattle.sgml_decl_parts.specs.Bytes.{begins_with}
use Rattle.sgml_decl_parts.specs.declared.ends.Construct.{Construct}
use Rattle.sgml_decl_parts.specs.declared.ends.Construct.TheVariants as construct
use Rattle.sgml_decl_parts.specs.Ends.{construct_end}
use Rattle.sgml_decl_lexemes.specs.Declares.{Whole, Bad, own_at, own_by}
use Rattle.sgml_decl_lexemes.specs.Quiet.{is_quiet, is_calm, begins_gap, is_gap, is_commented, is_quoted, Calm, IsComment, IsLiteral, IsQuietEnd}
use Rattle.sgml_decl_lexemes.proofs.Starting.{no-name, separator}

clash : {A : Type 0} → false ≡ true → A
clash e = absurd (never e)
  where
    never : false ≡ true → ⊥
    never e = cc

both : (t u : Bool) → (t && u) ≡ true → (t ≡ true) × (u ≡ true)
both true u h = (refl, h)
both false u h = clash h

record Quiet (b : ℕ) : Type 0 where
  sgml : is_sgml_character b ≡ true
  no-quote : is_quote b ≡ false
  no-minus : (b == 45) ≡ false
  no-mdc : (b == 62) ≡ false
  no-dso : (b == 91) ≡ false

quiet-by : (b : ℕ) (s q m c d : Bool) → is_sgml_character b ≡ s → is_quote b ≡ q → (b == 45) ≡ m → (b == 62) ≡ c → (b == 91) ≡ d → (s && not (q || m || c || d)) ≡ true → Quiet b
quiet-by b true false false false false i j k l m h = record { sgml = i; no-quote = j; no-minus = k; no-mdc = l; no-dso = m }
quiet-by b true false false false true i j k l m h = clash h
quiet-by b true false false true d i j k l m h = clash h
quiet-by b true false true c d i j k l m h = clash h
quiet-by b true true m c d i j k l n h = clash h
quiet-by b false q m c d i j k l n h = clash h

quiet-is : (b : ℕ) → is_quiet b ≡ true → Quiet b
quiet-is b h = quiet-by b (is_sgml_character b) (is_quote b) (b == 45) (b == 62) (b == 91) refl refl refl refl refl h

named-calm : (t : Bool) → is_calm (if t then inside.Name else inside.Between) ≡ true
named-calm true = refl
named-calm false = refl

stays-calm : (names : NameSet) (x : Inside) (b : ℕ) → is_calm x ≡ true → Quiet b → is_calm (inside_after names x b) ≡ true
stays-calm names inside.Between b calm q = rw (q.no-quote, q.no-minus) (named-calm (is_name_character names b))
stays-calm names inside.Name b calm q = by (is_name_character names b) refl
  where
    by : (t : Bool) → is_name_character names b ≡ t → is_calm (inside_after names inside.Name b) ≡ true
    by true e = rw e refl
    by false e = rw e (rw (q.no-quote, q.no-minus) refl)
stays-calm names _ b calm q = clash calm

outside : (x : Inside) → is_calm x ≡ true → is_outside x ≡ true
outside inside.Between h = refl
outside inside.Name h = refl
outside _ h = clash h

goes-over : (e : Ender) (b : ℕ) → Quiet b → ends_declaration e b ≡ false
goes-over ender.Mdc b q = q.no-mdc
goes-over ender.Dso b q = q.no-dso
goes-over ender.Either b q = rw (q.no-mdc, q.no-dso) refl

-- SUMS
later-later : (i j : ℕ) (o : Option ℕ) → later i (later j o) ≡ later (i + j) o
later-later i j None = refl
later-later i j (Some n) = ap Some (omega arith)

later-none : (o : Option ℕ) → o ≡ later 0 o
later-none None = refl
later-none (Some n) = ap Some (omega arith)

drop-more : (k m : ℕ) (xs : List ℕ) → drop m (drop k xs) ≡ drop (k + m) xs
drop-more zero m xs = let same : m ≡ zero + m = omega arith in ap (λ (i : ℕ). drop i xs) same
drop-more (suc k) zero [] =
    let none : List ℕ = [] in
    let same : suc (k + zero) ≡ suc k + zero = omega arith in
    ap (λ (i : ℕ). drop i none) same
drop-more (suc k) (suc m) [] =
    let none : List ℕ = [] in
    let same : suc (k + suc m) ≡ suc k + suc m = omega arith in
    ap (λ (i : ℕ). drop i none) same
drop-more (suc k) m (x ∷ xs) = let same : suc (k + m) ≡ suc k + m = omega arith in drop-more k m xs ∙ ap (λ (i : ℕ). drop i (x ∷ xs)) same

-- A RUN of quiet bytes
abbrev through : NameSet → Inside → ℕ → List ℕ → Inside
through names x zero bytes = x
through names x (suc n) [] = x
through names x (suc n) (b ∷ bytes) = through names (inside_after names x b) n bytes

run-found : (names : NameSet) (e : Ender) (x : Inside) (n : ℕ) (rest : List ℕ) → is_calm x ≡ true → list_all is_quiet (take n rest) ≡ true
    → end_after names e x rest ≡ later n (end_after names e (through names x n rest) (drop n rest))
run-found names e x zero rest calm all = later-none (end_after names e x rest)
run-found names e x (suc n) [] calm all = refl
run-found names e x (suc n) (b ∷ rest) calm all =
    let here = both (is_quiet b) (list_all is_quiet (take n rest)) all in
    let q = quiet-is b here.0 in
    let next : Inside = inside_after names x b in
    let count : 1 + n ≡ suc n = omega arith in
    rw (outside x calm, goes-over e b q)
    (ap (later 1) (run-found names e next n rest (stays-calm names x b calm q) here.1) ∙ later-later 1 n (end_after names e (through names next n rest) (drop n rest))
    ∙ ap (λ (i : ℕ). later i (end_after names e (through names next n rest) (drop n rest))) count)

run-calm : (names : NameSet) (x : Inside) (n : ℕ) (rest : List ℕ) → is_calm x ≡ true → list_all is_quiet (take n rest) ≡ true → is_calm (through names x n rest) ≡ true
run-calm names x zero rest calm all = calm
run-calm names x (suc n) [] calm all = calm
run-calm names x (suc n) (b ∷ rest) calm all =
    let here = both (is_quiet b) (list_all is_quiet (take n rest)) all in
    run-calm names (inside_after names x b) n rest (stays-calm names x b calm (quiet-is b here.0)) here.1

run-sgml : (n : ℕ) (rest : List ℕ) → list_all is_quiet (take n rest) ≡ true → all_sgml (take n rest) ≡ true
run-sgml zero rest all = refl
run-sgml (suc n) [] all = refl
run-sgml (suc n) (b ∷ rest) all =
    let here = both (is_quiet b) (list_all is_quiet (take n rest)) all in
    rw ((quiet-is b here.0).sgml) (run-sgml n rest here.1)

-- after a separator no name goes on
gap-after : (names : NameSet) (x : Inside) (b : ℕ) → is_calm x ≡ true → Quiet b → is_name_character names b ≡ false → inside_after names x b ≡ inside.Between
gap-after names inside.Between b calm q none = rw (q.no-quote, q.no-minus, none) refl
gap-after names inside.Name b calm q none = rw none (rw (q.no-quote, q.no-minus) refl)
gap-after names _ b calm q none = clash calm

through-gap : (names : NameSet) (x : Inside) (m : ℕ) (rest : List ℕ) → is_calm x ≡ true → list_all is_quiet (take (suc m) rest) ≡ true → is_gap (suc m) rest ≡ true → through names x (suc m) rest ≡ inside.Between
through-gap names x zero [] calm all gap = clash gap
through-gap names x (suc m) [] calm all gap = clash gap
through-gap names x zero (b ∷ rest) calm all gap =
    let here = both (is_quiet b) (list_all is_quiet (take zero rest)) all in
    gap-after names x b calm (quiet-is b here.0) ((separator names b gap).no-name-character)
through-gap names x (suc m) (b ∷ rest) calm all gap =
    let here = both (is_quiet b) (list_all is_quiet (take (suc m) rest)) all in
    through-gap names (inside_after names x b) m rest (stays-calm names x b calm (quiet-is b here.0)) here.1 gap

-- after what stands before
and : (t u : Bool) → t ≡ true → u ≡ true → (t && u) ≡ true
and true u a b = b
and false u a b = clash a

front-too : (k n : ℕ) (bytes : List ℕ) → all_sgml (take k bytes) ≡ true → all_sgml (take n (drop k bytes)) ≡ true → all_sgml (take (k + n) bytes) ≡ true
front-too zero n bytes f h = let same : n ≡ zero + n = omega arith in subst (λ (i : ℕ). all_sgml (take i bytes) ≡ true) same h
front-too (suc k) n [] f h =
    let none : List ℕ = [] in
    let same : suc (k + n) ≡ suc k + n = omega arith in
    subst (λ (i : ℕ). all_sgml (take i none) ≡ true) same refl
front-too (suc k) n (b ∷ bytes) f h =
    let here = both (is_sgml_character b) (all_sgml (take k bytes)) f in
    let same : suc (k + n) ≡ suc k + n = omega arith in
    subst (λ (i : ℕ). all_sgml (take i (b ∷ bytes)) ≡ true) same (and (is_sgml_character b) (all_sgml (take (k + n) bytes)) here.0 (front-too k n bytes here.1 h))

-- THE BYTE THAT ENDS
with-first : (k : ℕ) (xs : List ℕ) → begins_with k xs ≡ true → xs ≡ k ∷ drop 1 xs
with-first k [] h = clash h
with-first k (b ∷ xs) h = ap (λ (x : ℕ). x ∷ xs) (eqb-true b k h)

-- CALM BYTES
pub none-calm : (bytes : List ℕ) → Calm bytes 0
none-calm bytes = record {
  sgml = refl;
  stands = λ names. inside.Between;
  calm = λ names. refl;
  gap = λ g names. refl;
  found = λ names e. later-none (end_after names e inside.Between bytes);
}

gap-of : (bytes : List ℕ) (k m : ℕ) → is_gap (k + suc m) bytes ≡ true → is_gap (suc m) (drop k bytes) ≡ true
gap-of bytes k m g =
    let same : k + suc m ≡ suc (k + m) = omega arith in
    ap begins_gap (drop-more k m bytes) ∙ subst (λ (i : ℕ). is_gap i bytes ≡ true) same g

pub calm-run : (bytes : List ℕ) (k n : ℕ) → Calm bytes k → list_all is_quiet (take n (drop k bytes)) ≡ true → Calm bytes (k + n)
calm-run bytes k zero h all = let same : k ≡ k + 0 = omega arith in subst (Calm bytes) same h
calm-run bytes k (suc m) h all =
    let rest : List ℕ = drop k bytes in record {
      sgml = front-too k (suc m) bytes h.sgml (run-sgml (suc m) rest all);
      stands = λ names. through names (h.stands names) (suc m) rest;
      calm = λ names. run-calm names (h.stands names) (suc m) rest (h.calm names) all;
      gap = λ g names. through-gap names (h.stands names) m rest (h.calm names) all (gap-of bytes k m g);
      found = λ names e.
          h.found names e
          ∙ ap (later k) (run-found names e (h.stands names) (suc m) rest (h.calm names) all)
          ∙ later-later k (suc m) (end_after names e (through names (h.stands names) (suc m) rest) (drop (suc m) rest))
          ∙ ap (λ (ys : List ℕ). later (k + suc m) (end_after names e (through names (h.stands names) (suc m) rest) ys)) (drop-more k (suc m) bytes);
    }

-- A COMMENT
opened : (names : NameSet) (e : Ender) (body : List ℕ) → end_after names e inside.Between (45 ∷ 45 ∷ body) ≡ later 2 (end_after names e inside.Comment body)
opened names ender.Mdc body = later-later 1 1 (end_after names ender.Mdc inside.Comment body)
opened names ender.Dso body = later-later 1 1 (end_after names ender.Dso inside.Comment body)
opened names ender.Either body = later-later 1 1 (end_after names ender.Either inside.Comment body)

closed-by : (names : NameSet) (e : Ender) (body : List ℕ) → end_after names e inside.Comment (45 ∷ 45 ∷ body) ≡ later 2 (end_after names e inside.Between body)
closed-by names e body = later-later 1 1 (end_after names e inside.Between body)

record Commented (b : ℕ) : Type 0 where
  sgml : is_sgml_character b ≡ true
  no-minus : (b == 45) ≡ false

commented-by : (b : ℕ) (s m : Bool) → is_sgml_character b ≡ s → (b == 45) ≡ m → (s && not m) ≡ true → Commented b
commented-by b true false i j h = record { sgml = i; no-minus = j }
commented-by b true true i j h = clash h
commented-by b false m i j h = clash h

commented-is : (b : ℕ) → is_commented b ≡ true → Commented b
commented-is b h = commented-by b (is_sgml_character b) (b == 45) refl refl h

two-minus : (xs : List ℕ) → begins_with 45 xs ≡ true → begins_with 45 (drop 1 xs) ≡ true → xs ≡ 45 ∷ 45 ∷ drop 2 xs
two-minus [] h k = clash h
two-minus (a ∷ []) h k = clash k
two-minus (a ∷ b ∷ xs) h k = ap (λ (x : ℕ). x ∷ b ∷ xs) (eqb-true a 45 h) ∙ ap (λ (x : ℕ). 45 ∷ x ∷ xs) (eqb-true b 45 k)

comment-through : (names : NameSet) (e : Ender) (m : ℕ) (rest : List ℕ) → list_all is_commented (take m rest) ≡ true → begins_with 45 (drop m rest) ≡ true → begins_with 45 (drop 1 (drop m rest)) ≡ true
    → end_after names e inside.Comment rest ≡ later m (later 2 (end_after names e inside.Between (drop 2 (drop m rest))))
comment-through names e zero rest all h k =
    ap (end_after names e inside.Comment) (two-minus rest h k) ∙ closed-by names e (drop 2 rest) ∙ later-none (later 2 (end_after names e inside.Between (drop 2 rest)))
comment-through names e (suc m) [] all h k = clash h
comment-through names e (suc m) (b ∷ rest) all h k =
    let here = both (is_commented b) (list_all is_commented (take m rest)) all in
    let count : 1 + m ≡ suc m = omega arith in
    let left : Option ℕ = later 2 (end_after names e inside.Between (drop 2 (drop m rest))) in
    rw ((commented-is b here.0).no-minus)
    (ap (later 1) (comment-through names e m rest here.1 h k) ∙ later-later 1 m left ∙ ap (λ (i : ℕ). later i left) count)

commented-sgml : (m : ℕ) (rest : List ℕ) → list_all is_commented (take m rest) ≡ true → all_sgml (take m rest) ≡ true
commented-sgml zero rest all = refl
commented-sgml (suc m) [] all = refl
commented-sgml (suc m) (b ∷ rest) all =
    let here = both (is_commented b) (list_all is_commented (take m rest)) all in
    rw ((commented-is b here.0).sgml) (commented-sgml m rest here.1)

fourth-of : (text : ℕ) (body : List ℕ) → begins_with 45 (drop (text + 1) body) ≡ true → begins_with 45 (drop 1 (drop text body)) ≡ true
fourth-of text body h = ap (begins_with 45) (drop-more text 1 body) ∙ h

comment-found : (names : NameSet) (e : Ender) (rest : List ℕ) (n : ℕ) → IsComment rest n → end_after names e inside.Between rest ≡ later n (end_after names e inside.Between (drop n rest))
comment-found names e rest n h =
    let body : List ℕ = drop 2 rest in
    let m : ℕ = h.text in
    let size : 2 + m + 2 ≡ n = omega (arith, h.size_is) in
    let front : 2 + (m + 2) ≡ n = omega (arith, h.size_is) in
    let left : Option ℕ = end_after names e inside.Between (drop 2 (drop m body)) in
    ap (end_after names e inside.Between) (two-minus rest h.first h.second)
    ∙ opened names e body
    ∙ ap (later 2) (comment-through names e m body h.commented h.third (fourth-of m body h.fourth))
    ∙ later-later 2 m (later 2 left)
    ∙ later-later (2 + m) 2 left
    ∙ ap (λ (i : ℕ). later i left) size
    ∙ ap (λ (ys : List ℕ). later n (end_after names e inside.Between ys)) (drop-more m 2 body ∙ drop-more 2 (m + 2) rest ∙ ap (λ (i : ℕ). drop i rest) front)

two-sgml : (xs : List ℕ) → begins_with 45 xs ≡ true → begins_with 45 (drop 1 xs) ≡ true → all_sgml (take 2 xs) ≡ true
two-sgml xs h k = ap (λ (ys : List ℕ). all_sgml (take 2 ys)) (two-minus xs h k)

comment-sgml : (rest : List ℕ) (n : ℕ) → IsComment rest n → all_sgml (take n rest) ≡ true
comment-sgml rest n h =
    let body : List ℕ = drop 2 rest in
    let m : ℕ = h.text in
    let size : n ≡ 2 + (m + 2) = omega (arith, h.size_is) in
    ap (λ (i : ℕ). all_sgml (take i rest)) size
    ∙ front-too 2 (m + 2) rest (two-sgml rest h.first h.second)
    (front-too m 2 body (commented-sgml m body h.commented) (two-sgml (drop m body) h.third (fourth-of m body h.fourth)))

pub calm-comment : (bytes : List ℕ) (k n : ℕ) → Calm bytes k → is_gap k bytes ≡ true → IsComment (drop k bytes) n → Calm bytes (k + n)
calm-comment bytes k n h gap c =
    let rest : List ℕ = drop k bytes in record {
      sgml = front-too k n bytes h.sgml (comment-sgml rest n c);
      stands = λ names. inside.Between;
      calm = λ names. refl;
      gap = λ g names. refl;
      found = λ names e.
          h.found names e
          ∙ ap (λ (x : Inside). later k (end_after names e x rest)) (h.gap gap names)
          ∙ ap (later k) (comment-found names e rest n c)
          ∙ later-later k n (end_after names e inside.Between (drop n rest))
          ∙ ap (λ (ys : List ℕ). later (k + n) (end_after names e inside.Between ys)) (drop-more k n bytes);
    }

-- THE END
at-end : (names : NameSet) (e : Ender) (x : Inside) (k : ℕ) (more : List ℕ) → is_calm x ≡ true → ends_declaration e k ≡ true → end_after names e x (k ∷ more) ≡ Some 1
at-end names e x k more calm ends = rw (outside x calm, ends) refl

found-after : (names : NameSet) (e : Ender) (k run : ℕ) (rest : List ℕ) → ends_declaration e k ≡ true → Calm rest run → begins_with k (drop run rest) ≡ true
    → end_after names e inside.Between rest ≡ Some (run + 1)
found-after names e k run rest ends h b =
    h.found names e
    ∙ ap (λ (ys : List ℕ). later run (end_after names e (h.stands names) ys)) (with-first k (drop run rest) b)
    ∙ ap (later run) (at-end names e (h.stands names) k (drop 1 (drop run rest)) (h.calm names) ends)

one-sgml : (k : ℕ) (more : List ℕ) → is_sgml_character k ≡ true → all_sgml (take 1 (k ∷ more)) ≡ true
one-sgml k more sgml = rw sgml refl

sgml-after : (k run : ℕ) (rest : List ℕ) → is_sgml_character k ≡ true → Calm rest run → begins_with k (drop run rest) ≡ true → all_sgml (take (run + 1) rest) ≡ true
sgml-after k run rest sgml h b =
    front-too run 1 rest h.sgml
    (ap (λ (ys : List ℕ). all_sgml (take 1 ys)) (with-first k (drop run rest) b) ∙ one-sgml k (drop 1 (drop run rest)) sgml)

-- A LITERAL
record QuoteByte (names : NameSet) (q : ℕ) : Type 0 where
  quote : is_quote q ≡ true
  no-name-character : is_name_character names q ≡ false
  no-mdc : (q == 62) ≡ false
  no-dso : (q == 91) ≡ false
  sgml : is_sgml_character q ≡ true

quote-by : (names : NameSet) (q : ℕ) (s t : Bool) → (q == 34) ≡ s → (q == 39) ≡ t → (s || t) ≡ true → QuoteByte names q
quote-by names q true t i j h =
    subst (QuoteByte names) (sym (eqb-true q 34 i)) (record { quote = refl; no-name-character = no-name names 34 refl refl refl refl refl refl; no-mdc = refl; no-dso = refl; sgml = refl })
quote-by names q false true i j h =
    subst (QuoteByte names) (sym (eqb-true q 39 j)) (record { quote = refl; no-name-character = no-name names 39 refl refl refl refl refl refl; no-mdc = refl; no-dso = refl; sgml = refl })
quote-by names q false false i j h = clash h

quote-byte : (names : NameSet) (q : ℕ) → is_quote q ≡ true → QuoteByte names q
quote-byte names q h = quote-by names q (q == 34) (q == 39) refl refl h

quote-ends-nothing : (names : NameSet) (e : Ender) (q : ℕ) → QuoteByte names q → ends_declaration e q ≡ false
quote-ends-nothing names ender.Mdc q b = b.no-mdc
quote-ends-nothing names ender.Dso q b = b.no-dso
quote-ends-nothing names ender.Either q b = rw (b.no-mdc, b.no-dso) refl

literal-begun : (names : NameSet) (x : Inside) (q : ℕ) → is_calm x ≡ true → QuoteByte names q → inside_after names x q ≡ inside.Literal q
literal-begun names inside.Between q calm b = rw (b.quote) refl
literal-begun names inside.Name q calm b = rw (b.no-name-character) (rw (b.quote) refl)
literal-begun names _ q calm b = clash calm

literal-opened : (names : NameSet) (e : Ender) (x : Inside) (q : ℕ) (ys : List ℕ) → is_calm x ≡ true → QuoteByte names q → end_after names e x (q ∷ ys) ≡ later 1 (end_after names e (inside.Literal q) ys)
literal-opened names e x q ys calm b =
    rw (outside x calm, quote-ends-nothing names e q b) (ap (λ (y : Inside). later 1 (end_after names e y ys)) (literal-begun names x q calm b))

literal-closed : (names : NameSet) (e : Ender) (q : ℕ) (ys : List ℕ) → end_after names e (inside.Literal q) (q ∷ ys) ≡ later 1 (end_after names e inside.Between ys)
literal-closed names e q ys = let same : (q == q) ≡ true = eq-eqb q q refl in rw same refl

record Quoted (q b : ℕ) : Type 0 where
  sgml : is_sgml_character b ≡ true
  no-quote : (b == q) ≡ false

quoted-by : (q b : ℕ) (s m : Bool) → is_sgml_character b ≡ s → (b == q) ≡ m → (s && not m) ≡ true → Quoted q b
quoted-by q b true false i j h = record { sgml = i; no-quote = j }
quoted-by q b true true i j h = clash h
quoted-by q b false m i j h = clash h

quoted-is : (q b : ℕ) → is_quoted q b ≡ true → Quoted q b
quoted-is q b h = quoted-by q b (is_sgml_character b) (b == q) refl refl h

literal-through : (names : NameSet) (e : Ender) (q m : ℕ) (rest : List ℕ) → list_all (is_quoted q) (take m rest) ≡ true → begins_with q (drop m rest) ≡ true
    → end_after names e (inside.Literal q) rest ≡ later m (later 1 (end_after names e inside.Between (drop 1 (drop m rest))))
literal-through names e q zero rest all h =
    ap (end_after names e (inside.Literal q)) (with-first q rest h) ∙ literal-closed names e q (drop 1 rest) ∙ later-none (later 1 (end_after names e inside.Between (drop 1 rest)))
literal-through names e q (suc m) [] all h = clash h
literal-through names e q (suc m) (b ∷ rest) all h =
    let here = both (is_quoted q b) (list_all (is_quoted q) (take m rest)) all in
    let count : 1 + m ≡ suc m = omega arith in
    let left : Option ℕ = later 1 (end_after names e inside.Between (drop 1 (drop m rest))) in
    rw ((quoted-is q b here.0).no-quote)
    (ap (later 1) (literal-through names e q m rest here.1 h) ∙ later-later 1 m left ∙ ap (λ (i : ℕ). later i left) count)

quoted-sgml : (q m : ℕ) (rest : List ℕ) → list_all (is_quoted q) (take m rest) ≡ true → all_sgml (take m rest) ≡ true
quoted-sgml q zero rest all = refl
quoted-sgml q (suc m) [] all = refl
quoted-sgml q (suc m) (b ∷ rest) all =
    let here = both (is_quoted q b) (list_all (is_quoted q) (take m rest)) all in
    rw ((quoted-is q b here.0).sgml) (quoted-sgml q m rest here.1)

literal-found : (names : NameSet) (e : Ender) (x : Inside) (rest : List ℕ) (n : ℕ) → is_calm x ≡ true → IsLiteral rest n → end_after names e x rest ≡ later n (end_after names e inside.Between (drop n rest))
literal-found names e x rest n calm h =
    let body : List ℕ = drop 1 rest in
    let m : ℕ = h.text in
    let size : 1 + m + 1 ≡ n = omega (arith, h.size_is) in
    let front : 1 + (m + 1) ≡ n = omega (arith, h.size_is) in
    let left : Option ℕ = end_after names e inside.Between (drop 1 (drop m body)) in
    ap (end_after names e x) (with-first h.quote rest h.first)
    ∙ literal-opened names e x h.quote body calm (quote-byte names h.quote h.quote_is)
    ∙ ap (later 1) (literal-through names e h.quote m body h.quoted h.last)
    ∙ later-later 1 m (later 1 left)
    ∙ later-later (1 + m) 1 left
    ∙ ap (λ (i : ℕ). later i left) size
    ∙ ap (λ (ys : List ℕ). later n (end_after names e inside.Between ys)) (drop-more m 1 body ∙ drop-more 1 (m + 1) rest ∙ ap (λ (i : ℕ). drop i rest) front)

quote-sgml : (q : ℕ) → is_quote q ≡ true → is_sgml_character q ≡ true
quote-sgml q h = (quote-byte (record { start = []; more = [] }) q h).sgml

first-sgml : (q : ℕ) (xs : List ℕ) → is_quote q ≡ true → begins_with q xs ≡ true → all_sgml (take 1 xs) ≡ true
first-sgml q xs is h = ap (λ (ys : List ℕ). all_sgml (take 1 ys)) (with-first q xs h) ∙ one-sgml q (drop 1 xs) (quote-sgml q is)

literal-sgml : (rest : List ℕ) (n : ℕ) → IsLiteral rest n → all_sgml (take n rest) ≡ true
literal-sgml rest n h =
    let body : List ℕ = drop 1 rest in
    let m : ℕ = h.text in
    let size : n ≡ 1 + (m + 1) = omega (arith, h.size_is) in
    ap (λ (i : ℕ). all_sgml (take i rest)) size
    ∙ front-too 1 (m + 1) rest (first-sgml h.quote rest h.quote_is h.first)
    (front-too m 1 body (quoted-sgml h.quote m body h.quoted) (first-sgml h.quote (drop m body) h.quote_is h.last))

pub calm-literal : (bytes : List ℕ) (k n : ℕ) → Calm bytes k → IsLiteral (drop k bytes) n → Calm bytes (k + n)
calm-literal bytes k n h c =
    let rest : List ℕ = drop k bytes in record {
      sgml = front-too k n bytes h.sgml (literal-sgml rest n c);
      stands = λ names. inside.Between;
      calm = λ names. refl;
      gap = λ g names. refl;
      found = λ names e.
          h.found names e
          ∙ ap (later k) (literal-found names e (h.stands names) rest n (h.calm names) c)
          ∙ later-later k n (end_after names e inside.Between (drop n rest))
          ∙ ap (λ (ys : List ℕ). later (k + n) (end_after names e inside.Between ys)) (drop-more k n bytes);
    }

declaration-ends : (t : Bool) → ends_declaration (if t then ender.Either else ender.Mdc) 62 ≡ true
declaration-ends true = refl
declaration-ends false = refl

by-size : (k run n : ℕ) → n ≡ k + run + 1 → k + (run + 1) ≡ n
by-size k run n is = omega (arith, is)

pub record IsEnd (names : NameSet) (c : Construct) (bytes : List ℕ) (n : ℕ) : Type 0 where
  pub end : construct_end names c bytes ≡ Some n
  pub sgml : all_sgml (take n bytes) ≡ true

pub quiet-end : (names : NameSet) (c : Construct) (bytes : List ℕ) (n : ℕ) → IsQuietEnd c bytes n → IsEnd names c bytes n
quiet-end names construct.Declaration bytes n h =
    let rest : List ℕ = drop 2 bytes in
    let size : 2 + (h.run + 1) ≡ n = by-size 2 h.run n h.size_is in record {
      end = ap (later 2) (found-after names (ender_of names rest) 62 h.run rest (declaration-ends (is_doctype names rest)) h.calm h.ended) ∙ ap Some size;
      sgml = ap (λ (m : ℕ). all_sgml (take m bytes)) (sym size) ∙ front-too 2 (h.run + 1) bytes h.front (sgml-after 62 h.run rest refl h.calm h.ended);
    }
quiet-end names construct.SectionStart bytes n h =
    let rest : List ℕ = drop 3 bytes in
    let size : 3 + (h.run + 1) ≡ n = by-size 3 h.run n h.size_is in record {
      end = ap (later 3) (found-after names ender.Dso 91 h.run rest refl h.calm h.ended) ∙ ap Some size;
      sgml = ap (λ (m : ℕ). all_sgml (take m bytes)) (sym size) ∙ front-too 3 (h.run + 1) bytes h.front (sgml-after 91 h.run rest refl h.calm h.ended);
    }
quiet-end names construct.SubsetEnd bytes n h =
    let rest : List ℕ = drop 1 bytes in
    let size : 1 + (h.run + 1) ≡ n = by-size 1 h.run n h.size_is in record {
      end = ap (later 1) (found-after names ender.Mdc 62 h.run rest refl h.calm h.ended) ∙ ap Some size;
      sgml = ap (λ (m : ℕ). all_sgml (take m bytes)) (sym size) ∙ front-too 1 (h.run + 1) bytes h.front (sgml-after 62 h.run rest refl h.calm h.ended);
    }
quiet-end names (construct.Literal quote) bytes n h = clash h.ended

-- THE TEXT up to it
pub own-whole : (names : NameSet) (c : Construct) (grows : Bool) (at : ℕ) (text : List ℕ) (n : ℕ) → IsQuietEnd c (drop at text) n → own_at names c grows at text ≡ Whole (take (at + n) text)
own-whole names c grows at text n h =
    let e = quiet-end names c (drop at text) n h in
    ap (own_by names grows at text) e.end ∙ ap (λ (t : Bool). if t then Whole (take (at + n) text) else Bad reason.NonSgml) e.sgml
