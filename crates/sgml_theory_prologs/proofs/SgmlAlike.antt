-- An SGML declaration that is read is the same before all SGML characters, wherever the syntax outside has an end of it.
use Rattle.std.proofs.Common.{◌≡◌, ℕ, zero, suc, ◌+◌, ◌≤◌, ◌<◌, ◌⊎◌, inl, inr, Bool, true, false, ◌&&◌, ◌==◌, List, [], ◌∷◌, ◌++◌, Option, None, Some, Result, Ok, Err, length, take, map, codes, refl, sym, ap, ◌∙◌, subst, if◌then◌else◌, arith, eqb-true, length-append}
use Rattle.std.specs.List.{prefix_len, list_all}
use Rattle.std.proofs.lemmas.List.{length-take, length-map, take-append-le}
use Rattle.std.proofs.lemmas.Slice.Eq.{bytes_eq-Decides}
use Rattle.sgml_io.specs.text.declared.name_set.NameSet.{NameSet}
use Rattle.sgml_io.specs.text.NameCharacters.{is_name_character}
use Rattle.sgml_io.specs.text.Characters.{is_letter, is_word, upper, is_sgml_character, all_sgml}
use Rattle.sgml_io.specs.text.declared.reason.Reason.TheVariants as reason
use Rattle.sgml_theory_standing.specs.syntax.declared.syntax.Syntax.{Syntax}
use Rattle.sgml_theory_standing.specs.delim.declared.delim.Delim.TheVariants as d
use Rattle.sgml_theory_standing.specs.delim.declared.delim.Mode.TheVariants as m
use Rattle.sgml_theory_standing.specs.delim.declared.delim.Recognised.{Recognised}
use Rattle.sgml_theory_standing.specs.delim.declared.delim.Recognised.TheVariants as r
use Rattle.sgml_theory_standing.specs.delim.Answers as delimiters
use Rattle.sgml_theory_standing.specs.delim.Answers.{Answers}
use Rattle.sgml_theory_standing.specs.delim.Tables.{begins}
use Rattle.sgml_theory_standing.specs.delim.Ends.{declaration_end, ender_of, first_name}
use Rattle.sgml_theory_standing.specs.delim.declared.ends.Inside.TheVariants.{Between}
use Rattle.sgml_theory_standing.specs.delim.Verdicts.{prefix_verdict, recognised}
use Rattle.sgml_theory_standing.proofs.delim.Ending.{end-within}
use Rattle.sgml_theory_standing.proofs.delim.Verdicts.{recognised-answers}
use Rattle.sgml_theory_standing.specs.markup.declared.kinds.Form.TheVariants as form
use Rattle.sgml_theory_standing.specs.scan.declared.state.Scanned.{Scanned}
use Rattle.sgml_theory_standing.specs.scan.Openings.{declared_form}
use Rattle.sgml_theory_standing.specs.scan.Tokens.{closed, of_form}
use Rattle.sgml_theory_standing.specs.sgmldecl.declared.heard.Heard.{Heard}
use Rattle.sgml_theory_standing.specs.sgmldecl.declared.feature.DeclError.{DeclError}
use Rattle.sgml_theory_standing.specs.sgmldecl.Declaring.{Declares}
use Rattle.sgml_theory_standing.specs.sgmldecl.Machine.{Outcome, bad, whole, run, begin_state}
use Rattle.sgml_theory_standing.specs.sgmldecl.Refusing.{refusal_of, answer}
use Rattle.sgml_theory_standing.proofs.sgmldecl.Whole.{declared_read, read_declared}
use Rattle.sgml_theory_standing.specs.theory_reading.Pieces.{Piece, Kind, Sgml}
use Rattle.sgml_theory_standing.specs.theory_reading.Facets.{Stage, BeforeSyntax, AtBeginning, BeforeDoctype, InSubset, AfterSubset}
use Rattle.sgml_theory_standing.specs.theory_reading.ShortTags.{net_in_force}
use Rattle.sgml_theory_standing.specs.theory_reading.Unread.{Outside}
use Rattle.sgml_theory_standing.specs.theory_reading.State.{State}
use Rattle.sgml_theory_standing.specs.theory_reading.Reads.{is_after_subset}
use Rattle.sgml_theory_standing.specs.theory_spelling.Stacked.{Stacked}
use Rattle.sgml_theory_standing.specs.theory_spelling.Sized.{sized}
use Rattle.sgml_theory_standing.specs.theory_spelling.Tokens.{by_delimiter, token_at}
use Rattle.sgml_theory_standing.specs.theory_spelling.Places.{map_at, is_map, in_doctype, mode_at}
use Rattle.sgml_theory_standing.specs.theory_spelling.SgmlDeclared.{has_keyword, begins_sgml, sgml_of, sgml_by, sgml_piece}
use Rattle.sgml_theory_standing.specs.theory_spelling.Decided.{is_at_beginning, decided_token, beginning_decided, is_early_end, decided_bytes}
use Rattle.sgml_theory_standing.specs.theory_spelling.Spelled.{token_here, sgml_by_token, at_beginning, by_stage, spelled_in}
use Rattle.sgml_theory_standing.proofs.theory_spelling.Decides.{AnswerSize, answer-size}
use Rattle.sgml_theory_prologs.specs.Prologs.{is_sgml}
use Rattle.sgml_theory_prologs.proofs.Recognised.{never}
use Rattle.sgml_theory_prologs.proofs.Tokens.{ds}
use Rattle.sgml_theory_prologs.proofs.Local.{is_last, Lies, Modes, Decided, ds-state, one-answer, Run, own-run, take-front, token-run, keyword-letter, mdo-recognised, letter-apart, sgml-front, sgml-kind, plain-beginning, beginning-mode, stage-decided}

-- ALL OF A TEXT

and-parts : (t u : Bool) → (t && u) ≡ true → (t ≡ true) × (u ≡ true)
and-parts true u e = (refl, e)
and-parts false u e = never false e refl

and-true : (t u : Bool) → t ≡ true → u ≡ true → (t && u) ≡ true
and-true t u e f = λ i. e i && f i

all-append : (p : ℕ → Bool) (xs ys : List ℕ) → list_all p xs ≡ true → list_all p ys ≡ true → list_all p (xs ++ ys) ≡ true
all-append p [] ys e f = f
all-append p (x ∷ xs) ys e f =
    let q = and-parts (p x) (list_all p xs) e in
    and-true (p x) (list_all p (xs ++ ys)) q.0 (all-append p xs ys q.1 f)

all-front : (p : ℕ → Bool) (xs ys : List ℕ) → list_all p (xs ++ ys) ≡ true → list_all p xs ≡ true
all-front p [] ys e = refl
all-front p (x ∷ xs) ys e =
    let q = and-parts (p x) (list_all p (xs ++ ys)) e in
    and-true (p x) (list_all p xs) q.0 (all-front p xs ys q.1)

all-take : (p : ℕ → Bool) (n : ℕ) (xs : List ℕ) → list_all p xs ≡ true → list_all p (take n xs) ≡ true
all-take p zero xs e = refl
all-take p (suc n) [] e = refl
all-take p (suc n) (x ∷ xs) e =
    let q = and-parts (p x) (list_all p xs) e in
    and-true (p x) (list_all p (take n xs)) q.0 (all-take p n xs q.1)

-- of what is taken of a text that is longer
all-longer : (p : ℕ → Bool) (n : ℕ) (xs ys : List ℕ) → length xs ≤ n → list_all p (take n (xs ++ ys)) ≡ true → list_all p xs ≡ true
all-longer p n [] ys l e = refl
all-longer p zero (x ∷ xs) ys l e = absurd (omega (arith, l))
all-longer p (suc n) (x ∷ xs) ys l e =
    let q = and-parts (p x) (list_all p (take n (xs ++ ys))) e in
    and-true (p x) (list_all p xs) q.0 (all-longer p n xs ys (omega (arith, l)) q.1)

-- THE TOKEN of a declaration, by the end that the syntax outside has for it

found-mdo : (s : Syntax) (net : Bool) (bytes : List ℕ) (x : Recognised) → recognised s m.Ds net bytes ≡ x → x ≡ r.Found d.Mdo 2 → delimiters.answer s m.Ds net (bytes ++ []) ≡ Some d.Mdo
found-mdo s net bytes x e f =
    (subst (Answers false (delimiters.answer s m.Ds net) bytes) (e ∙ f) (recognised-answers s m.Ds net bytes)).1 [] (λ t. absurd (cc))

nothing-more : (bytes : List ℕ) → bytes ++ [] ≡ bytes
nothing-more [] = refl
nothing-more (b ∷ bytes) = ap (λ (z : List ℕ). b ∷ z) (nothing-more bytes)

mdo-answer : (s : Syntax) (net : Bool) (a : ℕ) (rest : List ℕ) → is_letter a ≡ true → delimiters.answer s m.Ds net (60 ∷ 33 ∷ a ∷ rest) ≡ Some d.Mdo
mdo-answer s net a rest e =
    ap (delimiters.answer s m.Ds net) (sym (nothing-more (60 ∷ 33 ∷ a ∷ rest)))
    ∙ found-mdo s net (60 ∷ 33 ∷ a ∷ rest) (recognised s m.Ds net (60 ∷ 33 ∷ a ∷ rest)) refl (mdo-recognised s net a rest e)

declared-letter : (a : ℕ) (rest : List ℕ) → is_letter a ≡ true → declared_form (a ∷ rest) ≡ form.Declaration
declared-letter a rest e = rw (letter-apart a 91 e refl, letter-apart a 45 e refl, letter-apart a 62 e refl) refl

declared-token : (s : Syntax) (net maps : Bool) (a : ℕ) (rest : List ℕ) → is_letter a ≡ true
    → token_at s (ds net maps) (60 ∷ 33 ∷ a ∷ rest) ≡ closed s true (60 ∷ 33 ∷ a ∷ rest) form.Declaration (declaration_end s.names (a ∷ rest))
unfolding token_at
declared-token s net maps a rest e =
    ap (by_delimiter s (ds net maps) (60 ∷ 33 ∷ a ∷ rest)) (mdo-answer s net a rest e)
    ∙ ap (of_form s true (60 ∷ 33 ∷ a ∷ rest)) (declared-letter a rest e)

-- the text that is read as a declaration: up to that end, or all of it
abbrev own_of : List ℕ → Option ℕ → List ℕ
own_of bytes None = bytes
own_of bytes (Some n) = take (2 + n) bytes

by-own : (s : Syntax) (bytes : List ℕ) (o : Option ℕ) (p : Piece) → sgml_by_token bytes (closed s true bytes form.Declaration o) ≡ Ok p
    → (all_sgml (own_of bytes o) ≡ true) × (sgml_piece (own_of bytes o) ≡ Ok p)
by-own s bytes None p h = by (all_sgml bytes) refl
  where
    by : (t : Bool) → all_sgml bytes ≡ t → (all_sgml bytes ≡ true) × (sgml_piece bytes ≡ Ok p)
    by true e = (e, sym (rw e refl) ∙ h)
    by false e = absurd (refused (sym (rw e refl) ∙ h))
      where
        refused : Err reason.NonSgml ≡ Ok p → ⊥
        refused q = cc
by-own s bytes (Some n) p h = by (all_sgml (take (2 + n) bytes)) refl
  where
    by : (t : Bool) → all_sgml (take (2 + n) bytes) ≡ t → (all_sgml (take (2 + n) bytes) ≡ true) × (sgml_piece (take (2 + n) bytes) ≡ Ok p)
    by true e = (e, sym (rw e refl) ∙ h)
    by false e = absurd (refused (sym (rw e refl) ∙ h))
      where
        refused : Err reason.NonSgml ≡ Ok p → ⊥
        refused q = cc

own-by : (s : Syntax) (bytes : List ℕ) (o : Option ℕ) → all_sgml (own_of bytes o) ≡ true
    → sgml_by_token bytes (closed s true bytes form.Declaration o) ≡ sgml_piece (own_of bytes o)
own-by s bytes None e = rw e refl
own-by s bytes (Some n) e = rw e refl

-- THE PIECE is that of its own bytes

same-answer : (xs ys : List ℕ) (n : ℕ) (x : Result (Syntax × ℕ) DeclError) → AnswerSize n x → take n ys ≡ take n xs → sgml_of ys x ≡ sgml_of xs x
same-answer xs ys n (Err e) a t = refl
same-answer xs ys n (Ok x) a t =
    let same : take x.1 ys ≡ take x.1 xs = subst (λ k. take k ys ≡ take k xs) (sym a) t in
    ap (λ own. if all_sgml own then Ok (sized x.1 (Sgml x.0)) else Err reason.NonSgml) same

same-outcome : (xs ys : List ℕ) (o : Outcome) (p : Piece) → run 0 begin_state xs ≡ o → sgml_by xs o ≡ Ok p → p.size ≤ length ys → take p.size ys ≡ take p.size xs
    → sgml_by ys (run 0 begin_state ys) ≡ Ok p
same-outcome xs ys (bad at) p e h l t = absurd (cc)
same-outcome xs ys (whole x n) p e h l t =
    let sizes = answer-size (refusal_of x) x n in
    let is : n ≡ p.size = one-answer xs n (answer x n) p sizes h in
    let same : take n ys ≡ take n xs = subst (λ k. take k ys ≡ take k xs) (sym is) t in
    let there = read_declared xs n x e in
    let on : run 0 begin_state ys ≡ whole x n = declared_read ys n x (omega (arith, is, l)) (subst (λ (z : List ℕ). Declares z x) (sym same) there.1) in
    ap (sgml_by ys) on ∙ (same-answer xs ys n (answer x n) sizes same ∙ h)

same-piece : (xs ys : List ℕ) (p : Piece) → sgml_piece xs ≡ Ok p → p.size ≤ length ys → take p.size ys ≡ take p.size xs → sgml_piece ys ≡ Ok p
unfolding sgml_piece
same-piece xs ys p h l t = same-outcome xs ys (run 0 begin_state xs) p refl h l t

-- how long it is
declared-long : (bytes : List ℕ) (x : Heard) → Declares bytes x → 6 ≤ length bytes
declared-long bytes x (w, rest, word, all, reads) =
    let six : length w ≡ 6 = sym (length-map w upper) ∙ ap length word in
    let long = length-append w rest in
    omega (arith, six, long, ap length all)

run-long : (bytes : List ℕ) (n : ℕ) → Run bytes n → (6 ≤ n) × (n ≤ length bytes)
run-long bytes n (x, e) =
    let there = read_declared bytes n x e in
    let six = declared-long (take n bytes) x there.1 in
    let size = length-take n bytes in
    (omega (arith, six, size, there.0), there.0)

-- its bytes, in a text that has them in its front
own-within : (bytes : List ℕ) (o : Option ℕ) (n : ℕ) → n ≤ length (own_of bytes o) → take n (own_of bytes o) ≡ take n bytes
own-within bytes None n l = refl
own-within bytes (Some k) n l = take-front n (2 + k) bytes l

own-long : (bytes : List ℕ) (o : Option ℕ) (n : ℕ) → n ≤ length bytes → ((k : ℕ) → o ≡ Some k → n ≤ 2 + k) → n ≤ length (own_of bytes o)
own-long bytes None n l f = l
own-long bytes (Some k) n l f =
    let low = f k refl in
    let size = length-take (2 + k) bytes in
    omega (arith, low, l, size)

-- THE KEYWORD ends in the front, and so it is the same

one-more : (x n : ℕ) (bs : List ℕ) → take (1 + n) (x ∷ bs) ≡ x ∷ take n bs
one-more x n bs = let q : 1 + n ≡ suc n = omega arith in ap (λ i. take i (x ∷ bs)) q

abbrev SameName : (ℕ → Bool) → List ℕ → List ℕ → Type 0
SameName p bs cs = take (prefix_len p cs) cs ≡ take (prefix_len p bs) bs

name-step : (p : ℕ → Bool) (x : ℕ) (bs cs : List ℕ) (t : Bool) → p x ≡ t → (t ≡ true → SameName p bs cs) → SameName p (x ∷ bs) (x ∷ cs)
name-step p x bs cs true e f =
    let here : (ds : List ℕ) → prefix_len p (x ∷ ds) ≡ 1 + prefix_len p ds = λ ds. ap (λ t. if t then 1 + prefix_len p ds else 0) e in
    ap (λ i. take i (x ∷ cs)) (here cs)
    ∙ one-more x (prefix_len p cs) cs
    ∙ ap (λ (ds : List ℕ). x ∷ ds) (f refl)
    ∙ sym (one-more x (prefix_len p bs) bs)
    ∙ ap (λ i. take i (x ∷ bs)) (sym (here bs))
name-step p x bs cs false e f =
    let here : (ds : List ℕ) → prefix_len p (x ∷ ds) ≡ 0 = λ ds. ap (λ t. if t then 1 + prefix_len p ds else 0) e in
    ap (λ i. take i (x ∷ cs)) (here cs) ∙ sym (ap (λ i. take i (x ∷ bs)) (here bs))

less-behind : (p : ℕ → Bool) (x n : ℕ) (bs : List ℕ) → prefix_len p (x ∷ bs) < suc n → p x ≡ true → prefix_len p bs < n
less-behind p x n bs l e =
    let here : prefix_len p (x ∷ bs) ≡ 1 + prefix_len p bs = ap (λ t. if t then 1 + prefix_len p bs else 0) e in
    omega (arith, l, here)

same-name : (p : ℕ → Bool) (xs ys zs : List ℕ) → prefix_len p (xs ++ ys) < length xs → SameName p (xs ++ ys) (xs ++ zs)
same-name p [] ys zs l = absurd (omega (arith, l))
same-name p (x ∷ xs) ys zs l =
    name-step p x (xs ++ ys) (xs ++ zs) (p x) refl (λ e. same-name p xs ys zs (less-behind p x (length xs) (xs ++ ys) l e))

one-longer : (t : Bool) (n k : ℕ) → n ≤ k → (if t then 1 + n else 0) ≤ suc k
one-longer true n k l = omega (arith, l)
one-longer false n k l = omega arith

name-long : (p : ℕ → Bool) (xs : List ℕ) → prefix_len p xs ≤ length xs
name-long p [] = omega arith
name-long p (x ∷ xs) = one-longer (p x) (prefix_len p xs) (length xs) (name-long p xs)

keyword-size : (n : ℕ) (bytes : List ℕ) → n ≤ length bytes → is_word (codes "SGML") (take n bytes) ≡ true → n ≡ 4
keyword-size n bytes l e =
    let is = (bytes_eq-Decides (map upper (take n bytes)) (codes "SGML")).0 e in
    let four : length (take n bytes) ≡ 4 = sym (length-map (take n bytes) upper) ∙ ap length is in
    let size = length-take n bytes in
    omega (arith, four, size, l)

same-keyword : (names : NameSet) (front ys zs : List ℕ) → 5 ≤ length front → is_word (codes "SGML") (first_name names (front ++ ys)) ≡ true
    → first_name names (front ++ zs) ≡ first_name names (front ++ ys)
same-keyword names front ys zs l e =
    let four = keyword-size (prefix_len (is_name_character names) (front ++ ys)) (front ++ ys) (name-long (is_name_character names) (front ++ ys)) e in
    same-name (is_name_character names) front ys zs (omega (arith, l, four))

-- WHERE ONE STANDS

-- what begins with MDO
mdo-front : (xs ys : List ℕ) → 3 ≤ length xs → begins (codes "<!") (xs ++ ys) ≡ true → (a : ℕ) × (front : List ℕ) × (xs ≡ 60 ∷ 33 ∷ a ∷ front)
mdo-front [] ys l e = absurd (omega (arith, l))
mdo-front (x ∷ []) ys l e = absurd (omega (arith, l))
mdo-front (x ∷ y ∷ []) ys l e = absurd (omega (arith, l))
mdo-front (x ∷ y ∷ a ∷ front) ys l e =
    let p = and-parts (60 == x) ((33 == y) && true) e in
    let q = and-parts (33 == y) true p.1 in
    (a, front, λ i. sym (eqb-true 60 x p.0) i ∷ sym (eqb-true 33 y q.0) i ∷ a ∷ front)

-- it is decided by these bytes, or is the same piece before those
abbrev AlikeAt : Outside → State → Stacked → List ℕ → List ℕ → Piece → Type 0
AlikeAt outside s t front zs p =
    (beginning_decided s.context.doctype.syntax.names front (decided_token s t front) (prefix_verdict (codes "<!") front) ≡ true)
    ⊎ (at_beginning (begins_sgml s.context.doctype.syntax.names (front ++ zs)) outside s t (front ++ zs) ≡ Ok p)

-- an end that lies in the front or beyond it
within-or : (n k : ℕ) → (n ≤ k) ⊎ (k < n)
within-or zero k = inl (omega arith)
within-or (suc n) zero = inr (omega arith)
within-or (suc n) (suc k) = by (within-or n k)
  where
    by : (n ≤ k) ⊎ (k < n) → (suc n ≤ suc k) ⊎ (suc k < suc n)
    by (inl l) = inl (omega (arith, l))
    by (inr l) = inr (omega (arith, l))

-- where it lies beyond, all the front is read over
abbrev Beyond : ℕ → Option ℕ → Type 0
Beyond front o = (k : ℕ) → o ≡ Some k → front < 2 + k

read-over : (front ys : List ℕ) (o : Option ℕ) → Beyond (length front) o → all_sgml (own_of (front ++ ys) o) ≡ true → all_sgml front ≡ true
read-over front ys None b e = all-front is_sgml_character front ys e
read-over front ys (Some k) b e =
    let low = b k refl in
    all-longer is_sgml_character (2 + k) front ys (omega (arith, low)) e

own-sgml : (bytes : List ℕ) (o : Option ℕ) → all_sgml bytes ≡ true → all_sgml (own_of bytes o) ≡ true
own-sgml bytes None e = e
own-sgml bytes (Some n) e = all-take is_sgml_character (2 + n) bytes e

-- the token is that of a declaration, in either text
here-is : (s : State) (t : Stacked) (a : ℕ) (rest : List ℕ) → mode_at s t.entities ≡ m.Ds → is_letter a ≡ true
    → token_here s t (60 ∷ 33 ∷ a ∷ rest) ≡ closed s.context.doctype.syntax true (60 ∷ 33 ∷ a ∷ rest) form.Declaration (declaration_end s.context.doctype.syntax.names (a ∷ rest))
here-is s t a rest e f =
    ap (λ st. token_at s.context.doctype.syntax st (60 ∷ 33 ∷ a ∷ rest)) (ds-state s t e)
    ∙ declared-token s.context.doctype.syntax (net_in_force s.context) (is_map (map_at s)) a rest f

-- neither text has an end of it in the front
beyond-alike : (outside : Outside) (s : State) (t : Stacked) (a : ℕ) (front ys zs : List ℕ) (p : Piece) → mode_at s t.entities ≡ m.Ds → is_letter a ≡ true → p.size < length (60 ∷ 33 ∷ a ∷ front)
    → all_sgml zs ≡ true → begins_sgml s.context.doctype.syntax.names (60 ∷ 33 ∷ a ∷ (front ++ zs)) ≡ true
    → sgml_by_token (60 ∷ 33 ∷ a ∷ (front ++ ys)) (token_here s t (60 ∷ 33 ∷ a ∷ (front ++ ys))) ≡ Ok p
    → Beyond (length (60 ∷ 33 ∷ a ∷ front)) (declaration_end s.context.doctype.syntax.names (a ∷ (front ++ ys)))
    → Beyond (length (60 ∷ 33 ∷ a ∷ front)) (declaration_end s.context.doctype.syntax.names (a ∷ (front ++ zs)))
    → at_beginning (begins_sgml s.context.doctype.syntax.names (60 ∷ 33 ∷ a ∷ (front ++ zs))) outside s t (60 ∷ 33 ∷ a ∷ (front ++ zs)) ≡ Ok p
beyond-alike outside s t a front ys zs p e f l sgml w h by bz =
    let syntax = s.context.doctype.syntax in
    let own = 60 ∷ 33 ∷ a ∷ front in
    let oy = declaration_end syntax.names (a ∷ (front ++ ys)) in
    let oz = declaration_end syntax.names (a ∷ (front ++ zs)) in
    let there = by-own syntax (own ++ ys) oy p (sym (ap (sgml_by_token (own ++ ys)) (here-is s t a (front ++ ys) e f)) ∙ h) in
    let all : all_sgml (own ++ zs) ≡ true = all-append is_sgml_character own zs (read-over own ys oy by there.0) sgml in
    let long = run-long (own_of (own ++ ys) oy) p.size (own-run (own_of (own ++ ys) oy) p there.1) in
    let sizes = length-append own zs in
    let low : p.size ≤ length (own_of (own ++ zs) oz) = own-long (own ++ zs) oz p.size (omega (arith, l, sizes)) (λ k g. let far = bz k g in omega (arith, far, l)) in
    let same : take p.size (own_of (own ++ zs) oz) ≡ take p.size (own_of (own ++ ys) oy) =
    own-within (own ++ zs) oz p.size low ∙ take-append-le p.size own zs (omega (arith, l))
    ∙ sym (own-within (own ++ ys) oy p.size long.1 ∙ take-append-le p.size own ys (omega (arith, l))) in
    ap (λ u. at_beginning u outside s t (own ++ zs)) w
    ∙ ap (sgml_by_token (own ++ zs)) (here-is s t a (front ++ zs) e f)
    ∙ own-by syntax (own ++ zs) oz (own-sgml (own ++ zs) oz all)
    ∙ same-piece (own_of (own ++ ys) oy) (own_of (own ++ zs) oz) p there.1 low same

-- an end in the front, whichever text has it
decided-front : (s : State) (t : Stacked) (a : ℕ) (front ys : List ℕ) (n : ℕ) → mode_at s t.entities ≡ m.Ds → is_word (codes "SGML") (first_name s.context.doctype.syntax.names (a ∷ (front ++ ys))) ≡ true
    → declaration_end s.context.doctype.syntax.names (a ∷ (front ++ ys)) ≡ Some n → 2 + n ≤ length (60 ∷ 33 ∷ a ∷ front)
    → beginning_decided s.context.doctype.syntax.names (60 ∷ 33 ∷ a ∷ front) (decided_token s t (60 ∷ 33 ∷ a ∷ front)) (prefix_verdict (codes "<!") (60 ∷ 33 ∷ a ∷ front)) ≡ true
decided-front s t a front ys n e w f l =
    let names = s.context.doctype.syntax.names in
    let some = (end-within names (ender_of names (a ∷ (front ++ ys))) Between (a ∷ (front ++ ys)) n f).some in
    sgml-front s t 60 (33 ∷ a ∷ front) ys (a ∷ (front ++ ys)) n e refl f l some w

-- whether the end lies in the front
abbrev EndIn : ℕ → Option ℕ → Type 0
EndIn front o = ((n : ℕ) × (o ≡ Some n) × (2 + n ≤ front)) ⊎ Beyond front o

end-in : (front : ℕ) (o : Option ℕ) → EndIn front o
end-in front None = inr (λ k e. absurd (cc))
end-in front (Some n) = by (within-or (2 + n) front)
  where
    by : (2 + n ≤ front) ⊎ (front < 2 + n) → EndIn front (Some n)
    by (inl l) = inl (n, refl, l)
    by (inr l) = inr (λ k e. let is : n ≡ k = cc in omega (arith, l, is))

mdo-alike : (outside : Outside) (s : State) (t : Stacked) (a : ℕ) (front ys zs : List ℕ) (p : Piece) → mode_at s t.entities ≡ m.Ds → 7 ≤ length (60 ∷ 33 ∷ a ∷ front) → p.size < length (60 ∷ 33 ∷ a ∷ front)
    → all_sgml zs ≡ true → is_word (codes "SGML") (first_name s.context.doctype.syntax.names (a ∷ (front ++ ys))) ≡ true
    → sgml_by_token (60 ∷ 33 ∷ a ∷ (front ++ ys)) (token_here s t (60 ∷ 33 ∷ a ∷ (front ++ ys))) ≡ Ok p → AlikeAt outside s t (60 ∷ 33 ∷ a ∷ front) zs p
mdo-alike outside s t a front ys zs p e seven l sgml w h =
    let names = s.context.doctype.syntax.names in
    let size = length (60 ∷ 33 ∷ a ∷ front) in
    let word : is_word (codes "SGML") (first_name names (a ∷ (front ++ zs))) ≡ true = ap (is_word (codes "SGML")) (same-keyword names (a ∷ front) ys zs (omega (arith, seven)) w) ∙ w in
    by word (end-in size (declaration_end names (a ∷ (front ++ ys)))) (end-in size (declaration_end names (a ∷ (front ++ zs))))
  where
    by : is_word (codes "SGML") (first_name s.context.doctype.syntax.names (a ∷ (front ++ zs))) ≡ true
        → EndIn (length (60 ∷ 33 ∷ a ∷ front)) (declaration_end s.context.doctype.syntax.names (a ∷ (front ++ ys)))
        → EndIn (length (60 ∷ 33 ∷ a ∷ front)) (declaration_end s.context.doctype.syntax.names (a ∷ (front ++ zs))) → AlikeAt outside s t (60 ∷ 33 ∷ a ∷ front) zs p
    by word (inl x) y = inl (decided-front s t a front ys x.0 e w x.1 x.2)
    by word (inr x) (inl y) = inl (decided-front s t a front zs y.0 e word y.1 y.2)
    by word (inr x) (inr y) = inr (beyond-alike outside s t a front ys zs p e (keyword-letter s.context.doctype.syntax.names a (front ++ ys) w) l sgml word h x y)

sgml-not-last : (k : Kind) → is_sgml k ≡ true → is_last k ≡ false
sgml-not-last (Sgml syntax) e = refl
sgml-not-last _ e = never false e refl

-- so a declaration that lies in the front is
sgml-alike : (outside : Outside) (s : State) (t : Stacked) (front ys zs : List ℕ) (p : Piece) (x : Scanned) → token_here s t (front ++ ys) ≡ x → mode_at s t.entities ≡ m.Ds → Lies p (length front)
    → all_sgml zs ≡ true → begins_sgml s.context.doctype.syntax.names (front ++ ys) ≡ true → sgml_by_token (front ++ ys) x ≡ Ok p → AlikeAt outside s t front zs p
sgml-alike outside s t front ys zs p x here e l sgml w h =
    let names = s.context.doctype.syntax.names in
    let long = run-long (front ++ ys) p.size (token-run (front ++ ys) x p h) in
    let low : p.size < length front = l.strict (sgml-not-last p.kind (sgml-kind (front ++ ys) x p h)) in
    let both = and-parts (begins (codes "<!") (front ++ ys)) (has_keyword names (codes "SGML") (front ++ ys)) w in
    let begin = mdo-front front ys (omega (arith, long.0, low)) both.0 in
    subst (λ z. AlikeAt outside s t z zs p) (sym begin.2)
    (mdo-alike outside s t begin.0 begin.1 ys zs p e
    (subst (λ z. 7 ≤ length z) begin.2 (omega (arith, long.0, low)))
    (subst (λ z. p.size < length z) begin.2 low) sgml
    (subst (λ z. has_keyword names (codes "SGML") (z ++ ys) ≡ true) begin.2 both.1)
    (subst (λ z. sgml_by_token (z ++ ys) (token_here s t (z ++ ys)) ≡ Ok p) begin.2 (ap (sgml_by_token (front ++ ys)) here ∙ h)))

-- IN EACH STAGE the piece is decided by the bytes of the front, or is the same before those that follow instead

abbrev StageAlike : Outside → State → Stacked → ℕ → List ℕ → List ℕ → Piece → Stage → Type 0
StageAlike outside s t b front zs p g = Decided s t b front g ⊎ (by_stage outside s t ((b ∷ front) ++ zs) g ≡ Ok p)

not-beginning : {A : Type 0} (g : Stage) → is_at_beginning g ≡ false → g ≡ AtBeginning → A
not-beginning g f e = never (is_at_beginning g) (ap is_at_beginning e) f

beginning-alike : (outside : Outside) (s : State) (t : Stacked) (b : ℕ) (front ys zs : List ℕ) (p : Piece) (w : Bool) → mode_at s t.entities ≡ m.Ds → Lies p (length (b ∷ front)) → all_sgml zs ≡ true
    → begins_sgml s.context.doctype.syntax.names ((b ∷ front) ++ ys) ≡ w → at_beginning w outside s t ((b ∷ front) ++ ys) ≡ Ok p → StageAlike outside s t b front zs p AtBeginning
beginning-alike outside s t b front ys zs p true e l sgml w h =
    sgml-alike outside s t (b ∷ front) ys zs p (token_here s t ((b ∷ front) ++ ys)) refl e l sgml w h
beginning-alike outside s t b front ys zs p false e l sgml w h = inl (plain-beginning outside s t b front ys p e l w h)

stage-alike : (outside : Outside) (s : State) (t : Stacked) (b : ℕ) (front ys zs : List ℕ) (p : Piece) (g : Stage) → s.stage ≡ g → is_after_subset g ≡ false → in_doctype s.stage t.entities ≡ true
    → Modes s t (length (b ∷ front)) → Lies p (length (b ∷ front)) → all_sgml zs ≡ true → by_stage outside s t ((b ∷ front) ++ ys) g ≡ Ok p → StageAlike outside s t b front zs p g
stage-alike outside s t b front ys zs p AtBeginning e a f md l sgml h =
    beginning-alike outside s t b front ys zs p (begins_sgml s.context.doctype.syntax.names ((b ∷ front) ++ ys)) (beginning-mode s t (length (b ∷ front)) e md) l sgml refl h
stage-alike outside s t b front ys zs p BeforeSyntax e a f md l sgml h =
    inl (stage-decided outside s t b front ys p BeforeSyntax e a f md (λ q. not-beginning BeforeSyntax refl q) l h)
stage-alike outside s t b front ys zs p BeforeDoctype e a f md l sgml h =
    inl (stage-decided outside s t b front ys p BeforeDoctype e a f md (λ q. not-beginning BeforeDoctype refl q) l h)
stage-alike outside s t b front ys zs p InSubset e a f md l sgml h =
    inl (stage-decided outside s t b front ys p InSubset e a f md (λ q. not-beginning InSubset refl q) l h)
stage-alike outside s t b front ys zs p AfterSubset e a f md l sgml h = never true refl a

abbrev pub LocalAlike : Outside → State → Stacked → List ℕ → List ℕ → Piece → Type 0
LocalAlike outside s t front zs p = (decided_bytes s t front ≡ true) ⊎ (spelled_in outside s t 0 (front ++ zs) ≡ Ok p)

byte-alike : (outside : Outside) (s : State) (t : Stacked) (b : ℕ) (front ys zs : List ℕ) (p : Piece) (early : Bool) → is_early_end s.stage b ≡ early → is_after_subset s.stage ≡ false → in_doctype s.stage t.entities ≡ true
    → Modes s t (length (b ∷ front)) → Lies p (length (b ∷ front)) → all_sgml zs ≡ true
    → (if early then Err reason.NoDoctype else by_stage outside s t ((b ∷ front) ++ ys) s.stage) ≡ Ok p → LocalAlike outside s t (b ∷ front) zs p
byte-alike outside s t b front ys zs p true e a f md l sgml h = absurd (cc)
byte-alike outside s t b front ys zs p false e a f md l sgml h = by (stage-alike outside s t b front ys zs p s.stage refl a f md l sgml h)
  where
    by : StageAlike outside s t b front zs p s.stage → LocalAlike outside s t (b ∷ front) zs p
    by (inl x) =
        inl (ap (λ u. if u then true else if is_at_beginning s.stage
        then beginning_decided s.context.doctype.syntax.names (b ∷ front) (decided_token s t (b ∷ front)) (prefix_verdict (codes "<!") (b ∷ front))
        else decided_token s t (b ∷ front)) e ∙ x)
    by (inr x) = inr (ap (λ u. if u then Err reason.NoDoctype else by_stage outside s t ((b ∷ front) ++ zs) s.stage) e ∙ x)

pub local-alike : (outside : Outside) (s : State) (t : Stacked) (front ys zs : List ℕ) (p : Piece) → is_after_subset s.stage ≡ false → in_doctype s.stage t.entities ≡ true
    → Modes s t (length front) → Lies p (length front) → all_sgml zs ≡ true → spelled_in outside s t 0 (front ++ ys) ≡ Ok p → LocalAlike outside s t front zs p
local-alike outside s t [] ys zs p a f md l sgml h = absurd (omega (arith, l.some, l.within))
local-alike outside s t (b ∷ front) ys zs p a f md l sgml h = byte-alike outside s t b front ys zs p (is_early_end s.stage b) refl a f md l sgml h
