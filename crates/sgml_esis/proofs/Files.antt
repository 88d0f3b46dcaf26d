-- Whole files of lines.
use Rattle.std.proofs.Common.{◌≡◌, ◌≢◌, ℕ, ◌+◌, ◌<◌, suc, List, [], ◌∷◌, ◌++◌, length, take, drop, refl, sym, ap, subst, ◌∙◌, arith, append_assoc, append-nil, length-append, length-drop, cond, Bool, true, false, not, ◌==◌, ◌&&◌, nat_lt, Option, None, Some}
use Rattle.std.proofs.lemmas.Bool.{eqb-true}
use Rattle.std.proofs.lemmas.Bool.Decides.{nat_tests}
use Rattle.std.proofs.lemmas.List.{drop-drop}
use Rattle.std.specs.Option.{option_map}
use Rattle.std.specs.List.{prefix_len}
use Rattle.sgml_esis.specs.declared.line.Line.{Line}
use Rattle.sgml_esis.specs.Grammar.{is_none, Form, Front, NoLine, IsBad}
use Rattle.sgml_esis.specs.Spelling.{spell_content, spell_line, spell_lines}
use Rattle.sgml_esis.specs.Reading.{is_inner, line_of, next_of}
use Rattle.sgml_esis.specs.Outcome.{AreLines, OneReading, RoundTrip}
use Rattle.sgml_esis.proofs.Units.{some_is}
use Rattle.sgml_esis.proofs.Tokens.{tested}
use Rattle.sgml_esis.proofs.Forms.{mapped, form_spelled}
use Rattle.sgml_esis.proofs.Contents.{line_form, last_is, none_length, next_read, no_line}

not_not : (t : Bool) → not t ≡ false → t ≡ true
not_not true h = refl
not_not false h = absurd (cc)

drop_past : (content more : List ℕ) → drop (length content + 1) (content ++ 10 ∷ more) ≡ more
drop_past [] more = refl
drop_past (b ∷ bs) more =
    let one : suc (length bs) + 1 ≡ suc (length bs + 1) = omega arith in
    ap (λ n. drop n (b ∷ bs ++ 10 ∷ more)) one ∙ drop_past bs more

dropped : (bytes content more : List ℕ) (size : ℕ) → bytes ≡ content ++ 10 ∷ more → size ≡ length content + 1 → drop size bytes ≡ more
dropped bytes content more size e n = ap (drop size) e ∙ ap (λ k. drop k (content ++ 10 ∷ more)) n ∙ drop_past content more

-- the first LF of bytes that have one
shorter : (n m : ℕ) → nat_lt (1 + n) (suc m) ≡ true → nat_lt n m ≡ true
shorter n m h = grind (arith, nat_tests)

split_line : (bytes : List ℕ) → nat_lt (prefix_len is_inner bytes) (length bytes) ≡ true → (more : List ℕ) × (bytes ≡ take (prefix_len is_inner bytes) bytes ++ 10 ∷ more) × (length (take (prefix_len is_inner bytes) bytes) ≡ prefix_len is_inner bytes)
split_line [] h = absurd (cc)
split_line (b ∷ bs) h =
    let n : ℕ = prefix_len is_inner bs in
    let R : ℕ → Type 0 = λ k. (more : List ℕ) × (b ∷ bs ≡ take k (b ∷ bs) ++ 10 ∷ more) × (length (take k (b ∷ bs)) ≡ k) in
    let P : Bool → Type 0 = λ t. is_inner b ≡ t → nat_lt (cond t (1 + n) 0) (suc (length bs)) ≡ true → R (cond t (1 + n) 0) in
    let one : suc n ≡ 1 + n = omega arith in
    let yes : P true = λ e k.
    let s = split_line bs (shorter n (length bs) k) in
    let r : R (suc n) = (s.0, ap (λ v. b ∷ v) s.1, ap suc s.2) in
    subst R one r in
    let isnt : P false = λ e k. (bs, ap (λ v. v ∷ bs) (eqb-true b 10 (not_not (b == 10) e)), refl) in
    (elim (is_inner b) as P [ true ↦ yes | false ↦ isnt ]) refl h

-- the line at the front, as it was read
pub record Next (first : Bool) (bytes : List ℕ) (line : Line) (size : ℕ) : Type 0 where
  pub content : List ℕ
  pub whole : bytes ≡ content ++ 10 ∷ drop size bytes
  pub form : Form first (is_none (drop size bytes)) line content
  pub counted : size ≡ length content + 1

pub next_form : (first : Bool) (bytes : List ℕ) (line : Line) (size : ℕ) → next_of first bytes ≡ Some (line, size) → Next first bytes line size
next_form first bytes line size h =
    let n : ℕ = prefix_len is_inner bytes in
    let t = tested (nat_lt n (length bytes)) (option_map (λ l. (l, n + 1)) (line_of first (n + 1 == length bytes) (take n bytes))) (line, size) h in
    let m = mapped (λ l. (l, n + 1)) (line_of first (n + 1 == length bytes) (take n bytes)) (line, size) t.1 in
    let s = split_line bytes t.0 in
    let l : m.0 ≡ line = ap (λ v. v.0) m.2 in
    let k : n + 1 ≡ size = ap (λ v. v.1) m.2 in
    let long : length bytes ≡ n + suc (length s.0) = ap length s.1 ∙ length-append (take n bytes) (10 ∷ s.0) ∙ ap (λ v. v + suc (length s.0)) s.2 in
    let last : (n + 1 == length bytes) ≡ is_none s.0 = ap (λ v. n + 1 == v) long ∙ last_is n (length s.0) ∙ none_length s.0 in
    let rest : drop size bytes ≡ s.0 = dropped bytes (take n bytes) s.0 size s.1 (sym k ∙ ap (λ v. v + 1) (sym s.2)) in
    let read : line_of first (is_none s.0) (take n bytes) ≡ Some line = ap (λ v. line_of first v (take n bytes)) (sym last) ∙ m.1 ∙ ap Some l in
    let f : Form first (is_none s.0) line (take n bytes) = line_form first (is_none s.0) (take n bytes) line read in
    let F : List ℕ → Type 0 = λ v. Form first (is_none v) line (take n bytes) in
    record {
      content = take n bytes;
      whole = s.1 ∙ ap (λ v. take n bytes ++ 10 ∷ v) (sym rest);
      form = subst F (sym rest) f;
      counted = sym k ∙ ap (λ v. v + 1) (sym s.2);
    }

-- one more line
and_true : (t : Bool) → (t && true) ≡ t
and_true true = refl
and_true false = refl

and_false : (t : Bool) → (t && false) ≡ false
and_false true = refl
and_false false = refl

front_more : (lines : List Line) (first : Bool) (bytes content more : List ℕ) (line : Line) → Front first bytes lines (content ++ 10 ∷ more) → Form (first && is_none lines) (is_none more) line content → Front first bytes (lines ++ line ∷ []) more
front_more [] first bytes content more line h form =
    let F : Bool → Type 0 = λ t. Form t (is_none more) line content in
    (content, more, h, subst F (and_true first) form, refl)
front_more (l ∷ ls) first bytes content more line (c, m, is, f, rest) form =
    let F : Bool → Type 0 = λ t. Form t (is_none more) line content in
    (c, m, is, f, front_more ls false m content more line rest (subst F (and_false first) form))

pub goes_on : (lines : List Line) (bytes rest : List ℕ) (line : Line) (size : ℕ) → Front true bytes lines rest → Next (is_none lines) rest line size → Front true bytes (lines ++ line ∷ []) (drop size rest)
goes_on lines bytes rest line size h n =
    let F : List ℕ → Type 0 = λ v. Front true bytes lines v in
    front_more lines true bytes n.content (drop size rest) line (subst F n.whole h) n.form

-- two lines at one front are one
not_none : (content more : List ℕ) → content ++ 10 ∷ more ≡ [] → ⊥
not_none [] more h = cc
not_none (b ∷ bs) more h = cc

same_next : (first : Bool) (bytes c m d n : List ℕ) (k l : Line) → bytes ≡ c ++ 10 ∷ m → Form first (is_none m) k c → bytes ≡ d ++ 10 ∷ n → Form first (is_none n) l d → (k ≡ l) × (m ≡ n)
same_next first bytes c m d n k l e f g h =
    let p : (k, length c + 1) ≡ (l, length d + 1) = some_is (k, length c + 1) (l, length d + 1) (sym (next_read first k bytes c m e f) ∙ next_read first l bytes d n g h) in
    let line : k ≡ l = ap (λ v. v.0) p in
    let size : length c + 1 ≡ length d + 1 = ap (λ v. v.1) p in
    (line, sym (dropped bytes c m (length c + 1) e refl) ∙ ap (λ v. drop v bytes) size ∙ dropped bytes d n (length d + 1) g refl)

one_file : (a b : List Line) (first : Bool) (bytes : List ℕ) → Front first bytes a [] → Front first bytes b [] → a ≡ b
one_file [] [] first bytes h k = refl
one_file [] (l ∷ ls) first bytes h (c, m, e, f, rest) = absurd (not_none c m (sym e ∙ h))
one_file (l ∷ ls) [] first bytes (c, m, e, f, rest) k = absurd (not_none c m (sym e ∙ k))
one_file (k ∷ ks) (l ∷ ls) first bytes (c, m, e, f, rest) (d, n, g, h, other) =
    let s = same_next first bytes c m d n k l e f g h in
    let F : List ℕ → Type 0 = λ v. Front false v ls [] in
    let tail : ks ≡ ls = one_file ks ls false m rest (subst F (sym s.1) other) in
    ap (λ v. v ∷ ks) s.0 ∙ ap (λ v. l ∷ v) tail

no_file : (lines before : List Line) (first : Bool) (bytes rest : List ℕ) → Front first bytes lines [] → Front first bytes before rest → rest ≢ [] → NoLine (first && is_none before) rest → ⊥
no_file [] [] first bytes rest h k some none = some (sym k ∙ h)
no_file (l ∷ ls) [] first bytes rest (c, m, e, f, more) k some none =
    let F : Bool → Type 0 = λ t. Form t (is_none m) l c in
    none l c m (sym k ∙ e) (subst F (sym (and_true first)) f)
no_file [] (p ∷ ps) first bytes rest h (c, m, e, f, more) some none = not_none c m (sym e ∙ h)
no_file (l ∷ ls) (p ∷ ps) first bytes rest (d, n, g, h, other) (c, m, e, f, more) some none =
    let s = same_next first bytes c m d n p l e f g h in
    let F : List ℕ → Type 0 = λ v. Front false v ls [] in
    let N : Bool → Type 0 = λ t. NoLine t rest in
    no_file ls ps false m rest (subst F (sym s.1) other) more some (subst N (and_false first) none)

one_bad : (a b : List Line) (first : Bool) (bytes r s : List ℕ) → Front first bytes a r → Front first bytes b s → r ≢ [] → s ≢ [] → NoLine (first && is_none a) r → NoLine (first && is_none b) s → length a ≡ length b
one_bad [] [] first bytes r s h k x y u v = refl
one_bad [] (l ∷ ls) first bytes r s h (c, m, e, f, more) x y u v =
    let F : Bool → Type 0 = λ t. Form t (is_none m) l c in
    absurd (u l c m (sym h ∙ e) (subst F (sym (and_true first)) f))
one_bad (l ∷ ls) [] first bytes r s (c, m, e, f, more) k x y u v =
    let F : Bool → Type 0 = λ t. Form t (is_none m) l c in
    absurd (v l c m (sym k ∙ e) (subst F (sym (and_true first)) f))
one_bad (k ∷ ks) (l ∷ ls) first bytes r s (c, m, e, f, more) (d, n, g, h, other) x y u v =
    let p = same_next first bytes c m d n k l e f g h in
    let F : List ℕ → Type 0 = λ w. Front false w ls s in
    let N : Bool → Type 0 = λ t. NoLine t r in
    let M : Bool → Type 0 = λ t. NoLine t s in
    ap suc (one_bad ks ls false m r s more (subst F (sym p.1) other) x y (subst N (and_false first) u) (subst M (and_false first) v))

pub reading : OneReading
reading = record {
  file = λ a b bytes h k. one_file a b true bytes h.whole k.whole;
  apart = λ lines number bytes h b. no_file lines b.before true bytes b.rest h.whole b.front b.some b.bad;
  bad = λ m n bytes a b. a.counted ∙ ap (λ v. v + 1) (one_bad a.before b.before true bytes a.rest b.rest a.front b.front a.some b.some a.bad b.bad) ∙ sym b.counted;
}

-- lines are spelled as they were read
front_spelled : (lines : List Line) (first : Bool) (bytes rest : List ℕ) → Front first bytes lines rest → bytes ≡ spell_lines lines ++ rest
front_spelled [] first bytes rest h = h
front_spelled (l ∷ ls) first bytes rest (c, m, e, f, more) =
    let content : c ≡ spell_content l = form_spelled first (is_none m) l c f in
    let tail : m ≡ spell_lines ls ++ rest = front_spelled ls false m rest more in
    e ∙ ap (λ v. v ++ 10 ∷ m) content ∙ ap (λ v. spell_content l ++ 10 ∷ v) tail ∙ sym (append_assoc (spell_content l) (10 ∷ []) (spell_lines ls ++ rest)) ∙ sym (append_assoc (spell_line l) (spell_lines ls) rest)

spelled_some : (content more : List ℕ) → is_none ((content ++ 10 ∷ []) ++ more) ≡ false
spelled_some [] more = refl
spelled_some (b ∷ bs) more = refl

spelled_none : (lines : List Line) → is_none (spell_lines lines) ≡ is_none lines
spelled_none [] = refl
spelled_none (l ∷ ls) = spelled_some (spell_content l) (spell_lines ls)

front_read : (lines : List Line) (first : Bool) → AreLines first lines → Front first (spell_lines lines) lines []
front_read [] first h = refl
front_read (l ∷ ls) first (h, more) =
    let c : List ℕ = h.0 in
    let content : c ≡ spell_content l = form_spelled first (is_none ls) l c h.1 in
    let F : Bool → Type 0 = λ t. Form first t l c in
    (c, spell_lines ls, append_assoc (spell_content l) (10 ∷ []) (spell_lines ls) ∙ ap (λ v. v ++ 10 ∷ spell_lines ls) (sym content), subst F (sym (spelled_none ls)) h.1, front_read ls false more)

pub both_ways : RoundTrip
both_ways = record {
  written = λ lines bytes h. sym (front_spelled lines true bytes [] h.whole ∙ append-nil (spell_lines lines));
  read = λ lines h. record { whole = front_read lines true h };
}

-- the loop over the lines
pub one_more : (lines : List Line) (bytes rest : List ℕ) (at size : ℕ) (first : Bool) (line : Line) (found : Option (Line × ℕ)) → Front true bytes lines (drop at bytes) → rest ≡ drop at bytes → first ≡ is_none lines → found ≡ next_of first rest → found ≡ Some (line, size) → Front true bytes (lines ++ line ∷ []) (drop (at + size) bytes)
one_more lines bytes rest at size first line found h to is is_next was =
    let n : next_of (is_none lines) (drop at bytes) ≡ Some (line, size) = ap (next_of (is_none lines)) (sym to) ∙ ap (λ v. next_of v rest) (sym is) ∙ sym is_next ∙ was in
    let F : List ℕ → Type 0 = λ v. Front true bytes (lines ++ line ∷ []) v in
    subst F (drop-drop size at bytes) (goes_on lines bytes (drop at bytes) line size h (next_form (is_none lines) (drop at bytes) line size n))

some_left : (bytes : List ℕ) (at : ℕ) → at < length bytes → drop at bytes ≢ []
some_left bytes at h e = absurd (omega (arith, h, length-drop at bytes, ap length e))

pub one_stops : (lines : List Line) (bytes rest : List ℕ) (at number : ℕ) (first : Bool) (found : Option (Line × ℕ)) → Front true bytes lines (drop at bytes) → at < length bytes → rest ≡ drop at bytes → first ≡ is_none lines → found ≡ next_of first rest → found ≡ None → number ≡ length lines + 1 → IsBad number bytes
one_stops lines bytes rest at number first found h lt to is is_next was n =
    let none : next_of (is_none lines) (drop at bytes) ≡ None = ap (next_of (is_none lines)) (sym to) ∙ ap (λ v. next_of v rest) (sym is) ∙ sym is_next ∙ was in
    record {
      before = lines;
      rest = drop at bytes;
      front = h;
      some = some_left bytes at lt;
      counted = n;
      bad = no_line (is_none lines) (drop at bytes) none;
    }
