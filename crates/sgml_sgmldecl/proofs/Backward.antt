-- Where a byte leads to a state, what completes that state does so with the byte before it.
use Rattle.std.proofs.Common.{◌≡◌, ℕ, ◌+◌, inl, inr, Bool, true, false, ◌&&◌, ◌==◌, List, [], ◌∷◌, ◌++◌, map, length, Option, Some, None, refl, sym, ap, ◌∙◌, subst, append_assoc, append-nil, if◌then◌else◌, arith}
use Rattle.std.specs.Str.{bytes_eq}
use Rattle.std.proofs.lemmas.Slice.Eq.{bytes_eq-Decides}
use Rattle.sgml_text.specs.Characters.{upper, is_separator}
use Rattle.sgml_sgmldecl.specs.declared.heard.Heard.{Heard}
use Rattle.sgml_sgmldecl.specs.declared.reading.Part.{Part}
use Rattle.sgml_sgmldecl.specs.declared.reading.Part.TheVariants as p
use Rattle.sgml_sgmldecl.specs.declared.row.Row.{Row}
use Rattle.sgml_sgmldecl.specs.declared.row.Item.{Item}
use Rattle.sgml_sgmldecl.specs.declared.row.Item.TheVariants as i
use Rattle.sgml_sgmldecl.specs.declared.row.Content.{Content}
use Rattle.sgml_sgmldecl.specs.declared.row.Content.TheVariants as c
use Rattle.sgml_sgmldecl.specs.Keywords.{spelling}
use Rattle.sgml_sgmldecl.specs.Rows.{rows}
use Rattle.sgml_sgmldecl.specs.Characters.{is_name_byte, opening, heading, old_heading}
use Rattle.sgml_sgmldecl.specs.Items.{has_byte, begins, word_goes_on, is_whole_word, content_goes_on, is_whole_content}
use Rattle.sgml_sgmldecl.specs.Heard.{tell}
use Rattle.sgml_sgmldecl.specs.Machine.{State, refused, goes, ends, turned, opened, added, ended, begun_word, begun_item, begun_if, outside, step_in, step, marks_after}
use Rattle.sgml_sgmldecl.specs.Following.{row_at, after, due_after, marks_of_content}
use Rattle.sgml_sgmldecl.specs.Declaring.{closes, another, lone_dash, IsWord, IsContent, Reads, separator, comment, word, literal, the_end}
use Rattle.sgml_sgmldecl.proofs.ByteTests.{equal, one_of, not_both_ways, is_alnum, letter_alnum, digit_alnum, alnum_name, alnum_of_upper}
use Rattle.sgml_sgmldecl.proofs.Table.{keyword_start, starts_alnum, row_begins}
use Rattle.sgml_sgmldecl.proofs.Apart.{is_row_found}
use Rattle.sgml_sgmldecl.proofs.Resting.{Grows, Fills, InWord, InLiteral, InComment, AfterDash, RestIn, Rest}

-- the state that a byte leads to
at_same : (a t : State) → goes a ≡ goes t → (at : ℕ) (us : List ℕ) (x : Heard) → Rest t at us x → Rest a at us x
at_same a t is at us x rest = let same : t ≡ a = cc in subst (λ (z : State). Rest z at us x) same rest

no_goes : (t : State) → refused ≡ goes t → ⊥
no_goes t is = cc

ends_no_goes : (x : Heard) (t : State) → ends x ≡ goes t → ⊥
ends_no_goes x t is = cc

no_ends : (x : Heard) → refused ≡ ends x → ⊥
no_ends x is = cc

goes_no_ends : (x : Heard) (t : State) → goes t ≡ ends x → ⊥
goes_no_ends x t is = cc

same_ends : (x y : Heard) → ends x ≡ ends y → x ≡ y
same_ends x y is = cc

-- comments
in_comment : (q : Bool) (s t : State) (at b : ℕ) (us : List ℕ) (x : Heard) → (b == 45) ≡ q → goes (turned (if q then p.CommentDash else p.Comment) s) ≡ goes t → Rest t (at + 1) us x → InComment [] s at (b ∷ us) x
in_comment true s t at b us x test is rest =
    let r : InComment (45 ∷ []) (turned p.CommentDash s) (at + 1) us x = at_same (turned p.CommentDash s) t is (at + 1) us x rest in
    record { c = r.c; rest = r.rest; all = ap (λ (n : ℕ). n ∷ us) (equal b 45 test) ∙ r.all; comment = r.comment; next = r.next; place = omega (arith, r.place); reads = r.reads }
in_comment false s t at b us x test is rest =
    let r : InComment [] (turned p.Comment s) (at + 1) us x = at_same (turned p.Comment s) t is (at + 1) us x rest in
    record { c = b ∷ r.c; rest = r.rest; all = ap (λ (l : List ℕ). b ∷ l) r.all; comment = another b r.c test r.comment; next = r.next; place = omega (arith, r.place); reads = r.reads }

after_comment_dash : (q : Bool) (s t : State) (at b : ℕ) (us : List ℕ) (x : Heard) → (b == 45) ≡ q → goes (turned (if q then p.Apart else p.Comment) s) ≡ goes t → Rest t (at + 1) us x → InComment (45 ∷ []) s at (b ∷ us) x
after_comment_dash true s t at b us x test is rest =
    let r : Reads false (at + 1) s.due s.marks s.heard us x = at_same (turned p.Apart s) t is (at + 1) us x rest in
    record { c = 45 ∷ 45 ∷ []; rest = us; all = ap (λ (n : ℕ). 45 ∷ n ∷ us) (equal b 45 test); comment = closes; next = at + 1; place = omega arith; reads = r }
after_comment_dash false s t at b us x test is rest =
    let r : InComment [] (turned p.Comment s) (at + 1) us x = at_same (turned p.Comment s) t is (at + 1) us x rest in
    record { c = 45 ∷ b ∷ r.c; rest = r.rest; all = ap (λ (l : List ℕ). 45 ∷ b ∷ l) r.all; comment = lone_dash b r.c test r.comment; next = r.next; place = omega (arith, r.place); reads = r.reads }

after_dash : (q : Bool) (s t : State) (at b : ℕ) (us : List ℕ) (x : Heard) → (b == 45) ≡ q → (if q then goes (turned p.Comment s) else refused) ≡ goes t → Rest t (at + 1) us x → AfterDash s at (b ∷ us) x
after_dash true s t at b us x test is rest =
    let r : InComment [] (turned p.Comment s) (at + 1) us x = at_same (turned p.Comment s) t is (at + 1) us x rest in
    record { more = us; all = ap (λ (n : ℕ). n ∷ us) (equal b 45 test); comment = record { c = r.c; rest = r.rest; all = r.all; comment = r.comment; next = r.next; place = r.place; reads = r.reads } }
after_dash false s t at b us x test is rest = absurd (no_goes t is)

-- which items begin with a name character
begins_name : (item : Item) (b : ℕ) → begins item b ≡ true → (item ≡ i.End → ⊥) → ((content : Content) → item ≡ i.Literal content → ⊥) → is_alnum b ≡ true
begins_name i.Opening b is no_end no_literal = cc
begins_name (i.Word k) b is no_end no_literal = alnum_of_upper b (by_spelling (spelling k) (keyword_start k) is)
  where
    by_spelling : (xs : List ℕ) → starts_alnum xs ≡ true → has_byte xs 0 (upper b) ≡ true → is_alnum (upper b) ≡ true
    by_spelling [] start has = cc
    by_spelling (y ∷ ys) start has = ap is_alnum (sym (equal y (upper b) has)) ∙ start
begins_name i.Number b is no_end no_literal = digit_alnum b is
begins_name (i.Name e) b is no_end no_literal = letter_alnum b is
begins_name (i.Literal content) b is no_end no_literal = absurd (no_literal content refl)
begins_name i.End b is no_end no_literal = absurd (no_end refl)

tight_false : (tight named : Bool) → (tight && named) ≡ false → named ≡ true → tight ≡ false
tight_false true named is name = is_false named is name
  where
    is_false : (n : Bool) → n ≡ false → n ≡ true → true ≡ false
    is_false true one two = cc
    is_false false one two = cc
tight_false false named is name = refl

-- an item that begins with this byte
module _ (s t : State) (at b : ℕ) (us : List ℕ) (x : Heard) (tight : Bool) (r : Row) (found : row_at s.due b ≡ Some r) (apart : (tight && is_name_byte b) ≡ false) where
  begins_so : (item : Item) → r.item ≡ item → begins item b ≡ true
  begins_so item same = ap (λ (z : Item). begins z b) (sym same) ∙ row_begins (rows s.due) b r found

  -- a word, from what completes it
  begun_so : (item : Item) → r.item ≡ item → is_name_byte b ≡ true → begun_word r at s b ≡ goes t → Rest t (at + 1) us x
      → ((w : List ℕ) → Grows item (upper b ∷ []) w → IsWord item (b ∷ w)) → ((word marks : List ℕ) → marks_after item word marks ≡ marks)
      → Reads tight at s.due s.marks s.heard (b ∷ us) x
  begun_so item same named is rest shapes keeps =
      let s' : State = added (upper b) (opened (p.Word r) at s) in
      let q : InWord r.item r s' (at + 1) us x = at_same s' t is (at + 1) us x rest in
      let q' : InWord item r s' (at + 1) us x = subst (λ (z : Item). InWord z r s' (at + 1) us x) same q in
      let made : IsWord r.item (b ∷ q'.w) = subst (λ (z : Item). IsWord z (b ∷ q'.w)) (sym same) (shapes q'.w q'.grows) in
      let told : Heard = tell r.tells at (upper b ∷ map upper q'.w) s.heard in
      let kept : Reads true (at + 1 + length q'.w) (due_after item (upper b ∷ map upper q'.w) r.then) s.marks told q'.rest x
      = subst (λ (m : List ℕ). Reads true (at + 1 + length q'.w) (due_after item (upper b ∷ map upper q'.w) r.then) m told q'.rest x) (keeps (upper b ∷ map upper q'.w) s.marks) q'.reads in
      let due : Reads true (at + 1 + length q'.w) (after r (upper b ∷ map upper q'.w)) s.marks told q'.rest x
      = subst (λ (z : Item). Reads true (at + 1 + length q'.w) (due_after z (upper b ∷ map upper q'.w) r.then) s.marks told q'.rest x) (sym same) kept in
      let place : at + 1 + length q'.w ≡ at + (length q'.w + 1) = omega arith in
      let moved : Reads true (at + (length q'.w + 1)) (after r (upper b ∷ map upper q'.w)) s.marks told q'.rest x
      = subst (λ (n : ℕ). Reads true n (after r (upper b ∷ map upper q'.w)) s.marks told q'.rest x) place due in
      let made_reads : Reads false at s.due s.marks s.heard (b ∷ us) x
      = word at s.due s.marks s.heard x r b q'.w q'.rest (b ∷ us) (is_row_found (rows s.due) r b found).0 made (ap (λ (l : List ℕ). b ∷ l) q'.all) moved in
      subst (λ (z : Bool). Reads z at s.due s.marks s.heard (b ∷ us) x) (sym (tight_false tight (is_name_byte b) apart named)) made_reads

  filled : (content : Content) (marks w : List ℕ) → Fills content marks [] w → IsContent content marks w
  filled c.Any marks w fills = fills
  filled c.Heading marks w fills = fills
  filled c.Marks marks w fills = fills
  filled c.SameMarks marks w fills = fills

  back_begun : (item : Item) → r.item ≡ item → begun_item item r at s b ≡ goes t → Rest t (at + 1) us x → Reads tight at s.due s.marks s.heard (b ∷ us) x
  back_begun i.Opening same is rest = absurd (no_goes t is)
  back_begun (i.Word k) same is rest = begun_so (i.Word k) same (alnum_name b (begins_name (i.Word k) b (begins_so (i.Word k) same) (λ (e : i.Word k ≡ i.End). cc) (λ (content : Content) (e : i.Word k ≡ i.Literal content). cc))) is rest (λ w grows. grows) (λ word marks. refl)
  back_begun i.Number same is rest = begun_so i.Number same (alnum_name b (digit_alnum b (begins_so i.Number same))) is rest (λ w grows. (begins_so i.Number same, grows)) (λ word marks. refl)
  back_begun (i.Name e) same is rest = begun_so (i.Name e) same (alnum_name b (letter_alnum b (begins_so (i.Name e) same))) is rest (λ w grows. (begins_so (i.Name e) same, grows)) (λ word marks. refl)
  back_begun (i.Literal content) same is rest =
      let s' : State = opened (p.Literal r content b) at s in
      let q : InLiteral content b r s' (at + 1) us x = at_same s' t is (at + 1) us x rest in
      let place : at + 1 + (length q.w + 1) ≡ at + (length q.w + 2) = omega arith in
      let moved : Reads false (at + (length q.w + 2)) r.then (marks_of_content content q.w s.marks) (tell r.tells at q.w s.heard) q.rest x
      = subst (λ (n : ℕ). Reads false n r.then (marks_of_content content q.w s.marks) (tell r.tells at q.w s.heard) q.rest x) place q.reads in
      literal tight at s.due s.marks s.heard x r content b q.w q.rest (b ∷ us) (is_row_found (rows s.due) r b found).0 same (begins_so (i.Literal content) same) q.clean (filled content s.marks q.w q.fills) (ap (λ (l : List ℕ). b ∷ l) q.all) moved
  back_begun i.End same is rest = absurd (ends_no_goes s.heard t is)

-- a byte between words
module _ (s t : State) (at b : ℕ) (us : List ℕ) (x : Heard) where
  back_row : (tight : Bool) (o : Option Row) → row_at s.due b ≡ o → (tight && is_name_byte b) ≡ false → begun_if o at s b ≡ goes t → Rest t (at + 1) us x → Reads tight at s.due s.marks s.heard (b ∷ us) x
  back_row tight None found apart is rest = absurd (no_goes t is)
  back_row tight (Some r) found apart is rest = back_begun s t at b us x tight r found apart r.item refl is rest

  -- a comment begins
  back_dash : (tight : Bool) → (tight && is_name_byte b) ≡ false → (b == 45) ≡ true → AfterDash (turned p.Dash s) (at + 1) us x → Reads tight at s.due s.marks s.heard (b ∷ us) x
  back_dash true apart dash r = absurd (not_both_ways (is_name_byte b) (ap is_name_byte (equal b 45 dash)) apart)
  back_dash false apart dash r =
      let q = r.comment in
      let place : q.next ≡ at + (length q.c + 2) = omega (arith, q.place) in
      let moved : Reads false (at + (length q.c + 2)) s.due s.marks s.heard q.rest x = subst (λ (n : ℕ). Reads false n s.due s.marks s.heard q.rest x) place q.reads in
      let text : b ∷ us ≡ 45 ∷ 45 ∷ q.c ++ q.rest = ap (λ (n : ℕ). n ∷ us) (equal b 45 dash) ∙ ap (λ (l : List ℕ). 45 ∷ l) (r.all ∙ ap (λ (l : List ℕ). 45 ∷ l) q.all) in
      comment at s.due s.marks s.heard x q.c q.rest (b ∷ us) q.comment text moved

  back_tests : (tight q1 q2 q3 : Bool) → is_separator b ≡ q1 → (tight && is_name_byte b) ≡ q2 → (b == 45) ≡ q3
      → (if q1 then goes (turned p.Apart s) else if q2 then refused else if q3 then goes (turned p.Dash s) else begun_if (row_at s.due b) at s b) ≡ goes t
      → Rest t (at + 1) us x → Reads tight at s.due s.marks s.heard (b ∷ us) x
  back_tests tight true q2 q3 t1 t2 t3 is rest = separator tight at s.due s.marks s.heard x b us t1 (at_same (turned p.Apart s) t is (at + 1) us x rest)
  back_tests tight false true q3 t1 t2 t3 is rest = absurd (no_goes t is)
  back_tests tight false false true t1 t2 t3 is rest = back_dash tight t2 t3 (at_same (turned p.Dash s) t is (at + 1) us x rest)
  back_tests tight false false false t1 t2 t3 is rest = back_row tight (row_at s.due b) refl t2 is rest

  back_outside : (tight : Bool) → outside tight at s b ≡ goes t → Rest t (at + 1) us x → Reads tight at s.due s.marks s.heard (b ∷ us) x
  back_outside tight is rest = back_tests tight (is_separator b) (tight && is_name_byte b) (b == 45) refl refl refl is rest

-- what a word of name characters is read on as
abbrev AfterWord : Item → Row → State → ℕ → List ℕ → List ℕ → Heard → Type 0
AfterWord item r s n z rest x = Reads true n (due_after item z r.then) (marks_after item z s.marks) (tell r.tells s.from z s.heard) rest x

-- a word goes on
module _ (s : State) (b : ℕ) where
  grows_more : (item : Item) (v w : List ℕ) → word_goes_on item v b ≡ true → Grows item (v ++ upper b ∷ []) w → Grows item v (b ∷ w)
  grows_more i.Opening v w test grows = sym (append_assoc v (upper b ∷ []) (map upper w)) ∙ grows
  grows_more (i.Word k) v w test grows = sym (append_assoc v (upper b ∷ []) (map upper w)) ∙ grows
  grows_more i.Number v w test grows = rw test grows
  grows_more (i.Name e) v w test grows = rw test grows
  grows_more (i.Literal content) v w test grows = grows
  grows_more i.End v w test grows = grows

  grown : (item : Item) (v : List ℕ) → is_whole_word item v ≡ true → Grows item v []
  grown i.Opening v test = append-nil v ∙ (bytes_eq-Decides v opening).0 test
  grown (i.Word k) v test = append-nil v ∙ (bytes_eq-Decides v (spelling k)).0 test
  grown i.Number v test = refl
  grown (i.Name e) v test = refl
  grown (i.Literal content) v test = absurd (not_both_ways false test refl)
  grown i.End v test = absurd (not_both_ways false test refl)

  fills_more : (content : Content) (marks v w : List ℕ) → content_goes_on content marks v b ≡ true → Fills content marks (v ++ b ∷ []) w → Fills content marks v (b ∷ w)
  fills_more c.Any marks v w test fills = fills
  fills_more c.Heading marks v w test fills = subst (λ (l : List ℕ). IsContent c.Heading marks l) (append_assoc v (b ∷ []) w) fills
  fills_more c.Marks marks v w test fills = rw test fills
  fills_more c.SameMarks marks v w test fills = subst (λ (l : List ℕ). IsContent c.SameMarks marks l) (append_assoc v (b ∷ []) w) fills

  filled_up : (content : Content) (marks v : List ℕ) → is_whole_content content marks v ≡ true → Fills content marks v []
  filled_up c.Any marks v test = tt
  filled_up c.Heading marks v test = elim (one_of (bytes_eq v heading) (bytes_eq v old_heading) test) [
    | inl e ↦ inl (append-nil v ∙ (bytes_eq-Decides v heading).0 e)
    | inr e ↦ inr (append-nil v ∙ (bytes_eq-Decides v old_heading).0 e)
  ]
  filled_up c.Marks marks v test = refl
  filled_up c.SameMarks marks v test = append-nil v ∙ (bytes_eq-Decides v marks).0 test

-- a byte in a word
module _ (s t : State) (at b : ℕ) (us : List ℕ) (x : Heard) (r : Row) where
  word_more : word_goes_on r.item s.word b ≡ true → InWord r.item r (added (upper b) s) (at + 1) us x → InWord r.item r s at (b ∷ us) x
  word_more test q =
      let place : at + 1 + length q.w ≡ at + length (b ∷ q.w) = omega arith in
      let moved : AfterWord r.item r s (at + length (b ∷ q.w)) ((s.word ++ upper b ∷ []) ++ map upper q.w) q.rest x
      = subst (λ (n : ℕ). AfterWord r.item r s n ((s.word ++ upper b ∷ []) ++ map upper q.w) q.rest x) place q.reads in
      record {
        w = b ∷ q.w;
        rest = q.rest;
        all = ap (λ (l : List ℕ). b ∷ l) q.all;
        grows = grows_more s b r.item s.word q.w test q.grows;
        reads = subst (λ (z : List ℕ). AfterWord r.item r s (at + length (b ∷ q.w)) z q.rest x) (append_assoc s.word (upper b ∷ []) (map upper q.w)) moved;
      }

  word_whole : (ys : List ℕ) → is_whole_word r.item s.word ≡ true → AfterWord r.item r s at s.word ys x → InWord r.item r s at ys x
  word_whole ys test q =
      let place : at ≡ at + 0 = omega arith in
      let moved : AfterWord r.item r s (at + 0) s.word ys x = subst (λ (n : ℕ). AfterWord r.item r s n s.word ys x) place q in
      record {
        w = [];
        rest = ys;
        all = refl;
        grows = grown s b r.item s.word test;
        reads = subst (λ (z : List ℕ). AfterWord r.item r s (at + 0) z ys x) (sym (append-nil s.word)) moved;
      }

  back_word : (q1 q2 : Bool) → s.part ≡ p.Word r → word_goes_on r.item s.word b ≡ q1 → is_whole_word r.item s.word ≡ q2
      → (if q1 then goes (added (upper b) s) else if q2 then outside true at (ended p.After r s) b else refused) ≡ goes t
      → Rest t (at + 1) us x → InWord r.item r s at (b ∷ us) x
  back_word true q2 here t1 t2 is rest =
      word_more t1 (subst (λ (z : Part). RestIn z (added (upper b) s) (at + 1) us x) here (at_same (added (upper b) s) t is (at + 1) us x rest))
  back_word false true here t1 t2 is rest = word_whole (b ∷ us) t2 (back_outside (ended p.After r s) t at b us x true is rest)
  back_word false false here t1 t2 is rest = absurd (no_goes t is)

  -- a byte in a literal
  AfterLiteral : Content → ℕ → List ℕ → List ℕ → Type 0
  AfterLiteral content n z rest = Reads false n r.then (marks_of_content content z s.marks) (tell r.tells s.from z s.heard) rest x

module _ (s t : State) (at b : ℕ) (us : List ℕ) (x : Heard) (r : Row) (content : Content) (quote : ℕ) (fits : r.item ≡ i.Literal content) where
  literal_more : (b == quote) ≡ false → content_goes_on content s.marks s.word b ≡ true → InLiteral content quote r (added b s) (at + 1) us x → InLiteral content quote r s at (b ∷ us) x
  literal_more other test q =
      let z : List ℕ = (s.word ++ b ∷ []) ++ q.w in
      let place : at + 1 + (length q.w + 1) ≡ at + (length (b ∷ q.w) + 1) = omega arith in
      let moved : Reads false (at + (length (b ∷ q.w) + 1)) r.then (marks_of_content content z s.marks) (tell r.tells s.from z s.heard) q.rest x
      = subst (λ (n : ℕ). Reads false n r.then (marks_of_content content z s.marks) (tell r.tells s.from z s.heard) q.rest x) place q.reads in
      record {
        w = b ∷ q.w;
        rest = q.rest;
        all = ap (λ (l : List ℕ). b ∷ l) q.all;
        clean = rw other q.clean;
        fills = fills_more s b content s.marks s.word q.w test q.fills;
        item = fits;
        reads = subst (λ (y : List ℕ). Reads false (at + (length (b ∷ q.w) + 1)) r.then (marks_of_content content y s.marks) (tell r.tells s.from y s.heard) q.rest x) (append_assoc s.word (b ∷ []) q.w) moved;
      }

  literal_whole : (b == quote) ≡ true → is_whole_content content s.marks s.word ≡ true
      → Reads false (at + 1) (after r s.word) (marks_after r.item s.word s.marks) (tell r.tells s.from s.word s.heard) us x → InLiteral content quote r s at (b ∷ us) x
  literal_whole same test q =
      let known : Reads false (at + 1) r.then (marks_of_content content s.word s.marks) (tell r.tells s.from s.word s.heard) us x
      = subst (λ (z : Item). Reads false (at + 1) (due_after z s.word r.then) (marks_after z s.word s.marks) (tell r.tells s.from s.word s.heard) us x) fits q in
      record {
        w = [];
        rest = us;
        all = ap (λ (n : ℕ). n ∷ us) (equal b quote same);
        clean = refl;
        fills = filled_up s b content s.marks s.word test;
        item = fits;
        reads = subst (λ (y : List ℕ). Reads false (at + 1) r.then (marks_of_content content y s.marks) (tell r.tells s.from y s.heard) us x) (sym (append-nil s.word)) known;
      }

  back_literal : (q1 q2 q3 : Bool) → s.part ≡ p.Literal r content quote → (b == quote) ≡ q1 → is_whole_content content s.marks s.word ≡ q2 → content_goes_on content s.marks s.word b ≡ q3
      → (if q1 then (if q2 then goes (ended p.Apart r s) else refused) else if q3 then goes (added b s) else refused) ≡ goes t
      → Rest t (at + 1) us x → InLiteral content quote r s at (b ∷ us) x
  back_literal true true q3 here t1 t2 t3 is rest = literal_whole t1 t2 (at_same (ended p.Apart r s) t is (at + 1) us x rest)
  back_literal true false q3 here t1 t2 t3 is rest = absurd (no_goes t is)
  back_literal false q2 true here t1 t2 t3 is rest =
      literal_more t1 t3 (subst (λ (z : Part). RestIn z (added b s) (at + 1) us x) here (at_same (added b s) t is (at + 1) us x rest))
  back_literal false q2 false here t1 t2 t3 is rest = absurd (no_goes t is)

-- the row of a literal that has begun is one of literals
abbrev pub HasRow : Part → Type 0
HasRow (p.Literal r content quote) = r.item ≡ i.Literal content
HasRow _ = Unit {0}

back_in : (s t : State) (at b : ℕ) (us : List ℕ) (x : Heard) (part : Part) → s.part ≡ part → HasRow part → step_in part at s b ≡ goes t → Rest t (at + 1) us x → RestIn part s at (b ∷ us) x
back_in s t at b us x p.Apart here fits is rest = back_outside s t at b us x false is rest
back_in s t at b us x p.After here fits is rest = back_outside s t at b us x true is rest
back_in s t at b us x p.Dash here fits is rest = after_dash (b == 45) s t at b us x refl is rest
back_in s t at b us x p.Comment here fits is rest = in_comment (b == 45) s t at b us x refl is rest
back_in s t at b us x p.CommentDash here fits is rest = after_comment_dash (b == 45) s t at b us x refl is rest
back_in s t at b us x (p.Word r) here fits is rest = back_word s t at b us x r (word_goes_on r.item s.word b) (is_whole_word r.item s.word) here refl refl is rest
back_in s t at b us x (p.Literal r content quote) here fits is rest =
    back_literal s t at b us x r content quote fits (b == quote) (is_whole_content content s.marks s.word) (content_goes_on content s.marks s.word b) here refl refl refl is rest

-- what completes the state that a byte leads to completes, with the byte before it, the state before
pub back : (s t : State) (at b : ℕ) (us : List ℕ) (x : Heard) → HasRow s.part → step at s b ≡ goes t → Rest t (at + 1) us x → Rest s at (b ∷ us) x
back s t at b us x fits is rest = back_in s t at b us x s.part refl fits is rest

-- the byte that ends a declaration
module _ (s : State) (at b : ℕ) (x : Heard) (tight : Bool) where
  end_begun : (r : Row) (item : Item) → r.item ≡ item → row_at s.due b ≡ Some r → begun_item item r at s b ≡ ends x → Reads tight at s.due s.marks s.heard (b ∷ []) x
  end_begun r i.Opening same found is = absurd (no_ends x is)
  end_begun r (i.Word k) same found is = absurd (goes_no_ends x _ is)
  end_begun r i.Number same found is = absurd (goes_no_ends x _ is)
  end_begun r (i.Name e) same found is = absurd (goes_no_ends x _ is)
  end_begun r (i.Literal content) same found is = absurd (goes_no_ends x _ is)
  end_begun r i.End same found is =
      let sign : b ≡ 62 = equal b 62 (ap (λ (z : Item). begins z b) (sym same) ∙ row_begins (rows s.due) b r found) in
      let made : Reads tight at s.due s.marks s.heard (62 ∷ []) s.heard = the_end tight at s.due s.marks s.heard r (is_row_found (rows s.due) r b found).0 same in
      let told : Reads tight at s.due s.marks s.heard (62 ∷ []) x = subst (λ (h : Heard). Reads tight at s.due s.marks s.heard (62 ∷ []) h) (same_ends s.heard x is) made in
      subst (λ (n : ℕ). Reads tight at s.due s.marks s.heard (n ∷ []) x) (sym sign) told

  end_row : (o : Option Row) → row_at s.due b ≡ o → begun_if o at s b ≡ ends x → Reads tight at s.due s.marks s.heard (b ∷ []) x
  end_row None found is = absurd (no_ends x is)
  end_row (Some r) found is = end_begun r r.item refl found is

  end_tests : (q1 q2 q3 : Bool) → (if q1 then goes (turned p.Apart s) else if q2 then refused else if q3 then goes (turned p.Dash s) else begun_if (row_at s.due b) at s b) ≡ ends x → Reads tight at s.due s.marks s.heard (b ∷ []) x
  end_tests true q2 q3 is = absurd (goes_no_ends x _ is)
  end_tests false true q3 is = absurd (no_ends x is)
  end_tests false false true is = absurd (goes_no_ends x _ is)
  end_tests false false false is = end_row (row_at s.due b) refl is

  end_outside : outside tight at s b ≡ ends x → Reads tight at s.due s.marks s.heard (b ∷ []) x
  end_outside is = end_tests (is_separator b) (tight && is_name_byte b) (b == 45) is

module _ (s : State) (at b : ℕ) (x : Heard) where
  end_word : (r : Row) (q1 q2 : Bool) → is_whole_word r.item s.word ≡ q2 → (if q1 then goes (added (upper b) s) else if q2 then outside true at (ended p.After r s) b else refused) ≡ ends x → InWord r.item r s at (b ∷ []) x
  end_word r true q2 t2 is = absurd (goes_no_ends x _ is)
  end_word r false true t2 is = word_whole s s at b [] x r (b ∷ []) t2 (end_outside (ended p.After r s) at b x true is)
  end_word r false false t2 is = absurd (no_ends x is)

  end_literal : (r : Row) (content : Content) (quote : ℕ) (q1 q2 q3 : Bool) → (if q1 then (if q2 then goes (ended p.Apart r s) else refused) else if q3 then goes (added b s) else refused) ≡ ends x → ⊥
  end_literal r content quote true true q3 is = goes_no_ends x _ is
  end_literal r content quote true false q3 is = no_ends x is
  end_literal r content quote false q2 true is = goes_no_ends x _ is
  end_literal r content quote false q2 false is = no_ends x is

  end_dash : (q : Bool) → (if q then goes (turned p.Comment s) else refused) ≡ ends x → ⊥
  end_dash true is = goes_no_ends x _ is
  end_dash false is = no_ends x is

  end_in : (part : Part) → step_in part at s b ≡ ends x → RestIn part s at (b ∷ []) x
  end_in p.Apart is = end_outside s at b x false is
  end_in p.After is = end_outside s at b x true is
  end_in p.Dash is = absurd (end_dash (b == 45) is)
  end_in p.Comment is = absurd (goes_no_ends x _ is)
  end_in p.CommentDash is = absurd (goes_no_ends x _ is)
  end_in (p.Word r) is = end_word r (word_goes_on r.item s.word b) (is_whole_word r.item s.word) refl is
  end_in (p.Literal r content quote) is = absurd (end_literal r content quote (b == quote) (is_whole_content content s.marks s.word) (content_goes_on content s.marks s.word b) is)

-- the byte that ends a declaration completes the state before it
pub back_end : (s : State) (at b : ℕ) (x : Heard) → step at s b ≡ ends x → Rest s at (b ∷ []) x
back_end s at b x is = end_in s at b x s.part is
