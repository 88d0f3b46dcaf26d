-- What completes a state begins with a byte that leads to a state which the rest completes.
use Rattle.std.proofs.Common.{◌≡◌, ℕ, ◌+◌, inl, inr, Bool, true, false, ◌&&◌, ◌==◌, List, [], ◌∷◌, ◌++◌, map, length, Option, Some, refl, sym, ap, ◌∙◌, subst, append_assoc, append-nil, if◌then◌else◌, arith}
use Rattle.std.specs.List.{list_all}
use Rattle.std.specs.Str.{bytes_eq}
use Rattle.std.proofs.lemmas.Slice.Eq.{bytes_eq-Decides}
use Rattle.sgml_text.specs.Characters.{upper, is_digit, is_separator, is_quote}
use Rattle.sgml_sgmldecl.specs.declared.due.Due.{Due}
use Rattle.sgml_sgmldecl.specs.declared.heard.Heard.{Heard}
use Rattle.sgml_sgmldecl.specs.declared.reading.Part.{Part}
use Rattle.sgml_sgmldecl.specs.declared.reading.Part.TheVariants as p
use Rattle.sgml_sgmldecl.specs.declared.row.Row.{Row}
use Rattle.sgml_sgmldecl.specs.declared.row.Item.{Item}
use Rattle.sgml_sgmldecl.specs.declared.row.Item.TheVariants as i
use Rattle.sgml_sgmldecl.specs.declared.row.Content.{Content}
use Rattle.sgml_sgmldecl.specs.declared.row.Content.TheVariants as c
use Rattle.sgml_sgmldecl.specs.Keywords.{spelling}
use Rattle.sgml_sgmldecl.specs.Rows.{rows}
use Rattle.sgml_sgmldecl.specs.Characters.{is_mark, is_name_byte, opening, heading, old_heading}
use Rattle.sgml_sgmldecl.specs.Items.{has_byte, begins_with, begins, word_goes_on, is_whole_word, content_goes_on, is_whole_content}
use Rattle.sgml_sgmldecl.specs.Heard.{tell, contains}
use Rattle.sgml_sgmldecl.specs.Machine.{State, Step, refused, goes, ends, turned, opened, added, ended, begun, begun_word, begun_item, begun_if, outside, in_word, in_literal, step_in, step, marks_after}
use Rattle.sgml_sgmldecl.specs.Following.{IsRow, row_at, after, due_after, marks_of_content}
use Rattle.sgml_sgmldecl.specs.Declaring.{CommentRest, closes, another, lone_dash, IsWord, IsContent, Reads, separator, comment, word, literal, the_end}
use Rattle.sgml_sgmldecl.proofs.Bytes.{has_byte-past}
use Rattle.sgml_sgmldecl.proofs.ByteTests.{or_left, or_right, equal_test, both, neither, not_so, not_both_ways, is_alnum, letter_alnum, digit_alnum, alnum_name, alnum_of_upper, alnum_not_separator, alnum_not_dash, separator_not_name, quote_not_name, quote_not_separator, quote_not_dash}
use Rattle.sgml_sgmldecl.proofs.Table.{keyword_start, starts_alnum}
use Rattle.sgml_sgmldecl.proofs.Apart.{found_alone}
use Rattle.sgml_sgmldecl.proofs.Resting.{Grows, Fills, InWord, InLiteral, InComment, AfterDash, RestIn, Rest}

-- the bytes begin with one that leads on by this step
pub data Onward (f : ℕ → Step) (at : ℕ) (us : List ℕ) (x : Heard) : Type 0 where
  on : (t : State) (b : ℕ) (bs : List ℕ) → us ≡ b ∷ bs → f b ≡ goes t → Rest t (at + 1) bs x → Onward f at us x
  over : (b : ℕ) → us ≡ b ∷ [] → f b ≡ ends x → Onward f at us x

and_false : (tight q : Bool) → q ≡ false → (tight && q) ≡ false
and_false true q is = is
and_false false q is = refl

-- a byte that begins an item
at_row : (tight : Bool) (at b : ℕ) (s : State) (r : Row) → is_separator b ≡ false → (tight && is_name_byte b) ≡ false → (b == 45) ≡ false → row_at s.due b ≡ Some r → outside tight at s b ≡ begun r at s b
at_row tight at b s r t1 t2 t3 t4 = by_tests (is_separator b) (tight && is_name_byte b) (b == 45) (row_at s.due b) t1 t2 t3 t4
  where
    by_tests : (q1 q2 q3 : Bool) (o : Option Row) → q1 ≡ false → q2 ≡ false → q3 ≡ false → o ≡ Some r
        → (if q1 then goes (turned p.Apart s) else if q2 then refused else if q3 then goes (turned p.Dash s) else begun_if o at s b) ≡ begun r at s b
    by_tests q1 q2 q3 o e1 e2 e3 e4 = rw (e1, e2, e3, e4) refl

word_start : (item : Item) (b : ℕ) (w : List ℕ) → IsWord item (b ∷ w) → is_alnum b ≡ true
word_start i.Opening b w made = absurd made
word_start (i.Word k) b w made = alnum_of_upper b (ap starts_alnum made ∙ keyword_start k)
word_start i.Number b w made = digit_alnum b made.0
word_start (i.Name e) b w made = letter_alnum b made.0
word_start (i.Literal content) b w made = absurd made
word_start i.End b w made = absurd made

word_begins : (item : Item) (b : ℕ) (w : List ℕ) → IsWord item (b ∷ w) → begins item b ≡ true
word_begins i.Opening b w made = absurd made
word_begins (i.Word k) b w made = ap (λ (l : List ℕ). has_byte l 0 (upper b)) (sym made) ∙ equal_test (upper b) (upper b) refl
word_begins i.Number b w made = made.0
word_begins (i.Name e) b w made = made.0
word_begins (i.Literal content) b w made = absurd made
word_begins i.End b w made = absurd made

word_grows : (item : Item) (b : ℕ) (w : List ℕ) → IsWord item (b ∷ w) → Grows item (upper b ∷ []) w
word_grows i.Opening b w made = absurd made
word_grows (i.Word k) b w made = made
word_grows i.Number b w made = made.1
word_grows (i.Name e) b w made = made.1
word_grows (i.Literal content) b w made = absurd made
word_grows i.End b w made = absurd made

word_keeps : (item : Item) (w v marks : List ℕ) → IsWord item w → marks ≡ marks_after item v marks
word_keeps i.Opening w v marks made = absurd made
word_keeps (i.Word k) w v marks made = refl
word_keeps i.Number w v marks made = refl
word_keeps (i.Name e) w v marks made = refl
word_keeps (i.Literal content) w v marks made = absurd made
word_keeps i.End w v marks made = absurd made

word_begun : (item : Item) (b at : ℕ) (w : List ℕ) (r : Row) (s : State) → IsWord item (b ∷ w) → begun_item item r at s b ≡ begun_word r at s b
word_begun i.Opening b at w r s made = absurd made
word_begun (i.Word k) b at w r s made = refl
word_begun i.Number b at w r s made = refl
word_begun (i.Name e) b at w r s made = refl
word_begun (i.Literal content) b at w r s made = absurd made
word_begun i.End b at w r s made = absurd made

content_fills : (content : Content) (marks w : List ℕ) → IsContent content marks w → Fills content marks [] w
content_fills c.Any marks w made = made
content_fills c.Heading marks w made = made
content_fills c.Marks marks w made = made
content_fills c.SameMarks marks w made = made

abbrev mk : Part → Due → ℕ → List ℕ → List ℕ → Heard → State
mk part d from v marks h = record { part = part; due = d; from = from; word = v; marks = marks; heard = h }

-- between words
module _ (part : Part) (from : ℕ) (v : List ℕ) where
  on_word : (at : ℕ) (d : Due) (marks : List ℕ) (h x : Heard) (r : Row) (b : ℕ) (w rest bytes : List ℕ)
      → IsRow r (rows d) → IsWord r.item (b ∷ w) → bytes ≡ b ∷ w ++ rest
      → Reads true (at + (length w + 1)) (after r (map upper (b ∷ w))) marks (tell r.tells at (map upper (b ∷ w)) h) rest x
      → Onward (outside false at (mk part d from v marks h)) at bytes x
  on_word at d marks h x r b w rest bytes found made text rd =
      let s : State = mk part d from v marks h in
      let t : State = added (upper b) (opened (p.Word r) at s) in
      let start = word_start r.item b w made in
      let z : List ℕ = upper b ∷ map upper w in
      let place : at + (length w + 1) ≡ at + 1 + length w = omega arith in
      let moved : Reads true (at + 1 + length w) (after r z) marks (tell r.tells at z h) rest x
      = subst (λ (n : ℕ). Reads true n (after r z) marks (tell r.tells at z h) rest x) place rd in
      let kept : Reads true (at + 1 + length w) (after r z) (marks_after r.item z marks) (tell r.tells at z h) rest x
      = subst (λ (m : List ℕ). Reads true (at + 1 + length w) (after r z) m (tell r.tells at z h) rest x) (word_keeps r.item (b ∷ w) z marks made) moved in
      let q : InWord r.item r t (at + 1) (w ++ rest) x = record { w = w; rest = rest; all = refl; grows = word_grows r.item b w made; reads = kept } in
      on t b (w ++ rest) text (at_row false at b s r (alnum_not_separator b start) refl (alnum_not_dash b start) (found_alone d r b found (word_begins r.item b w made)) ∙ word_begun r.item b at w r s made) q

  on_literal : (tight : Bool) (at : ℕ) (d : Due) (marks : List ℕ) (h x : Heard) (r : Row) (content : Content) (quote : ℕ) (w rest bytes : List ℕ)
      → IsRow r (rows d) → r.item ≡ i.Literal content → is_quote quote ≡ true → contains w quote ≡ false → IsContent content marks w → bytes ≡ quote ∷ w ++ quote ∷ rest
      → Reads false (at + (length w + 2)) r.then (marks_of_content content w marks) (tell r.tells at w h) rest x
      → Onward (outside tight at (mk part d from v marks h)) at bytes x
  on_literal tight at d marks h x r content quote w rest bytes found same sign clean made text rd =
      let s : State = mk part d from v marks h in
      let t : State = opened (p.Literal r content quote) at s in
      let begun_there : begins r.item quote ≡ true = ap (λ (z : Item). begins z quote) same ∙ sign in
      let place : at + (length w + 2) ≡ at + 1 + (length w + 1) = omega arith in
      let moved : Reads false (at + 1 + (length w + 1)) r.then (marks_of_content content w marks) (tell r.tells at w h) rest x
      = subst (λ (n : ℕ). Reads false n r.then (marks_of_content content w marks) (tell r.tells at w h) rest x) place rd in
      let q : InLiteral content quote r t (at + 1) (w ++ quote ∷ rest) x = record { w = w; rest = rest; all = refl; clean = clean; fills = content_fills content marks w made; item = same; reads = moved } in
      on t quote (w ++ quote ∷ rest) text
      (at_row tight at quote s r (quote_not_separator quote sign) (and_false tight (is_name_byte quote) (quote_not_name quote sign)) (quote_not_dash quote sign) (found_alone d r quote found begun_there)
      ∙ ap (λ (z : Item). begun_item z r at s quote) same) q

  on_outside : (tight : Bool) (at : ℕ) (d : Due) (marks : List ℕ) (h : Heard) (us : List ℕ) (x : Heard) → Reads tight at d marks h us x → Onward (outside tight at (mk part d from v marks h)) at us x
  on_outside tight at d marks h _ x (separator _ _ _ _ _ _ b bs sep rd) =
      let s : State = mk part d from v marks h in
      on (turned p.Apart s) b bs refl (ap (λ (q : Bool). if q then goes (turned p.Apart s) else if tight && is_name_byte b then refused else if b == 45 then goes (turned p.Dash s) else begun_if (row_at d b) at s b) sep) rd
  on_outside _ at d marks h us x (comment _ _ _ _ _ rest_of_it rest _ cr text rd) =
      let s : State = mk part d from v marks h in
      let inside : InComment [] (turned p.Dash s) (at + 1 + 1) (rest_of_it ++ rest) x = record { c = rest_of_it; rest = rest; all = refl; comment = cr; next = at + (length rest_of_it + 2); place = omega arith; reads = rd } in
      let q : AfterDash (turned p.Dash s) (at + 1) (45 ∷ rest_of_it ++ rest) x = record { more = rest_of_it ++ rest; all = refl; comment = inside } in
      on (turned p.Dash s) 45 (45 ∷ rest_of_it ++ rest) text refl q
  on_outside _ at d marks h us x (word _ _ _ _ _ r b w rest _ found made text rd) = on_word at d marks h x r b w rest us found made text rd
  on_outside tight at d marks h us x (literal _ _ _ _ _ _ r content quote w rest _ found same sign clean made text rd) = on_literal tight at d marks h x r content quote w rest us found same sign clean made text rd
  on_outside tight at d marks h _ _ (the_end _ _ _ _ _ r found same) =
      let s : State = mk part d from v marks h in
      over 62 refl (at_row tight at 62 s r refl (and_false tight (is_name_byte 62) refl) refl (found_alone d r 62 found (ap (λ (z : Item). begins z 62) same)) ∙ ap (λ (z : Item). begun_item z r at s 62) same)

-- directly after a word no name character stands
no_name : (tight : Bool) (at : ℕ) (d : Due) (marks : List ℕ) (h : Heard) (us : List ℕ) (x : Heard) → Reads tight at d marks h us x → tight ≡ true → (b : ℕ) (bs : List ℕ) → us ≡ b ∷ bs → is_name_byte b ≡ false
no_name tight at d marks h _ x (separator _ _ _ _ _ _ c cs sep rd) yes_tight b bs text = let same : c ≡ b = cc in ap is_name_byte (sym same) ∙ separator_not_name c sep
no_name _ at d marks h us x (comment _ _ _ _ _ rest_of_it rest _ cr text rd) yes_tight b bs text_is = cc
no_name _ at d marks h us x (word _ _ _ _ _ r c w rest _ found made text rd) yes_tight b bs text_is = cc
no_name tight at d marks h us x (literal _ _ _ _ _ _ r content quote w rest _ found same sign clean made text rd) yes_tight b bs text_is =
    let head : quote ≡ b = cc in
    ap is_name_byte (sym head) ∙ quote_not_name quote sign
no_name tight at d marks h _ _ (the_end _ _ _ _ _ r found same) yes_tight b bs text = let head : 62 ≡ b = cc in ap is_name_byte (sym head)

-- the byte after these
pub has_at : (xs : List ℕ) (n : ℕ) (ys : List ℕ) → has_byte (xs ++ n ∷ ys) (length xs) n ≡ true
has_at [] n ys = equal_test n n refl
has_at (m ∷ xs) n ys = has_at xs n ys

pub begins_at : (xs : List ℕ) (n : ℕ) (ys : List ℕ) → begins_with (xs ++ n ∷ ys) xs n ≡ true
begins_at [] n ys = equal_test n n refl
begins_at (m ∷ xs) n ys = rw (equal_test m m refl) (begins_at xs n ys)

has_next : (xs whole ys : List ℕ) (n : ℕ) → xs ++ n ∷ ys ≡ whole → has_byte whole (length xs) n ≡ true
has_next xs whole ys n is = ap (λ (l : List ℕ). has_byte l (length xs) n) (sym is) ∙ has_at xs n ys

begins_next : (xs whole ys : List ℕ) (n : ℕ) → xs ++ n ∷ ys ≡ whole → begins_with whole xs n ≡ true
begins_next xs whole ys n is = ap (λ (l : List ℕ). begins_with l xs n) (sym is) ∙ begins_at xs n ys

pub has_no_more : (xs whole : List ℕ) (n : ℕ) → xs ++ [] ≡ whole → has_byte whole (length xs) n ≡ false
has_no_more xs whole n is = has_byte-past whole (length xs) n (omega (arith, ap length (sym (append-nil xs) ∙ is)))

-- comments
comment_on : (s : State) (at : ℕ) (us : List ℕ) (x : Heard) (c rest : List ℕ) (next : ℕ) → CommentRest c → us ≡ c ++ rest → next + 0 ≡ at + length c → Reads false next s.due s.marks s.heard rest x
    → Onward (step_in p.Comment at s) at us x
comment_on s at us x _ rest next closes text place rd =
    let q : InComment (45 ∷ []) (turned p.CommentDash s) (at + 1) (45 ∷ rest) x = record { c = 45 ∷ 45 ∷ []; rest = rest; all = refl; comment = closes; next = next; place = omega (arith, place); reads = rd } in
    on (turned p.CommentDash s) 45 (45 ∷ rest) text refl q
comment_on s at us x _ rest next (another b bs other cr) text place rd =
    let q : InComment [] (turned p.Comment s) (at + 1) (bs ++ rest) x = record { c = bs; rest = rest; all = refl; comment = cr; next = next; place = omega (arith, place); reads = rd } in
    on (turned p.Comment s) b (bs ++ rest) text (ap (λ (z : Bool). goes (turned (if z then p.CommentDash else p.Comment) s)) other) q
comment_on s at us x _ rest next (lone_dash b bs other cr) text place rd =
    let q : InComment (45 ∷ []) (turned p.CommentDash s) (at + 1) (b ∷ bs ++ rest) x = record { c = 45 ∷ b ∷ bs; rest = rest; all = refl; comment = lone_dash b bs other cr; next = next; place = omega (arith, place); reads = rd } in
    on (turned p.CommentDash s) 45 (b ∷ bs ++ rest) text refl q

dash_on : (s : State) (at : ℕ) (us : List ℕ) (x : Heard) (c rest : List ℕ) (next : ℕ) → CommentRest c → 45 ∷ us ≡ c ++ rest → next + 1 ≡ at + length c → Reads false next s.due s.marks s.heard rest x
    → Onward (step_in p.CommentDash at s) at us x
dash_on s at us x _ rest next closes text place rd =
    let same : us ≡ 45 ∷ rest = cc in
    let there : next ≡ at + 1 = omega (arith, place) in
    let q : Reads false (at + 1) s.due s.marks s.heard rest x = subst (λ (n : ℕ). Reads false n s.due s.marks s.heard rest x) there rd in
    on (turned p.Apart s) 45 rest same refl q
dash_on s at us x _ rest next (another b bs other cr) text place rd =
    let head : b ≡ 45 = cc in
    absurd (not_both_ways (b == 45) (equal_test b 45 head) other)
dash_on s at us x _ rest next (lone_dash b bs other cr) text place rd =
    let same : us ≡ b ∷ bs ++ rest = cc in
    let q : InComment [] (turned p.Comment s) (at + 1) (bs ++ rest) x = record { c = bs; rest = rest; all = refl; comment = cr; next = next; place = omega (arith, place); reads = rd } in
    on (turned p.Comment s) b (bs ++ rest) same (ap (λ (z : Bool). goes (turned (if z then p.Apart else p.Comment) s)) other) q

-- a word of name characters
goes_more : (item : Item) (v : List ℕ) (b : ℕ) (w : List ℕ) → Grows item v (b ∷ w) → word_goes_on item v b ≡ true
goes_more i.Opening v b w grows = has_next v opening (map upper w) (upper b) grows
goes_more (i.Word k) v b w grows = has_next v (spelling k) (map upper w) (upper b) grows
goes_more i.Number v b w grows = (both (is_digit b) (list_all is_digit w) grows).0
goes_more (i.Name e) v b w grows = (both (is_name_byte b) (list_all is_name_byte w) grows).0
goes_more (i.Literal content) v b w grows = absurd grows
goes_more i.End v b w grows = absurd grows

grows_less : (item : Item) (v : List ℕ) (b : ℕ) (w : List ℕ) → Grows item v (b ∷ w) → Grows item (v ++ upper b ∷ []) w
grows_less i.Opening v b w grows = append_assoc v (upper b ∷ []) (map upper w) ∙ grows
grows_less (i.Word k) v b w grows = append_assoc v (upper b ∷ []) (map upper w) ∙ grows
grows_less i.Number v b w grows = (both (is_digit b) (list_all is_digit w) grows).1
grows_less (i.Name e) v b w grows = (both (is_name_byte b) (list_all is_name_byte w) grows).1
grows_less (i.Literal content) v b w grows = absurd grows
grows_less i.End v b w grows = absurd grows

stops : (item : Item) (v : List ℕ) (b : ℕ) → Grows item v [] → is_name_byte b ≡ false → word_goes_on item v b ≡ false
stops i.Opening v b grows unnamed = has_no_more v opening (upper b) grows
stops (i.Word k) v b grows unnamed = has_no_more v (spelling k) (upper b) grows
stops i.Number v b grows unnamed = not_so (is_digit b) (λ (digit : is_digit b ≡ true). not_both_ways (is_name_byte b) (alnum_name b (digit_alnum b digit)) unnamed)
stops (i.Name e) v b grows unnamed = unnamed
stops (i.Literal content) v b grows unnamed = absurd grows
stops i.End v b grows unnamed = absurd grows

is_whole : (item : Item) (v : List ℕ) → Grows item v [] → is_whole_word item v ≡ true
is_whole i.Opening v grows = (bytes_eq-Decides v opening).1 (sym (append-nil v) ∙ grows)
is_whole (i.Word k) v grows = (bytes_eq-Decides v (spelling k)).1 (sym (append-nil v) ∙ grows)
is_whole i.Number v grows = refl
is_whole (i.Name e) v grows = refl
is_whole (i.Literal content) v grows = absurd grows
is_whole i.End v grows = absurd grows

-- a literal
fills_next : (content : Content) (marks v : List ℕ) (b : ℕ) (w : List ℕ) → Fills content marks v (b ∷ w) → content_goes_on content marks v b ≡ true
fills_next c.Any marks v b w fills = refl
fills_next c.Heading marks v b w fills = elim fills [
  | inl e ↦ or_left (begins_with heading v b) (begins_with old_heading v b) (begins_next v heading w b e)
  | inr e ↦ or_right (begins_with heading v b) (begins_with old_heading v b) (begins_next v old_heading w b e)
]
fills_next c.Marks marks v b w fills = (both (is_mark b) (list_all is_mark w) fills).0
fills_next c.SameMarks marks v b w fills = has_next v marks w b fills

fills_less : (content : Content) (marks v : List ℕ) (b : ℕ) (w : List ℕ) → Fills content marks v (b ∷ w) → Fills content marks (v ++ b ∷ []) w
fills_less c.Any marks v b w fills = fills
fills_less c.Heading marks v b w fills = subst (λ (l : List ℕ). IsContent c.Heading marks l) (sym (append_assoc v (b ∷ []) w)) fills
fills_less c.Marks marks v b w fills = (both (is_mark b) (list_all is_mark w) fills).1
fills_less c.SameMarks marks v b w fills = subst (λ (l : List ℕ). IsContent c.SameMarks marks l) (sym (append_assoc v (b ∷ []) w)) fills

is_full : (content : Content) (marks v : List ℕ) → Fills content marks v [] → is_whole_content content marks v ≡ true
is_full c.Any marks v fills = refl
is_full c.Heading marks v fills = elim fills [
  | inl e ↦ or_left (bytes_eq v heading) (bytes_eq v old_heading) ((bytes_eq-Decides v heading).1 (sym (append-nil v) ∙ e))
  | inr e ↦ or_right (bytes_eq v heading) (bytes_eq v old_heading) ((bytes_eq-Decides v old_heading).1 (sym (append-nil v) ∙ e))
]
is_full c.Marks marks v fills = refl
is_full c.SameMarks marks v fills = (bytes_eq-Decides v marks).1 (sym (append-nil v) ∙ fills)

-- by the part of the state
module _ (s : State) (at : ℕ) (us : List ℕ) (x : Heard) where
  on_more : (r : Row) (b : ℕ) (w rest : List ℕ) → s.part ≡ p.Word r → us ≡ b ∷ w ++ rest → Grows r.item s.word (b ∷ w)
      → Reads true (at + length (b ∷ w)) (due_after r.item (s.word ++ map upper (b ∷ w)) r.then) (marks_after r.item (s.word ++ map upper (b ∷ w)) s.marks) (tell r.tells s.from (s.word ++ map upper (b ∷ w)) s.heard) rest x
      → Onward (in_word r at s) at us x
  on_more r b w rest here text grows rd =
      let t : State = added (upper b) s in
      let place : at + length (b ∷ w) ≡ at + 1 + length w = omega arith in
      let F : ℕ → List ℕ → Type 0 = λ n z. Reads true n (due_after r.item z r.then) (marks_after r.item z s.marks) (tell r.tells s.from z s.heard) rest x in
      let moved : F (at + 1 + length w) (s.word ++ map upper (b ∷ w)) = subst (λ (n : ℕ). F n (s.word ++ map upper (b ∷ w))) place rd in
      let grouped : F (at + 1 + length w) ((s.word ++ upper b ∷ []) ++ map upper w) = subst (F (at + 1 + length w)) (sym (append_assoc s.word (upper b ∷ []) (map upper w))) moved in
      let q : InWord r.item r t (at + 1) (w ++ rest) x = record { w = w; rest = rest; all = refl; grows = grows_less r.item s.word b w grows; reads = grouped } in
      let stays : Rest t (at + 1) (w ++ rest) x = subst (λ (z : Part). RestIn z t (at + 1) (w ++ rest) x) (sym here) q in
      on t b (w ++ rest) text (ap (λ (z : Bool). if z then goes (added (upper b) s) else if is_whole_word r.item s.word then outside true at (ended p.After r s) b else refused) (goes_more r.item s.word b w grows)) stays

  past_word : (r : Row) (b : ℕ) (q1 q2 : Bool) → q1 ≡ false → q2 ≡ true → (if q1 then goes (added (upper b) s) else if q2 then outside true at (ended p.After r s) b else refused) ≡ outside true at (ended p.After r s) b
  past_word r b q1 q2 e1 e2 = rw (e1, e2) refl

  after_it : (r : Row) → Grows r.item s.word [] → (b : ℕ) → is_name_byte b ≡ false → in_word r at s b ≡ outside true at (ended p.After r s) b
  after_it r grows b unnamed = past_word r b (word_goes_on r.item s.word b) (is_whole_word r.item s.word) (stops r.item s.word b grows unnamed) (is_whole r.item s.word grows)

  -- a word that has ended goes on as what stands after it
  as_outside : (r : Row) → Grows r.item s.word [] → ((b : ℕ) (bs : List ℕ) → us ≡ b ∷ bs → is_name_byte b ≡ false) → Onward (outside true at (ended p.After r s)) at us x → Onward (in_word r at s) at us x
  as_outside r grows unnamed (on t b bs text does rest) = on t b bs text (after_it r grows b (unnamed b bs text) ∙ does) rest
  as_outside r grows unnamed (over b text does) = over b text (after_it r grows b (unnamed b [] text) ∙ does)

  on_ended : (r : Row) (rest : List ℕ) → us ≡ rest → Grows r.item s.word []
      → Reads true (at + 0) (due_after r.item (s.word ++ []) r.then) (marks_after r.item (s.word ++ []) s.marks) (tell r.tells s.from (s.word ++ []) s.heard) rest x
      → Onward (in_word r at s) at us x
  on_ended r rest text grows rd =
      let F : ℕ → List ℕ → List ℕ → Type 0 = λ n z l. Reads true n (due_after r.item z r.then) (marks_after r.item z s.marks) (tell r.tells s.from z s.heard) l x in
      let place : at + 0 ≡ at = omega arith in
      let moved : F at (s.word ++ []) rest = subst (λ (n : ℕ). F n (s.word ++ []) rest) place rd in
      let plain : F at s.word rest = subst (λ (z : List ℕ). F at z rest) (append-nil s.word) moved in
      let here : F at s.word us = subst (F at s.word) (sym text) plain in
      let unnamed = no_name true at (after r s.word) (marks_after r.item s.word s.marks) (tell r.tells s.from s.word s.heard) us x here refl in
      as_outside r grows unnamed (on_outside p.After s.from s.word true at (after r s.word) (marks_after r.item s.word s.marks) (tell r.tells s.from s.word s.heard) us x here)

  on_in_word : (r : Row) (w rest : List ℕ) → s.part ≡ p.Word r → us ≡ w ++ rest → Grows r.item s.word w
      → Reads true (at + length w) (due_after r.item (s.word ++ map upper w) r.then) (marks_after r.item (s.word ++ map upper w) s.marks) (tell r.tells s.from (s.word ++ map upper w) s.heard) rest x
      → Onward (in_word r at s) at us x
  on_in_word r [] rest here text grows rd = on_ended r rest text grows rd
  on_in_word r (b ∷ w) rest here text grows rd = on_more r b w rest here text grows rd

  literal_step : (r : Row) (content : Content) (quote b : ℕ) → (b == quote) ≡ false → content_goes_on content s.marks s.word b ≡ true → in_literal r content quote s b ≡ goes (added b s)
  literal_step r content quote b other test = by_tests (b == quote) (content_goes_on content s.marks s.word b) other test
    where
      by_tests : (q1 q2 : Bool) → q1 ≡ false → q2 ≡ true → (if q1 then (if is_whole_content content s.marks s.word then goes (ended p.Apart r s) else refused) else if q2 then goes (added b s) else refused) ≡ goes (added b s)
      by_tests q1 q2 e1 e2 = rw (e1, e2) refl

  literal_ends : (r : Row) (content : Content) (quote : ℕ) → is_whole_content content s.marks s.word ≡ true → in_literal r content quote s quote ≡ goes (ended p.Apart r s)
  literal_ends r content quote test = by_tests (quote == quote) (is_whole_content content s.marks s.word) (equal_test quote quote refl) test
    where
      by_tests : (q1 q2 : Bool) → q1 ≡ true → q2 ≡ true → (if q1 then (if q2 then goes (ended p.Apart r s) else refused) else if content_goes_on content s.marks s.word quote then goes (added quote s) else refused) ≡ goes (ended p.Apart r s)
      by_tests q1 q2 e1 e2 = rw (e1, e2) refl

  on_in_literal : (r : Row) (content : Content) (quote : ℕ) (w rest : List ℕ) → s.part ≡ p.Literal r content quote → us ≡ w ++ quote ∷ rest → contains w quote ≡ false → Fills content s.marks s.word w → r.item ≡ i.Literal content
      → Reads false (at + (length w + 1)) r.then (marks_of_content content (s.word ++ w) s.marks) (tell r.tells s.from (s.word ++ w) s.heard) rest x
      → Onward (in_literal r content quote s) at us x
  on_in_literal r content quote [] rest here text clean fills same rd =
      let F : List ℕ → Type 0 = λ z. Reads false (at + 1) r.then (marks_of_content content z s.marks) (tell r.tells s.from z s.heard) rest x in
      let plain : F s.word = subst F (append-nil s.word) rd in
      let q : Reads false (at + 1) (after r s.word) (marks_after r.item s.word s.marks) (tell r.tells s.from s.word s.heard) rest x
      = subst (λ (z : Item). Reads false (at + 1) (due_after z s.word r.then) (marks_after z s.word s.marks) (tell r.tells s.from s.word s.heard) rest x) (sym same) plain in
      on (ended p.Apart r s) quote rest text (literal_ends r content quote (is_full content s.marks s.word fills)) q
  on_in_literal r content quote (b ∷ w) rest here text clean fills same rd =
      let t : State = added b s in
      let F : ℕ → List ℕ → Type 0 = λ n z. Reads false n r.then (marks_of_content content z s.marks) (tell r.tells s.from z s.heard) rest x in
      let two = neither (b == quote) (contains w quote) clean in
      let place : at + (length (b ∷ w) + 1) ≡ at + 1 + (length w + 1) = omega arith in
      let moved : F (at + 1 + (length w + 1)) (s.word ++ b ∷ w) = subst (λ (n : ℕ). F n (s.word ++ b ∷ w)) place rd in
      let grouped : F (at + 1 + (length w + 1)) ((s.word ++ b ∷ []) ++ w) = subst (F (at + 1 + (length w + 1))) (sym (append_assoc s.word (b ∷ []) w)) moved in
      let q : InLiteral content quote r t (at + 1) (w ++ quote ∷ rest) x = record { w = w; rest = rest; all = refl; clean = two.1; fills = fills_less content s.marks s.word b w fills; item = same; reads = grouped } in
      let stays : Rest t (at + 1) (w ++ quote ∷ rest) x = subst (λ (z : Part). RestIn z t (at + 1) (w ++ quote ∷ rest) x) (sym here) q in
      on t b (w ++ quote ∷ rest) text (literal_step r content quote b two.0 (fills_next content s.marks s.word b w fills)) stays

  after_dash_on : AfterDash s at us x → Onward (step_in p.Dash at s) at us x
  after_dash_on q =
      let inside : InComment [] (turned p.Comment s) (at + 1) q.more x = record { c = q.comment.c; rest = q.comment.rest; all = q.comment.all; comment = q.comment.comment; next = q.comment.next; place = q.comment.place; reads = q.comment.reads } in
      on (turned p.Comment s) 45 q.more q.all refl inside

  onward_in : (part : Part) → s.part ≡ part → RestIn part s at us x → Onward (step_in part at s) at us x
  onward_in p.Apart here rest = on_outside s.part s.from s.word false at s.due s.marks s.heard us x rest
  onward_in p.After here rest = on_outside s.part s.from s.word true at s.due s.marks s.heard us x rest
  onward_in p.Dash here rest = after_dash_on rest
  onward_in p.Comment here rest = comment_on s at us x rest.c rest.rest rest.next rest.comment rest.all rest.place rest.reads
  onward_in p.CommentDash here rest = dash_on s at us x rest.c rest.rest rest.next rest.comment rest.all rest.place rest.reads
  onward_in (p.Word r) here rest = on_in_word r rest.w rest.rest here rest.all rest.grows rest.reads
  onward_in (p.Literal r content quote) here rest = on_in_literal r content quote rest.w rest.rest here rest.all rest.clean rest.fills rest.item rest.reads

-- what completes a state is read from it
pub onward : (s : State) (at : ℕ) (us : List ℕ) (x : Heard) → Rest s at us x → Onward (step at s) at us x
onward s at us x rest = onward_in s at us x s.part refl rest
