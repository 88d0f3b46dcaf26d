-- What holds of each state that is reached, and that such a state is completed by some bytes.
use Rattle.std.proofs.Common.{◌≡◌, ℕ, ◌+◌, inl, inr, Bool, true, false, ◌&&◌, ◌==◌, List, [], ◌∷◌, ◌++◌, map, length, Option, Some, None, refl, sym, ap, ◌∙◌, subst, append_assoc, if◌then◌else◌, arith}
use Rattle.std.proofs.lemmas.List.Folds.{list_all-append}
use Rattle.sgml_text.specs.Characters.{upper, is_separator, is_quote}
use Rattle.sgml_sgmldecl.specs.declared.heard.Heard.{Heard}
use Rattle.sgml_sgmldecl.specs.declared.reading.Part.{Part}
use Rattle.sgml_sgmldecl.specs.declared.reading.Part.TheVariants as p
use Rattle.sgml_sgmldecl.specs.declared.row.Row.{Row}
use Rattle.sgml_sgmldecl.specs.declared.row.Item.{Item}
use Rattle.sgml_sgmldecl.specs.declared.row.Item.TheVariants as i
use Rattle.sgml_sgmldecl.specs.declared.row.Content.{Content}
use Rattle.sgml_sgmldecl.specs.declared.row.Content.TheVariants as c
use Rattle.sgml_sgmldecl.specs.Keywords.{spelling}
use Rattle.sgml_sgmldecl.specs.Rows.{rows}
use Rattle.sgml_sgmldecl.specs.Characters.{is_mark, is_name_byte, opening, heading, old_heading}
use Rattle.sgml_sgmldecl.specs.Items.{has_byte, begins_with, begins, word_goes_on, is_whole_word, content_goes_on, is_whole_content}
use Rattle.sgml_sgmldecl.specs.Heard.{tell, contains}
use Rattle.sgml_sgmldecl.specs.Machine.{State, refused, goes, ends, turned, opened, added, ended, begun_item, begun_if, outside, step_in, step, marks_after}
use Rattle.sgml_sgmldecl.specs.Following.{row_at, due_after, marks_of_content}
use Rattle.sgml_sgmldecl.specs.Declaring.{closes}
use Rattle.sgml_sgmldecl.proofs.ByteTests.{equal, one_of, both, neither, not_both_ways}
use Rattle.sgml_sgmldecl.proofs.Table.{keyword_upper, row_begins}
use Rattle.sgml_sgmldecl.proofs.Resting.{Grows, Fills, InComment, RestIn, Rest}
use Rattle.sgml_sgmldecl.proofs.Backward.{HasRow}
use Rattle.sgml_sgmldecl.proofs.Forward.{has_no_more}
use Rattle.sgml_sgmldecl.proofs.Alive.{AreMarks, live, marks_no_quote, heading_no_quote, old_heading_no_quote}

-- what a literal of marks has so far are marks
abbrev pub MarksSoFar : Content → List ℕ → Type 0
MarksSoFar c.Marks v = AreMarks v
MarksSoFar c.Any v = Unit {0}
MarksSoFar c.Heading v = Unit {0}
MarksSoFar c.SameMarks v = Unit {0}

pub record LiteralBegun (r : Row) (content : Content) (quote : ℕ) (marks v : List ℕ) : Type 0 where
  pub item : r.item ≡ i.Literal content
  pub quoted : is_quote quote ≡ true
  pub so_far : MarksSoFar content v
  pub z : List ℕ
  pub fills : Fills content marks v z
  pub clean : contains z quote ≡ false

pub record WordBegun (item : Item) (v : List ℕ) : Type 0 where
  pub z : List ℕ
  pub grows : Grows item v z

abbrev pub PartHolds : Part → List ℕ → List ℕ → Type 0
PartHolds (p.Word r) marks v = WordBegun r.item v
PartHolds (p.Literal r content quote) marks v = LiteralBegun r content quote marks v
PartHolds p.Apart marks v = Unit {0}
PartHolds p.After marks v = Unit {0}
PartHolds p.Dash marks v = Unit {0}
PartHolds p.Comment marks v = Unit {0}
PartHolds p.CommentDash marks v = Unit {0}

pub record Holds (s : State) : Type 0 where
  pub marks : AreMarks s.marks
  pub part : PartHolds s.part s.marks s.word

-- the marks after an item
grows_marks : (item : Item) (v z y marks : List ℕ) → Grows item v z → AreMarks marks → AreMarks (marks_after item y marks)
grows_marks i.Opening v z y marks grows are = are
grows_marks (i.Word k) v z y marks grows are = are
grows_marks i.Number v z y marks grows are = are
grows_marks (i.Name e) v z y marks grows are = are
grows_marks (i.Literal content) v z y marks grows are = absurd grows
grows_marks i.End v z y marks grows are = absurd grows

content_marks : (content : Content) (v z marks : List ℕ) → MarksSoFar content v → Fills content marks v z → AreMarks marks → AreMarks (marks_of_content content (v ++ z) marks)
content_marks c.Any v z marks so_far fills are = are
content_marks c.Heading v z marks so_far fills are = are
content_marks c.Marks v z marks so_far fills are = list_all-append is_mark v z ∙ both_hold so_far fills
  where
    both_hold : {x y : Bool} → x ≡ true → y ≡ true → (x && y) ≡ true
    both_hold one two = rw (one, two) refl
content_marks c.SameMarks v z marks so_far fills are = are

-- some bytes complete the state
pub record Completed (s : State) (at : ℕ) : Type 0 where
  pub bytes : List ℕ
  pub told : Heard
  pub rest : Rest s at bytes told

pub record CompletedIn (part : Part) (s : State) (at : ℕ) : Type 0 where
  pub bytes : List ℕ
  pub told : Heard
  pub rest : RestIn part s at bytes told

complete_word : (r : Row) (s : State) (at : ℕ) → AreMarks s.marks → WordBegun r.item s.word → CompletedIn (p.Word r) s at
complete_word r s at are b =
    let y : List ℕ = s.word ++ map upper b.z in
    let told : Heard = tell r.tells s.from y s.heard in
    let g = live (due_after r.item y r.then) true (at + length b.z) (marks_after r.item y s.marks) told (grows_marks r.item s.word b.z y s.marks b.grows are) in
    record { bytes = b.z ++ g.bytes; told = g.told; rest = record { w = b.z; rest = g.bytes; all = refl; grows = b.grows; reads = g.reads } }

complete_literal : (r : Row) (content : Content) (quote : ℕ) (s : State) (at : ℕ) → AreMarks s.marks → LiteralBegun r content quote s.marks s.word → CompletedIn (p.Literal r content quote) s at
complete_literal r content quote s at are b =
    let y : List ℕ = s.word ++ b.z in
    let told : Heard = tell r.tells s.from y s.heard in
    let g = live r.then false (at + (length b.z + 1)) (marks_of_content content y s.marks) told (content_marks content s.word b.z s.marks b.so_far b.fills are) in
    record { bytes = b.z ++ quote ∷ g.bytes; told = g.told; rest = record { w = b.z; rest = g.bytes; all = refl; clean = b.clean; fills = b.fills; item = b.item; reads = g.reads } }

complete_in : (part : Part) (s : State) (at : ℕ) → AreMarks s.marks → PartHolds part s.marks s.word → CompletedIn part s at
complete_in p.Apart s at are holds = let g = live s.due false at s.marks s.heard are in record { bytes = g.bytes; told = g.told; rest = g.reads }
complete_in p.After s at are holds = let g = live s.due true at s.marks s.heard are in record { bytes = g.bytes; told = g.told; rest = g.reads }
complete_in p.Dash s at are holds =
    let g = live s.due false (at + 3) s.marks s.heard are in
    let inside : InComment [] s (at + 1) (45 ∷ 45 ∷ g.bytes) g.told = record { c = 45 ∷ 45 ∷ []; rest = g.bytes; all = refl; comment = closes; next = at + 3; place = omega arith; reads = g.reads } in
    record { bytes = 45 ∷ 45 ∷ 45 ∷ g.bytes; told = g.told; rest = record { more = 45 ∷ 45 ∷ g.bytes; all = refl; comment = inside } }
complete_in p.Comment s at are holds =
    let g = live s.due false (at + 2) s.marks s.heard are in
    record { bytes = 45 ∷ 45 ∷ g.bytes; told = g.told; rest = record { c = 45 ∷ 45 ∷ []; rest = g.bytes; all = refl; comment = closes; next = at + 2; place = omega arith; reads = g.reads } }
complete_in p.CommentDash s at are holds =
    let g = live s.due false (at + 1) s.marks s.heard are in
    record { bytes = 45 ∷ g.bytes; told = g.told; rest = record { c = 45 ∷ 45 ∷ []; rest = g.bytes; all = refl; comment = closes; next = at + 1; place = omega arith; reads = g.reads } }
complete_in (p.Word r) s at are holds = complete_word r s at are holds
complete_in (p.Literal r content quote) s at are holds = complete_literal r content quote s at are holds

pub complete : (s : State) (at : ℕ) → Holds s → Completed s at
complete s at h = let g = complete_in s.part s at h.marks h.part in record { bytes = g.bytes; told = g.told; rest = g.rest }

-- each step keeps what holds
kept_at : (a t : State) → goes a ≡ goes t → Holds a → Holds t
kept_at a t is h = let same : a ≡ t = cc in subst Holds same h

no_goes : (t : State) → refused ≡ goes t → ⊥
no_goes t is = cc

ends_no_goes : (x : Heard) (t : State) → ends x ≡ goes t → ⊥
ends_no_goes x t is = cc

-- the sample of a literal that has just begun
start_literal : (r : Row) (content : Content) (quote : ℕ) (marks : List ℕ) → r.item ≡ i.Literal content → is_quote quote ≡ true → AreMarks marks → LiteralBegun r content quote marks []
start_literal r c.Any quote marks same quoted are = record { item = same; quoted = quoted; so_far = tt; z = []; fills = tt; clean = refl }
start_literal r c.Heading quote marks same quoted are = record { item = same; quoted = quoted; so_far = tt; z = heading; fills = inl refl; clean = heading_no_quote quote quoted }
start_literal r c.Marks quote marks same quoted are = record { item = same; quoted = quoted; so_far = refl; z = []; fills = refl; clean = refl }
start_literal r c.SameMarks quote marks same quoted are = record { item = same; quoted = quoted; so_far = tt; z = marks; fills = refl; clean = marks_no_quote marks quote quoted are }

start_word : (item : Item) (b : ℕ) → begins item b ≡ true → (item ≡ i.End → ⊥) → ((content : Content) → item ≡ i.Literal content → ⊥) → WordBegun item (upper b ∷ [])
start_word i.Opening b is no_end no_literal = absurd (not_both_ways false is refl)
start_word (i.Word k) b is no_end no_literal = by_spelling (spelling k) refl is
  where
    by_spelling : (l : List ℕ) → spelling k ≡ l → has_byte l 0 (upper b) ≡ true → WordBegun (i.Word k) (upper b ∷ [])
    by_spelling [] spelled has = absurd (not_both_ways false has refl)
    by_spelling (y ∷ ys) spelled has =
        let upper_all : map upper (y ∷ ys) ≡ y ∷ ys = ap (map upper) (sym spelled) ∙ keyword_upper k ∙ spelled in
        let tail : map upper ys ≡ ys = cc in
        let head : y ≡ upper b = equal y (upper b) has in
        record { z = ys; grows = ap (λ (l : List ℕ). upper b ∷ l) tail ∙ ap (λ (n : ℕ). n ∷ ys) (sym head) ∙ sym spelled }
start_word i.Number b is no_end no_literal = record { z = []; grows = refl }
start_word (i.Name e) b is no_end no_literal = record { z = []; grows = refl }
start_word (i.Literal content) b is no_end no_literal = absurd (no_literal content refl)
start_word i.End b is no_end no_literal = absurd (no_end refl)

-- a word that goes on
has_is : (xs ys : List ℕ) (n m : ℕ) → has_byte (xs ++ n ∷ ys) (length xs) m ≡ true → n ≡ m
has_is [] ys n m is = equal n m is
has_is (x ∷ xs) ys n m is = has_is xs ys n m is

spelled_on : (whole v z : List ℕ) (b : ℕ) → v ++ map upper z ≡ whole → has_byte whole (length v) (upper b) ≡ true → (y : List ℕ) × ((v ++ upper b ∷ []) ++ map upper y ≡ whole)
spelled_on whole v [] b grows has = absurd (not_both_ways (has_byte whole (length v) (upper b)) has (has_no_more v whole (upper b) grows))
spelled_on whole v (m ∷ z) b grows has =
    let there : has_byte (v ++ upper m ∷ map upper z) (length v) (upper b) ≡ true = ap (λ (l : List ℕ). has_byte l (length v) (upper b)) grows ∙ has in
    let same : upper m ≡ upper b = has_is v (map upper z) (upper m) (upper b) there in
    (z, append_assoc v (upper b ∷ []) (map upper z) ∙ ap (λ (n : ℕ). v ++ n ∷ map upper z) (sym same) ∙ grows)

more_word : (item : Item) (v : List ℕ) (b : ℕ) → WordBegun item v → word_goes_on item v b ≡ true → WordBegun item (v ++ upper b ∷ [])
more_word i.Opening v b w has = let q = spelled_on opening v w.z b w.grows has in record { z = q.0; grows = q.1 }
more_word (i.Word k) v b w has = let q = spelled_on (spelling k) v w.z b w.grows has in record { z = q.0; grows = q.1 }
more_word i.Number v b w has = record { z = []; grows = refl }
more_word (i.Name e) v b w has = record { z = []; grows = refl }
more_word (i.Literal content) v b w has = absurd w.grows
more_word i.End v b w has = absurd w.grows

-- a literal that goes on
begins_front : (xs ws : List ℕ) (b : ℕ) → begins_with xs ws b ≡ true → (z : List ℕ) × (ws ++ b ∷ z ≡ xs)
begins_front [] ws b is = absurd (not_both_ways false is refl)
begins_front (x ∷ xs) [] b is = (xs, ap (λ (n : ℕ). n ∷ xs) (sym (equal x b is)))
begins_front (x ∷ xs) (w ∷ ws) b is =
    let two = both (x == w) (begins_with xs ws b) is in
    let q = begins_front xs ws b two.1 in
    (q.0, ap (λ (n : ℕ). n ∷ ws ++ b ∷ q.0) (sym (equal x w two.0)) ∙ ap (λ (l : List ℕ). x ∷ l) q.1)

clean_tail : (ws z : List ℕ) (b q : ℕ) → contains (ws ++ b ∷ z) q ≡ false → contains z q ≡ false
clean_tail [] z b q is = (neither (b == q) (contains z q) is).1
clean_tail (w ∷ ws) z b q is = clean_tail ws z b q (neither (w == q) (contains (ws ++ b ∷ z) q) is).1

module _ (r : Row) (quote : ℕ) (marks v : List ℕ) (b : ℕ) where
  heading_on : (whole : List ℕ) → contains whole quote ≡ false → begins_with whole v b ≡ true → (z : List ℕ) × ((v ++ b ∷ []) ++ z ≡ whole) × (contains z quote ≡ false)
  heading_on whole none is =
      let q = begins_front whole v b is in
      (q.0, append_assoc v (b ∷ []) q.0 ∙ q.1, clean_tail v q.0 b quote (ap (λ (l : List ℕ). contains l quote) q.1 ∙ none))

  same_on : (z : List ℕ) → v ++ z ≡ marks → contains z quote ≡ false → has_byte marks (length v) b ≡ true → (y : List ℕ) × ((v ++ b ∷ []) ++ y ≡ marks) × (contains y quote ≡ false)
  same_on [] fills clean has = absurd (not_both_ways (has_byte marks (length v) b) has (has_no_more v marks b fills))
  same_on (m ∷ z) fills clean has =
      let same : m ≡ b = has_is v z m b (ap (λ (l : List ℕ). has_byte l (length v) b) fills ∙ has) in
      (z, append_assoc v (b ∷ []) z ∙ ap (λ (n : ℕ). v ++ n ∷ z) (sym same) ∙ fills, (neither (m == quote) (contains z quote) clean).1)

  both_hold : {x y : Bool} → x ≡ true → y ≡ true → (x && y) ≡ true
  both_hold one two = rw (one, two) refl

  more_literal : (content : Content) → LiteralBegun r content quote marks v → content_goes_on content marks v b ≡ true → LiteralBegun r content quote marks (v ++ b ∷ [])
  more_literal c.Any l has = record { item = l.item; quoted = l.quoted; so_far = tt; z = []; fills = tt; clean = refl }
  more_literal c.Heading l has = elim (one_of (begins_with heading v b) (begins_with old_heading v b) has) [
    | inl is ↦ (let q = heading_on heading (heading_no_quote quote l.quoted) is in record { item = l.item; quoted = l.quoted; so_far = tt; z = q.0; fills = inl q.1; clean = q.2 })
    | inr is ↦ (let q = heading_on old_heading (old_heading_no_quote quote l.quoted) is in record { item = l.item; quoted = l.quoted; so_far = tt; z = q.0; fills = inr q.1; clean = q.2 })
  ]
  more_literal c.Marks l has = record { item = l.item; quoted = l.quoted; so_far = list_all-append is_mark v (b ∷ []) ∙ both_hold l.so_far (both_hold has refl); z = []; fills = refl; clean = refl }
  more_literal c.SameMarks l has = let q = same_on l.z l.fills l.clean has in record { item = l.item; quoted = l.quoted; so_far = tt; z = q.0; fills = q.1; clean = q.2 }

module _ (s t : State) (at b : ℕ) where
  kept_begun : (r : Row) (item : Item) → r.item ≡ item → row_at s.due b ≡ Some r → AreMarks s.marks → begun_item item r at s b ≡ goes t → Holds t
  kept_begun r i.Opening same found are is = absurd (no_goes t is)
  kept_begun r (i.Word k) same found are is =
      let begun_so = start_word (i.Word k) b (ap (λ (z : Item). begins z b) (sym same) ∙ row_begins (rows s.due) b r found) (λ (q : i.Word k ≡ i.End). cc) (λ (content : Content) (q : i.Word k ≡ i.Literal content). cc) in
      kept_at (added (upper b) (opened (p.Word r) at s)) t is (record { marks = are; part = subst (λ (z : Item). WordBegun z (upper b ∷ [])) (sym same) begun_so })
  kept_begun r i.Number same found are is =
      let begun_so : WordBegun i.Number (upper b ∷ []) = record { z = []; grows = refl } in
      kept_at (added (upper b) (opened (p.Word r) at s)) t is (record { marks = are; part = subst (λ (z : Item). WordBegun z (upper b ∷ [])) (sym same) begun_so })
  kept_begun r (i.Name e) same found are is =
      let begun_so : WordBegun (i.Name e) (upper b ∷ []) = record { z = []; grows = refl } in
      kept_at (added (upper b) (opened (p.Word r) at s)) t is (record { marks = are; part = subst (λ (z : Item). WordBegun z (upper b ∷ [])) (sym same) begun_so })
  kept_begun r (i.Literal content) same found are is =
      let sign : is_quote b ≡ true = ap (λ (z : Item). begins z b) (sym same) ∙ row_begins (rows s.due) b r found in
      kept_at (opened (p.Literal r content b) at s) t is (record { marks = are; part = start_literal r content b s.marks same sign are })
  kept_begun r i.End same found are is = absurd (ends_no_goes s.heard t is)

  kept_row : (o : Option Row) → row_at s.due b ≡ o → AreMarks s.marks → begun_if o at s b ≡ goes t → Holds t
  kept_row None found are is = absurd (no_goes t is)
  kept_row (Some r) found are is = kept_begun r r.item refl found are is

  kept_tests : (q1 q2 q3 : Bool) → AreMarks s.marks → (if q1 then goes (turned p.Apart s) else if q2 then refused else if q3 then goes (turned p.Dash s) else begun_if (row_at s.due b) at s b) ≡ goes t → Holds t
  kept_tests true q2 q3 are is = kept_at (turned p.Apart s) t is (record { marks = are; part = tt })
  kept_tests false true q3 are is = absurd (no_goes t is)
  kept_tests false false true are is = kept_at (turned p.Dash s) t is (record { marks = are; part = tt })
  kept_tests false false false are is = kept_row (row_at s.due b) refl are is

  kept_outside : (tight : Bool) → AreMarks s.marks → outside tight at s b ≡ goes t → Holds t
  kept_outside tight are is = kept_tests (is_separator b) (tight && is_name_byte b) (b == 45) are is

module _ (s t : State) (at b : ℕ) where
  kept_word : (r : Row) (q1 q2 : Bool) → s.part ≡ p.Word r → AreMarks s.marks → WordBegun r.item s.word → word_goes_on r.item s.word b ≡ q1
      → (if q1 then goes (added (upper b) s) else if q2 then outside true at (ended p.After r s) b else refused) ≡ goes t → Holds t
  kept_word r true q2 here are w t1 is =
      kept_at (added (upper b) s) t is (record { marks = are; part = subst (λ (z : Part). PartHolds z s.marks (s.word ++ upper b ∷ [])) (sym here) (more_word r.item s.word b w t1) })
  kept_word r false true here are w t1 is = kept_outside (ended p.After r s) t at b true (grows_marks r.item s.word w.z s.word s.marks w.grows are) is
  kept_word r false false here are w t1 is = absurd (no_goes t is)

  word_marks : (content : Content) → MarksSoFar content s.word → AreMarks s.marks → AreMarks (marks_of_content content s.word s.marks)
  word_marks c.Any so_far are = are
  word_marks c.Heading so_far are = are
  word_marks c.Marks so_far are = so_far
  word_marks c.SameMarks so_far are = are

  kept_literal : (r : Row) (content : Content) (quote : ℕ) (q1 q2 q3 : Bool) → s.part ≡ p.Literal r content quote → AreMarks s.marks → LiteralBegun r content quote s.marks s.word → content_goes_on content s.marks s.word b ≡ q3
      → (if q1 then (if q2 then goes (ended p.Apart r s) else refused) else if q3 then goes (added b s) else refused) ≡ goes t → Holds t
  kept_literal r content quote true true q3 here are l t3 is =
      kept_at (ended p.Apart r s) t is (record { marks = subst (λ (z : Item). AreMarks (marks_after z s.word s.marks)) (sym l.item) (word_marks content l.so_far are); part = tt })
  kept_literal r content quote true false q3 here are l t3 is = absurd (no_goes t is)
  kept_literal r content quote false q2 true here are l t3 is =
      kept_at (added b s) t is (record { marks = are; part = subst (λ (z : Part). PartHolds z s.marks (s.word ++ b ∷ [])) (sym here) (more_literal r quote s.marks s.word b content l t3) })
  kept_literal r content quote false q2 false here are l t3 is = absurd (no_goes t is)

  kept_dash : (q : Bool) → AreMarks s.marks → (if q then goes (turned p.Comment s) else refused) ≡ goes t → Holds t
  kept_dash true are is = kept_at (turned p.Comment s) t is (record { marks = are; part = tt })
  kept_dash false are is = absurd (no_goes t is)

  kept_comment : (q : Bool) → AreMarks s.marks → goes (turned (if q then p.CommentDash else p.Comment) s) ≡ goes t → Holds t
  kept_comment true are is = kept_at (turned p.CommentDash s) t is (record { marks = are; part = tt })
  kept_comment false are is = kept_at (turned p.Comment s) t is (record { marks = are; part = tt })

  kept_comment_dash : (q : Bool) → AreMarks s.marks → goes (turned (if q then p.Apart else p.Comment) s) ≡ goes t → Holds t
  kept_comment_dash true are is = kept_at (turned p.Apart s) t is (record { marks = are; part = tt })
  kept_comment_dash false are is = kept_at (turned p.Comment s) t is (record { marks = are; part = tt })

  kept_in : (part : Part) → s.part ≡ part → AreMarks s.marks → PartHolds part s.marks s.word → step_in part at s b ≡ goes t → Holds t
  kept_in p.Apart here are holds is = kept_outside s t at b false are is
  kept_in p.After here are holds is = kept_outside s t at b true are is
  kept_in p.Dash here are holds is = kept_dash (b == 45) are is
  kept_in p.Comment here are holds is = kept_comment (b == 45) are is
  kept_in p.CommentDash here are holds is = kept_comment_dash (b == 45) are is
  kept_in (p.Word r) here are holds is = kept_word r (word_goes_on r.item s.word b) (is_whole_word r.item s.word) here are holds refl is
  kept_in (p.Literal r content quote) here are holds is =
      kept_literal r content quote (b == quote) (is_whole_content content s.marks s.word) (content_goes_on content s.marks s.word b) here are holds refl is

-- a byte that leads on leads to such a state
pub kept : (s t : State) (at b : ℕ) → Holds s → step at s b ≡ goes t → Holds t
kept s t at b h is = kept_in s t at b s.part refl h.marks h.part is

-- the row of a literal is one of literals
pub row_known : (part : Part) (marks v : List ℕ) → PartHolds part marks v → HasRow part
row_known (p.Literal r content quote) marks v holds = holds.item
row_known (p.Word r) marks v holds = tt
row_known p.Apart marks v holds = tt
row_known p.After marks v holds = tt
row_known p.Dash marks v holds = tt
row_known p.Comment marks v holds = tt
row_known p.CommentDash marks v holds = tt
