-- Each state that is reached is completed by some bytes.
use Rattle.std.proofs.Common.{◌≡◌, ℕ, zero, suc, ◌+◌, inl, inr, Bool, true, false, ◌&&◌, ◌||◌, ◌==◌, List, [], ◌∷◌, ◌++◌, map, length, refl, sym, ap, ◌∙◌, subst}
use Rattle.std.specs.List.{list_all}
use Rattle.sgml_text.specs.Characters.{upper, is_quote}
use Rattle.sgml_sgmldecl.specs.declared.due.Due.{Due}
use Rattle.sgml_sgmldecl.specs.declared.heard.Heard.{Heard}
use Rattle.sgml_sgmldecl.specs.declared.keyword.Keyword.{Keyword}
use Rattle.sgml_sgmldecl.specs.declared.row.Row.{Row}
use Rattle.sgml_sgmldecl.specs.declared.row.Item.{Item}
use Rattle.sgml_sgmldecl.specs.declared.row.Item.TheVariants as i
use Rattle.sgml_sgmldecl.specs.declared.row.Content.{Content}
use Rattle.sgml_sgmldecl.specs.declared.row.Content.TheVariants as c
use Rattle.sgml_sgmldecl.specs.declared.row.ListEnd.TheVariants as e
use Rattle.sgml_sgmldecl.specs.Keywords.{spelling}
use Rattle.sgml_sgmldecl.specs.Rows.{rows}
use Rattle.sgml_sgmldecl.specs.Characters.{is_mark, heading, old_heading}
use Rattle.sgml_sgmldecl.specs.Heard.{tell, contains}
use Rattle.sgml_sgmldecl.specs.Following.{IsRow, after, due_after, marks_of_content}
use Rattle.sgml_sgmldecl.specs.Declaring.{IsWord, IsContent, Reads, separator, word, literal, the_end}
use Rattle.sgml_sgmldecl.proofs.ByteTests.{equal, one_of, both, not_so, not_both_ways}
use Rattle.sgml_sgmldecl.proofs.Table.{keyword_upper, keyword_start, starts_alnum, way_on, way_of, is_end, is_inner, goes_first, ends_first, reaches, reached}

abbrev pub AreMarks : List ℕ → Type 0
AreMarks marks = list_all is_mark marks ≡ true

-- some bytes go on to the end
pub record Goes (tight : Bool) (at : ℕ) (d : Due) (marks : List ℕ) (h : Heard) : Type 0 where
  pub bytes : List ℕ
  pub told : Heard
  pub reads : Reads tight at d marks h bytes told

-- from this due, whatever was told
abbrev pub Live : Due → Type 0
Live d = (tight : Bool) (at : ℕ) (marks : List ℕ) (h : Heard) → AreMarks marks → Goes tight at d marks h

-- a word after a SPACE
by_word : (d : Due) (r : Row) (b : ℕ) (w : List ℕ) → IsRow r (rows d) → IsWord r.item (b ∷ w) → Live (after r (map upper (b ∷ w))) → Live d
by_word d r b w found made next tight at marks h are =
    let told : Heard = tell r.tells (at + 1) (map upper (b ∷ w)) h in
    let g = next true (at + 1 + (length w + 1)) marks told are in
    let rd : Reads false (at + 1) d marks h (b ∷ w ++ g.bytes) g.told = word (at + 1) d marks h g.told r b w g.bytes (b ∷ w ++ g.bytes) found made refl g.reads in
    record { bytes = 32 ∷ b ∷ w ++ g.bytes; told = g.told; reads = separator tight at d marks h g.told 32 (b ∷ w ++ g.bytes) refl rd }

-- a literal that a kind of content has; the quote is `"`
sample : Content → List ℕ → List ℕ
sample c.Any marks = []
sample c.Heading marks = heading
sample c.Marks marks = []
sample c.SameMarks marks = marks

mark_no_quote : (m q : ℕ) → is_quote q ≡ true → is_mark m ≡ true → (m == q) ≡ false
mark_no_quote m q quote mark = not_so (m == q) (λ (same : (m == q) ≡ true). not_both_ways (is_mark q) (ap is_mark (sym (equal m q same)) ∙ mark) (no_mark quote))
  where
    no_mark : is_quote q ≡ true → is_mark q ≡ false
    no_mark is = elim (one_of (q == 34) (q == 39) is) [ inl e ↦ ap is_mark (equal q 34 e) | inr e ↦ ap is_mark (equal q 39 e) ]

pub marks_no_quote : (marks : List ℕ) (q : ℕ) → is_quote q ≡ true → AreMarks marks → contains marks q ≡ false
marks_no_quote [] q quote are = refl
marks_no_quote (m ∷ ms) q quote are =
    let two = both (is_mark m) (list_all is_mark ms) are in
    rw (mark_no_quote m q quote two.0) (marks_no_quote ms q quote two.1)

pub heading_no_quote : (q : ℕ) → is_quote q ≡ true → contains heading q ≡ false
heading_no_quote q is = elim (one_of (q == 34) (q == 39) is) [ inl e ↦ ap (contains heading) (equal q 34 e) | inr e ↦ ap (contains heading) (equal q 39 e) ]

pub old_heading_no_quote : (q : ℕ) → is_quote q ≡ true → contains old_heading q ≡ false
old_heading_no_quote q is = elim (one_of (q == 34) (q == 39) is) [ inl e ↦ ap (contains old_heading) (equal q 34 e) | inr e ↦ ap (contains old_heading) (equal q 39 e) ]

sample_clean : (content : Content) (marks : List ℕ) (q : ℕ) → is_quote q ≡ true → AreMarks marks → contains (sample content marks) q ≡ false
unfolding sample
sample_clean c.Any marks q quote are = refl
sample_clean c.Heading marks q quote are = heading_no_quote q quote
sample_clean c.Marks marks q quote are = refl
sample_clean c.SameMarks marks q quote are = marks_no_quote marks q quote are

sample_is : (content : Content) (marks : List ℕ) → IsContent content marks (sample content marks)
unfolding sample
sample_is c.Any marks = tt
sample_is c.Heading marks = inl refl
sample_is c.Marks marks = refl
sample_is c.SameMarks marks = refl

sample_marks : (content : Content) (marks : List ℕ) → AreMarks marks → AreMarks (marks_of_content content (sample content marks) marks)
unfolding sample
sample_marks c.Any marks are = are
sample_marks c.Heading marks are = are
sample_marks c.Marks marks are = refl
sample_marks c.SameMarks marks are = are

by_literal : (d : Due) (r : Row) (content : Content) → IsRow r (rows d) → r.item ≡ i.Literal content → Live r.then → Live d
by_literal d r content found same next tight at marks h are =
    let w : List ℕ = sample content marks in
    let told : Heard = tell r.tells at w h in
    let g = next false (at + (length w + 2)) (marks_of_content content w marks) told (sample_marks content marks are) in
    record {
      bytes = 34 ∷ w ++ 34 ∷ g.bytes;
      told = g.told;
      reads = literal tight at d marks h g.told r content 34 w g.bytes (34 ∷ w ++ 34 ∷ g.bytes) found same refl (sample_clean content marks 34 refl are) (sample_is content marks) refl g.reads;
    }

by_end : (d : Due) (r : Row) → IsRow r (rows d) → r.item ≡ i.End → Live d
by_end d r found same tight at marks h are = record { bytes = 62 ∷ []; told = h; reads = the_end tight at d marks h r found same }

module _ (d : Due) (r : Row) (rs : List Row) (first : rows d ≡ r ∷ rs) where
  is_first : IsRow r (rows d)
  is_first = subst (λ (l : List Row). IsRow r l) (sym first) (inl refl)

  word_by : (item : Item) → r.item ≡ item → (b : ℕ) (w : List ℕ) → IsWord item (b ∷ w) → Live (due_after item (map upper (b ∷ w)) r.then) → Live d
  word_by item same b w made next =
      by_word d r b w is_first (subst (λ (z : Item). IsWord z (b ∷ w)) (sym same) made) (subst (λ (z : Item). Live (due_after z (map upper (b ∷ w)) r.then)) (sym same) next)

  keyword_by : (k : Keyword) → r.item ≡ i.Word k → (l : List ℕ) → spelling k ≡ l → starts_alnum l ≡ true → Live r.then → Live d
  keyword_by k same [] spelled start next = cc
  keyword_by k same (b ∷ w) spelled start next =
      let upper_all : map upper (b ∷ w) ≡ b ∷ w = ap (map upper) (sym spelled) ∙ keyword_upper k ∙ spelled in
      word_by (i.Word k) same b w (upper_all ∙ sym spelled) next

  item_by : (item : Item) → r.item ≡ item → is_inner item ≡ true → Live (way_on item r.then) → Live d
  item_by i.Opening same inner next = absurd (not_both_ways false inner refl)
  item_by (i.Word k) same inner next = keyword_by k same (spelling k) refl (keyword_start k) next
  item_by i.Number same inner next = word_by i.Number same 48 [] (refl, refl) next
  item_by (i.Name e.Scope) same inner next = word_by (i.Name e.Scope) same 83 (67 ∷ 79 ∷ 80 ∷ 69 ∷ []) (refl, refl) next
  item_by (i.Name e.Features) same inner next = word_by (i.Name e.Features) same 70 (69 ∷ 65 ∷ 84 ∷ 85 ∷ 82 ∷ 69 ∷ 83 ∷ []) (refl, refl) next
  item_by (i.Literal content) same inner next = by_literal d r content is_first same next
  item_by i.End same inner next = absurd (not_both_ways false inner refl)

  end_by : (item : Item) → r.item ≡ item → is_end item ≡ true → Live d
  end_by i.End same end = by_end d r is_first same
  end_by i.Opening same end = absurd (not_both_ways false end refl)
  end_by (i.Word k) same end = absurd (not_both_ways false end refl)
  end_by i.Number same end = absurd (not_both_ways false end refl)
  end_by (i.Name x) same end = absurd (not_both_ways false end refl)
  end_by (i.Literal content) same end = absurd (not_both_ways false end refl)

rows_live : (d : Due) (l : List Row) → rows d ≡ l → (n : ℕ) → (ends_first l || (goes_first l && reaches n (way_of l d))) ≡ true → ((d' : Due) → reaches n d' ≡ true → Live d') → Live d
rows_live d [] first n is later = absurd (not_both_ways false is refl)
rows_live d (r ∷ rs) first n is later = elim (one_of (is_end r.item) (is_inner r.item && reaches n (way_on r.item r.then)) is) [
  | inl end ↦ end_by d r rs first r.item refl end
  | inr inner ↦ item_by d r rs first r.item refl (both (is_inner r.item) (reaches n (way_on r.item r.then)) inner).0 (later (way_on r.item r.then) (both (is_inner r.item) (reaches n (way_on r.item r.then)) inner).1)
]

live_within : (n : ℕ) (d : Due) → reaches n d ≡ true → Live d
unfolding reaches
live_within zero d is = absurd (not_both_ways false is refl)
live_within (suc n) d is = rows_live d (rows d) refl n is (live_within n)

-- each thing that is due can be gone on from to the end
pub live : (d : Due) → Live d
live d = live_within 100 d (reached d)
