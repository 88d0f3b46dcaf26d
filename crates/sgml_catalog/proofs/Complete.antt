-- What is of the grammar is told.
use Rattle.std.proofs.Common.{◌≡◌, ℕ, Bool, true, false, not, ◌&&◌, ◌==◌, List, [], ◌∷◌, ◌++◌, Option, Some, None, Result, Ok, Err, codes, refl, sym, ap, ◌∙◌, subst, append_assoc, append-nil}
use Rattle.std.specs.List.{list_all}
use lib.Dec.{T, eqb→eq}
use Rattle.sgml_text.specs.Characters.{upper, is_word}
use Rattle.sgml_catalog.specs.Keywords.{keyword_of}
use Rattle.sgml_catalog.specs.declared.token.Token.{Token}
use Rattle.sgml_catalog.specs.declared.token.End.{End}
use Rattle.sgml_catalog.specs.declared.keyword.Keyword.{Keyword}
use Rattle.sgml_catalog.specs.declared.keyword.Keyword.TheVariants as keywords
use Rattle.sgml_catalog.specs.declared.entry.Entry.{Entry}
use Rattle.sgml_catalog.specs.declared.entry.Sort.TheVariants.{Declaration}
use Rattle.sgml_catalog.specs.declared.reading.CatalogState.{CatalogState}
use Rattle.sgml_catalog.specs.declared.reading.CatalogState.TheVariants.{Due, Skipping, First, Second}
use Rattle.sgml_catalog.specs.declared.reading.Turn.{Turn}
use Rattle.sgml_catalog.specs.Entries.{entry, entry_of, turn, step, entries_with, go_on, walk, told}
use Rattle.sgml_catalog.specs.Grammar.{is_keyword, is_at_keyword, before, answer_word, Tells, nothing, two_arguments, declaration, unused, override, skipped, Refuses, unended, literal_first, no_argument, no_second, no_answer, after_two, after_declaration, after_unused, after_override, after_skipped}

module _ (end : End) where
  -- one token
  stepping : (done : List Entry) (s : CatalogState) (o : Bool) (t : Token) (ts : List Token) (r : Turn) (x : Result (List Entry) ℕ) → step s o t ≡ Ok r → walk (entries_with done r.entry) r.state r.over end ts ≡ x → walk done s o end (t ∷ ts) ≡ x
  unfolding walk
  stepping done s o t ts r x st is = ap (λ (y : Result Turn ℕ). go_on done y (λ d u v. walk d u v end ts)) st ∙ is

  moved : (done : List Entry) (e : Option Entry) (es : List Entry) → entries_with done e ++ es ≡ done ++ before e es
  moved done None es = refl
  moved done (Some e) es = append_assoc done (e ∷ []) es

  passed : (q : Bool) (k : Option Keyword) (over : Bool) (t : Token) → t.quoted ≡ q → keyword_of t.text ≡ k → not (is_keyword t) ≡ true → step Skipping over t ≡ Ok (turn Skipping over None)
  passed true k over t quoted word other = rw quoted refl
  passed false None over t quoted word other = rw (quoted, word) refl
  passed false (Some k) over t quoted word other = let never : false ≡ true = rw (quoted, word) at other in cc

  both_true : (x y : Bool) → (x && y) ≡ true → (x ≡ true) × (y ≡ true)
  both_true true true is = (refl, refl)
  both_true true false is = cc
  both_true false y is = cc

  skip_over : (between : List Token) (done : List Entry) (over : Bool) (ts : List Token) (x : Result (List Entry) ℕ) → list_all (λ s. not (is_keyword s)) between ≡ true → walk done Skipping over end ts ≡ x → walk done Skipping over end (between ++ ts) ≡ x
  skip_over [] done over ts x all is = is
  skip_over (b ∷ bs) done over ts x all is =
      let two = both_true (not (is_keyword b)) (list_all (λ s. not (is_keyword s)) bs) all in
      stepping done Skipping over b (bs ++ ts) (turn Skipping over None) x (passed b.quoted (keyword_of b.text) over b refl refl two.0) (skip_over bs done over ts x two.1 is)

  same_step : (q : Bool) (over : Bool) (t : Token) → t.quoted ≡ q → is_keyword t ≡ true → step Skipping over t ≡ step Due over t
  same_step true over t quoted key = let never : false ≡ true = rw quoted at key in cc
  same_step false over t quoted key = rw quoted refl

  -- at a keyword nothing is skipped
  arrived : (ts : List Token) (done : List Entry) (over : Bool) → is_at_keyword ts ≡ true → walk done Skipping over end ts ≡ walk done Due over end ts
  unfolding walk
  arrived [] done over key = refl
  arrived (t ∷ ts) done over key = ap (λ (y : Result Turn ℕ). go_on done y (λ d u v. walk d u v end ts)) (same_step t.quoted over t refl key)

  by_letter : (u : ℕ) (x : Bool) → (u == 78) ≡ true → ((u == 89) && x) ≡ false
  by_letter u x is = ap (λ (v : ℕ). (v == 89) && x) (eqb→eq u 78 (subst T (sym is) tt))

  not_both : (w : List ℕ) → is_word (codes "NO") w ≡ true → is_word (codes "YES") w ≡ false
  not_both [] says = let never : false ≡ true = says in cc
  not_both (b ∷ bs) says = by_letter (upper b) (is_word (69 ∷ 83 ∷ []) bs) (both_true (upper b == 78) (is_word (79 ∷ []) bs) says).0

  answered : (now : Bool) (over : Bool) (a : Token) → is_word (answer_word now) a.text ≡ true → step (First keywords.Override) over a ≡ Ok (turn Due now None)
  answered true over a says = rw says refl
  answered false over a says = rw (not_both a.text says, says) refl

  complete : (over : Bool) (ts : List Token) (es done : List Entry) → end.is_whole ≡ true → Tells over ts es → walk done Due over end ts ≡ Ok (done ++ es)
  unfolding walk
  complete over _ _ done whole (nothing _) = rw whole (ap Ok (sym (append-nil done)))
  complete over _ _ done whole (two_arguments _ t a b k ts es word two x) =
      let e : Option Entry = entry_of k over a.text b.text in
      stepping done Due over t (a ∷ b ∷ ts) (turn (First k) over None) (Ok (done ++ before e es)) (rw (word.0, word.1) refl)
      (stepping done (First k) over a (b ∷ ts) (turn (Second k a.text) over None) (Ok (done ++ before e es)) (rw two refl)
      (stepping done (Second k a.text) over b ts (turn Due over e) (Ok (done ++ before e es)) refl (complete over ts es (entries_with done e) whole x ∙ ap Ok (moved done e es))))
  complete over _ _ done whole (declaration _ t a ts es word x) =
      let e : Entry = entry Declaration over [] a.text in
      stepping done Due over t (a ∷ ts) (turn (First keywords.Sgmldecl) over None) (Ok (done ++ e ∷ es)) (rw (word.0, word.1) refl)
      (stepping done (First keywords.Sgmldecl) over a ts (turn Due over (Some e)) (Ok (done ++ e ∷ es)) refl (complete over ts es (done ++ e ∷ []) whole x ∙ ap Ok (moved done (Some e) es)))
  complete over _ _ done whole (unused _ t a ts es word x) =
      stepping done Due over t (a ∷ ts) (turn (First keywords.OneUnused) over None) (Ok (done ++ es)) (rw (word.0, word.1) refl)
      (stepping done (First keywords.OneUnused) over a ts (turn Due over None) (Ok (done ++ es)) refl (complete over ts es done whole x))
  complete over _ _ done whole (override _ now t a ts es word says x) =
      stepping done Due over t (a ∷ ts) (turn (First keywords.Override) over None) (Ok (done ++ es)) (rw (word.0, word.1) refl)
      (stepping done (First keywords.Override) over a ts (turn Due now None) (Ok (done ++ es)) (answered now over a says) (complete now ts es done whole x))
  complete over _ _ done whole (skipped _ t between ts es other all key x) =
      stepping done Due over t (between ++ ts) (turn Skipping over None) (Ok (done ++ es)) (rw (other.0, other.1) refl)
      (skip_over between done over ts (Ok (done ++ es)) all (arrived ts done over key ∙ complete over ts es done whole x))

-- what is of the grammar is told
pub all_told : (ts : List Token) (end : End) (es : List Entry) → end.is_whole ≡ true → Tells false ts es → told ts end ≡ Ok es
all_told ts end es whole x = complete end false ts es [] whole x

-- what the grammar refuses is refused there
refuse : (over : Bool) (ts : List Token) (end : End) (at : ℕ) (done : List Entry) → Refuses over ts end at → walk done Due over end ts ≡ Err at
unfolding walk
refuse over _ end _ done (unended _ _ part) = rw part refl
refuse over _ end _ done (literal_first _ t ts _ quoted) = rw quoted refl
refuse over _ end _ done (no_argument _ t k _ word) = stepping end done Due over t [] (turn (First k) over None) (Err end.at) (rw (word.0, word.1) refl) refl
refuse over _ end _ done (no_second _ t a k _ word two) =
    stepping end done Due over t (a ∷ []) (turn (First k) over None) (Err end.at) (rw (word.0, word.1) refl)
    (stepping end done (First k) over a [] (turn (Second k a.text) over None) (Err end.at) (rw two refl) refl)
refuse over _ end _ done (no_answer _ t a ts _ word assents denies) =
    stepping end done Due over t (a ∷ ts) (turn (First keywords.Override) over None) (Err a.at) (rw (word.0, word.1) refl) (rw (assents, denies) refl)
refuse over _ end at done (after_two _ t a b k ts _ _ word two x) =
    let e : Option Entry = entry_of k over a.text b.text in
    stepping end done Due over t (a ∷ b ∷ ts) (turn (First k) over None) (Err at) (rw (word.0, word.1) refl)
    (stepping end done (First k) over a (b ∷ ts) (turn (Second k a.text) over None) (Err at) (rw two refl)
    (stepping end done (Second k a.text) over b ts (turn Due over e) (Err at) refl (refuse over ts end at (entries_with done e) x)))
refuse over _ end at done (after_declaration _ t a ts _ _ word x) =
    let e : Entry = entry Declaration over [] a.text in
    stepping end done Due over t (a ∷ ts) (turn (First keywords.Sgmldecl) over None) (Err at) (rw (word.0, word.1) refl)
    (stepping end done (First keywords.Sgmldecl) over a ts (turn Due over (Some e)) (Err at) refl (refuse over ts end at (done ++ e ∷ []) x))
refuse over _ end at done (after_unused _ t a ts _ _ word x) =
    stepping end done Due over t (a ∷ ts) (turn (First keywords.OneUnused) over None) (Err at) (rw (word.0, word.1) refl)
    (stepping end done (First keywords.OneUnused) over a ts (turn Due over None) (Err at) refl (refuse over ts end at done x))
refuse over _ end at done (after_override _ now t a ts _ _ word says x) =
    stepping end done Due over t (a ∷ ts) (turn (First keywords.Override) over None) (Err at) (rw (word.0, word.1) refl)
    (stepping end done (First keywords.Override) over a ts (turn Due now None) (Err at) (answered end now over a says) (refuse now ts end at done x))
refuse over _ end at done (after_skipped _ t between ts _ _ other all key x) =
    stepping end done Due over t (between ++ ts) (turn Skipping over None) (Err at) (rw (other.0, other.1) refl)
    (skip_over end between done over ts (Err at) all (arrived end ts done over key ∙ refuse over ts end at done x))

pub all_refused : (ts : List Token) (end : End) (at : ℕ) → Refuses false ts end at → told ts end ≡ Err at
all_refused ts end at x = refuse false ts end at [] x
