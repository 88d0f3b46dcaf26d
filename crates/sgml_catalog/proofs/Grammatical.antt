-- What is told is of the grammar.
use Rattle.std.proofs.Common.{◌≡◌, ℕ, Bool, true, false, not, ◌&&◌, List, [], ◌∷◌, ◌++◌, Option, Some, None, Result, Ok, Err, codes, refl, sym, ap, ◌∙◌, subst, append_assoc, append-nil}
use Rattle.std.specs.List.{list_all}
use Rattle.sgml_text.specs.Characters.{is_word}
use Rattle.sgml_catalog.specs.Keywords.{keyword_of, takes_two}
use Rattle.sgml_catalog.specs.declared.token.Token.{Token}
use Rattle.sgml_catalog.specs.declared.token.End.{End}
use Rattle.sgml_catalog.specs.declared.keyword.Keyword.{Keyword}
use Rattle.sgml_catalog.specs.declared.keyword.Keyword.TheVariants as keywords
use Rattle.sgml_catalog.specs.declared.entry.Entry.{Entry}
use Rattle.sgml_catalog.specs.declared.entry.Sort.TheVariants.{Declaration}
use Rattle.sgml_catalog.specs.declared.reading.CatalogState.{CatalogState}
use Rattle.sgml_catalog.specs.declared.reading.CatalogState.TheVariants.{Due, Skipping, First, Second}
use Rattle.sgml_catalog.specs.declared.reading.Turn.{Turn}
use Rattle.sgml_catalog.specs.Entries.{entry, entry_of, turn, step, entries_with, closed, go_on, walk, told}
use Rattle.sgml_catalog.proofs.Walking.{further}
use Rattle.sgml_catalog.specs.Grammar.{IsKeyword, IsOther, is_keyword, before, Tells, nothing, two_arguments, declaration, unused, override, skipped}

abbrev pub AllOther : List Token → Type 0
AllOther ts = list_all (λ s. not (is_keyword s)) ts ≡ true

-- what the grammar has to say of the rest in each state
abbrev Goes : CatalogState → Bool → List Token → List Entry → Type 0
Goes Due over ts es = Tells over ts es
Goes Skipping over ts es = (t : Token) (between : List Token) → IsOther t → AllOther between → Tells over (t ∷ between ++ ts) es
Goes (First k) over ts es = (t : Token) → IsKeyword t k → Tells over (t ∷ ts) es
Goes (Second k name) over ts es = (t a : Token) → IsKeyword t k → takes_two k ≡ true → a.text ≡ name → Tells over (t ∷ a ∷ ts) es

-- the rest has entries of the grammar, and the text is whole
record Rests (done : List Entry) (s : CatalogState) (over : Bool) (end : End) (ts : List Token) (whole : List Entry) : Type 0 where
  es : List Entry
  all : whole ≡ done ++ es
  ended : end.is_whole ≡ true
  goes : Goes s over ts es

abbrev Walks : List Token → Type 0
Walks ts = (done : List Entry) (s : CatalogState) (over : Bool) (end : End) (whole : List Entry) → walk done s over end ts ≡ Ok whole → Rests done s over end ts whole

same_lists : (a b : List Entry) → ◌≡◌ {A = Result (List Entry) ℕ} (Ok a) (Ok b) → a ≡ b
same_lists a b is = cc

refused_not : (at : ℕ) (a : List Entry) (x : Result (List Entry) ℕ) → x ≡ Err at → x ≡ Ok a → ⊥
refused_not at a x bad good = cc

pub all_more : (between : List Token) (t : Token) → AllOther between → is_keyword t ≡ false → AllOther (between ++ t ∷ [])
all_more [] t all none = rw none refl
all_more (b ∷ bs) t all none =
    let both = split_true (not (is_keyword b)) (list_all (λ s. not (is_keyword s)) bs) all in
    join_true (not (is_keyword b)) (list_all (λ s. not (is_keyword s)) (bs ++ t ∷ [])) both.0 (all_more bs t both.1 none)
  where
    split_true : (x y : Bool) → (x && y) ≡ true → (x ≡ true) × (y ≡ true)
    split_true true true is = (refl, refl)
    split_true true false is = cc
    split_true false y is = cc

    join_true : (x y : Bool) → x ≡ true → y ≡ true → (x && y) ≡ true
    join_true x y one two = rw one two

ended_due : (done : List Entry) (over : Bool) (end : End) (whole : List Entry) (b : Bool) → end.is_whole ≡ b → closed done Due end ≡ Ok whole → Rests done Due over end [] whole
ended_due done over end whole true is_whole is =
    let same : ◌≡◌ {A = Result (List Entry) ℕ} (Ok done) (Ok whole) = rw is_whole at is in
    record { es = []; all = sym (same_lists done whole same) ∙ sym (append-nil done); ended = is_whole; goes = nothing over }
ended_due done over end whole false is_whole is = let never : ◌≡◌ {A = Result (List Entry) ℕ} (Err end.at) (Ok whole) = rw is_whole at is in cc

ended_skipping : (done : List Entry) (over : Bool) (end : End) (whole : List Entry) (b : Bool) → end.is_whole ≡ b → closed done Skipping end ≡ Ok whole → Rests done Skipping over end [] whole
ended_skipping done over end whole true is_whole is =
    let same : ◌≡◌ {A = Result (List Entry) ℕ} (Ok done) (Ok whole) = rw is_whole at is in
    record { es = []; all = sym (same_lists done whole same) ∙ sym (append-nil done); ended = is_whole; goes = λ t between other all. skipped over t between [] [] other all refl (nothing over) }
ended_skipping done over end whole false is_whole is = let never : ◌≡◌ {A = Result (List Entry) ℕ} (Err end.at) (Ok whole) = rw is_whole at is in cc

at_end : Walks []
unfolding walk
at_end done Due over end whole is = ended_due done over end whole end.is_whole refl is
at_end done Skipping over end whole is = ended_skipping done over end whole end.is_whole refl is
at_end done (First k) over end whole is = cc
at_end done (Second k name) over end whole is = cc

module _ (t : Token) (ts : List Token) (rest : Walks ts) (done : List Entry) (over : Bool) (end : End) (whole : List Entry) where
  -- a token without an entry
  goes_on : (s next : CatalogState) (now : Bool) → step s over t ≡ Ok (turn next now None) → walk done s over end (t ∷ ts) ≡ Ok whole → Rests done next now end ts whole
  goes_on s next now st is = rest done next now end whole (further done done s over end t ts (turn next now None) (Ok whole) st refl is)

  stops : (s : CatalogState) (at : ℕ) → step s over t ≡ Err at → walk done s over end (t ∷ ts) ≡ Ok whole → ⊥
  unfolding walk
  stops s at st is = refused_not at whole (go_on done (step s over t) (λ d x o. walk d x o end ts)) (ap (λ (r : Result Turn ℕ). go_on done r (λ d x o. walk d x o end ts)) st) is

  due : (q : Bool) (k : Option Keyword) → t.quoted ≡ q → keyword_of t.text ≡ k → walk done Due over end (t ∷ ts) ≡ Ok whole → Rests done Due over end (t ∷ ts) whole
  due true k quoted word is = absurd (stops Due t.at (rw quoted refl) is)
  due false None quoted word is =
      let r = goes_on Due Skipping over (rw (quoted, word) refl) is in
      record { es = r.es; all = r.all; ended = r.ended; goes = r.goes t [] (quoted, word) refl }
  due false (Some k) quoted word is =
      let r = goes_on Due (First k) over (rw (quoted, word) refl) is in
      record { es = r.es; all = r.all; ended = r.ended; goes = r.goes t (quoted, word) }

  skip_more : (r : Rests done Skipping over end ts whole) → is_keyword t ≡ false → Rests done Skipping over end (t ∷ ts) whole
  skip_more r none = record {
    es = r.es;
    all = r.all;
    ended = r.ended;
    goes = λ u between other all. subst (λ (l : List Token). Tells over (u ∷ l) r.es) (append_assoc between (t ∷ []) ts) (r.goes u (between ++ t ∷ []) other (all_more between t all none));
  }

  skipping : (q : Bool) (k : Option Keyword) → t.quoted ≡ q → keyword_of t.text ≡ k → walk done Skipping over end (t ∷ ts) ≡ Ok whole → Rests done Skipping over end (t ∷ ts) whole
  skipping true k quoted word is = skip_more (goes_on Skipping Skipping over (rw quoted refl) is) (rw quoted refl)
  skipping false None quoted word is = skip_more (goes_on Skipping Skipping over (rw (quoted, word) refl) is) (rw (quoted, word) refl)
  skipping false (Some k) quoted word is =
      let r = goes_on Skipping (First k) over (rw (quoted, word) refl) is in
      record { es = r.es; all = r.all; ended = r.ended; goes = λ u between other all. skipped over u between (t ∷ ts) r.es other all (rw (quoted, word) refl) (r.goes t (quoted, word)) }

  first_of_two : (k : Keyword) → takes_two k ≡ true → walk done (First k) over end (t ∷ ts) ≡ Ok whole → Rests done (First k) over end (t ∷ ts) whole
  first_of_two k two is =
      let r = goes_on (First k) (Second k t.text) over (rw two refl) is in
      record { es = r.es; all = r.all; ended = r.ended; goes = λ u word. r.goes u t word two refl }

  overriding : (y n : Bool) → is_word (codes "YES") t.text ≡ y → is_word (codes "NO") t.text ≡ n → walk done (First keywords.Override) over end (t ∷ ts) ≡ Ok whole → Rests done (First keywords.Override) over end (t ∷ ts) whole
  overriding true n says denies is =
      let r = goes_on (First keywords.Override) Due true (rw says refl) is in
      record { es = r.es; all = r.all; ended = r.ended; goes = λ u word. override over true u t ts r.es word says r.goes }
  overriding false true says denies is =
      let r = goes_on (First keywords.Override) Due false (rw (says, denies) refl) is in
      record { es = r.es; all = r.all; ended = r.ended; goes = λ u word. override over false u t ts r.es word denies r.goes }
  overriding false false says denies is = absurd (stops (First keywords.Override) t.at (rw (says, denies) refl) is)

  -- a token that ends an entry
  with_entry : (s : CatalogState) (e : Option Entry) → step s over t ≡ Ok (turn Due over e) → walk done s over end (t ∷ ts) ≡ Ok whole → Rests (entries_with done e) Due over end ts whole
  with_entry s e st is = rest (entries_with done e) Due over end whole (further done (entries_with done e) s over end t ts (turn Due over e) (Ok whole) st refl is)

  moved : (e : Option Entry) (es : List Entry) → entries_with done e ++ es ≡ done ++ before e es
  moved None es = refl
  moved (Some e) es = append_assoc done (e ∷ []) es

  first : (k : Keyword) → walk done (First k) over end (t ∷ ts) ≡ Ok whole → Rests done (First k) over end (t ∷ ts) whole
  first keywords.Override is = overriding (is_word (codes "YES") t.text) (is_word (codes "NO") t.text) refl refl is
  first keywords.Sgmldecl is =
      let e : Entry = entry Declaration over [] t.text in
      let r = with_entry (First keywords.Sgmldecl) (Some e) refl is in
      record { es = e ∷ r.es; all = r.all ∙ moved (Some e) r.es; ended = r.ended; goes = λ u word. declaration over u t ts r.es word r.goes }
  first keywords.OneUnused is =
      let r = goes_on (First keywords.OneUnused) Due over refl is in
      record { es = r.es; all = r.all; ended = r.ended; goes = λ u word. unused over u t ts r.es word r.goes }
  first keywords.Public is = first_of_two keywords.Public refl is
  first keywords.System is = first_of_two keywords.System refl is
  first keywords.Entity is = first_of_two keywords.Entity refl is
  first keywords.Doctype is = first_of_two keywords.Doctype refl is
  first keywords.Notation is = first_of_two keywords.Notation refl is
  first keywords.TwoUnused is = first_of_two keywords.TwoUnused refl is

  second : (k : Keyword) (name : List ℕ) → walk done (Second k name) over end (t ∷ ts) ≡ Ok whole → Rests done (Second k name) over end (t ∷ ts) whole
  second k name is =
      let e : Option Entry = entry_of k over name t.text in
      let r = with_entry (Second k name) e refl is in
      record {
        es = before e r.es;
        all = r.all ∙ moved e r.es;
        ended = r.ended;
        goes = λ u a word two same. subst (λ (n : List ℕ). Tells over (u ∷ a ∷ t ∷ ts) (before (entry_of k over n t.text) r.es)) same (two_arguments over u a t k ts r.es word two r.goes);
      }

  one_token : (s : CatalogState) → walk done s over end (t ∷ ts) ≡ Ok whole → Rests done s over end (t ∷ ts) whole
  one_token Due is = due t.quoted (keyword_of t.text) refl refl is
  one_token Skipping is = skipping t.quoted (keyword_of t.text) refl refl is
  one_token (First k) is = first k is
  one_token (Second k name) is = second k name is

walked : (ts : List Token) → Walks ts
walked [] done s over end whole is = at_end done s over end whole is
walked (t ∷ ts) done s over end whole is = one_token t ts (walked ts) done over end whole s is

-- what is told is of the grammar
pub grammatical : (ts : List Token) (end : End) (es : List Entry) → told ts end ≡ Ok es → (end.is_whole ≡ true) × Tells false ts es
grammatical ts end es is = let r = walked ts [] Due false end es is in (r.ended, subst (λ (l : List Entry). Tells false ts l) (sym r.all) r.goes)
