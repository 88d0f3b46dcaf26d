-- What is refused is refused at a place of the grammar.
use Rattle.std.proofs.Common.{◌≡◌, ℕ, Bool, true, false, List, [], ◌∷◌, ◌++◌, Option, Some, None, Result, Ok, Err, codes, refl, sym, ap, ◌∙◌, subst, append_assoc}
use Rattle.sgml_text.specs.Characters.{is_word}
use Rattle.sgml_catalog.specs.Keywords.{keyword_of, takes_two}
use Rattle.sgml_catalog.specs.declared.token.Token.{Token}
use Rattle.sgml_catalog.specs.declared.token.End.{End}
use Rattle.sgml_catalog.specs.declared.keyword.Keyword.{Keyword}
use Rattle.sgml_catalog.specs.declared.keyword.Keyword.TheVariants as keywords
use Rattle.sgml_catalog.specs.declared.entry.Entry.{Entry}
use Rattle.sgml_catalog.specs.declared.entry.Sort.TheVariants.{Declaration}
use Rattle.sgml_catalog.specs.declared.reading.CatalogState.{CatalogState}
use Rattle.sgml_catalog.specs.declared.reading.CatalogState.TheVariants.{Due, Skipping, First, Second}
use Rattle.sgml_catalog.specs.declared.reading.Turn.{Turn}
use Rattle.sgml_catalog.specs.Entries.{entry, entry_of, turn, step, entries_with, closed, go_on, walk, told}
use Rattle.sgml_catalog.proofs.Walking.{further}
use Rattle.sgml_catalog.proofs.Grammatical.{AllOther, all_more}
use Rattle.sgml_catalog.specs.Grammar.{IsKeyword, IsOther, is_keyword, Refuses, unended, literal_first, no_argument, no_second, no_answer, after_two, after_declaration, after_unused, after_override, after_skipped}

-- what the grammar has to say of the rest in each state
abbrev Stops : CatalogState → Bool → List Token → End → ℕ → Type 0
Stops Due over ts end at = Refuses over ts end at
Stops Skipping over ts end at = (t : Token) (between : List Token) → IsOther t → AllOther between → Refuses over (t ∷ between ++ ts) end at
Stops (First k) over ts end at = (t : Token) → IsKeyword t k → Refuses over (t ∷ ts) end at
Stops (Second k name) over ts end at = (t a : Token) → IsKeyword t k → takes_two k ≡ true → Refuses over (t ∷ a ∷ ts) end at

abbrev Halts : List Token → Type 0
Halts ts = (done : List Entry) (s : CatalogState) (over : Bool) (end : End) (at : ℕ) → walk done s over end ts ≡ Err at → Stops s over ts end at

same_place : (a b : ℕ) → ◌≡◌ {A = Result (List Entry) ℕ} (Err a) (Err b) → a ≡ b
same_place a b is = cc

ended : (done : List Entry) (over : Bool) (end : End) (at : ℕ) (b : Bool) → end.is_whole ≡ b → closed done Due end ≡ Err at → Refuses over [] end at
ended done over end at true whole is = let never : ◌≡◌ {A = Result (List Entry) ℕ} (Ok done) (Err at) = rw whole at is in cc
ended done over end at false whole is =
    let same : ◌≡◌ {A = Result (List Entry) ℕ} (Err end.at) (Err at) = rw whole at is in
    subst (λ (n : ℕ). Refuses over [] end n) (same_place end.at at same) (unended over end whole)

at_end : Halts []
unfolding walk
at_end done Due over end at is = ended done over end at end.is_whole refl is
at_end done Skipping over end at is = λ t between other all. after_skipped over t between [] end at other all refl (ended done over end at end.is_whole refl is)
at_end done (First k) over end at is = λ t word. subst (λ (n : ℕ). Refuses over (t ∷ []) end n) (same_place end.at at is) (no_argument over t k end word)
at_end done (Second k name) over end at is = λ t a word two. subst (λ (n : ℕ). Refuses over (t ∷ a ∷ []) end n) (same_place end.at at is) (no_second over t a k end word two)

module _ (t : Token) (ts : List Token) (rest : Halts ts) (done : List Entry) (over : Bool) (end : End) (at : ℕ) where
  goes_on : (s next : CatalogState) (now : Bool) (e : Option Entry) → step s over t ≡ Ok (turn next now e) → walk done s over end (t ∷ ts) ≡ Err at → Stops next now ts end at
  goes_on s next now e st is = rest (entries_with done e) next now end at (further done (entries_with done e) s over end t ts (turn next now e) (Err at) st refl is)

  here : (s : CatalogState) (n : ℕ) → step s over t ≡ Err n → walk done s over end (t ∷ ts) ≡ Err at → n ≡ at
  unfolding walk
  here s n st is = same_place n at (sym (ap (λ (r : Result Turn ℕ). go_on done r (λ d x o. walk d x o end ts)) st) ∙ is)

  due : (q : Bool) (k : Option Keyword) → t.quoted ≡ q → keyword_of t.text ≡ k → walk done Due over end (t ∷ ts) ≡ Err at → Refuses over (t ∷ ts) end at
  due true k quoted word is = subst (λ (n : ℕ). Refuses over (t ∷ ts) end n) (here Due t.at (rw quoted refl) is) (literal_first over t ts end quoted)
  due false None quoted word is = goes_on Due Skipping over None (rw (quoted, word) refl) is t [] (quoted, word) refl
  due false (Some k) quoted word is = goes_on Due (First k) over None (rw (quoted, word) refl) is t (quoted, word)

  skip_more : Stops Skipping over ts end at → is_keyword t ≡ false → Stops Skipping over (t ∷ ts) end at
  skip_more r none u between other all = subst (λ (l : List Token). Refuses over (u ∷ l) end at) (append_assoc between (t ∷ []) ts) (r u (between ++ t ∷ []) other (all_more between t all none))

  skipping : (q : Bool) (k : Option Keyword) → t.quoted ≡ q → keyword_of t.text ≡ k → walk done Skipping over end (t ∷ ts) ≡ Err at → Stops Skipping over (t ∷ ts) end at
  skipping true k quoted word is = skip_more (goes_on Skipping Skipping over None (rw quoted refl) is) (rw quoted refl)
  skipping false None quoted word is = skip_more (goes_on Skipping Skipping over None (rw (quoted, word) refl) is) (rw (quoted, word) refl)
  skipping false (Some k) quoted word is = λ u between other all. after_skipped over u between (t ∷ ts) end at other all (rw (quoted, word) refl) (goes_on Skipping (First k) over None (rw (quoted, word) refl) is t (quoted, word))

  overriding : (y n : Bool) → is_word (codes "YES") t.text ≡ y → is_word (codes "NO") t.text ≡ n → walk done (First keywords.Override) over end (t ∷ ts) ≡ Err at → Stops (First keywords.Override) over (t ∷ ts) end at
  overriding true n says denies is = λ u word. after_override over true u t ts end at word says (goes_on (First keywords.Override) Due true None (rw says refl) is)
  overriding false true says denies is = λ u word. after_override over false u t ts end at word denies (goes_on (First keywords.Override) Due false None (rw (says, denies) refl) is)
  overriding false false says denies is = λ u word. subst (λ (n : ℕ). Refuses over (u ∷ t ∷ ts) end n) (here (First keywords.Override) t.at (rw (says, denies) refl) is) (no_answer over u t ts end word says denies)

  first_of_two : (k : Keyword) → takes_two k ≡ true → walk done (First k) over end (t ∷ ts) ≡ Err at → Stops (First k) over (t ∷ ts) end at
  first_of_two k two is = λ u word. goes_on (First k) (Second k t.text) over None (rw two refl) is u t word two

  first : (k : Keyword) → walk done (First k) over end (t ∷ ts) ≡ Err at → Stops (First k) over (t ∷ ts) end at
  first keywords.Override is = overriding (is_word (codes "YES") t.text) (is_word (codes "NO") t.text) refl refl is
  first keywords.Sgmldecl is = λ u word. after_declaration over u t ts end at word (goes_on (First keywords.Sgmldecl) Due over (Some (entry Declaration over [] t.text)) refl is)
  first keywords.OneUnused is = λ u word. after_unused over u t ts end at word (goes_on (First keywords.OneUnused) Due over None refl is)
  first keywords.Public is = first_of_two keywords.Public refl is
  first keywords.System is = first_of_two keywords.System refl is
  first keywords.Entity is = first_of_two keywords.Entity refl is
  first keywords.Doctype is = first_of_two keywords.Doctype refl is
  first keywords.Notation is = first_of_two keywords.Notation refl is
  first keywords.TwoUnused is = first_of_two keywords.TwoUnused refl is

  one_token : (s : CatalogState) → walk done s over end (t ∷ ts) ≡ Err at → Stops s over (t ∷ ts) end at
  one_token Due is = due t.quoted (keyword_of t.text) refl refl is
  one_token Skipping is = skipping t.quoted (keyword_of t.text) refl refl is
  one_token (First k) is = first k is
  one_token (Second k name) is = λ u a word two. after_two over u a t k ts end at word two (goes_on (Second k name) Due over (entry_of k over name t.text) refl is)

halts : (ts : List Token) → Halts ts
halts [] done s over end at is = at_end done s over end at is
halts (t ∷ ts) done s over end at is = one_token t ts (halts ts) done over end at s is

-- what is refused is refused at a place of the grammar
pub refused_at : (ts : List Token) (end : End) (at : ℕ) → told ts end ≡ Err at → Refuses false ts end at
refused_at ts end at is = halts ts [] Due false end at is
