-- The grammar of catalogs: which tokens tell which entries (TR9401; what is skipped is the profile's).
use Rattle.std.specs.Prelude.{ℕ, Bool, true, false, not, ◌≡◌, List, [], ◌∷◌, ◌++◌, Option, Some, None, codes, is_some, if◌then◌else◌}
use Rattle.std.specs.List.{list_all}
use Rattle.sgml_text.specs.Characters.{is_word}
use Rattle.sgml_catalog.specs.Keywords.{keyword_of, takes_two}
use Rattle.sgml_catalog.specs.Entries.{entry, entry_of}
use Rattle.sgml_catalog.specs.declared.token.Token.{Token}
use Rattle.sgml_catalog.specs.declared.token.End.{End}
use Rattle.sgml_catalog.specs.declared.keyword.Keyword.{Keyword}
use Rattle.sgml_catalog.specs.declared.keyword.Keyword.TheVariants.{Sgmldecl, Override, OneUnused}
use Rattle.sgml_catalog.specs.declared.entry.Entry.{Entry}
use Rattle.sgml_catalog.specs.declared.entry.Sort.TheVariants.{Declaration}

-- the token is a word that spells this keyword
abbrev pub IsKeyword : Token → Keyword → Type 0
IsKeyword t k = (t.quoted ≡ false) × (keyword_of t.text ≡ Some k)

-- the token is a word that spells no keyword
abbrev pub IsOther : Token → Type 0
IsOther t = (t.quoted ≡ false) × (keyword_of t.text ≡ None)

abbrev pub is_keyword : Token → Bool
is_keyword t = if t.quoted then false else is_some (keyword_of t.text)

-- nothing is left, or a keyword stands first
abbrev pub is_at_keyword : List Token → Bool
is_at_keyword [] = true
is_at_keyword (t ∷ ts) = is_keyword t

abbrev pub before : Option Entry → List Entry → List Entry
before None es = es
before (Some e) es = e ∷ es

abbrev pub answer_word : Bool → List ℕ
answer_word true = codes "YES"
answer_word false = codes "NO"

-- Where OVERRIDE is so, the tokens tell these entries.
pub data Tells : Bool → List Token → List Entry → Type 0 where
  nothing : (over : Bool) → Tells over [] []
  two_arguments : (over : Bool) (t a b : Token) (k : Keyword) (ts : List Token) (es : List Entry) → IsKeyword t k → takes_two k ≡ true
      → Tells over ts es → Tells over (t ∷ a ∷ b ∷ ts) (before (entry_of k over a.text b.text) es)
  declaration : (over : Bool) (t a : Token) (ts : List Token) (es : List Entry) → IsKeyword t Sgmldecl → Tells over ts es → Tells over (t ∷ a ∷ ts) (entry Declaration over [] a.text ∷ es)
  unused : (over : Bool) (t a : Token) (ts : List Token) (es : List Entry) → IsKeyword t OneUnused → Tells over ts es → Tells over (t ∷ a ∷ ts) es
  override : (over now : Bool) (t a : Token) (ts : List Token) (es : List Entry) → IsKeyword t Override → is_word (answer_word now) a.text ≡ true → Tells now ts es → Tells over (t ∷ a ∷ ts) es
  -- a word that is no keyword, and all that follows up to the next keyword
  skipped : (over : Bool) (t : Token) (between ts : List Token) (es : List Entry) → IsOther t → list_all (λ s. not (is_keyword s)) between ≡ true → is_at_keyword ts ≡ true
      → Tells over ts es → Tells over (t ∷ between ++ ts) es

-- Where OVERRIDE is so, the tokens are of no catalog, which is refused at this place.
pub data Refuses : Bool → List Token → End → ℕ → Type 0 where
  -- a literal or a comment doesn't end
  unended : (over : Bool) (end : End) → end.is_whole ≡ false → Refuses over [] end end.at
  -- a literal stands where a keyword is due
  literal_first : (over : Bool) (t : Token) (ts : List Token) (end : End) → t.quoted ≡ true → Refuses over (t ∷ ts) end t.at
  -- an argument is missing
  no_argument : (over : Bool) (t : Token) (k : Keyword) (end : End) → IsKeyword t k → Refuses over (t ∷ []) end end.at
  no_second : (over : Bool) (t a : Token) (k : Keyword) (end : End) → IsKeyword t k → takes_two k ≡ true → Refuses over (t ∷ a ∷ []) end end.at
  -- OVERRIDE takes neither YES nor NO
  no_answer : (over : Bool) (t a : Token) (ts : List Token) (end : End) → IsKeyword t Override → is_word (answer_word true) a.text ≡ false → is_word (answer_word false) a.text ≡ false → Refuses over (t ∷ a ∷ ts) end a.at
  -- what stands before is of the grammar
  after_two : (over : Bool) (t a b : Token) (k : Keyword) (ts : List Token) (end : End) (at : ℕ) → IsKeyword t k → takes_two k ≡ true → Refuses over ts end at → Refuses over (t ∷ a ∷ b ∷ ts) end at
  after_declaration : (over : Bool) (t a : Token) (ts : List Token) (end : End) (at : ℕ) → IsKeyword t Sgmldecl → Refuses over ts end at → Refuses over (t ∷ a ∷ ts) end at
  after_unused : (over : Bool) (t a : Token) (ts : List Token) (end : End) (at : ℕ) → IsKeyword t OneUnused → Refuses over ts end at → Refuses over (t ∷ a ∷ ts) end at
  after_override : (over now : Bool) (t a : Token) (ts : List Token) (end : End) (at : ℕ) → IsKeyword t Override → is_word (answer_word now) a.text ≡ true → Refuses now ts end at → Refuses over (t ∷ a ∷ ts) end at
  after_skipped : (over : Bool) (t : Token) (between ts : List Token) (end : End) (at : ℕ) → IsOther t → list_all (λ s. not (is_keyword s)) between ≡ true → is_at_keyword ts ≡ true
      → Refuses over ts end at → Refuses over (t ∷ between ++ ts) end at
