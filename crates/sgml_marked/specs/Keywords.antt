-- What the status keywords of a marked section say (ISO 8879 10.4.2).
use Rattle.std.specs.Prelude.{◌≡◌, ◌++◌, IsTrue, IsFalse, length, ℕ, ◌+◌, ◌==◌, ◌&&◌, ◌||◌, Bool, true, false, if◌then◌else◌, List, [], ◌∷◌, Option, None, Some, option_map, Result, Ok, Err, codes}
use Rattle.std.specs.List.{list_any}
use Rattle.sgml_text.specs.Characters.{upper, is_word}
use Rattle.sgml_marked.specs.declared.status.Status.{Status}
use Rattle.sgml_marked.specs.declared.status.Status.TheVariants.{Ignore, Cdata, Rcdata, Include}

-- one of the five status keywords
abbrev pub is_keyword : List ℕ → Bool
is_keyword spelled =
    is_word (codes "CDATA") spelled || is_word (codes "IGNORE") spelled || is_word (codes "INCLUDE") spelled
    || is_word (codes "RCDATA") spelled || is_word (codes "TEMP") spelled

-- the word is among the keywords
abbrev pub has : List (List ℕ) → List ℕ → Bool
has keywords word = list_any (is_word word) keywords

-- IGNORE goes before CDATA, that before RCDATA, and that before INCLUDE, which also holds where no
-- other status is given
abbrev pub highest : List (List ℕ) → Status
highest keywords =
    if has keywords (codes "IGNORE") then Ignore
    else if has keywords (codes "CDATA") then Cdata
    else if has keywords (codes "RCDATA") then Rcdata
    else Include

-- the index of the first that is no status keyword
abbrev pub first_unknown : List (List ℕ) → Option ℕ
first_unknown [] = None
first_unknown (keyword ∷ keywords) =
    if is_keyword keyword then option_map (λ i. i + 1) (first_unknown keywords) else Some 0

abbrev pub status_unless : Status → Option ℕ → Result Status ℕ
status_unless status (Some i) = Err i
status_unless status None = Ok status

-- the status, unless one of them is no keyword
abbrev pub status_by : List (List ℕ) → Result Status ℕ
status_by keywords = status_unless (highest keywords) (first_unknown keywords)

-- all are status keywords
abbrev pub AllKnown : List (List ℕ) → Type 0
AllKnown [] = Unit {0}
AllKnown (keyword ∷ keywords) = IsTrue (is_keyword keyword) × AllKnown keywords

-- the keyword at `i` is no status keyword, and all before it are
pub record IsFirstUnknown (keywords : List (List ℕ)) (i : ℕ) : Type 0 where
  pub known : List (List ℕ)
  pub unknown : List ℕ
  pub later : List (List ℕ)
  pub are : keywords ≡ known ++ (unknown ∷ later)
  pub place : i ≡ length known
  pub all_known : AllKnown known
  pub is_unknown : IsFalse (is_keyword unknown)
