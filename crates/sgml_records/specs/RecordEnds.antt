-- Which record ends are data, and where each is put out (ISO 8879 7.6.1), in the words of the
-- standard. `items` are all items of an element, in their order, and places count from 0.
use Rattle.std.specs.Prelude.{◌≡◌, ℕ, ◌+◌, ◌<◌, ◌⊎◌, IsTrue, IsFalse, Some, List, slice_get}
use Rattle.sgml_records.specs.Items.{Item, RecordEnd, Markup, is_record, is_content}

-- this item stands at `k`
abbrev pub StandsAt : List Item → ℕ → Item → Type 0
StandsAt items k item = slice_get items k ≡ Some item

-- the first case: no record start or end, data or proper subelement stands before it
abbrev pub IsIgnoredAsFirst : List Item → ℕ → Type 0
IsIgnoredAsFirst items i = (k : ℕ) (item : Item) → k < i → StandsAt items k item → item ≡ Markup

-- it stands directly after a record end or start
pub record FollowsRecord (items : List Item) (i : ℕ) : Type 0 where
  pub place : ℕ
  pub item : Item
  pub directly : i ≡ place + 1
  pub stands : StandsAt items place item
  pub is_one : IsTrue (is_record item)

-- data or a proper subelement stands between it and the last record end or start before it, or
-- the start of the element
pub record ContentIntervenes (items : List Item) (i : ℕ) : Type 0 where
  pub place : ℕ
  pub item : Item
  pub is_before : place < i
  pub stands : StandsAt items place item
  pub is_one : IsTrue (is_content item)
  pub no_record_since : (k : ℕ) (other : Item) → place < k → k < i → StandsAt items k other → IsFalse (is_record other)

-- the third case: it doesn't directly follow a record end or start, and nothing intervenes
pub record IsIgnoredAfterMarkup (items : List Item) (i : ℕ) : Type 0 where
  pub not_directly : ¬ FollowsRecord items i
  pub nothing_since : ¬ ContentIntervenes items i

-- a record end at `i` is ignored for what stands before it
abbrev pub IsIgnoredThere : List Item → ℕ → Type 0
IsIgnoredThere items i = IsIgnoredAsFirst items i ⊎ IsIgnoredAfterMarkup items i

-- data, a proper subelement, or a record end that isn't ignored for what stands before it
abbrev pub CountsAt : List Item → ℕ → Type 0
CountsAt items k = (item : Item) × StandsAt items k item ×
    (IsTrue (is_content item) ⊎ ((item ≡ RecordEnd) × ¬ IsIgnoredThere items k))

-- the second case: no data or proper subelement follows it. A record end that follows and isn't
-- ignored itself makes it not the last
abbrev pub IsIgnoredAsLast : List Item → ℕ → Type 0
IsIgnoredAsLast items i = (k : ℕ) → i < k → ¬ CountsAt items k

abbrev pub IsIgnored : List Item → ℕ → Type 0
IsIgnored items i = IsIgnoredThere items i ⊎ IsIgnoredAsLast items i

-- the record end at `i` is data, and it is put out directly before the item at `place`, which is
-- the first data, proper subelement or record end after it that counts
pub record IsPutOutAt (items : List Item) (i place : ℕ) : Type 0 where
  pub is_end : StandsAt items i RecordEnd
  pub not_ignored : ¬ IsIgnoredThere items i
  pub is_later : i < place
  pub counts : CountsAt items place
  pub is_first : (k : ℕ) → i < k → k < place → ¬ CountsAt items k
