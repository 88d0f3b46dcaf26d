-- The same by search in the items before a place, the newest first, and the four facts of these
-- items that a reader keeps (7.6.1).
use Rattle.std.specs.Prelude.{◌≡◌, ℕ, Bool, true, false, not, ◌&&◌, ◌||◌, IsTrue, IsFalse, List, [], ◌∷◌, ◌++◌, take, reverse}
use Rattle.sgml_records.specs.Items.{Item, RecordEnd, RecordStart, Data, Subelement, Markup}

-- the items before the one at `i`, the newest first
abbrev pub before : List Item → ℕ → List Item
before items i = reverse (take i items)

-- no record end or start, data or proper subelement is among them
abbrev pub only_markup : List Item → Bool
only_markup [] = true
only_markup (Markup ∷ earlier) = only_markup earlier
only_markup (item ∷ earlier) = false

-- the last is a record end or start
abbrev pub ends_in_record : List Item → Bool
ends_in_record (RecordEnd ∷ earlier) = true
ends_in_record (RecordStart ∷ earlier) = true
ends_in_record _ = false

-- data or a proper subelement stands after the last record end or start, or after the element's
-- start where there is none
abbrev pub has_content : List Item → Bool
has_content [] = false
has_content (Data ∷ earlier) = true
has_content (Subelement ∷ earlier) = true
has_content (Markup ∷ earlier) = has_content earlier
has_content (item ∷ earlier) = false

-- the last is no record end or start, and no data or proper subelement stands after the last of these
abbrev pub only_markup_since : List Item → Bool
only_markup_since earlier = not (ends_in_record earlier) && not (has_content earlier)

-- a record end after these is not ignored for what stands before it
abbrev pub is_live : List Item → Bool
is_live earlier = not (only_markup earlier) && (ends_in_record earlier || has_content earlier)

-- the item after these puts out a record end that waits
abbrev pub releases : Item → List Item → Bool
releases Data earlier = true
releases Subelement earlier = true
releases RecordEnd earlier = is_live earlier
releases RecordStart earlier = false
releases Markup earlier = false

-- none of the items `between`, which stand after `earlier`, puts a record end out
abbrev pub NoneReleases : List Item → List Item → Type 0
NoneReleases [] earlier = Unit {0}
NoneReleases (item ∷ between) earlier = IsFalse (releases item (between ++ earlier)) × NoneReleases between earlier

-- a record end among these isn't ignored for what stands before it, and nothing has put it out
pub record OneWaits (items : List Item) : Type 0 where
  pub between : List Item
  pub earlier : List Item
  pub parts : items ≡ between ++ (RecordEnd ∷ earlier)
  pub live : IsTrue (is_live earlier)
  pub quiet : NoneReleases between (RecordEnd ∷ earlier)

-- the same as a test
abbrev pub one_waits : List Item → Bool
one_waits [] = false
one_waits (RecordEnd ∷ earlier) = is_live earlier || one_waits earlier
one_waits (Data ∷ earlier) = false
one_waits (Subelement ∷ earlier) = false
one_waits (RecordStart ∷ earlier) = one_waits earlier
one_waits (Markup ∷ earlier) = one_waits earlier

-- The four facts.
pub record Facts : Type 0 where
  -- a record end or start, data or a proper subelement is among the items
  pub begun : Bool
  -- the last item is a record end or start
  pub after_record : Bool
  -- data or a proper subelement stands after the last record end or start
  pub content : Bool
  -- a record end waits
  pub waiting : Bool

-- the facts of these items, the newest first
unfoldable pub facts : List Item → Facts
facts items = record {
  begun = not (only_markup items);
  after_record = ends_in_record items;
  content = has_content items;
  waiting = one_waits items;
}

abbrev pub no_facts : Facts
no_facts = record { begun = false; after_record = false; content = false; waiting = false }

-- a record end after the items is not ignored for what stands before it
abbrev pub takes_end : Facts → Bool
takes_end f = f.begun && (f.after_record || f.content)

-- the facts after one item more
unfoldable pub noted : Facts → Item → Facts
noted f RecordEnd = record { begun = true; after_record = true; content = false; waiting = takes_end f || f.waiting }
noted f RecordStart = record { begun = true; after_record = true; content = false; waiting = f.waiting }
noted f Data = record { begun = true; after_record = false; content = true; waiting = false }
noted f Subelement = record { begun = true; after_record = false; content = true; waiting = false }
noted f Markup = record f { after_record = false }

abbrev pub all_noted : Facts → List Item → Facts
all_noted f [] = f
all_noted f (item ∷ items) = all_noted (noted f item) items
