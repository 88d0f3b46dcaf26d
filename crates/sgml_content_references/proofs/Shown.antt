-- What the bytes of a string tell, and whether one of them is content.
use Rattle.std.specs.Prelude.{◌≡◌, ℕ, ◌&&◌, ◌||◌, ◌==◌, Bool, true, false, List, [], ◌∷◌, ◌++◌, Some, if◌then◌else◌}
use Rattle.std.proofs.Common.{refl, sym, ap, ◌∙◌}
use Rattle.sgml_theory_reading.specs.records.Items.{Item, RecordEnd, RecordStart, Data as DataItem, Subelement, Markup}
use Rattle.sgml_theory_reading.specs.records.Facts.{Facts, takes_end, noted}
use Rattle.sgml_theory_reading.specs.Names.{Text}
use Rattle.sgml_theory_reading.specs.Facets.{byte_item}
use Rattle.sgml_theory_reading.specs.Characters.{some_content}
use Rattle.sgml_theory_reading.specs.Events.{Byte, releases_by, shown_byte, shown_bytes, told_by, told_item_by}
use Rattle.sgml_inside.specs.declared.inside.Inner.{Inner}
use Rattle.sgml_inside.specs.Inside.{noted_in}
use Rattle.sgml_content_data.proofs.Told.{bytes_said}
use Rattle.sgml_content_references.specs.Ordinary.{is_content_where, some_by, put_byte, data_byte, byte_shown, bytes_shown}

abbrev item_if : Bool → Bool → Item
item_if end start = if end then RecordEnd else (if start then RecordStart else DataItem)

-- ONE IS CONTENT: behind any byte a record end is live
takes-behind : (end start : Bool) (f : Facts) → takes_end (noted f (item_if end start)) ≡ true
unfolding noted
takes-behind true start f = refl
takes-behind false true f = refl
takes-behind false false f = refl

takes-next : (f : Facts) (b : ℕ) → takes_end (noted f (byte_item b)) ≡ true
takes-next f b = takes-behind (b == 13) (b == 10) f

pub content-is : (string : Text) (f : Facts) → some_by (takes_end f) string ≡ some_content f string
content-is [] f = refl
content-is (b ∷ bs) f =
    ap (λ t. is_content_where (takes_end f) b || t) (ap (λ t. some_by t bs) (sym (takes-next f b)) ∙ content-is bs (noted f (byte_item b)))

-- WHERE NONE IS, nothing is told
or-none : (a b : Bool) → (a || b) ≡ false → (a ≡ false) × (b ≡ false)
or-none false b e = (refl, e)
or-none true b e = absurd (never e)
  where
    never : true ≡ false → ⊥
    never e = cc

ends-quiet : (live waiting : Bool) → live ≡ false → (if live && waiting then Byte 13 ∷ [] else []) ≡ []
ends-quiet live waiting e = ap (λ (t : Bool). if t && waiting then Byte 13 ∷ [] else []) e

one-quiet : (end start : Bool) (f : Facts) (b : ℕ) → (if end then takes_end f else (if start then false else true)) ≡ false
    → told_item_by f (Some (item_if end start)) ++ (shown_byte b (item_if end start)).events ≡ []
one-quiet true start f b e = ap (λ es. es ++ []) (ends-quiet (takes_end f) f.waiting e)
one-quiet false true f b e = refl
one-quiet false false f b e = absurd (never e)
  where
    never : true ≡ false → ⊥
    never e = cc

item-shown : (b : ℕ) (i : Item) → (shown_byte b i).item ≡ Some i
item-shown b RecordEnd = refl
item-shown b RecordStart = refl
item-shown b DataItem = refl
item-shown b Subelement = refl
item-shown b Markup = refl

told-cons : (f : Facts) (b : ℕ) (bs : Text)
    → told_by f (shown_bytes (b ∷ bs)) ≡ (told_item_by f (Some (byte_item b)) ++ (shown_byte b (byte_item b)).events) ++ told_by (noted f (byte_item b)) (shown_bytes bs)
told-cons f b bs = shown-as f b (byte_item b) bs
  where
    shown-as : (f : Facts) (b : ℕ) (i : Item) (bs : Text)
        → told_by f (shown_byte b i ∷ shown_bytes bs) ≡ (told_item_by f (Some i) ++ (shown_byte b i).events) ++ told_by (noted f i) (shown_bytes bs)
    shown-as f b RecordEnd bs = refl
    shown-as f b RecordStart bs = refl
    shown-as f b DataItem bs = refl
    shown-as f b Subelement bs = refl
    shown-as f b Markup bs = refl

pub none-told : (string : Text) (f : Facts) → some_by (takes_end f) string ≡ false → told_by f (shown_bytes string) ≡ []
none-told [] f e = refl
none-told (b ∷ bs) f e =
    let parts = or-none (is_content_where (takes_end f) b) (some_by true bs) e in
    told-cons f b bs
    ∙ (λ i. one-quiet (b == 13) (b == 10) f b parts.0 i ++ none-told bs (noted f (byte_item b)) (ap (λ t. some_by t bs) (takes-next f b) ∙ parts.1) i)

-- ELSE each byte that is data, and each record end that one of them puts out
one-told : (released : Bool) (b : ℕ) (i : Item) → (if released then Byte 13 ∷ [] else []) ++ (shown_byte b i).events ≡ bytes_said (put_byte released ++ data_byte b i)
one-told true b RecordEnd = refl
one-told true b RecordStart = refl
one-told true b DataItem = refl
one-told true b Subelement = refl
one-told true b Markup = refl
one-told false b RecordEnd = refl
one-told false b RecordStart = refl
one-told false b DataItem = refl
one-told false b Subelement = refl
one-told false b Markup = refl

said-append : (xs ys : Text) → bytes_said (xs ++ ys) ≡ bytes_said xs ++ bytes_said ys
said-append [] ys = refl
said-append (x ∷ xs) ys = ap (λ es. Byte x ∷ es) (said-append xs ys)

pub bytes-told : (string : Text) (x : Inner) (xs : List Inner) → told_by x.record_ends (shown_bytes string) ≡ bytes_said (bytes_shown (x ∷ xs) string)
bytes-told [] x xs = refl
bytes-told (b ∷ bs) x xs =
    let f = x.record_ends in
    told-cons f b bs
    ∙ ((λ i. one-told (releases_by f (byte_item b)) b (byte_item b) i ++ bytes-told bs (record x { record_ends = noted f (byte_item b) }) xs i)
    ∙ sym (said-append (byte_shown f b) (bytes_shown (noted_in (byte_item b) (x ∷ xs)) bs)))
