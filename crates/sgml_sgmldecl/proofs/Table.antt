-- What holds of each row of the table of words.
use Rattle.std.proofs.Common.{◌≡◌, ℕ, zero, suc, Bool, true, false, ◌||◌, ◌&&◌, List, [], ◌∷◌, map, Option, Some, refl, sym, ap, ◌∙◌, cond}
use Rattle.sgml_text.specs.Characters.{upper}
use Rattle.sgml_sgmldecl.specs.declared.due.Due.{Due}
use Rattle.sgml_sgmldecl.specs.declared.due.Due.TheVariants as due
use Rattle.sgml_sgmldecl.specs.declared.keyword.Keyword.{Keyword}
use Rattle.sgml_sgmldecl.specs.declared.keyword.Keyword.TheVariants as k
use Rattle.sgml_sgmldecl.specs.declared.row.Row.{Row}
use Rattle.sgml_sgmldecl.specs.declared.row.Item.{Item}
use Rattle.sgml_sgmldecl.specs.declared.row.Item.TheVariants as i
use Rattle.sgml_sgmldecl.specs.Keywords.{spelling}
use Rattle.sgml_sgmldecl.specs.Rows.{rows}
use Rattle.sgml_sgmldecl.specs.Items.{begins}
use Rattle.sgml_sgmldecl.specs.Following.{first_begun, end_due}
use Rattle.sgml_sgmldecl.proofs.ByteTests.{is_alnum}

-- a keyword is in upper case
pub keyword_upper : (k : Keyword) → map upper (spelling k) ≡ spelling k
keyword_upper k.Charset = refl
keyword_upper _ = refl

abbrev pub starts_alnum : List ℕ → Bool
starts_alnum [] = false
starts_alnum (x ∷ xs) = is_alnum x

-- a keyword begins with a letter or a digit
pub keyword_start : (k : Keyword) → starts_alnum (spelling k) ≡ true
keyword_start k.Charset = refl
keyword_start _ = refl

-- the row that is found begins with the byte
found_by_test : (x r : Row) (b : ℕ) (others : Option Row) (t : Bool) → begins x.item b ≡ t → (others ≡ Some r → begins r.item b ≡ true) → cond t (Some x) others ≡ Some r → begins r.item b ≡ true
found_by_test x r b others true test later found = let same : x ≡ r = cc in ap (λ (y : Row). begins y.item b) (sym same) ∙ test
found_by_test x r b others false test later found = later found

pub row_begins : (rs : List Row) (b : ℕ) (r : Row) → first_begun rs b ≡ Some r → begins r.item b ≡ true
row_begins [] b r is = cc
row_begins (x ∷ rs) b r is = found_by_test x r b (first_begun rs b) (begins x.item b) refl (row_begins rs b r) is

-- what is due after the first row, on the way to the end
abbrev pub way_on : Item → Due → Due
way_on (i.Name e) next = end_due e
way_on _ next = next

abbrev pub way_of : List Row → Due → Due
way_of [] d = d
way_of (r ∷ rs) d = way_on r.item r.then

abbrev pub is_end : Item → Bool
is_end i.End = true
is_end _ = false

abbrev pub ends_first : List Row → Bool
ends_first [] = false
ends_first (r ∷ rs) = is_end r.item

abbrev pub is_inner : Item → Bool
is_inner i.Opening = false
is_inner i.End = false
is_inner _ = true

abbrev pub goes_first : List Row → Bool
goes_first [] = false
goes_first (r ∷ rs) = is_inner r.item

-- whether first rows lead to the end within so many items
unfoldable pub reaches : ℕ → Due → Bool
reaches zero d = false
reaches (suc n) d = ends_first (rows d) || (goes_first (rows d) && reaches n (way_of (rows d) d))

-- the end can be reached from each thing that is due
pub reached : (d : Due) → reaches 100 d ≡ true
unfolding reaches
reached due.Heading = refl
reached _ = refl
