-- The rows that the table keeps.
use Rattle.std.proofs.Common.{◌≡◌, ℕ, false, zero, suc, ◌+◌, ◌<◌, List, [], ◌∷◌, ◌++◌, Option, Some, None, refl, sym, ap, ◌∙◌, length, map, subst, arith, length-append, get_or, option_map}
use Rattle.std.proofs.lemmas.List.{map-append}
use Rattle.std.specs.List.{slice_get}
use Rattle.std.specs.Option.{IsSomeAnd}
use Rattle.std.proofs.lemmas.Option.{slice_get-map, slice_get_read, get_or_from_slice_get}
use Rattle.sgml_names.specs.Index.{table_limit}
use Rattle.sgml_names.proofs.Numbering.{length-numbered, numbered-append}
use Rattle.sgml_names.specs.Lists.{numbered, repeats}
use Rattle.sgml_decl_forms.specs.declared.element.ElementDeclaration.{ElementDeclaration}
use Rattle.sgml_dtd_elements.specs.declared.row.Row.{Row}
use Rattle.sgml_dtd_elements.specs.declared.row.Place.{Place}
use Rattle.sgml_decl_forms.specs.declared.element.ElementBody.{ElementBody}
use Rattle.sgml_dtd_elements.specs.Types.{ElementType, types, names, IsContentOf}
use Rattle.sgml_dtd_elements.specs.Naming.{with_names, is_twice, places_in, places_from}
use Rattle.sgml_dtd_elements.specs.Kept.{declared, IsRead, AreRead, AreKept}
use Rattle.sgml_dtd_elements.proofs.NumberedNames.{with_names-is, names_more, twice-numbered}
use Rattle.sgml_dtd_elements.proofs.OneDeclaration.{distinct_more}
use Rattle.sgml_dtd_elements.proofs.Groups.{content_of_form}
use Rattle.sgml_dtd_elements.proofs.PlacedNames.{typed, places_more, length-places_in, length-places, length-names, placed}

pub read_more : (rs : List Row) (r : Row) → AreRead rs → IsRead r.content → AreRead (rs ++ r ∷ [])
read_more [] r all one = (one, tt)
read_more (s ∷ rs) r all one = (all.0, read_more rs r all.1 one)

pub read_at : (rs : List Row) (i : ℕ) (r : Row) → AreRead rs → slice_get rs i ≡ Some r → IsRead r.content
read_at [] i r all is = absurd is
  where
    absurd : None ≡ Some r → IsRead r.content
    absurd never = cc
read_at (s ∷ rs) zero r all is = subst (λ (x : Row). IsRead x.content) (same is) all.0
  where
    same : Some s ≡ Some r → s ≡ r
    same e = cc
read_at (s ∷ rs) (suc i) r all is = read_at rs i r all.1 is

pub length-declared : (rs : List Row) → length (map declared rs) ≡ length rs
length-declared [] = refl
length-declared (r ∷ rs) = ap suc (length-declared rs)

-- the table of names has a name for each place
pub length-index : (rows : List Row) (places : List Place) (index : List (List ℕ × ℕ)) → AreKept rows places index → length index ≡ length places
length-index rows places index a =
    ap length a.index_is ∙ length-numbered 0 (names (types (map declared rows))) ∙ length-names (types (map declared rows))
    ∙ sym (length-places 0 (map declared rows)) ∙ ap length (sym a.places_are)

-- a row more
pub kept_more : (rows more : List Row) (places further : List Place) (index larger : List (List ℕ × ℕ)) (r : Row) (k : ℕ) → AreKept rows places index →
    more ≡ rows ++ r ∷ [] → further ≡ places ++ places_in k 0 r.names → larger ≡ with_names index r.names → k ≡ length rows → IsRead r.content → is_twice index r.names ≡ false →
    length places + length r.names < table_limit → length rows + 1 < table_limit → AreKept more further larger
kept_more rows more places further index larger r k a m f l number read once few few_rows =
    let ds : List ElementDeclaration = map declared rows in
    let all : map declared more ≡ map declared rows ++ declared r ∷ [] = ap (map declared) m ∙ map-append declared rows (r ∷ []) in
    let count : length index ≡ 0 + length (names (types (map declared rows))) = ap length a.index_is ∙ length-numbered 0 (names (types (map declared rows))) ∙ omega arith in
    let place : k ≡ 0 + length (map declared rows) = omega (arith, number, length-declared rows) in
    record {
      read = subst AreRead (sym m) (read_more rows r a.read read);
      index_is =
          l ∙ with_names-is index r.names ∙ ap (λ (n : ℕ). index ++ numbered n r.names) count
          ∙ ap (λ (t : List (List ℕ × ℕ)). t ++ numbered (0 + length (names (types (map declared rows)))) r.names) a.index_is
          ∙ sym (numbered-append 0 (names (types (map declared rows))) r.names)
          ∙ ap (numbered 0) (sym (names_more (map declared rows) (declared r)))
          ∙ ap (λ (es : List ElementDeclaration). numbered 0 (names (types es))) (sym all);
      places_are =
          f ∙ ap (λ (n : ℕ). places ++ places_in n 0 r.names) place
          ∙ ap (λ (ps : List Place). ps ++ places_in (0 + length (map declared rows)) 0 r.names) a.places_are
          ∙ sym (places_more 0 (map declared rows) (declared r))
          ∙ ap (places_from 0) (sym all);
      distinct =
          ap (λ (es : List ElementDeclaration). repeats [] (names (types es))) all
          ∙ distinct_more (map declared rows) (declared r) a.distinct
          (sym (twice-numbered (names (types (map declared rows))) r.names) ∙ (ap (λ (t : List (List ℕ × ℕ)). is_twice t r.names) (sym a.index_is) ∙ once));
      few = omega (arith, ap length f, length-append places (places_in k 0 r.names), length-places_in k 0 r.names);
      few_rows = omega (arith, ap length m, length-append rows (r ∷ []));
    }

-- the row in which the element type of a number is named
pub record RowAt (rows : List Row) (i : ℕ) (p : Place) : Type 0 where
  pub row : Row
  pub stands : slice_get rows p.declaration ≡ Some row
  pub name : List ℕ
  pub named : slice_get row.names p.at ≡ Some name
  pub type_is : slice_get (types (map declared rows)) i ≡ Some (typed (declared row) name)

found_row : (rows : List Row) (i : ℕ) (p : Place) (d : ElementDeclaration) (name : List ℕ) (o : Option Row) → slice_get rows p.declaration ≡ o → option_map declared o ≡ Some d → slice_get d.names p.at ≡ Some name →
    slice_get (types (map declared rows)) i ≡ Some (typed d name) → RowAt rows i p
found_row rows i p d name None at is named type_is = absurd is
  where
    absurd : None ≡ Some d → RowAt rows i p
    absurd never = cc
found_row rows i p d name (Some r) at is named type_is =
    let same : declared r ≡ d = cc in
    record {
      row = r;
      stands = at;
      name = name;
      named = ap (λ (e : ElementDeclaration). slice_get e.names p.at) same ∙ named;
      type_is = type_is ∙ ap (λ (e : ElementDeclaration). Some (typed e name)) (sym same);
    }

pub row_at : (rows : List Row) (places : List Place) (index : List (List ℕ × ℕ)) (i : ℕ) (p : Place) → AreKept rows places index → i < length (types (map declared rows)) → p ≡ get_or places i p → RowAt rows i p
row_at rows places index i p a within is =
    let below : i < length places = omega (arith, ap length a.places_are, length-places 0 (map declared rows)) in
    let at : slice_get (places_from 0 (map declared rows)) i ≡ Some p =
    ap (λ (ps : List Place). slice_get ps i) (sym a.places_are) ∙ slice_get_read places (length places) i p refl below is in
    let q = placed 0 (map declared rows) i p at in
    let number : p.declaration ≡ q.row = omega (arith, q.number) in
    found_row rows i p q.declaration q.name (slice_get rows p.declaration) refl
    (sym (slice_get-map declared rows p.declaration) ∙ ap (λ (k : ℕ). slice_get (map declared rows) k) number ∙ q.stands) q.named q.type_is

-- what a row says of the element type of a number
pub type_of_row : (rows : List Row) (i : ℕ) (p : Place) (r : Row) → (a : RowAt rows i p) → r ≡ get_or rows p.declaration r → slice_get (types (map declared rows)) i ≡ Some (typed (declared r) a.name)
type_of_row rows i p r a is =
    a.type_is ∙ ap (λ (s : Row). Some (typed (declared s) a.name)) (sym (is ∙ get_or_from_slice_get rows p.declaration a.row r a.stands))

-- the content of a type is that of its row
pub content_of_row : (o : Option ElementType) (r : Row) → option_map (λ (t : ElementType). t.body) o ≡ Some (declared r).body → IsRead r.content → IsSomeAnd o (λ t. IsContentOf t.body.content r.content)
content_of_row None r is read = absurd is
  where
    absurd : None ≡ Some (declared r).body → IsSomeAnd None (λ (t : ElementType). IsContentOf t.body.content r.content)
    absurd never = cc
content_of_row (Some t) r is read =
    let same : t.body ≡ (declared r).body = cc in
    subst (λ (b : ElementBody). IsContentOf b.content r.content) (sym same) (content_of_form r.content read)
