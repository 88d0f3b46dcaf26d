-- The places in which element types are named.
use Rattle.std.proofs.Common.{◌≡◌, ℕ, zero, suc, Bool, true, false, cond, ◌+◌, ◌<◌, List, [], ◌∷◌, ◌++◌, Option, Some, None, refl, sym, ap, ◌∙◌, length, map, append_assoc, get_or, length-append, arith}
use Rattle.std.proofs.lemmas.List.{append-nil, map-append}
use Rattle.std.proofs.lemmas.Grind.{flat_map-append}
use Rattle.std.proofs.lemmas.Option.{slice_get_within}
use Rattle.std.specs.List.{slice_get, flat_map}
use Rattle.sgml_decl_forms.specs.declared.element.Omits.{Omits}
use Rattle.sgml_decl_forms.specs.declared.element.ElementBody.{ElementBody}
use Rattle.sgml_decl_forms.specs.declared.element.ElementDeclaration.{ElementDeclaration}
use Rattle.sgml_dtd_elements.specs.declared.row.Place.{Place}
use Rattle.sgml_dtd_elements.specs.Types.{ElementType, types_of, types, names}
use Rattle.sgml_dtd_elements.specs.Naming.{places_in, places_from}

abbrev pub typed : ElementDeclaration → List ℕ → ElementType
typed d n = record { name = n; omits = d.omits; body = d.body }

pub places_more : (k : ℕ) (ds : List ElementDeclaration) (d : ElementDeclaration) → places_from k (ds ++ d ∷ []) ≡ places_from k ds ++ places_in (k + length ds) 0 d.names
places_more k [] d = append-nil (places_in k 0 d.names) ∙ ap (λ (n : ℕ). places_in n 0 d.names) (omega arith)
places_more k (e ∷ ds) d =
    let more : (k + 1) + length ds ≡ k + length (e ∷ ds) = omega arith in
    ap (λ (ps : List Place). places_in k 0 e.names ++ ps) (places_more (k + 1) ds d)
    ∙ sym (append_assoc (places_in k 0 e.names) (places_from (k + 1) ds) (places_in ((k + 1) + length ds) 0 d.names))
    ∙ ap (λ (n : ℕ). places_from k (e ∷ ds) ++ places_in n 0 d.names) more

pub length-places_in : (k j : ℕ) (xs : List (List ℕ)) → length (places_in k j xs) ≡ length xs
length-places_in k j [] = refl
length-places_in k j (x ∷ xs) = ap suc (length-places_in k (j + 1) xs)

length-typed : (d : ElementDeclaration) (xs : List (List ℕ)) → length (map (typed d) xs) ≡ length xs
length-typed d [] = refl
length-typed d (x ∷ xs) = ap suc (length-typed d xs)

-- there is a place for each type
pub length-places : (k : ℕ) (ds : List ElementDeclaration) → length (places_from k ds) ≡ length (types ds)
length-places k [] = refl
length-places k (d ∷ ds) =
    let here = length-places_in k 0 d.names in
    let there = length-places (k + 1) ds in
    let typed_here = length-typed d d.names in
    omega (arith, length-append (places_in k 0 d.names) (places_from (k + 1) ds), length-append (types_of d) (types ds))

pub length-names : (ts : List ElementType) → length (names ts) ≡ length ts
length-names [] = refl
length-names (t ∷ ts) = ap suc (length-names ts)

-- the place is in the table: the declaration that it says names the type, at the name that it says
pub record IsPlacedAt (k : ℕ) (ds : List ElementDeclaration) (i : ℕ) (p : Place) : Type 0 where
  pub row : ℕ
  pub number : p.declaration ≡ k + row
  pub declaration : ElementDeclaration
  pub stands : slice_get ds row ≡ Some declaration
  pub name : List ℕ
  pub named : slice_get declaration.names p.at ≡ Some name
  pub type_is : slice_get (types ds) i ≡ Some (typed declaration name)

placed_in : (k j : ℕ) (d : ElementDeclaration) (ds : List ElementDeclaration) (xs : List (List ℕ)) → ((m : ℕ) → slice_get d.names (j + m) ≡ slice_get xs m) →
    ((i : ℕ) (p : Place) → slice_get (places_from (k + 1) ds) i ≡ Some p → IsPlacedAt (k + 1) ds i p) →
    (i : ℕ) (p : Place) → slice_get (places_in k j xs ++ places_from (k + 1) ds) i ≡ Some p →
    (row : ℕ) × (p.declaration ≡ k + row) × (declaration : ElementDeclaration) × (slice_get (d ∷ ds) row ≡ Some declaration) × (name : List ℕ) × (slice_get declaration.names p.at ≡ Some name) × (slice_get (map (typed d) xs ++ types ds) i ≡ Some (typed declaration name))
placed_in k j d ds [] rest again i p is =
    let a = again i p is in
    let number : p.declaration ≡ k + (suc a.row) = omega (arith, a.number) in
    (suc a.row, number, a.declaration, a.stands, a.name, a.named, a.type_is)
placed_in k j d ds (x ∷ xs) rest again zero p is =
    let same : p ≡ record { declaration = k; at = j } = sym (some_same _ _ is) in
    let number : p.declaration ≡ k + 0 = ap (λ (q : Place). q.declaration) same ∙ omega arith in
    let at : p.at ≡ j + 0 = ap (λ (q : Place). q.at) same ∙ omega arith in
    (zero, number, d, refl, x, ap (λ (n : ℕ). slice_get d.names n) at ∙ rest 0, refl)
  where
    some_same : (a b : Place) → Some a ≡ Some b → a ≡ b
    some_same a b e = cc
placed_in k j d ds (x ∷ xs) rest again (suc i) p is =
    placed_in k (j + 1) d ds xs (λ m. let same : (j + 1) + m ≡ j + suc m = omega arith in ap (λ (n : ℕ). slice_get d.names n) same ∙ rest (suc m)) again i p is

-- each place of the table
pub placed : (k : ℕ) (ds : List ElementDeclaration) (i : ℕ) (p : Place) → slice_get (places_from k ds) i ≡ Some p → IsPlacedAt k ds i p
placed k [] i p is = absurd is
  where
    absurd : None ≡ Some p → IsPlacedAt k [] i p
    absurd never = cc
placed k (d ∷ ds) i p is =
    let a = placed_in k 0 d ds d.names (λ m. let same : 0 + m ≡ m = omega arith in ap (λ (n : ℕ). slice_get d.names n) same) (placed (k + 1) ds) i p is in
    record { row = a.0; number = a.1; declaration = a.2; stands = a.3; name = a.4; named = a.5; type_is = a.6 }
