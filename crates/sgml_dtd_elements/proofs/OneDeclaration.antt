-- The one declaration that names an element type.
use Rattle.std.proofs.Common.{◌≡◌, ℕ, zero, suc, Bool, true, false, ◌+◌, ◌||◌, List, [], ◌∷◌, ◌++◌, Option, Some, refl, sym, ap, ◌∙◌, length, map, arith, if◌then◌else◌}
use Rattle.std.proofs.lemmas.List.{map-append}
use Rattle.std.proofs.lemmas.Grind.{flat_map-append}
use Rattle.std.specs.List.{slice_get}
use Rattle.std.specs.Str.{bytes_eq}
use Rattle.std.proofs.lemmas.Slice.Eq.{bytes_eq-Decides}
use Rattle.sgml_names.proofs.Repeating.{has-append, repeats_append}
use Rattle.sgml_names.specs.Lists.{has, number_from, repeats}
use Rattle.sgml_decl_forms.specs.declared.element.ElementDeclaration.{ElementDeclaration}
use Rattle.sgml_dtd_elements.specs.Types.{ElementType, types_of, types, names}
use Rattle.sgml_dtd_elements.specs.Laws.{type_in, AreDistinct, IsFoundAs}
use Rattle.sgml_dtd_elements.proofs.NumberedNames.{same_names, names_more}
use Rattle.sgml_dtd_elements.proofs.PlacedNames.{length-names}

bytes_same : (name x : List ℕ) → bytes_eq name x ≡ true → name ≡ x
bytes_same name x is = (bytes_eq-Decides name x).0 is

or_left : (a b : Bool) → (a || b) ≡ false → a ≡ false
or_left true b h = h
or_left false b h = refl

or_right : (a b : Bool) → (a || b) ≡ false → b ≡ false
or_right true b h = cc
or_right false b h = h

new_here : (b : Bool) (before ys : List (List ℕ)) (y name : List ℕ) → bytes_eq name y ≡ b → (b ≡ true → name ≡ y) → (has before y || repeats (before ++ y ∷ []) ys) ≡ false → (b || has ys name) ≡ true →
    (has ys name ≡ true → has (before ++ y ∷ []) name ≡ false) → has before name ≡ false
new_here true before ys y name is same once found again = ap (has before) (same refl) ∙ or_left (has before y) (repeats (before ++ y ∷ []) ys) once
new_here false before ys y name is same once found again = or_left (has before name) (has (y ∷ []) name) (sym (has-append before (y ∷ []) name) ∙ again found)

-- a name that comes later, and never twice, isn't among those before
pub new_name : (before ys : List (List ℕ)) (name : List ℕ) → repeats before ys ≡ false → has ys name ≡ true → has before name ≡ false
new_name before [] name once found = cc
new_name before (y ∷ ys) name once found =
    new_here (bytes_eq name y) before ys y name refl (bytes_same name y) once found
    (λ h. new_name (before ++ y ∷ []) ys name (or_right (has before y) (repeats (before ++ y ∷ []) ys) once) h)

skip_here : (b : Bool) (n : ℕ) (r : Option ℕ) → b ≡ false → (if b then Some n else r) ≡ r
skip_here true n r h = cc
skip_here false n r h = refl

-- a search goes past names that are others
pub number_past : (n : ℕ) (xs ys : List (List ℕ)) (name : List ℕ) → has xs name ≡ false → number_from n (xs ++ ys) name ≡ number_from (n + length xs) ys name
number_past n [] ys name none = ap (λ (k : ℕ). number_from k ys name) (omega arith)
number_past n (x ∷ xs) ys name none =
    let more : (n + 1) + length xs ≡ n + length (x ∷ xs) = omega arith in
    skip_here (bytes_eq name x) n (number_from (n + 1) (xs ++ ys) name) (or_left (bytes_eq name x) (has xs name) none)
    ∙ number_past (n + 1) xs ys name (or_right (bytes_eq name x) (has xs name) none)
    ∙ ap (λ (k : ℕ). number_from k ys name) more

-- where a name that is there stands
pub record StandsIn (n : ℕ) (xs ys : List (List ℕ)) (name : List ℕ) : Type 0 where
  pub at : ℕ
  pub number : number_from n (xs ++ ys) name ≡ Some (n + at)
  pub stands : slice_get xs at ≡ Some name

stands_here : (b : Bool) (n : ℕ) (x : List ℕ) (xs ys : List (List ℕ)) (name : List ℕ) → bytes_eq name x ≡ b → (b ≡ true → name ≡ x) → (b || has xs name) ≡ true → (has xs name ≡ true → StandsIn (n + 1) xs ys name) → StandsIn n (x ∷ xs) ys name
stands_here true n x xs ys name is same found again =
    let start : n ≡ n + 0 = omega arith in
    record { at = zero; number = rw is (ap Some start); stands = ap Some (sym (same refl)) }
stands_here false n x xs ys name is same found again =
    let later = again found in
    let more : (n + 1) + later.at ≡ n + suc later.at = omega arith in
    record { at = suc later.at; number = rw is (later.number ∙ ap Some more); stands = later.stands }

pub stands_in : (n : ℕ) (xs ys : List (List ℕ)) (name : List ℕ) → has xs name ≡ true → StandsIn n xs ys name
stands_in n [] ys name found = absurd found
  where
    absurd : false ≡ true → StandsIn n [] ys name
    absurd never = cc
stands_in n (x ∷ xs) ys name found = stands_here (bytes_eq name x) n x xs ys name refl (bytes_same name x) found (λ h. stands_in (n + 1) xs ys name h)

pub get-append : {A : Type 0} (xs ys : List A) (n : ℕ) → slice_get (xs ++ ys) (length xs + n) ≡ slice_get ys n
get-append [] ys n = let start : 0 + n ≡ n = omega arith in ap (λ (k : ℕ). slice_get ys k) start
get-append {A} (x ∷ xs) ys n =
    let more : length (x ∷ xs) + n ≡ suc (length xs + n) = omega arith in
    ap (λ (k : ℕ). slice_get (x ∷ (xs ++ ys)) k) more ∙ get-append xs ys n

get_typed : (d : ElementDeclaration) (xs : List (List ℕ)) (rest : List ElementType) (n : ℕ) (name : List ℕ) → slice_get xs n ≡ Some name → slice_get (map (type_in d) xs ++ rest) n ≡ Some (type_in d name)
get_typed d [] rest n name is = cc
get_typed d (x ∷ xs) rest zero name is = ap Some (ap (type_in d) (same is))
  where
    same : Some x ≡ Some name → x ≡ name
    same e = cc
get_typed d (x ∷ xs) rest (suc n) name is = get_typed d xs rest n name is

names_of_parts : (before after : List ElementDeclaration) (d : ElementDeclaration) → names (types (before ++ d ∷ after)) ≡ names (types before) ++ (d.names ++ names (types after))
names_of_parts before after d =
    ap names (flat_map-append types_of before (d ∷ after))
    ∙ map-append (λ (t : ElementType). t.name) (types before) (types (d ∷ after))
    ∙ ap (λ (xs : List (List ℕ)). names (types before) ++ xs) (map-append (λ (t : ElementType). t.name) (types_of d) (types after) ∙ ap (λ (xs : List (List ℕ)). xs ++ names (types after)) (same_names d.omits d.body d.names))

-- what is found by a name is what the one declaration that names it says
pub found_is_declared : (before after : List ElementDeclaration) (d : ElementDeclaration) (name : List ℕ) → AreDistinct (before ++ d ∷ after) → has d.names name ≡ true → IsFoundAs (before ++ d ∷ after) d name
found_is_declared before after d name distinct named =
    let parts = names_of_parts before after d in
    let once : repeats (names (types before)) (d.names ++ names (types after)) ≡ false =
    or_right (repeats [] (names (types before))) (repeats (names (types before)) (d.names ++ names (types after)))
    (sym (repeats_append [] (names (types before)) (d.names ++ names (types after))) ∙ (ap (repeats []) (sym parts) ∙ distinct)) in
    let later : has (d.names ++ names (types after)) name ≡ true = has-append d.names (names (types after)) name ∙ ap (λ (b : Bool). b || has (names (types after)) name) named in
    let new = new_name (names (types before)) (d.names ++ names (types after)) name once later in
    let s = stands_in (0 + length (names (types before))) d.names (names (types after)) name named in
    let start : (0 + length (names (types before))) + s.at ≡ length (types before) + s.at = omega (arith, length-names (types before)) in
    record {
      number = length (types before) + s.at;
      numbered = ap (λ (xs : List (List ℕ)). number_from 0 xs name) parts ∙ number_past 0 (names (types before)) (d.names ++ names (types after)) name new ∙ s.number ∙ ap Some start;
      stands =
          ap (λ (ts : List ElementType). slice_get ts (length (types before) + s.at)) (flat_map-append types_of before (d ∷ after))
          ∙ get-append (types before) (types (d ∷ after)) s.at
          ∙ get_typed d d.names (types after) s.at name s.stands;
    }

-- a declaration more, of names that stand once and are new
pub distinct_more : (ds : List ElementDeclaration) (d : ElementDeclaration) → AreDistinct ds → repeats (names (types ds)) d.names ≡ false → AreDistinct (ds ++ d ∷ [])
distinct_more ds d distinct new =
    ap (repeats []) (names_more ds d) ∙ repeats_append [] (names (types ds)) d.names
    ∙ ap (λ (b : Bool). b || repeats (names (types ds)) d.names) distinct ∙ new
