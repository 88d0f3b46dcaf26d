-- Of two declarations of one name the first holds.
use Rattle.std.proofs.Common.{◌≡◌, ℕ, suc, ◌+◌, Bool, true, false, cond, if◌then◌else◌, ◌||◌, List, [], ◌∷◌, ◌++◌, Option, Some, None, option_map, option_and_then, bytes_eq, refl, sym, ap, ◌∙◌, append_assoc, length, length-append, map, arith}
use Rattle.std.proofs.lemmas.List.Concat.{flat_map-append}
use Rattle.std.proofs.lemmas.List.{append-nil}
use Rattle.std.specs.List.{slice_get}
use Rattle.std.specs.Option.{option_or}
use Rattle.sgml_dtd.specs.names.Lists.{number_from}
use Rattle.sgml_dtd.specs.entity.declared.kinds.Space.{Space}
use Rattle.sgml_dtd.specs.entity.declared.kinds.Entity.{Entity}
use Rattle.sgml_dtd.specs.entity.declared.kinds.Notation.{Notation}
use Rattle.sgml_dtd.specs.entity.Entities.{external_of}
use Rattle.sgml_dtd.specs.shortref.Maps.{number_in}
use Rattle.sgml_dtd.specs.decl_forms.declared.element.Omits.{Omits}
use Rattle.sgml_dtd.specs.decl_forms.declared.element.ElementBody.{ElementBody}
use Rattle.sgml_dtd.specs.decl_forms.declared.element.ElementDeclaration.{ElementDeclaration}
use Rattle.sgml_dtd.specs.decl_forms.declared.declaration.Declaration.{Declaration}
use Rattle.sgml_dtd.specs.decl_forms.declared.declaration.Declaration.TheVariants as form
use Rattle.sgml_dtd.specs.dtd_elements.Types.{ElementType, types_of, types, names}
use Rattle.sgml_dtd.specs.dtd_attlists.declared.list.AttributeList.{AttributeList}
use Rattle.sgml_dtd.specs.dtd_attlists.Tables.{list_from, definitions_in}
use Rattle.sgml_dtd.specs.dtd_maps.declared.uses.MapUse.{MapUse}
use Rattle.sgml_dtd.specs.dtd_maps.Tables.{first_use}
use Rattle.sgml_dtd.specs.Doctypes.{Doctype, with_declared, with_entity, definitions_at}
use Rattle.sgml_dtd.specs.Laws.{first_entity_of}
use Rattle.sgml_dtd.proofs.FirstEntity.{found_is_first, first_is_kept, first-append}
use Rattle.sgml_theory_reading.specs.Names.{Name, Text}
use Rattle.sgml_theory_reading.specs.Types.{is_in, element_type, attribute_list, attributes, entity, entity_number, entity_named, notation, map_named, use_of_type}
use Rattle.sgml_theory_reading.specs.Said.{type_if, type_said, list_said, entity_if, entity_said, notation_if, notation_said, map_said, use_if, use_said}

or-none : {A : Type 0} (x : Option A) → option_or x None ≡ x
or-none None = refl
or-none (Some x) = refl

get-at : {A : Type 0} (xs : List A) (y : A) (ys : List A) → slice_get (xs ++ y ∷ ys) (length xs) ≡ Some y
get-at [] y ys = refl
get-at (x ∷ xs) y ys = get-at xs y ys

-- the first of these that passes a test
abbrev pub first_that : {A : Type 0} → (A → Bool) → List A → Option A
first_that test [] = None
first_that test (x ∷ xs) = if test x then Some x else first_that test xs

first-here : {A : Type 0} (b : Bool) (x : A) (r s u : Option A) → r ≡ option_or s u → cond b (Some x) r ≡ option_or (cond b (Some x) s) u
first-here true x r s u h = refl
first-here false x r s u h = h

first-append-of : {A : Type 0} (test : A → Bool) (xs ys : List A) → first_that test (xs ++ ys) ≡ option_or (first_that test xs) (first_that test ys)
first-append-of test [] ys = refl
first-append-of test (x ∷ xs) ys = first-here (test x) x (first_that test (xs ++ ys)) (first_that test xs) (first_that test ys) (first-append-of test xs ys)

-- what stands at the number of the first that passes
stands-here : {A : Type 0} (b : Bool) (xs : List A) (x : A) (ys : List A) (r : Option ℕ) (s : Option A) →
    option_and_then (λ i. slice_get (xs ++ x ∷ ys) i) r ≡ s → option_and_then (λ i. slice_get (xs ++ x ∷ ys) i) (cond b (Some (length xs)) r) ≡ cond b (Some x) s
stands-here true xs x ys r s h = get-at xs x ys
stands-here false xs x ys r s h = h

counted : {A : Type 0} (xs : List A) (x : A) → length xs + 1 ≡ length (xs ++ x ∷ [])
counted xs x = sym (length-append xs (x ∷ []))

-- ELEMENT TYPES

abbrev is_named : Name → ElementType → Bool
is_named n t = bytes_eq n t.name

-- the first of these element types that has this name
abbrev pub named : Name → List ElementType → Option ElementType
named n ts = first_that (is_named n) ts

type-stands : (n : Name) (xs ts : List ElementType) → option_and_then (λ i. slice_get (xs ++ ts) i) (number_from (length xs) (names ts) n) ≡ named n ts
type-stands n xs [] = refl
type-stands n xs (t ∷ ts) =
    stands-here (bytes_eq n t.name) xs t ts (number_from (length xs + 1) (names ts) n) (named n ts)
    ((λ i. option_and_then (λ j. slice_get (sym (append_assoc xs (t ∷ []) ts) i) j) (number_from (counted xs t i) (names ts) n)) ∙ type-stands n (xs ++ t ∷ []) ts)

-- the element type of a name is the first that has it
pub element-type-is : (d : Doctype) (n : Name) → element_type d n ≡ named n (types d.elements)
unfolding element_type
element-type-is d n = type-stands n [] (types d.elements)

group-here : (b rest : Bool) (t u : ElementType) (r : Option ElementType) → (b ≡ true → t ≡ u) → r ≡ cond rest (Some u) None → cond b (Some t) r ≡ cond (b || rest) (Some u) None
group-here true rest t u r h e = ap Some (h refl)
group-here false rest t u r h e = e

same-name : (m n : Name) → bytes_eq m n ≡ true → m ≡ n
same-name m n e = (Rattle.std.proofs.lemmas.Slice.Eq.bytes_eq-Decides m n).0 e

group-named : (n : Name) (ns : List Name) (omits : Omits) (body : ElementBody) →
    named n (map (λ m. record { name = m; omits = omits; body = body }) ns) ≡ cond (is_in n ns) (Some (record { name = n; omits = omits; body = body })) None
group-named n [] omits body = refl
group-named n (m ∷ ns) omits body =
    group-here (bytes_eq n m) (is_in n ns) (record { name = m; omits = omits; body = body }) (record { name = n; omits = omits; body = body })
    (named n (map (λ k. record { name = k; omits = omits; body = body }) ns))
    (λ e. ap (λ (k : Name). let t : ElementType = record { name = k; omits = omits; body = body } in t) (sym (same-name n m e))) (group-named n ns omits body)

types-more : (ds : List ElementDeclaration) (d : ElementDeclaration) → types (ds ++ d ∷ []) ≡ types ds ++ types_of d
types-more ds d = flat_map-append types_of ds (d ∷ []) ∙ ap (λ ts. types ds ++ ts) (append-nil (types_of d))

named-more : (n : Name) (ds : List ElementDeclaration) (d : ElementDeclaration) → named n (types (ds ++ d ∷ [])) ≡ option_or (named n (types ds)) (type_if n d)
named-more n ds d =
    ap (named n) (types-more ds d)
    ∙ (first-append-of (is_named n) (types ds) (types_of d) ∙ ap (option_or (named n (types ds))) (group-named n d.names d.omits d.body))

elements-of : (t : Doctype) (base : Text) (x : Declaration) (n : Name) → named n (types (with_declared base t x).elements) ≡ option_or (named n (types t.elements)) (type_said t.syntax n x)
elements-of t base (form.Element d) n = named-more n t.elements _
elements-of t base (form.Attlist d) n = sym (or-none _)
elements-of t base (form.Entity d) n = sym (or-none _)
elements-of t base (form.Notation d) n = sym (or-none _)
elements-of t base (form.Shortref d) n = sym (or-none _)
elements-of t base (form.Usemap d) n = sym (or-none _)
elements-of t base (form.Doctype d) n = sym (or-none _)

pub first-type : (t : Doctype) (base : Text) (x : Declaration) (n : Name) → element_type (with_declared base t x) n ≡ option_or (element_type t n) (type_said t.syntax n x)
first-type t base x n =
    element-type-is (with_declared base t x) n
    ∙ (elements-of t base x n ∙ ap (λ o. option_or o (type_said t.syntax n x)) (sym (element-type-is t n)))

-- ATTRIBUTE LISTS

abbrev is_list_of : Name → AttributeList → Bool
is_list_of n l = is_in n l.names

list-stands : (n : Name) (xs ls : List AttributeList) → option_and_then (λ i. slice_get (xs ++ ls) i) (list_from (length xs) ls n) ≡ first_that (is_list_of n) ls
list-stands n xs [] = refl
list-stands n xs (l ∷ ls) =
    stands-here (is_in n l.names) xs l ls (list_from (length xs + 1) ls n) (first_that (is_list_of n) ls)
    ((λ i. option_and_then (λ j. slice_get (sym (append_assoc xs (l ∷ []) ls) i) j) (list_from (counted xs l i) ls n)) ∙ list-stands n (xs ++ l ∷ []) ls)

pub attribute-list-is : (d : Doctype) (n : Name) → attribute_list d n ≡ first_that (is_list_of n) d.lists
unfolding attribute_list
attribute-list-is d n = list-stands n [] d.lists

lists-of : (t : Doctype) (base : Text) (x : Declaration) (n : Name) → first_that (is_list_of n) (with_declared base t x).lists ≡ option_or (first_that (is_list_of n) t.lists) (list_said t.syntax n x)
lists-of t base (form.Attlist d) n = first-append-of (is_list_of n) t.lists _
lists-of t base (form.Element d) n = sym (or-none _)
lists-of t base (form.Entity d) n = sym (or-none _)
lists-of t base (form.Notation d) n = sym (or-none _)
lists-of t base (form.Shortref d) n = sym (or-none _)
lists-of t base (form.Usemap d) n = sym (or-none _)
lists-of t base (form.Doctype d) n = sym (or-none _)

pub first-list : (t : Doctype) (base : Text) (x : Declaration) (n : Name) → attribute_list (with_declared base t x) n ≡ option_or (attribute_list t n) (list_said t.syntax n x)
first-list t base x n =
    attribute-list-is (with_declared base t x) n
    ∙ (lists-of t base x n ∙ ap (λ o. option_or o (list_said t.syntax n x)) (sym (attribute-list-is t n)))

at-number : (lists : List AttributeList) (o : Option ℕ) → definitions_at lists o ≡ definitions_in (option_and_then (λ i. slice_get lists i) o)
at-number lists None = refl
at-number lists (Some i) = refl

pub attributes-are : (d : Doctype) (n : Name) → attributes d n ≡ definitions_in (attribute_list d n)
unfolding attributes attribute_list
attributes-are d n = at-number d.lists _

-- ENTITIES

entity-is : (d : Doctype) (space : Space) (n : Name) → entity_named d space n ≡ first_entity_of d.entities space n
unfolding entity entity_number
entity-is d space n = found_is_first d.entities space n

with-entity : (es : List Entity) (e : Entity) (space : Space) (n : Name) → first_entity_of (with_entity es e) space n ≡ option_or (first_entity_of es space n) (entity_if space n e)
with-entity es e space n = first_is_kept es (e ∷ []) space n ∙ first-append es (e ∷ []) space n

entities-of : (t : Doctype) (base : Text) (x : Declaration) (space : Space) (n : Name) → first_entity_of (with_declared base t x).entities space n ≡ option_or (first_entity_of t.entities space n) (entity_said t.syntax base space n x)
entities-of t base (form.Entity d) space n = with-entity t.entities _ space n
entities-of t base (form.Element d) space n = sym (or-none _)
entities-of t base (form.Attlist d) space n = sym (or-none _)
entities-of t base (form.Notation d) space n = sym (or-none _)
entities-of t base (form.Shortref d) space n = sym (or-none _)
entities-of t base (form.Usemap d) space n = sym (or-none _)
entities-of t base (form.Doctype d) space n = sym (or-none _)

pub first-entity : (t : Doctype) (base : Text) (x : Declaration) (space : Space) (n : Name) → entity_named (with_declared base t x) space n ≡ option_or (entity_named t space n) (entity_said t.syntax base space n x)
first-entity t base x space n =
    entity-is (with_declared base t x) space n
    ∙ (entities-of t base x space n ∙ ap (λ o. option_or o (entity_said t.syntax base space n x)) (sym (entity-is t space n)))

-- NOTATIONS

external-append : (n : Name) (os : List Notation) (o : Notation) → external_of (os ++ o ∷ []) n ≡ option_or (external_of os n) (notation_if n o)
external-append n [] o = refl
external-append n (p ∷ os) o = first-here (bytes_eq n p.name) p.external (external_of (os ++ o ∷ []) n) (external_of os n) (notation_if n o) (external-append n os o)

pub first-notation : (t : Doctype) (base : Text) (x : Declaration) (n : Name) → notation (with_declared base t x) n ≡ option_or (notation t n) (notation_said t.syntax n x)
unfolding notation
first-notation t base (form.Notation d) n = external-append n t.notations _
first-notation t base (form.Element d) n = sym (or-none _)
first-notation t base (form.Attlist d) n = sym (or-none _)
first-notation t base (form.Entity d) n = sym (or-none _)
first-notation t base (form.Shortref d) n = sym (or-none _)
first-notation t base (form.Usemap d) n = sym (or-none _)
first-notation t base (form.Doctype d) n = sym (or-none _)

-- MAPS

abbrev AnyMap : Type 0
AnyMap = Name × List (ℕ × Name)

abbrev is_map_of : Name → AnyMap → Bool
is_map_of n m = bytes_eq m.0 n

next-number : (m : AnyMap) (ms : List AnyMap) (r : Option ℕ) → option_and_then (λ i. slice_get (m ∷ ms) i) (option_map (λ i. i + 1) r) ≡ option_and_then (λ i. slice_get ms i) r
next-number m ms None = refl
next-number m ms (Some k) = let next : k + 1 ≡ suc k = omega arith in ap (λ (j : ℕ). slice_get (m ∷ ms) j) next

map-here : (b : Bool) (m : AnyMap) (ms : List AnyMap) (r : Option ℕ) (s : Option AnyMap) → option_and_then (λ i. slice_get ms i) r ≡ s →
    option_and_then (λ i. slice_get (m ∷ ms) i) (cond b (Some 0) (option_map (λ i. i + 1) r)) ≡ cond b (Some m) s
map-here true m ms r s h = refl
map-here false m ms r s h = next-number m ms r ∙ h

map-stands : (n : Name) (ms : List AnyMap) → option_and_then (λ i. slice_get ms i) (number_in ms n) ≡ first_that (is_map_of n) ms
map-stands n [] = refl
map-stands n (m ∷ ms) = map-here (bytes_eq m.0 n) m ms (number_in ms n) (first_that (is_map_of n) ms) (map-stands n ms)

map-is : (d : Doctype) (n : Name) → map_named d n ≡ first_that (is_map_of n) d.maps
unfolding map_named
map-is d n = map-stands n d.maps

maps-of : (t : Doctype) (base : Text) (x : Declaration) (n : Name) → first_that (is_map_of n) (with_declared base t x).maps ≡ option_or (first_that (is_map_of n) t.maps) (map_said t.syntax n x)
maps-of t base (form.Shortref d) n = first-append-of (is_map_of n) t.maps _
maps-of t base (form.Element d) n = sym (or-none _)
maps-of t base (form.Attlist d) n = sym (or-none _)
maps-of t base (form.Entity d) n = sym (or-none _)
maps-of t base (form.Notation d) n = sym (or-none _)
maps-of t base (form.Usemap d) n = sym (or-none _)
maps-of t base (form.Doctype d) n = sym (or-none _)

pub first-map : (t : Doctype) (base : Text) (x : Declaration) (n : Name) → map_named (with_declared base t x) n ≡ option_or (map_named t n) (map_said t.syntax n x)
first-map t base x n =
    map-is (with_declared base t x) n ∙ (maps-of t base x n ∙ ap (λ o. option_or o (map_said t.syntax n x)) (sym (map-is t n)))

-- USES OF MAPS

use-append : (n : Name) (us : List MapUse) (u : MapUse) → first_use (us ++ u ∷ []) n ≡ option_or (first_use us n) (use_if n u)
use-append n [] u = refl
use-append n (v ∷ us) u = first-here (is_in n v.targets) v (first_use (us ++ u ∷ []) n) (first_use us n) (use_if n u) (use-append n us u)

pub first-use : (t : Doctype) (base : Text) (x : Declaration) (n : Name) → use_of_type (with_declared base t x) n ≡ option_or (use_of_type t n) (use_said t.syntax n x)
unfolding use_of_type
first-use t base (form.Usemap d) n = use-append n t.uses _
first-use t base (form.Element d) n = sym (or-none _)
first-use t base (form.Attlist d) n = sym (or-none _)
first-use t base (form.Entity d) n = sym (or-none _)
first-use t base (form.Notation d) n = sym (or-none _)
first-use t base (form.Shortref d) n = sym (or-none _)
first-use t base (form.Doctype d) n = sym (or-none _)
