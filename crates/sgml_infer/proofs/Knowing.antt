-- That the table of element types has each at its number.
use Rattle.std.proofs.Common.{◌≡◌, ℕ, zero, suc, ◌+◌, ◌<◌, List, [], ◌∷◌, ◌++◌, Option, Some, None, is_some, length, refl, sym, ap, ◌∙◌, arith}
use Rattle.std.specs.Prelude.{IsSomeAnd}
use Rattle.std.specs.List.{slice_get}
use Rattle.std.proofs.lemmas.Option.{slice_get_within}
use Rattle.sgml_dtd_elements.specs.Types.{ElementType, types}
use Rattle.sgml_dtd_maps.specs.Tables.{map_for}
use Rattle.sgml_dtd_maps.specs.declared.uses.MapOf.{MapOf}
use Rattle.sgml_dtd.specs.dtd_attlists.Tables.{list_of}
use Rattle.sgml_dtd.specs.Doctypes.{Doctype, map_table}
use Rattle.sgml_theory_reading.specs.Types.{Content, Model, Any, Cdata, Rcdata, Void, content_of, has_model, has_declared_content, map_of_type}
use Rattle.sgml_theory_reading.specs.Characters.{is_void}
use Rattle.sgml_infer.specs.Tables.{name_in, name_at, type_at, IsNumber}
use Rattle.sgml_infer.specs.Links.{has_exceptions}
use Rattle.sgml_infer.specs.Known.{content_kind, is_model, is_declared_content, is_empty, known_of, AreKnown}
use Rattle.sgml_infer.specs.declared.known.Known.{Known}

pub known-more : (xs : List Known) (k : Known) (f : ℕ → Known) → ((i : ℕ) → i < length xs → slice_get xs i ≡ Some (f i)) → k ≡ f (length xs) →
    (i : ℕ) → i < length xs + 1 → slice_get (xs ++ k ∷ []) i ≡ Some (f i)
known-more [] k f h e zero l = ap Some e
known-more [] k f h e (suc i) l = absurd (omega arith)
known-more (x ∷ xs) k f h e zero l = h zero (omega arith)
known-more (x ∷ xs) k f h e (suc i) l = known-more xs k (λ j. f (suc j)) (λ j m. h (suc j) (omega arith)) e i (omega arith)

pub known-within : (t : Doctype) (ks : List Known) (i : ℕ) → AreKnown t ks → IsNumber t i → i < length ks
known-within t ks i h n = slice_get_within ks i (known_of t i) (h i n)

abbrev own : Known → Option Known → Known
own d None = d
own d (Some k) = k

-- what stands at a number is what is known of it
pub known-is : (t : Doctype) (ks : List Known) (i : ℕ) (k : Known) → AreKnown t ks → IsNumber t i → slice_get ks i ≡ Some k → k ≡ known_of t i
known-is t ks i k h n e = ap (own k) (sym e ∙ h i n)

-- what the kind of a content tells

pub model-told : (c : Content) → is_model (content_kind c) ≡ has_model c
model-told (Model x) = refl
model-told Any = refl
model-told Cdata = refl
model-told Rcdata = refl
model-told Void = refl

pub declared-told : (c : Content) → is_declared_content (content_kind c) ≡ has_declared_content c
declared-told (Model x) = refl
declared-told Any = refl
declared-told Cdata = refl
declared-told Rcdata = refl
declared-told Void = refl

pub void-told : (c : Content) → is_empty (content_kind c) ≡ is_void c
void-told (Model x) = refl
void-told Any = refl
void-told Cdata = refl
void-told Rcdata = refl
void-told Void = refl

-- what is known of it, by what stands at its number

pub named-in : (t : Doctype) (ks : List Known) (i : ℕ) (k : Known) → AreKnown t ks → IsNumber t i → slice_get ks i ≡ Some k → k.name ≡ name_at t i
named-in t ks i k h n e = ap (λ (x : Known). x.name) (known-is t ks i k h n e)

pub exceptions-in : (t : Doctype) (ks : List Known) (i : ℕ) (k : Known) → AreKnown t ks → IsNumber t i → slice_get ks i ≡ Some k → k.has_exceptions ≡ has_exceptions (type_at t i)
exceptions-in t ks i k h n e = ap (λ (x : Known). x.has_exceptions) (known-is t ks i k h n e)

pub declared-in : (t : Doctype) (i : ℕ) (k : Known) → k ≡ known_of t i → has_declared_content (content_of (type_at t i)) ≡ is_declared_content k.content
declared-in t i k e = sym (ap (λ (x : Known). is_declared_content x.content) e ∙ declared-told (content_of (type_at t i)))

-- what the tables tell of a type, by its name

list-in : (t : Doctype) (o : Option ElementType) (l : Option ℕ) → IsSomeAnd o (λ e. l ≡ list_of t.lists e.name) → l ≡ list_of t.lists (name_in o)
list-in t None l h = absurd h
list-in t (Some e) l h = h

pub list-told : (t : Doctype) (i : ℕ) (l : Option ℕ) → IsSomeAnd (slice_get (types t.elements) i) (λ e. l ≡ list_of t.lists e.name) → is_some l ≡ is_some (list_of t.lists (name_at t i))
list-told t i l h = ap is_some (list-in t (slice_get (types t.elements) i) l h)

map-in : (t : Doctype) (o : Option ElementType) (m : MapOf) → IsSomeAnd o (λ e. m ≡ map_for (map_table t) e.name) → m ≡ map_for (map_table t) (name_in o)
map-in t None m h = absurd h
map-in t (Some e) m h = h

pub map-told : (t : Doctype) (i : ℕ) (m : MapOf) → IsSomeAnd (slice_get (types t.elements) i) (λ e. m ≡ map_for (map_table t) e.name) → m ≡ map_of_type t (name_at t i)
unfolding map_of_type
map-told t i m h = map-in t (slice_get (types t.elements) i) m h
