-- The comparisons of keys, as they were derived.
use Rattle.std.proofs.Common.{◌≡◌, ℕ, Bool, true, false, cond, ◌&&◌, List, [], ◌∷◌, ◌++◌, Some, None, refl, ap, ◌∙◌}
use Rattle.std.specs.Str.{bytes_eq}
use Rattle.std.specs.Map.{lookup}
use Rattle.std.specs.Global.{Vec}
use Rattle.std.proofs.lemmas.List.{map-append}
use Rattle.indexmap.specs.IndexMap.{IndexMap, insert_entry}
use Rattle.indexmap.proofs.CallerLemmas.{insert_entry-new}
use Rattle.sgml_catalog.specs.declared.index.Key.{Key}
use Rattle.sgml_catalog.specs.contracts.index.KeyPartialEq.TheImpl.{eq-value}
use Rattle.sgml_catalog.specs.contracts.entry.SortPartialEq.TheImpl as sorts
use Rattle.sgml_catalog.specs.declared.entry.Sort.{Sort}
use Rattle.sgml_catalog.specs.declared.entry.Sort.TheVariants.{System, Public, General, Parameter, Doctype, Notation, Declaration}
use Rattle.sgml_catalog.specs.Keys.{same_key, same_sort, same_truth, key_of, keyed, found}

sort_eq : (a b : Sort) → sorts.eq-value.it a b ≡ same_sort a b
sort_eq System System = refl
sort_eq System Public = refl
sort_eq System General = refl
sort_eq System Parameter = refl
sort_eq System Doctype = refl
sort_eq System Notation = refl
sort_eq System Declaration = refl
sort_eq Public System = refl
sort_eq Public Public = refl
sort_eq Public General = refl
sort_eq Public Parameter = refl
sort_eq Public Doctype = refl
sort_eq Public Notation = refl
sort_eq Public Declaration = refl
sort_eq General System = refl
sort_eq General Public = refl
sort_eq General General = refl
sort_eq General Parameter = refl
sort_eq General Doctype = refl
sort_eq General Notation = refl
sort_eq General Declaration = refl
sort_eq Parameter System = refl
sort_eq Parameter Public = refl
sort_eq Parameter General = refl
sort_eq Parameter Parameter = refl
sort_eq Parameter Doctype = refl
sort_eq Parameter Notation = refl
sort_eq Parameter Declaration = refl
sort_eq Doctype System = refl
sort_eq Doctype Public = refl
sort_eq Doctype General = refl
sort_eq Doctype Parameter = refl
sort_eq Doctype Doctype = refl
sort_eq Doctype Notation = refl
sort_eq Doctype Declaration = refl
sort_eq Notation System = refl
sort_eq Notation Public = refl
sort_eq Notation General = refl
sort_eq Notation Parameter = refl
sort_eq Notation Doctype = refl
sort_eq Notation Notation = refl
sort_eq Notation Declaration = refl
sort_eq Declaration System = refl
sort_eq Declaration Public = refl
sort_eq Declaration General = refl
sort_eq Declaration Parameter = refl
sort_eq Declaration Doctype = refl
sort_eq Declaration Notation = refl
sort_eq Declaration Declaration = refl

parts_eq : (s t : Sort) (x y : Bool) (n m : Vec ℕ) → eq-value.it (record { sort = s; over = x; name = n }) (record { sort = t; over = y; name = m }) ≡ (sorts.eq-value.it s t && (same_truth x y && bytes_eq n.items m.items))
parts_eq s t true true n m = refl
parts_eq s t true false n m = refl
parts_eq s t false true n m = refl
parts_eq s t false false n m = refl

pub key_eq : (a b : Key) → eq-value.it a b ≡ same_key (key_of a) (key_of b)
key_eq a b = parts_eq a.sort b.sort a.over b.over a.name b.name ∙ ap (λ (s : Bool). s && (same_truth a.over b.over && bytes_eq a.name.items b.name.items)) (sort_eq a.sort b.sort)

-- a look-up among the keys is one among what they are
pub found-keyed : (q : Key) (es : List (Key × ℕ)) → lookup (eq-value.it q) es ≡ found (keyed es) (key_of q)
found-keyed q [] = refl
found-keyed q (e ∷ es) = ap (λ (b : Bool). cond b (Some e.1) (lookup (eq-value.it q) es)) (key_eq q e.0) ∙ ap (cond (same_key (key_of q) (key_of e.0)) (Some e.1)) (found-keyed q es)

-- a key that isn't there goes last
pub keyed-added : {S : Type 0} (m : IndexMap Key ℕ S) (es : List (Key × ℕ)) (k : Key) (v : ℕ) → es ≡ insert_entry eq-value.it m.entries k v → found (keyed m.entries) (key_of k) ≡ None → keyed es ≡ keyed m.entries ++ (key_of k, v) ∷ []
keyed-added m es k v is none =
    ap keyed (is ∙ insert_entry-new eq-value.it m k v (found-keyed k m.entries ∙ none)) ∙ map-append (λ (e : Key × ℕ). (key_of e.0, e.1)) m.entries ((k, v) ∷ [])
