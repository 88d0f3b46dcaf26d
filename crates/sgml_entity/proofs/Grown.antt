-- A text that grows in the table of texts.
use Rattle.std.proofs.Common.{◌≡◌, ℕ, Bool, true, false, List, [], ◌∷◌, ◌++◌, Option, Some, None, refl, sym, ap, ◌∙◌, nat_eq, slice_get}
use Rattle.std.specs.Option.{option_map}
use Rattle.std.specs.Map.{lookup, set_value}
use Rattle.std.specs.Global.{Vec}
use Rattle.std.proofs.lemmas.Cmp.{nat_eq_equiv}
use Rattle.std.proofs.lemmas.Map.Entries.{hash_map_get_place}
use Rattle.indexmap.specs.IndexMap.{IndexMap, IsUnique, insert_entry}
use Rattle.sgml_entity.specs.Texts.{texts_in, text_of, with_more}

abbrev pub shown : ℕ × Vec ℕ → ℕ × List ℕ
shown e = (e.0, e.1.items)

abbrev pub bytes_of : Option (Vec ℕ) → Option (List ℕ)
bytes_of r = option_map (λ (x : Vec ℕ). x.items) r

some_same : (a b : Vec ℕ) → Some a ≡ Some b → a ≡ b
some_same a b is = cc

grown_here : (b : Bool) (k : ℕ) (bytes : List ℕ) (e : ℕ × Vec ℕ) (es : List (ℕ × Vec ℕ)) (v w : Vec ℕ) → nat_eq k e.0 ≡ b → lookup (nat_eq k) (e ∷ es) ≡ Some v → w.items ≡ v.items ++ bytes → (lookup (nat_eq k) es ≡ Some v → texts_in (set_value (nat_eq k) es w) ≡ with_more k bytes (texts_in es)) → texts_in (set_value (nat_eq k) (e ∷ es) w) ≡ with_more k bytes (texts_in (e ∷ es))
grown_here true k bytes e es v w is found more again =
    let items : w.items ≡ e.1.items ++ bytes = more ∙ ap (λ (x : Vec ℕ). x.items ++ bytes) (sym (some_same e.1 v (rw is at found))) in
    rw is (ap (λ (x : List ℕ). (e.0, x) ∷ texts_in es) items)
grown_here false k bytes e es v w is found more again = rw is (ap (λ (x : List (ℕ × List ℕ)). shown e ∷ x) (again (rw is at found)))

-- the vector at a number has more bytes
pub grown : (k : ℕ) (bytes : List ℕ) (es : List (ℕ × Vec ℕ)) (v w : Vec ℕ) → lookup (nat_eq k) es ≡ Some v → w.items ≡ v.items ++ bytes → texts_in (set_value (nat_eq k) es w) ≡ with_more k bytes (texts_in es)
grown k bytes [] v w found more = cc
grown k bytes (e ∷ es) v w found more = grown_here (nat_eq k e.0) k bytes e es v w refl found more (λ rest. grown k bytes es v w rest more)

kept_here : (b : Bool) (k : ℕ) (e : ℕ × Vec ℕ) (es : List (ℕ × Vec ℕ)) (v w : Vec ℕ) → nat_eq k e.0 ≡ b → lookup (nat_eq k) (e ∷ es) ≡ Some v → w.items ≡ v.items → (lookup (nat_eq k) es ≡ Some v → texts_in (set_value (nat_eq k) es w) ≡ texts_in es) → texts_in (set_value (nat_eq k) (e ∷ es) w) ≡ texts_in (e ∷ es)
kept_here true k e es v w is found same again =
    rw is (ap (λ (x : List ℕ). (e.0, x) ∷ texts_in es) (same ∙ ap (λ (x : Vec ℕ). x.items) (sym (some_same e.1 v (rw is at found)))))
kept_here false k e es v w is found same again = rw is (ap (λ (x : List (ℕ × List ℕ)). shown e ∷ x) (again (rw is at found)))

-- the vector at a number has the same bytes
pub kept : (k : ℕ) (es : List (ℕ × Vec ℕ)) (v w : Vec ℕ) → lookup (nat_eq k) es ≡ Some v → w.items ≡ v.items → texts_in (set_value (nat_eq k) es w) ≡ texts_in es
kept k [] v w found same = refl
kept k (e ∷ es) v w found same = kept_here (nat_eq k e.0) k e es v w refl found same (λ rest. kept k es v w rest same)

begun_here : (b : Bool) (k : ℕ) (bytes : List ℕ) (e : ℕ × Vec ℕ) (es : List (ℕ × Vec ℕ)) (v : Vec ℕ) → nat_eq k e.0 ≡ b → lookup (nat_eq k) (e ∷ es) ≡ None → (lookup (nat_eq k) es ≡ None → texts_in (insert_entry nat_eq es k v) ≡ with_more k bytes (texts_in es)) → texts_in (insert_entry nat_eq (e ∷ es) k v) ≡ with_more k bytes (texts_in (e ∷ es))
begun_here true k bytes e es v is absent again = absurd (rw is at absent)
  where
    absurd : Some e.1 ≡ None → texts_in (insert_entry nat_eq (e ∷ es) k v) ≡ with_more k bytes (texts_in (e ∷ es))
    absurd never = cc
begun_here false k bytes e es v is absent again = rw is (ap (λ (x : List (ℕ × List ℕ)). shown e ∷ x) (again (rw is at absent)))

-- a number that isn't there goes last
pub begun : (k : ℕ) (bytes : List ℕ) (es : List (ℕ × Vec ℕ)) (v : Vec ℕ) → lookup (nat_eq k) es ≡ None → v.items ≡ bytes → texts_in (insert_entry nat_eq es k v) ≡ with_more k bytes (texts_in es)
begun k bytes [] v absent items = ap (λ (x : List ℕ). (k, x) ∷ []) items
begun k bytes (e ∷ es) v absent items = begun_here (nat_eq k e.0) k bytes e es v refl absent (λ rest. begun k bytes es v rest items)

read_here : (b : Bool) (k : ℕ) (e : ℕ × Vec ℕ) (es : List (ℕ × Vec ℕ)) → nat_eq k e.0 ≡ b → text_of (texts_in es) k ≡ bytes_of (lookup (nat_eq k) es) → text_of (texts_in (e ∷ es)) k ≡ bytes_of (lookup (nat_eq k) (e ∷ es))
read_here true k e es is again = rw is refl
read_here false k e es is again = rw is again

-- a look-up among the vectors is one among the texts
pub read_in : (k : ℕ) (es : List (ℕ × Vec ℕ)) → text_of (texts_in es) k ≡ bytes_of (lookup (nat_eq k) es)
read_in k [] = refl
read_in k (e ∷ es) = read_here (nat_eq k e.0) k e es refl (read_in k es)

-- the text at a place of the table is the one at its number
pub read_place : {S : Type 0} (k : ℕ) (m : IndexMap ℕ (Vec ℕ) S) (i : ℕ) (e : ℕ × Vec ℕ) → IsUnique nat_eq m
    → Some e ≡ slice_get m.entries i → e.0 ≡ k → Some e.1.items ≡ text_of (texts_in m.entries) k
read_place k m i e unique at is =
    let found = hash_map_get_place nat_eq_equiv m i k e.1 unique (sym at ∙ ap (λ (n : ℕ). Some (n, e.1)) is) in
    ap bytes_of (sym found) ∙ sym (read_in k m.entries)
