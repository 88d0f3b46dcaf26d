-- Maps and uses of declarations one after another.
use Rattle.std.proofs.Common.{◌≡◌, ◌+◌, ◌⊎◌, inl, inr, ℕ, suc, Bool, true, false, List, [], ◌∷◌, ◌++◌, Option, Some, None, refl, sym, ap, ◌∙◌, arith, length, is_some, if◌then◌else◌, fold, drop, append_assoc}
use Rattle.std.specs.Prelude.{slice_get, option_map}
use Rattle.std.specs.Str.{bytes_eq}
use Rattle.std.proofs.lemmas.Slice.Eq.{bytes_eq-Decides}
use Rattle.sgml_text.specs.declared.reason.Reason.{Reason}
use Rattle.sgml_text.specs.declared.reason.Reason.TheVariants.{NameLength, LiteralLimit, MapTwice}
use Rattle.sgml_syntax.specs.declared.syntax.Syntax.{Syntax}
use Rattle.sgml_names.specs.Naming.{general_name}
use Rattle.sgml_shortref.specs.Maps.{number_in}
use Rattle.sgml_decl_forms.specs.declared.map.ShortrefDeclaration.{ShortrefDeclaration}
use Rattle.sgml_decl_forms.specs.declared.map.UsemapDeclaration.{UsemapDeclaration}
use Rattle.sgml_dtd_maps.specs.declared.uses.MapUse.{MapUse}
use Rattle.sgml_dtd_maps.specs.Tables.{MapTable, map_in, use_in}
use Rattle.sgml_text.specs.Refusals.{first_row}
use Rattle.sgml_dtd_maps.specs.Rows.{map_passes_namelen, passes_litlen, is_declared, map_rows, map_reason, use_reason}
use Rattle.sgml_dtd_maps.specs.InOrder.{Order, Shortref, Usemap, with_order, nothing, table_of, IsMapOf, IsDeclaredMap, IsDeclaredUse}
use Rattle.sgml_dtd_maps.proofs.Places.{get_front, get_mid, get_cases}

-- the number of a name among more maps
kept_map : (r s : Option ℕ) (n : ℕ) → ((k : ℕ) → r ≡ Some k → s ≡ Some k) → option_map (λ k. k + 1) r ≡ Some n → option_map (λ k. k + 1) s ≡ Some n
kept_map None s n h e = cc
kept_map (Some k) s n h e = ap (λ (x : Option ℕ). option_map (λ k. k + 1) x) (h k refl) ∙ e

kept_here : (b : Bool) (r s : Option ℕ) (n : ℕ) → ((k : ℕ) → r ≡ Some k → s ≡ Some k) → (if b then Some 0 else option_map (λ k. k + 1) r) ≡ Some n → (if b then Some 0 else option_map (λ k. k + 1) s) ≡ Some n
kept_here true r s n h e = e
kept_here false r s n h e = kept_map r s n h e

number-front : (ms : List (List ℕ × List (ℕ × List ℕ))) (x : List ℕ × List (ℕ × List ℕ)) (q : List ℕ) (n : ℕ) → number_in ms q ≡ Some n → number_in (ms ++ x ∷ []) q ≡ Some n
number-front [] x q n e = cc
number-front (m ∷ ms) x q n e = kept_here (bytes_eq m.0 q) (number_in ms q) (number_in (ms ++ x ∷ []) q) n (number-front ms x q) e

none_map : (r : Option ℕ) → option_map (λ k. k + 1) r ≡ None → r ≡ None
none_map None e = refl
none_map (Some k) e = cc

end_here : (b : Bool) (r s : Option ℕ) (n : ℕ) → (if b then Some 0 else option_map (λ k. k + 1) r) ≡ None → (r ≡ None → s ≡ Some n) → (if b then Some 0 else option_map (λ k. k + 1) s) ≡ Some (suc n)
end_here true r s n e again = cc
end_here false r s n e again =
    let count : n + 1 ≡ suc n = omega arith in
    ap (λ (x : Option ℕ). option_map (λ k. k + 1) x) (again (none_map r e)) ∙ ap (λ (k : ℕ). Some k) count

number-end : (ms : List (List ℕ × List (ℕ × List ℕ))) (x : List ℕ × List (ℕ × List ℕ)) (q : List ℕ) → number_in ms q ≡ None → bytes_eq x.0 q ≡ true → number_in (ms ++ x ∷ []) q ≡ Some (length ms)
number-end [] x q e is = ap (λ (b : Bool). if b then Some 0 else None) is
number-end (m ∷ ms) x q e is = end_here (bytes_eq m.0 q) (number_in ms q) (number_in (ms ++ x ∷ []) q) (length ms) e (λ none. number-end ms x q none is)

-- each name has one map
pub record Apart (maps : List (List ℕ × List (ℕ × List ℕ))) : Type 0 where
  pub at : (n : ℕ) (m : List ℕ × List (ℕ × List ℕ)) → slice_get maps n ≡ Some m → number_in maps m.0 ≡ Some n

apart_more : (maps : List (List ℕ × List (ℕ × List ℕ))) (x : List ℕ × List (ℕ × List ℕ)) → Apart maps → number_in maps x.0 ≡ None → Apart (maps ++ x ∷ [])
apart_more maps x a none = record { at = λ n m e. split n m (get_cases maps x n m e) }
  where
    split : (n : ℕ) (m : List ℕ × List (ℕ × List ℕ)) → (slice_get maps n ≡ Some m) ⊎ ((n ≡ length maps) × (m ≡ x)) → number_in (maps ++ x ∷ []) m.0 ≡ Some n
    split n m (inl h) = number-front maps x m.0 n (a.at n m h)
    split n m (inr h) =
        ap (λ (y : List ℕ × List (ℕ × List ℕ)). number_in (maps ++ x ∷ []) y.0) h.1
        ∙ number-end maps x x.0 none ((bytes_eq-Decides x.0 x.0).1 refl) ∙ ap (λ (k : ℕ). Some k) (sym h.0)

third : (a b c : Bool) (x y z : Reason) (rest : Option Reason) → (if a then Some x else if b then Some y else if c then Some z else rest) ≡ None → c ≡ false
third true b c x y z rest e = cc
third false true c x y z rest e = cc
third false false true x y z rest e = cc
third false false false x y z rest e = refl

no_number : (r : Option ℕ) → is_some r ≡ false → r ≡ None
no_number None e = refl
no_number (Some n) e = cc

apart_map : (r : Option Reason) (syntax : Syntax) (t : MapTable) (d : ShortrefDeclaration) → map_reason syntax t d ≡ r → Apart t.maps
    → Apart (if is_some r then t else record t { maps = t.maps ++ map_in syntax d ∷ [] }).maps
apart_map (Some x) syntax t d is a = a
apart_map None syntax t d is a =
    apart_more t.maps (map_in syntax d) a
    (no_number (number_in t.maps (general_name syntax d.name))
    (third (map_passes_namelen syntax d) (passes_litlen syntax d) (is_declared syntax t d) NameLength LiteralLimit MapTwice (first_row (drop 3 (map_rows syntax t d))) is))

apart_use : (r : Option Reason) (syntax : Syntax) (t : MapTable) (d : UsemapDeclaration) → Apart t.maps
    → Apart (if is_some r then t else record t { uses = t.uses ++ use_in syntax d ∷ [] }).maps
apart_use (Some x) syntax t d a = a
apart_use None syntax t d a = a

apart_with : (syntax : Syntax) (t : MapTable) (d : Order) → Apart t.maps → Apart (with_order syntax t d).maps
apart_with syntax t (Shortref d) a = apart_map (map_reason syntax t d) syntax t d refl a
apart_with syntax t (Usemap d) a = apart_use (use_reason syntax d) syntax t d a

apart_from : (syntax : Syntax) (t : MapTable) (ds : List Order) → Apart t.maps → Apart (fold (with_order syntax) t ds).maps
apart_from syntax t [] a = a
apart_from syntax t (d ∷ ds) a = apart_from syntax (with_order syntax t d) ds (apart_with syntax t d a)

no_maps : Apart []
no_maps = record { at = λ n m e. never n m e }
  where
    never : (n : ℕ) (m : List ℕ × List (ℕ × List ℕ)) → slice_get [] n ≡ Some m → number_in [] m.0 ≡ Some n
    never n m e = cc

pub only-map : (syntax : Syntax) (ds : List Order) (name : List ℕ) (n : ℕ) → IsMapOf (table_of syntax ds).maps n name → number_in (table_of syntax ds).maps name ≡ Some n
only-map syntax ds name n i = (apart_from syntax nothing ds no_maps).at n (name, i.pairs) i.stands

found_map : (r : Option ℕ) (n : ℕ) → option_map (λ k. k + 1) r ≡ Some n → (k : ℕ) × (n ≡ suc k) × (r ≡ Some k)
found_map None n e = cc
found_map (Some k) n e =
    let same : k + 1 ≡ n = cc in
    (k, omega arith, refl)

found_here : (b : Bool) (m : List ℕ × List (ℕ × List ℕ)) (ms : List (List ℕ × List (ℕ × List ℕ))) (q : List ℕ) (n : ℕ) → bytes_eq m.0 q ≡ b
    → (if b then Some 0 else option_map (λ k. k + 1) (number_in ms q)) ≡ Some n → ((k : ℕ) → number_in ms q ≡ Some k → IsMapOf ms k q) → IsMapOf (m ∷ ms) n q
found_here true m ms q n is e again =
    let same : 0 ≡ n = cc in
    let name : m.0 ≡ q = (bytes_eq-Decides m.0 q).0 is in
    record { pairs = m.1; stands = ap (slice_get (m ∷ ms)) (sym same) ∙ ap (λ (x : List ℕ). Some (x, m.1)) name }
found_here false m ms q n is e again =
    let next = found_map (number_in ms q) n e in
    let later = again next.0 next.2 in
    record { pairs = later.pairs; stands = ap (slice_get (m ∷ ms)) next.1 ∙ later.stands }

pub found-map : (ms : List (List ℕ × List (ℕ × List ℕ))) (q : List ℕ) (n : ℕ) → number_in ms q ≡ Some n → IsMapOf ms n q
found-map [] q n e = cc
found-map (m ∷ ms) q n e = found_here (bytes_eq m.0 q) m ms q n refl e (λ k later. found-map ms q k later)

-- each map and each use is one that a declaration declares
pub record AllDeclared (syntax : Syntax) (ds : List Order) (t : MapTable) : Type 0 where
  pub maps : (n : ℕ) (m : List ℕ × List (ℕ × List ℕ)) → slice_get t.maps n ≡ Some m → IsDeclaredMap syntax ds m
  pub uses : (n : ℕ) (u : MapUse) → slice_get t.uses n ≡ Some u → IsDeclaredUse syntax ds u

more_map : (syntax : Syntax) (ds es : List Order) (m : List ℕ × List (ℕ × List ℕ)) → IsDeclaredMap syntax ds m → IsDeclaredMap syntax (ds ++ es) m
more_map syntax ds es m i = record { place = i.place; declaration = i.declaration; stands = get_front ds es i.place (Shortref i.declaration) i.stands; is_its = i.is_its }

more_use : (syntax : Syntax) (ds es : List Order) (u : MapUse) → IsDeclaredUse syntax ds u → IsDeclaredUse syntax (ds ++ es) u
more_use syntax ds es u i = record { place = i.place; declaration = i.declaration; stands = get_front ds es i.place (Usemap i.declaration) i.stands; is_its = i.is_its }

more_all : (syntax : Syntax) (ds es : List Order) (t : MapTable) → AllDeclared syntax ds t → AllDeclared syntax (ds ++ es) t
more_all syntax ds es t a = record { maps = λ n m e. more_map syntax ds es m (a.maps n m e); uses = λ n u e. more_use syntax ds es u (a.uses n u e) }

all_map : (r : Option Reason) (syntax : Syntax) (ds : List Order) (t : MapTable) (d : ShortrefDeclaration) → AllDeclared syntax ds t
    → AllDeclared syntax (ds ++ Shortref d ∷ []) (if is_some r then t else record t { maps = t.maps ++ map_in syntax d ∷ [] })
all_map (Some x) syntax ds t d a = more_all syntax ds (Shortref d ∷ []) t a
all_map None syntax ds t d a = record {
  maps = λ n m e. split n m (get_cases t.maps (map_in syntax d) n m e);
  uses = λ n u e. more_use syntax ds (Shortref d ∷ []) u (a.uses n u e);
}
  where
    split : (n : ℕ) (m : List ℕ × List (ℕ × List ℕ)) → (slice_get t.maps n ≡ Some m) ⊎ ((n ≡ length t.maps) × (m ≡ map_in syntax d)) → IsDeclaredMap syntax (ds ++ Shortref d ∷ []) m
    split n m (inl h) = more_map syntax ds (Shortref d ∷ []) m (a.maps n m h)
    split n m (inr h) = record { place = length ds; declaration = d; stands = get_mid ds [] (Shortref d); is_its = h.1 }

all_use : (r : Option Reason) (syntax : Syntax) (ds : List Order) (t : MapTable) (d : UsemapDeclaration) → AllDeclared syntax ds t
    → AllDeclared syntax (ds ++ Usemap d ∷ []) (if is_some r then t else record t { uses = t.uses ++ use_in syntax d ∷ [] })
all_use (Some x) syntax ds t d a = more_all syntax ds (Usemap d ∷ []) t a
all_use None syntax ds t d a = record {
  maps = λ n m e. more_map syntax ds (Usemap d ∷ []) m (a.maps n m e);
  uses = λ n u e. split n u (get_cases t.uses (use_in syntax d) n u e);
}
  where
    split : (n : ℕ) (u : MapUse) → (slice_get t.uses n ≡ Some u) ⊎ ((n ≡ length t.uses) × (u ≡ use_in syntax d)) → IsDeclaredUse syntax (ds ++ Usemap d ∷ []) u
    split n u (inl h) = more_use syntax ds (Usemap d ∷ []) u (a.uses n u h)
    split n u (inr h) = record { place = length ds; declaration = d; stands = get_mid ds [] (Usemap d); is_its = h.1 }

all_with : (syntax : Syntax) (ds : List Order) (t : MapTable) (d : Order) → AllDeclared syntax ds t → AllDeclared syntax (ds ++ d ∷ []) (with_order syntax t d)
all_with syntax ds t (Shortref d) a = all_map (map_reason syntax t d) syntax ds t d a
all_with syntax ds t (Usemap d) a = all_use (use_reason syntax d) syntax ds t d a

all_from : (syntax : Syntax) (done ds : List Order) (t : MapTable) → AllDeclared syntax done t → AllDeclared syntax (done ++ ds) (fold (with_order syntax) t ds)
all_from syntax done [] t a = more_all syntax done [] t a
all_from syntax done (d ∷ ds) t a =
    let later = all_from syntax (done ++ d ∷ []) ds (with_order syntax t d) (all_with syntax done t d a) in
    let order : (done ++ d ∷ []) ++ ds ≡ done ++ d ∷ ds = append_assoc done (d ∷ []) ds in
    record {
      maps = λ n m e. let i = later.maps n m e in record { place = i.place; declaration = i.declaration; stands = ap (λ (xs : List Order). slice_get xs i.place) (sym order) ∙ i.stands; is_its = i.is_its };
      uses = λ n u e. let i = later.uses n u e in record { place = i.place; declaration = i.declaration; stands = ap (λ (xs : List Order). slice_get xs i.place) (sym order) ∙ i.stands; is_its = i.is_its };
    }

none_declared : (syntax : Syntax) → AllDeclared syntax [] nothing
none_declared syntax = record { maps = λ n m e. no_map n m e; uses = λ n u e. no_use n u e }
  where
    no_map : (n : ℕ) (m : List ℕ × List (ℕ × List ℕ)) → slice_get [] n ≡ Some m → IsDeclaredMap syntax [] m
    no_map n m e = cc

    no_use : (n : ℕ) (u : MapUse) → slice_get [] n ≡ Some u → IsDeclaredUse syntax [] u
    no_use n u e = cc

pub all-declared : (syntax : Syntax) (ds : List Order) → AllDeclared syntax ds (table_of syntax ds)
all-declared syntax ds = all_from syntax [] ds nothing (none_declared syntax)
