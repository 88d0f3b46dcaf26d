-- The table of names follows the maps.
use Rattle.std.proofs.Common.{◌≡◌, ◌<◌, ◌^◌, ◌+◌, ℕ, suc, Bool, true, false, List, [], ◌∷◌, ◌++◌, Option, Some, None, refl, sym, ap, ◌∙◌, cond, if◌then◌else◌, arith, length, length-append, take}
use Rattle.std.proofs.lemmas.List.{take_at}
use Rattle.std.specs.Prelude.{option_map}
use Rattle.std.specs.Str.{bytes_eq}
use Rattle.std.proofs.lemmas.Slice.Eq.{bytes_eq-Decides}
use Rattle.std.proofs.lemmas.Bool.Decides.{same_from_decides}
use Rattle.sgml_names.specs.Index.{found}
use Rattle.sgml_names.specs.Lists.{has}
use Rattle.sgml_shortref.specs.Maps.{number_in}
use Rattle.sgml_dtd_maps.specs.declared.uses.MapUse.{MapUse}
use Rattle.sgml_dtd_maps.specs.Numbered.{numbered, use_from, or_number, AreNumbered}
use Rattle.sgml_dtd_maps.proofs.Targets.{use-append}

turned : (a b : List ℕ) → bytes_eq a b ≡ bytes_eq b a
turned a b = same_from_decides (bytes_eq a b) (bytes_eq b a) (bytes_eq-Decides a b) (λ e. sym ((bytes_eq-Decides b a).0 e), λ e. (bytes_eq-Decides b a).1 (sym e))

shifted : (n : ℕ) (r : Option ℕ) → option_map (λ k. (n + 1) + k) r ≡ option_map (λ k. n + k) (option_map (λ k. k + 1) r)
shifted n None = refl
shifted n (Some k) = let count : (n + 1) + k ≡ n + (k + 1) = omega arith in ap (λ (m : ℕ). Some m) count

number_here : (b : Bool) (n : ℕ) (r : Option ℕ) (s : Option ℕ) → s ≡ option_map (λ k. n + k) (option_map (λ k. k + 1) r)
    → cond b (Some n) s ≡ option_map (λ k. n + k) (if b then Some 0 else option_map (λ k. k + 1) r)
number_here true n r s e = let count : n ≡ n + 0 = omega arith in ap (λ (m : ℕ). Some m) count
number_here false n r s e = e

found-from : (n : ℕ) (ms : List (List ℕ × List (ℕ × List ℕ))) (q : List ℕ) → found (numbered n ms) q ≡ option_map (λ k. n + k) (number_in ms q)
found-from n [] q = refl
found-from n (m ∷ ms) q =
    ap (λ (b : Bool). cond b (Some n) (found (numbered (n + 1) ms) q)) (turned q m.0)
    ∙ number_here (bytes_eq m.0 q) n (number_in ms q) (found (numbered (n + 1) ms) q) (found-from (n + 1) ms q ∙ shifted n (number_in ms q))

plain : (r : Option ℕ) → option_map (λ k. 0 + k) r ≡ r
plain None = refl
plain (Some k) = let count : 0 + k ≡ k = omega arith in ap (λ (m : ℕ). Some m) count

-- a look-up in the table is the search among the maps
pub found-maps : (ms : List (List ℕ × List (ℕ × List ℕ))) (q : List ℕ) → found (numbered 0 ms) q ≡ number_in ms q
found-maps ms q = found-from 0 ms q ∙ plain (number_in ms q)

pub numbered-append : (n : ℕ) (ms : List (List ℕ × List (ℕ × List ℕ))) (m : List ℕ × List (ℕ × List ℕ)) → numbered n (ms ++ m ∷ []) ≡ numbered n ms ++ (m.0, n + length ms) ∷ []
numbered-append n [] m = let count : n ≡ n + 0 = omega arith in ap (λ (k : ℕ). (m.0, k) ∷ numbered (n + 1) []) count
numbered-append n (x ∷ ms) m =
    let count : (n + 1) + length ms ≡ n + length (x ∷ ms) = omega arith in
    ap (λ (r : List (List ℕ × ℕ)). (x.0, n) ∷ r) (numbered-append (n + 1) ms m)
    ∙ ap (λ (k : ℕ). (x.0, n) ∷ (numbered (n + 1) ms ++ (m.0, k) ∷ [])) count

pub length-numbered : (n : ℕ) (ms : List (List ℕ × List (ℕ × List ℕ))) → length (numbered n ms) ≡ length ms
length-numbered n [] = refl
length-numbered n (m ∷ ms) = ap suc (length-numbered (n + 1) ms)

-- one map more
pub one_map : (ms ns : List (List ℕ × List (ℕ × List ℕ))) (us : List MapUse) (table more of_targets : List (List ℕ × ℕ)) (name q : List ℕ) (pairs : List (ℕ × List ℕ)) (number : ℕ)
    → AreNumbered ms us table of_targets → ns ≡ ms ++ (name, pairs) ∷ [] → number ≡ length ms → q ≡ name → more ≡ table ++ (q, number) ∷ [] → AreNumbered ns us more of_targets
one_map ms ns us table more of_targets name q pairs number a is n same m =
    let start : number ≡ 0 + length ms = omega arith in record {
      maps_are = m ∙ ap (λ (x : List ℕ). table ++ (x, number) ∷ []) same
          ∙ ap (λ (k : ℕ). table ++ (name, k) ∷ []) start
          ∙ ap (λ (t : List (List ℕ × ℕ)). t ++ (name, 0 + length ms) ∷ []) a.maps_are
          ∙ sym (numbered-append 0 ms (name, pairs)) ∙ ap (numbered 0) (sym is);
      uses_are = a.uses_are;
      few = a.few;
    }

-- one use more
pub one_use : (ms : List (List ℕ × List (ℕ × List ℕ))) (us vs : List MapUse) (table of_targets more : List (List ℕ × ℕ)) (u : MapUse) (names : List (List ℕ)) (number : ℕ)
    → AreNumbered ms us table of_targets → vs ≡ us ++ u ∷ [] → number ≡ length us → names ≡ u.targets
    → ((q : List ℕ) → found more q ≡ or_number (found of_targets q) (has names q) number) → length us + 1 < 2 ^ 32 → AreNumbered ms vs table more
one_use ms us vs table of_targets more u names number a is n same m fits =
    let start : number ≡ 0 + length us = omega arith in record {
      maps_are = a.maps_are;
      uses_are = λ q. m q ∙ ap (λ (r : Option ℕ). or_number r (has names q) number) (a.uses_are q)
          ∙ ap (λ (x : List (List ℕ)). or_number (use_from 0 us q) (has x q) number) same
          ∙ ap (λ (k : ℕ). or_number (use_from 0 us q) (has u.targets q) k) start
          ∙ sym (use-append 0 us u q) ∙ ap (λ (x : List MapUse). use_from 0 x q) (sym is);
      few = omega (arith, length-append us (u ∷ []), ap length is);
    }

-- the map that wasn't added is taken off
pub taken_off : (ms ns : List (List ℕ × List (ℕ × List ℕ))) (us : List MapUse) (table more back of_targets : List (List ℕ × ℕ)) (name : List ℕ) (number : ℕ)
    → AreNumbered ms us table of_targets → ns ≡ ms → number ≡ length ms → more ≡ table ++ (name, number) ∷ [] → back ≡ take number more → AreNumbered ns us back of_targets
taken_off ms ns us table more back of_targets name number a is n m b =
    let long : length table ≡ number = ap length a.maps_are ∙ length-numbered 0 ms ∙ sym n in record {
      maps_are = b ∙ ap (take number) m ∙ take_at table ((name, number) ∷ []) number long ∙ a.maps_are ∙ ap (numbered 0) (sym is);
      uses_are = a.uses_are;
      few = a.few;
    }
