-- Names with their numbers.
use Rattle.std.proofs.Common.{◌≡◌, ℕ, Bool, true, false, ◌+◌, ◌||◌, List, [], ◌∷◌, ◌++◌, refl, sym, ap, ◌∙◌, length, map, append_assoc, is_some, length-append, arith, if◌then◌else◌}
use Rattle.std.proofs.lemmas.List.{append-nil, map-append}
use Rattle.std.proofs.lemmas.Grind.{flat_map-append}
use Rattle.sgml_names.proofs.Numbering.{numbered-append, length-numbered, found-has}
use Rattle.sgml_names.specs.Index.{found}
use Rattle.sgml_names.specs.Lists.{has, numbered, repeats}
use Rattle.sgml_decl_forms.specs.declared.element.Omits.{Omits}
use Rattle.sgml_decl_forms.specs.declared.element.ElementBody.{ElementBody}
use Rattle.sgml_decl_forms.specs.declared.element.ElementDeclaration.{ElementDeclaration}
use Rattle.sgml_dtd_elements.specs.Types.{ElementType, types_of, types, names}
use Rattle.sgml_dtd_elements.specs.Naming.{with_names, is_twice}

-- the names that are entered go last
pub with_names-is : (table : List (List ℕ × ℕ)) (xs : List (List ℕ)) → with_names table xs ≡ table ++ numbered (length table) xs
with_names-is table [] = sym (append-nil table)
with_names-is table (x ∷ xs) =
    let more : length (table ++ (x, length table) ∷ []) ≡ length table + 1 = length-append table ((x, length table) ∷ []) in
    with_names-is (table ++ (x, length table) ∷ []) xs
    ∙ ap (λ (k : ℕ). (table ++ (x, length table) ∷ []) ++ numbered k xs) more
    ∙ append_assoc table ((x, length table) ∷ []) (numbered (length table + 1) xs)

one_more : (before : List (List ℕ)) (x : List ℕ) (n : ℕ) → n ≡ length before → numbered 0 before ++ (x, n) ∷ [] ≡ numbered 0 (before ++ x ∷ [])
one_more before x n is =
    let start : n ≡ 0 + length before = omega (arith, is) in
    ap (λ (k : ℕ). numbered 0 before ++ numbered k (x ∷ [])) start ∙ sym (numbered-append 0 before (x ∷ []))

twice_here : (b c d : Bool) → b ≡ c → (b ≡ false → d ≡ false || d) → (if b then true else d) ≡ (c || d)
twice_here true c d is again = ap (λ (x : Bool). x || d) is
twice_here false c d is again = ap (λ (x : Bool). x || d) is

-- a name is entered twice where it is among those before it
pub twice-numbered : (before xs : List (List ℕ)) → is_twice (numbered 0 before) xs ≡ repeats before xs
twice-numbered before [] = refl
twice-numbered before (x ∷ xs) =
    let later : is_twice (numbered 0 before ++ (x, length (numbered 0 before)) ∷ []) xs ≡ repeats (before ++ x ∷ []) xs =
    ap (λ (t : List (List ℕ × ℕ)). is_twice t xs) (one_more before x (length (numbered 0 before)) (length-numbered 0 before))
    ∙ twice-numbered (before ++ x ∷ []) xs in
    ap (λ (d : Bool). if is_some (found (numbered 0 before) x) then true else d) later
    ∙ twice_here (is_some (found (numbered 0 before) x)) (has before x) (repeats (before ++ x ∷ []) xs) (found-has 0 before x) (λ h. refl)

pub same_names : (o : Omits) (b : ElementBody) (xs : List (List ℕ)) → names (map (λ (n : List ℕ). let t : ElementType = record { name = n; omits = o; body = b } in t) xs) ≡ xs
same_names o b [] = refl
same_names o b (x ∷ xs) = ap (λ (ys : List (List ℕ)). x ∷ ys) (same_names o b xs)

-- a declaration more adds its names
pub names_more : (ds : List ElementDeclaration) (d : ElementDeclaration) → names (types (ds ++ d ∷ [])) ≡ names (types ds) ++ d.names
names_more ds d =
    ap names (flat_map-append types_of ds (d ∷ []))
    ∙ map-append (λ (t : ElementType). t.name) (types ds) (types (d ∷ []))
    ∙ ap (λ (ts : List ElementType). names (types ds) ++ names ts) (append-nil (types_of d))
    ∙ ap (λ (xs : List (List ℕ)). names (types ds) ++ xs) (same_names d.omits d.body d.names)
