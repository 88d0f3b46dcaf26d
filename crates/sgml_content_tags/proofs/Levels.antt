-- Open elements by their places, from the outermost on, and by their order.
use Rattle.std.specs.Prelude.{◌≡◌, ℕ, zero, suc, ◌<◌, ◌-◌, Bool, true, false, Option, Some, None, option_map, List, [], ◌∷◌, length, reverse, map, slice_get, get_or, if◌then◌else◌}
use Rattle.std.proofs.Common.{refl, sym, ap, ◌∙◌, arith}
use Rattle.std.proofs.lemmas.List.{get_or-reverse, length-reverse, length-map, length-take}
use Rattle.std.proofs.lemmas.Option.{slice_get-get_or}
use Rattle.sgml_theory_spelling.specs.theory_reading.Names.{Name}
use Rattle.sgml_theory_spelling.specs.theory_reading.Context.{Level}
use Rattle.sgml_theory_spelling.specs.theory_reading.Omission.{counted, inside_of_first, inside_of_ended}
use Rattle.sgml_dtd.specs.Doctypes.{Doctype}
use Rattle.sgml_infer.specs.Tables.{name_at}
use Rattle.sgml_infer.specs.declared.tree.Tree.{Tree}
use Rattle.sgml_infer.specs.Trees.{level_of, open_levels, context_in, HasPlaces}
use Rattle.sgml_infer.specs.Visibles.{net_level}
use Rattle.sgml_content_steps.specs.Modes.{IsInnermost}
use Rattle.sgml_content_tags.proofs.Numbered.{name-of-number}
use Rattle.sgml_theory_spelling.specs.theory_reading.ShortTags.{first_type, first_enabling, net_type}

reversed-get : {X : Type 0} (xs : List X) (i : ℕ) (d : X) → i < length xs → slice_get (reverse xs) (length xs - 1 - i) ≡ slice_get xs i
reversed-get xs i d h =
    let k : ℕ = length xs - 1 - i in
    let l : length (reverse xs) ≡ length xs = length-reverse xs in
    let below : k < length xs = omega (arith, h) in
    let in_reverse : k < length (reverse xs) = omega (arith, below, l) in
    let back : length xs - 1 - k ≡ i = omega (arith, h) in
    slice_get-get_or (reverse xs) k d in_reverse
    ∙ (ap (λ (x : _). Some x) (get_or-reverse xs k d below ∙ ap (λ (j : ℕ). get_or xs j d) back)
    ∙ sym (slice_get-get_or xs i d h))

abbrev pub element_of : Level → Name
element_of l = l.element

-- THE INNERMOST by its number
pub innermost-type : (d : Doctype) (o : Option ℕ) (ls : List Level) → IsInnermost d o ls → option_map (name_at d) o ≡ first_type ls
innermost-type d (Some i) (l ∷ ls) h = ap (λ (n : Name). Some n) (name-of-number d l.element i h)
innermost-type d None [] h = refl
innermost-type d (Some i) [] h = absurd h
innermost-type d None (l ∷ ls) h = absurd h

-- THE FIRST THAT ENABLED NET
abbrev slashed : Level → Bool
slashed l = l.slash

record IsEnablingAt (ls : List Level) (i : ℕ) : Type 0 where
  pub within : i < length ls
  pub is : option_map element_of (slice_get ls i) ≡ first_enabling ls

enabling-by : (b : Bool) (l : Level) (ls : List Level) (o : Option ℕ) (i : ℕ) → l.slash ≡ b → ((j : ℕ) → o ≡ Some j → IsEnablingAt ls j) → counted b o ≡ Some i
    → IsEnablingAt (l ∷ ls) i
enabling-by true l ls o zero s rest e = record { within = omega arith; is = sym (ap (λ (b : Bool). if b then Some l.element else first_enabling ls) s) }
enabling-by true l ls o (suc i) s rest e = absurd (cc)
enabling-by false l ls None i s rest e = absurd (cc)
enabling-by false l ls (Some j) zero s rest e = absurd (cc)
enabling-by false l ls (Some j) (suc i) s rest e =
    let f : suc j ≡ suc i = cc in
    let z : j ≡ i = omega (arith, f) in
    let r = rest i (ap (λ (n : ℕ). Some n) z) in
    record {
      within = let w = r.within in omega (arith, w);
      is = r.is ∙ sym (ap (λ (b : Bool). if b then Some l.element else first_enabling ls) s);
    }

enabling-in : (ls : List Level) (i : ℕ) → inside_of_first slashed ls ≡ Some i → IsEnablingAt ls i
enabling-in [] i e = absurd (cc)
enabling-in (l ∷ ls) i e = enabling-by l.slash l ls (inside_of_first slashed ls) i refl (λ j f. enabling-in ls j f) e

pub enabling-within : (ls : List Level) (i : ℕ) → inside_of_first slashed ls ≡ Some i → i < length ls
enabling-within ls i e = (enabling-in ls i e).within

pub enabling-is : (ls : List Level) (i : ℕ) → inside_of_first slashed ls ≡ Some i → option_map element_of (slice_get (reverse ls) (length ls - 1 - i)) ≡ first_enabling ls
enabling-is [] i e = absurd (cc)
enabling-is (l ∷ ls) i e =
    let r = enabling-in (l ∷ ls) i e in
    ap (option_map element_of) (reversed-get (l ∷ ls) i l r.within) ∙ r.is

none-by : (b : Bool) (l : Level) (ls : List Level) (o : Option ℕ) → l.slash ≡ b → (o ≡ None → first_enabling ls ≡ None) → counted b o ≡ None → first_enabling (l ∷ ls) ≡ None
none-by true l ls o s rest e = absurd (cc)
none-by false l ls None s rest e = ap (λ (b : Bool). if b then Some l.element else first_enabling ls) s ∙ rest refl
none-by false l ls (Some j) s rest e = absurd (cc)

pub none-enabling : (ls : List Level) → inside_of_first slashed ls ≡ None → first_enabling ls ≡ None
none-enabling [] e = refl
none-enabling (l ∷ ls) e = none-by l.slash l ls (inside_of_first slashed ls) refl (none-enabling ls) e

-- BY THE LEVEL that is told, from the outermost on
pub levels-length : (d : Doctype) (tree : Tree) → HasPlaces tree → length (context_in d tree).levels ≡ tree.depth
levels-length d tree h =
    let p = h.places in
    let a = length-reverse (map (level_of d) (open_levels tree)) in
    let b = length-map (open_levels tree) (level_of d) in
    let c = length-take tree.depth tree.levels.items in
    omega (arith, p, a, b, c)

record IsAtNet (d : Doctype) (tree : Tree) (level : ℕ) : Type 0 where
  pub within : level < tree.depth
  pub is : option_map element_of (slice_get (reverse (context_in d tree).levels) level) ≡ first_enabling (context_in d tree).levels

at-net : (d : Doctype) (tree : Tree) (level : ℕ) (o : Option ℕ) → HasPlaces tree → inside_of_first slashed (context_in d tree).levels ≡ o
    → Some level ≡ option_map (λ inside. tree.depth - 1 - inside) o → IsAtNet d tree level
at-net d tree level (Some i) h e f =
    let l = levels-length d tree h in
    let w = enabling-within (context_in d tree).levels i e in
    let g : level ≡ tree.depth - 1 - i = cc in
    let k : length (context_in d tree).levels - 1 - i ≡ level = omega (arith, l, g) in
    record {
      within = omega (arith, g, w, l);
      is = ap (λ (m : ℕ). option_map element_of (slice_get (reverse (context_in d tree).levels) m)) (sym k) ∙ enabling-is (context_in d tree).levels i e;
    }
at-net d tree level None h e f = absurd (cc)

pub net-within : (d : Doctype) (tree : Tree) (level : ℕ) → HasPlaces tree → Some level ≡ net_level tree.depth (context_in d tree) → level < tree.depth
unfolding inside_of_ended
net-within d tree level h e = (at-net d tree level (inside_of_first slashed (context_in d tree).levels) h refl e).within

pub net-is : (d : Doctype) (tree : Tree) (level : ℕ) → HasPlaces tree → Some level ≡ net_level tree.depth (context_in d tree)
    → option_map element_of (slice_get (reverse (context_in d tree).levels) level) ≡ net_type (context_in d tree)
unfolding inside_of_ended net_type
net-is d tree level h e = (at-net d tree level (inside_of_first slashed (context_in d tree).levels) h refl e).is

no-level : (depth : ℕ) (o : Option ℕ) → None ≡ option_map (λ inside. depth - 1 - inside) o → o ≡ None
no-level depth None e = refl
no-level depth (Some i) e = absurd (cc)

pub net-none : (d : Doctype) (tree : Tree) → None ≡ net_level tree.depth (context_in d tree) → None ≡ net_type (context_in d tree)
unfolding inside_of_ended net_type
net-none d tree e = sym (none-enabling (context_in d tree).levels (no-level tree.depth (inside_of_first slashed (context_in d tree).levels) e))
