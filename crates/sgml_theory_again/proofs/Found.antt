-- An entity that is referred to is found by its name, and is neither the document nor the external subset.
use Rattle.std.proofs.Common.{◌≡◌, ℕ, suc, Bool, true, false, ◌+◌, ◌-◌, ◌==◌, ◌&&◌, List, [], ◌∷◌, Option, Some, None, option_map, unwrap_or, nat_lt, refl, sym, ap, ◌∙◌, if◌then◌else◌, arith}
use Rattle.std.proofs.lemmas.Bool.Decides.{nat_tests}
use Rattle.std.specs.List.{slice_get}
use Rattle.std.proofs.lemmas.Slice.Eq.{bytes_eq-Decides}
use Rattle.std.specs.Str.{bytes_eq}
use Rattle.sgml_theory_full.specs.entity.declared.kinds.Entity.{Entity}
use Rattle.sgml_theory_full.specs.entity.declared.kinds.Space.{Space}
use Rattle.sgml_theory_full.specs.entity.declared.kinds.Space.TheVariants.{General}
use Rattle.sgml_theory_full.specs.entity.declared.kinds.Body.{Body}
use Rattle.sgml_theory_full.specs.entity.Entities.{same_space, is_entity, number_from, entity_at}
use Rattle.sgml_theory_full.specs.dtd.Doctypes.{Doctype}
use Rattle.sgml_theory_full.specs.theory_reading.Names.{Name}
use Rattle.sgml_theory_full.specs.theory_reading.Types.{entity, entity_number, name_of_entity}
use Rattle.sgml_theory_again.specs.Content.{IsReferred}

abbrev IsNamed : ℕ → List Entity → Name → ℕ → Type 0
IsNamed n es name k = (i : ℕ) × (e : Entity) × (k ≡ n + i) × (slice_get es i ≡ Some e) × (e.name ≡ name)

one-number : (n k : ℕ) → Some n ≡ Some k → n ≡ k
one-number n k h = cc

both : (a b : Bool) → (a && b) ≡ true → b ≡ true
both true b e = e
both false b e = absurd (cc)

called : (space : Space) (name : Name) (e : Entity) → is_entity space name e ≡ true → e.name ≡ name
called space name e h = sym ((bytes_eq-Decides name e.name).0 (both (same_space space e.space) (bytes_eq name e.name) h))

named : (n : ℕ) (es : List Entity) (space : Space) (name : Name) (k : ℕ) → number_from n es space name ≡ Some k → IsNamed n es name k
named n [] space name k h = absurd (cc h)
named n (e ∷ es) space name k h = by (is_entity space name e) refl (named (n + 1) es space name k) h
  where
    by : (t : Bool) → is_entity space name e ≡ t → (number_from (n + 1) es space name ≡ Some k → IsNamed (n + 1) es name k)
        → (if t then Some n else number_from (n + 1) es space name) ≡ Some k → IsNamed n (e ∷ es) name k
    by true is later h =
        let z : n ≡ k = one-number n k h in
        let s : k ≡ n + 0 = omega (arith, z) in
        (0, e, s, refl, called space name e is)
    by false is later h =
        let r = later h in
        let i = r.0 in
        let z : k ≡ (n + 1) + i = r.2 in
        let s : k ≡ n + suc i = omega (arith, z) in
        (suc i, r.1, s, r.3, r.4)

not-below : (k i : ℕ) → k ≡ 2 + i → nat_lt k 2 ≡ false
not-below k i z = ap (λ j. nat_lt j 2) z ∙ below i
  where
    below : (i : ℕ) → nat_lt (2 + i) 2 ≡ false
    below i = grind (arith, nat_tests)

abbrev name_in : Option Entity → Name
name_in o = unwrap_or (option_map (λ (e : Entity). e.name) o) []

name-at : (es : List Entity) (name : Name) (k : ℕ) → IsNamed 2 es name k → name_in (entity_at es k) ≡ name
name-at es name k r =
    let i = r.0 in
    let z : k ≡ 2 + i = r.2 in
    let back : k - 2 ≡ i = omega (arith, z) in
    ap (λ b. name_in (if b then None else slice_get es (k - 2))) (not-below k i z)
    ∙ ap (λ j. name_in (slice_get es j)) back
    ∙ ap name_in r.3
    ∙ r.4

-- it has the name by which it was found
pub its-name : (d : Doctype) (number : ℕ) (b : Body) (r : IsReferred d number b) → name_of_entity d number ≡ r.name
unfolding entity entity_number
its-name d number b r = name-at d.entities r.name number (named 2 d.entities General r.name number r.numbered)

pub found-again : (d : Doctype) (number : ℕ) (b : Body) → IsReferred d number b → entity_number d General (name_of_entity d number) ≡ Some number
found-again d number b r = ap (entity_number d General) (its-name d number b r) ∙ r.numbered

pub not-subset : (d : Doctype) (number : ℕ) (b : Body) → IsReferred d number b → (number == 1) ≡ false
unfolding entity_number
not-subset d number b r =
    let n = named 2 d.entities General r.name number r.numbered in
    other number n.0 n.2
  where
    other : (k i : ℕ) → k ≡ 2 + i → (k == 1) ≡ false
    other k i z = ap (λ j. j == 1) z ∙ past i
      where
        past : (i : ℕ) → ((2 + i) == 1) ≡ false
        past i = grind (arith, nat_tests)
