-- The numbers of entities.
use Rattle.std.proofs.Common.{◌≡◌, ◌≤◌, ◌<◌, ◌+◌, ℕ, Bool, true, false, List, [], ◌∷◌, Option, Some, None, length, if◌then◌else◌, arith}
use Rattle.sgml_entity.specs.declared.kinds.Entity.{Entity}
use Rattle.sgml_entity.specs.declared.kinds.Space.{Space}
use Rattle.sgml_entity.specs.Entities.{is_entity, number_from, first_entity, number_of}

record Within (n k count : ℕ) : Type 0 where
  pub least : n ≤ k
  pub below : k < n + count

within-here : (b : Bool) (n k count : ℕ) (rest : Option ℕ) → (if b then Some n else rest) ≡ Some k → (rest ≡ Some k → Within (n + 1) k count) → Within n k (count + 1)
within-here true n k count rest is again =
    let same : n ≡ k = cc in
    record { least = omega arith; below = omega arith }
within-here false n k count rest is again =
    let w = again is in
    record { least = omega (arith, w.least); below = omega (arith, w.below) }

within : (es : List Entity) (space : Space) (name : List ℕ) (n k : ℕ) → number_from n es space name ≡ Some k → Within n k (length es)
within [] space name n k is = absurd (never is)
  where
    never : None ≡ Some k → ⊥
    never e = cc
within (e ∷ es) space name n k is =
    let w = within-here (is_entity space name e) n k (length es) (number_from (n + 1) es space name) is (within es space name (n + 1) k) in
    record { least = w.least; below = omega (arith, w.below) }

-- the number of an entity is that of one of the declared
pub number-first : (es : List Entity) (space : Space) (name : List ℕ) (k : ℕ) → Some k ≡ number_of es space name → 2 ≤ k
number-first es space name k is = (within es space name first_entity k (symm is)).least
  where
    symm : Some k ≡ number_of es space name → number_of es space name ≡ Some k
    symm e = cc

pub number-below : (es : List Entity) (space : Space) (name : List ℕ) (k : ℕ) → Some k ≡ number_of es space name → k < length es + 2
number-below es space name k is =
    let w = within es space name first_entity k (symm is) in
    omega (arith, w.below)
  where
    symm : Some k ≡ number_of es space name → number_of es space name ≡ Some k
    symm e = cc
