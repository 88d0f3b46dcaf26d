-- When two units are the same, and that these are the equal ones.
use Rattle.std.specs.Prelude.{◌≡◌, ℕ, ◌==◌, ◌&&◌, Bool, true, false, List}
use Rattle.std.specs.Ordering.{on, eq_of_both}
use Rattle.std.specs.Bool.{Decides}
use Rattle.std.specs.Cmp.{unsigned_Decides}
use Rattle.std.specs.Cmp.Lexicographic.{pointwise, pointwise_decides}
use Rattle.std.proofs.Common.{arith, ap, refl, subst, ◌∙◌}
use Rattle.sgml_text.specs.declared.unit.Unit.{Unit as AnyUnit}
use Rattle.sgml_text.specs.declared.unit.Unit.TheVariants.{Byte, Coded, Sdata}

-- the place of its kind among the kinds
abbrev pub kind_of : AnyUnit → ℕ
kind_of (Byte b) = 0
kind_of (Coded b) = 1
kind_of (Sdata entity) = 2

-- its character, or its entity
abbrev pub number_of : AnyUnit → ℕ
number_of (Byte b) = b
number_of (Coded b) = b
number_of (Sdata entity) = entity

-- of the same kind, with the same character or entity
abbrev pub same_unit : AnyUnit → AnyUnit → Bool
same_unit = eq_of_both (on kind_of ◌==◌) (on number_of ◌==◌)

abbrev pub same_units : List AnyUnit → List AnyUnit → Bool
same_units = pointwise same_unit

and-parts : (a b : Bool) → (a && b) ≡ true → (a ≡ true) × (b ≡ true)
and-parts true b e = (refl, e)
and-parts false b e = cc

-- the unit of a kind with a number
same_parts : (a b : AnyUnit) → kind_of a ≡ kind_of b → number_of a ≡ number_of b → a ≡ b
same_parts (Byte a) (Byte b) k n = ap (λ x. Byte x) n
same_parts (Coded a) (Coded b) k n = ap (λ x. Coded x) n
same_parts (Sdata a) (Sdata b) k n = ap (λ x. Sdata x) n
same_parts (Byte a) (Coded b) k n = absurd (omega arith)
same_parts (Byte a) (Sdata b) k n = absurd (omega arith)
same_parts (Coded a) (Byte b) k n = absurd (omega arith)
same_parts (Coded a) (Sdata b) k n = absurd (omega arith)
same_parts (Sdata a) (Byte b) k n = absurd (omega arith)
same_parts (Sdata a) (Coded b) k n = absurd (omega arith)

itself : (u : AnyUnit) → same_unit u u ≡ true
itself u =
    ap (λ t. t && (number_of u == number_of u)) ((unsigned_Decides (kind_of u) (kind_of u)).1 refl)
    ∙ (unsigned_Decides (number_of u) (number_of u)).1 refl

pub unit-decides : (a b : AnyUnit) → Decides (same_unit a b) (a ≡ b)
unit-decides a b = (
  λ e.
      let same = and-parts (kind_of a == kind_of b) (number_of a == number_of b) e in
      let kind = (unsigned_Decides (kind_of a) (kind_of b)).0 same.0 in
      let number = (unsigned_Decides (number_of a) (number_of b)).0 same.1 in
      same_parts a b kind number,
  λ e. subst (λ u. same_unit a u ≡ true) e (itself a),
)

pub units-decide : (a b : List AnyUnit) → Decides (same_units a b) (a ≡ b)
units-decide a b = pointwise_decides unit-decides a b
