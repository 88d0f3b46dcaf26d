-- How what is kept of each open element stands for parts of the state.
use Rattle.std.specs.Prelude.{◌≡◌, List, [], ◌∷◌, map}
use Rattle.sgml_records.specs.Items.{Item}
use Rattle.sgml_records.specs.Facts.{no_facts}
use Rattle.sgml_dtd_maps.specs.declared.uses.MapOf.{MapOf}
use Rattle.sgml_dtd_maps.specs.declared.uses.MapOf.TheVariants as map_of
use Rattle.sgml_theory_reading.specs.dtd.Doctypes.{Doctype}
use Rattle.sgml_theory_reading.specs.Names.{Name}
use Rattle.sgml_theory_reading.specs.Types.{map_of_type}
use Rattle.sgml_theory_reading.specs.Nest.{without_first}
use Rattle.sgml_theory_reading.specs.Context.{Level}
use Rattle.sgml_theory_reading.specs.Maps.{map_in_force, first_set}
use Rattle.sgml_theory_reading.specs.State.{first_noted}
use Rattle.sgml_inside.specs.declared.inside.Inner.{Inner}
use Rattle.sgml_inside.specs.Inside.{ends_in, settings_in, map_in, noted_in, opened_in, set_in}

-- an item is noted in the innermost element, and sets no map
abbrev pub NotedIsAfter : Type 0
NotedIsAfter =
    (i : Item) (xs : List Inner) → (ends_in (noted_in i xs) ≡ first_noted (i ∷ []) (ends_in xs)) × (settings_in (noted_in i xs) ≡ settings_in xs)

-- an element begins, with nothing in it
abbrev pub OpenedIsAfter : Type 0
OpenedIsAfter =
    (m : MapOf) (xs : List Inner) → (ends_in (opened_in m xs) ≡ no_facts ∷ ends_in xs) × (settings_in (opened_in m xs) ≡ map_of.Parent ∷ settings_in xs)

-- the innermost ends
abbrev pub EndedIsAfter : Type 0
EndedIsAfter =
    (xs : List Inner) → (ends_in (without_first xs) ≡ without_first (ends_in xs)) × (settings_in (without_first xs) ≡ without_first (settings_in xs))

-- a map is set in it
abbrev pub SetIsAfter : Type 0
SetIsAfter = (m : MapOf) (xs : List Inner) → (ends_in (set_in m xs) ≡ ends_in xs) × (settings_in (set_in m xs) ≡ first_set m (settings_in xs))

-- THE MAP IN FORCE in each of these open elements is the one that is kept
abbrev pub AreInForce : Doctype → List Level → List Inner → Type 0
AreInForce d [] [] = Unit {0}
AreInForce d (l ∷ ls) (x ∷ xs) = (x.map ≡ map_in_force d (l ∷ ls) (settings_in (x ∷ xs))) × AreInForce d ls xs
AreInForce d _ _ = ⊥

abbrev pub InForceIsFound : Type 0
InForceIsFound = (d : Doctype) (ls : List Level) (xs : List Inner) → AreInForce d ls xs → map_in xs ≡ map_in_force d ls (settings_in xs)

-- it depends on the types of the open elements alone, and stays so
pub record StayInForce (d : Doctype) (ls : List Level) (xs : List Inner) : Type 0 where
  pub same : (ms : List Level) → map (λ (l : Level). l.element) ms ≡ map (λ (l : Level). l.element) ls → AreInForce d ms xs
  pub noted : (i : Item) → AreInForce d ls (noted_in i xs)
  pub opened : (l : Level) → AreInForce d (l ∷ ls) (opened_in (map_of_type d l.element) xs)
  pub closed : AreInForce d (without_first ls) (without_first xs)
  pub set : (m : MapOf) → AreInForce d ls (set_in m xs)

abbrev pub InForceStays : Type 0
InForceStays = (d : Doctype) (ls : List Level) (xs : List Inner) → AreInForce d ls xs → StayInForce d ls xs
