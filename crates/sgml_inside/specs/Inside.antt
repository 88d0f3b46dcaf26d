-- What stands directly in each open element, beside what is left of its model.
use Rattle.std.specs.Prelude.{ℕ, Bool, true, false, Option, List, [], ◌∷◌, map}
use Rattle.sgml_records.specs.Items as items
use Rattle.sgml_records.specs.Items.{Item as AnyItem}
use Rattle.sgml_records.specs.Facts.{Facts, no_facts, noted}
use Rattle.sgml_records.specs.declared.record_state.Put.{Put}
use Rattle.sgml_records.specs.declared.record_state.Put.TheVariants as put
use Rattle.sgml_dtd_maps.specs.declared.uses.MapOf.{MapOf}
use Rattle.sgml_dtd_maps.specs.declared.uses.MapOf.TheVariants as map_of
use Rattle.sgml_theory_reading.specs.Maps.{setting_or}
use Rattle.sgml_inside.specs.declared.item.Item.{Item}
use Rattle.sgml_inside.specs.declared.item.Item.TheVariants as item
use Rattle.sgml_inside.specs.declared.inside.Inner.{Inner}

pub record Inside : Type 0 where
  -- of each open element, the innermost first
  pub elements : List Inner
  -- the number of the type of the element that ended last
  pub ended : Option ℕ
  -- how many elements have a place
  pub room : ℕ

abbrev pub item_of : Item → AnyItem
item_of item.RecordEnd = items.RecordEnd
item_of item.RecordStart = items.RecordStart
item_of item.Data = items.Data
item_of item.Subelement = items.Subelement
item_of item.Markup = items.Markup

-- the record end that waits is data directly before the item
abbrev pub is_kept : Put → Bool
is_kept put.Kept = true
is_kept _ = false

-- RECORD ENDS (7.6.1), and the maps that were set (11.6), of each

abbrev pub ends_in : List Inner → List Facts
ends_in xs = map (λ (x : Inner). x.record_ends) xs

abbrev pub settings_in : List Inner → List MapOf
settings_in xs = map (λ (x : Inner). x.setting) xs

-- of the innermost
abbrev pub facts_of : List Inner → Facts
facts_of [] = no_facts
facts_of (x ∷ xs) = x.record_ends

-- the map in force (11.6); outside all elements none is
abbrev pub map_in : List Inner → MapOf
map_in [] = map_of.Empty
map_in (x ∷ xs) = x.map

-- AFTER an item in the innermost
abbrev pub noted_in : AnyItem → List Inner → List Inner
noted_in i [] = []
noted_in i (x ∷ xs) = record x { record_ends = noted x.record_ends i } ∷ xs

-- an element of a type with this map begins
abbrev pub opened_in : MapOf → List Inner → List Inner
opened_in m xs = record { record_ends = no_facts; setting = map_of.Parent; map = setting_or m (map_in xs) } ∷ xs

-- a map is set in the innermost
abbrev pub set_in : MapOf → List Inner → List Inner
set_in m [] = []
set_in m (x ∷ xs) = record x { setting = setting_or m x.setting; map = setting_or m x.map } ∷ xs
