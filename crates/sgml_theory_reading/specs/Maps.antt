-- The short reference map that is in force (11.6).
use Rattle.std.specs.Prelude.{List, [], ◌∷◌, map}
use Rattle.sgml_dtd.specs.dtd_maps.declared.uses.MapOf.{MapOf}
use Rattle.sgml_dtd.specs.dtd_maps.declared.uses.MapOf.TheVariants as map_of
use Rattle.sgml_dtd.specs.Doctypes.{Doctype}
use Rattle.sgml_theory_reading.specs.Types.{map_of_type}
use Rattle.sgml_theory_reading.specs.Pieces.{Piece, Kind, History}
use Rattle.sgml_theory_reading.specs.Facets.{Effect, Opens, Closes, Stays, map_set}
use Rattle.sgml_theory_reading.specs.Nest.{Open, nest, without_first}
use Rattle.sgml_theory_reading.specs.Context.{Level}

-- a setting: a map by its number, none, or that of the parent; where it is the parent's, what comes next
abbrev pub setting_or : MapOf → MapOf → MapOf
setting_or map_of.Parent next = next
setting_or map_of.Empty next = map_of.Empty
setting_or (map_of.Map number) next = map_of.Map number

-- the last that a USEMAP set directly in an element, where one did
abbrev pub last_set : List Piece → MapOf
last_set [] = map_of.Parent
last_set (p ∷ ps) = setting_or (map_set p.kind) (last_set ps)

abbrev pub setting_of_open : Open → MapOf
setting_of_open o = last_set o.inside

-- of each open element, the innermost first
unfoldable pub map_settings : History → List MapOf
map_settings h = map setting_of_open (nest h)

-- the map in force: the last one set directly in the innermost element, else the one of its type,
-- else its parent's, else none
abbrev pub map_in_force : Doctype → List Level → List MapOf → MapOf
map_in_force d [] settings = map_of.Empty
map_in_force d (l ∷ ls) [] = map_of.Empty
map_in_force d (l ∷ ls) (setting ∷ settings) =
    setting_or setting (setting_or (map_of_type d l.element) (map_in_force d ls settings))

-- BY STEPS

abbrev pub first_set : MapOf → List MapOf → List MapOf
first_set new [] = []
first_set new (s ∷ ss) = setting_or new s ∷ ss

abbrev pub settings_after : Effect → Kind → List MapOf → List MapOf
settings_after (Opens n slash) kind ss = map_of.Parent ∷ first_set (map_set kind) ss
settings_after Closes kind ss = without_first ss
settings_after Stays kind ss = first_set (map_set kind) ss
