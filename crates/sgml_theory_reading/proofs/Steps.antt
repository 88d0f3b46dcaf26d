-- The state by search is the state by steps.
use Rattle.std.specs.Prelude.{◌≡◌, List, [], ◌∷◌, map}
use Rattle.std.proofs.Common.{refl, ap, ◌∙◌}
use Rattle.sgml_records.specs.Items.{Item}
use Rattle.sgml_records.specs.Facts.{facts, no_facts, all_noted}
use Rattle.sgml_records.proofs.Steps.{facts-noted}
use Rattle.sgml_dtd.specs.dtd_maps.declared.uses.MapOf.TheVariants as map_of
use Rattle.sgml_theory_reading.specs.Pieces.{Piece, History}
use Rattle.sgml_theory_reading.specs.Facets.{Effect, Opens, Closes, Stays, effect, items_of, map_set}
use Rattle.sgml_theory_reading.specs.Nest.{Open, nest, nest_after, with_piece, items, noted_onto}
use Rattle.sgml_theory_reading.specs.Context.{context}
use Rattle.sgml_theory_reading.proofs.Contexts.{context-step}
use Rattle.sgml_theory_reading.specs.Unread.{external_subset, texts}
use Rattle.sgml_theory_reading.specs.Sections.{sections}
use Rattle.sgml_theory_reading.specs.Maps.{setting_of_open, map_settings, first_set, settings_after}
use Rattle.sgml_theory_reading.specs.Currents.{currents}
use Rattle.sgml_theory_reading.specs.State.{state, after_piece, record_ends, facts_of_open, first_noted, ends_after, last_ended, stage}

-- the facts after several items
facts-all : (is earlier : List Item) → facts (noted_onto is earlier) ≡ all_noted (facts earlier) is
facts-all [] earlier = refl
facts-all (i ∷ is) earlier = facts-all is (i ∷ earlier) ∙ ap (λ f. all_noted f is) (facts-noted earlier i)

ends-with : (p : Piece) (os : List Open) → map facts_of_open (with_piece p os) ≡ first_noted (items_of p.kind) (map facts_of_open os)
ends-with p [] = refl
ends-with p (o ∷ os) = ap (λ f. f ∷ map facts_of_open os) (facts-all (items_of p.kind) (items o.inside))

ends-in : (h : History) (p : Piece) (e : Effect) (os : List Open) → map facts_of_open (nest_after e h p os) ≡ ends_after e p.kind (map facts_of_open os)
unfolding facts
ends-in h p (Opens n slash) os = ap (λ fs. no_facts ∷ fs) (ends-with p os)
ends-in h p Closes [] = refl
ends-in h p Closes (o ∷ os) = refl
ends-in h p Stays os = ends-with p os

ends-step : (p : Piece) (h : History) → record_ends (p ∷ h) ≡ ends_after (effect p.kind) p.kind (record_ends h)
unfolding record_ends nest
ends-step p h = ends-in h p (effect p.kind) (nest h)

settings-with : (p : Piece) (os : List Open) → map setting_of_open (with_piece p os) ≡ first_set (map_set p.kind) (map setting_of_open os)
settings-with p [] = refl
settings-with p (o ∷ os) = refl

settings-in : (h : History) (p : Piece) (e : Effect) (os : List Open) → map setting_of_open (nest_after e h p os) ≡ settings_after e p.kind (map setting_of_open os)
settings-in h p (Opens n slash) os = ap (λ ss. map_of.Parent ∷ ss) (settings-with p os)
settings-in h p Closes [] = refl
settings-in h p Closes (o ∷ os) = refl
settings-in h p Stays os = settings-with p os

settings-step : (p : Piece) (h : History) → map_settings (p ∷ h) ≡ settings_after (effect p.kind) p.kind (map_settings h)
unfolding map_settings nest
settings-step p h = settings-in h p (effect p.kind) (nest h)

-- the state after one piece more is a function of the state and the piece
pub state-step : (p : Piece) (h : History) → state (p ∷ h) ≡ after_piece p (state h)
unfolding state after_piece last_ended sections texts currents stage external_subset context
state-step p h = λ i. record {
  context = context-step p h i;
  record_ends = ends-step p h i;
  ended = last_ended (p ∷ h);
  sections = sections (p ∷ h);
  texts = texts (p ∷ h);
  map_settings = settings-step p h i;
  currents = currents (p ∷ h);
  stage = stage (p ∷ h);
  subset = external_subset (p ∷ h);
}
