-- What a reader has to know of what was read: the parts, each by its own search, and by its own
-- steps.
use Rattle.std.specs.Prelude.{ℕ, Option, None, List, [], ◌∷◌, map}
use Rattle.std.specs.Option.{option_or}
use Rattle.sgml_records.specs.Items.{Item}
use Rattle.sgml_records.specs.Facts.{Facts, facts, no_facts, all_noted}
use Rattle.sgml_dtd.specs.marked.declared.sections.Section.{Section}
use Rattle.sgml_dtd.specs.dtd_maps.declared.uses.MapOf.{MapOf}
use Rattle.sgml_theory_reading.specs.Names.{Name}
use Rattle.sgml_theory_reading.specs.Pieces.{Piece, Kind, History}
use Rattle.sgml_theory_reading.specs.Facets.{Effect, Opens, Closes, Stays, effect, items_of, turn, border, ended_type, Stage, BeforeSyntax, stage_after, ExternalSubset, subset_named}
use Rattle.sgml_theory_reading.specs.Nest.{Open, nest, items, without_first}
use Rattle.sgml_theory_reading.specs.Context.{Context, context, context_after}
use Rattle.sgml_theory_reading.specs.Unread.{Sources, external_subset, texts, texts_after}
use Rattle.sgml_theory_reading.specs.Sections.{sections, sections_after}
use Rattle.sgml_theory_reading.specs.Maps.{map_settings, settings_after}
use Rattle.sgml_theory_reading.specs.Currents.{Currents, currents, currents_after}

-- RECORD ENDS of each open element, the innermost first (7.6.1)
abbrev pub facts_of_open : Open → Facts
facts_of_open o = facts (items o.inside)

unfoldable pub record_ends : History → List Facts
record_ends h = map facts_of_open (nest h)

abbrev pub first_noted : List Item → List Facts → List Facts
first_noted is [] = []
first_noted is (f ∷ fs) = all_noted f is ∷ fs

abbrev pub ends_after : Effect → Kind → List Facts → List Facts
ends_after (Opens n slash) kind fs = no_facts ∷ first_noted (items_of kind) fs
ends_after Closes kind fs = without_first fs
ends_after Stays kind fs = first_noted (items_of kind) fs

-- THE ELEMENT THAT ENDED LAST, by its type (7.4.1.1)
unfoldable pub last_ended : History → Option Name
last_ended [] = None
last_ended (p ∷ h) = option_or (ended_type p.kind) (last_ended h)

-- HOW FAR THE DOCUMENT HAS COME IN ITS PROLOG (7.1, 11.1)
unfoldable pub stage : History → Stage
stage [] = BeforeSyntax
stage (p ∷ h) = stage_after p.kind (stage h)

-- THE STATE
pub record State : Type 0 where
  -- the document type, the open elements with what is left of each, NET, the document element's
  -- being begun
  pub context : Context
  pub record_ends : List Facts
  pub ended : Option Name
  -- with how many texts are on the stack
  pub sections : List Section
  pub texts : ℕ
  pub map_settings : List MapOf
  pub currents : Currents
  pub stage : Stage
  -- where the external subset is, where one was named
  pub subset : Option ExternalSubset

-- by search
unfoldable pub state : History → State
state h = record {
  context = context h;
  record_ends = record_ends h;
  ended = last_ended h;
  sections = sections h;
  texts = texts h;
  map_settings = map_settings h;
  currents = currents h;
  stage = stage h;
  subset = external_subset h;
}

-- by steps
unfoldable pub after_piece : Piece → State → State
after_piece p s = record {
  context = context_after p s.context;
  record_ends = ends_after (effect p.kind) p.kind s.record_ends;
  ended = option_or (ended_type p.kind) s.ended;
  sections = sections_after (border p.kind) s.texts s.sections;
  texts = texts_after (turn p.kind) s.texts;
  map_settings = settings_after (effect p.kind) p.kind s.map_settings;
  currents = currents_after s.context.doctype p.kind s.currents;
  stage = stage_after p.kind s.stage;
  subset = option_or (subset_named p.kind) s.subset;
}

-- what entities are in a state
abbrev pub sources_in : State → Sources
sources_in s = record { doctype = s.context.doctype; subset = s.subset }
