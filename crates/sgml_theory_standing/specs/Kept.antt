-- What a reader keeps of what was read, beside the elements that are open, and what that stands for.
use Rattle.std.specs.Prelude.{◌≡◌, ℕ, ◌+◌, ◌<◌, ◌≤◌, List, [], ◌∷◌, Option, None, IsFalse, reverse, length, map, drop}
use Rattle.std.specs.Option.{option_or}
use Rattle.sgml_theory_spelling.specs.text.declared.place.Place.{Place}
use Rattle.sgml_theory_spelling.specs.entity.declared.kinds.Entity.{Entity}
use Rattle.sgml_theory_spelling.specs.entity.Entities.{first_entity}
use Rattle.sgml_theory_spelling.specs.entity.Stack.{Stack, place_at, moved}
use Rattle.sgml_theory_spelling.specs.decl_lexemes.Sources.{text_at, or_empty}
use Rattle.sgml_theory_spelling.specs.marked.declared.sections.Section.{Section}
use Rattle.sgml_theory_spelling.specs.dtd.Doctypes.{Doctype, nothing}
use Rattle.sgml_theory_spelling.specs.theory_reading.Names.{Text}
use Rattle.sgml_theory_spelling.specs.theory_reading.Pieces.{Piece, History}
use Rattle.sgml_theory_spelling.specs.theory_reading.Facets.{Stage, AtBeginning, ExternalSubset, turn, border, declares, stage_after, subset_named}
use Rattle.sgml_theory_spelling.specs.theory_reading.Nest.{types}
use Rattle.sgml_theory_spelling.specs.theory_reading.Unread.{Outside, Input, Rest, Standing, Sources, external_subset, rests, spent, unread, turned, opened_length}
use Rattle.sgml_theory_spelling.specs.theory_reading.Sections.{sections, sections_after}
use Rattle.sgml_theory_spelling.specs.theory_reading.State.{stage}
use Rattle.sgml_theory_spelling.specs.theory_reading.Reads.{Move, ReadsFromStart, read_by, ends_in_finish}
use Rattle.sgml_theory_spelling.specs.Asked.{ArePlacesOf}
use Rattle.sgml_theory_spelling.specs.Spelled.{forms}
use Rattle.sgml_theory_standing.specs.Supplied.{AreSuppliedSoFar}

pub record Kept : Type 0 where
  pub doctype : Doctype
  -- the texts that are being read
  pub stack : Stack
  -- the marked sections that are open, the oldest first
  pub sections : List Section
  -- how far the document has come in its prolog
  pub stage : Stage
  -- where the external subset is, where one was named
  pub subset : Option ExternalSubset

abbrev pub sources_of : Kept → Sources
sources_of k = record { doctype = k.doctype; subset = k.subset }

-- WHAT IS UNREAD of the texts that were given so far: of the document's, as far as it was given
abbrev pub rest_of : List Entity → List (ℕ × Text) → Place → Rest
rest_of es texts p = record { entity = p.entity; bytes = drop p.at (or_empty (text_at es texts p.entity)) }

unfoldable pub given : Kept → List (ℕ × Text) → Standing
given k texts = record { rests = map (rest_of k.doctype.entities texts) k.stack.places; spent = k.stack.spent }

-- each text that is being read is the document, the external subset or that of a declared entity
abbrev pub AreDeclared : List Entity → List Place → Type 0
AreDeclared es [] = Unit {0}
AreDeclared es (p ∷ ps) = (p.entity < length es + first_entity) × AreDeclared es ps

-- and its place is in that text, as far as it was given
abbrev pub AreWithin : List Entity → List (ℕ × Text) → List Place → Type 0
AreWithin es texts [] = Unit {0}
AreWithin es texts (p ∷ ps) = (p.at ≤ length (or_empty (text_at es texts p.entity))) × AreWithin es texts ps

-- WHAT IT STANDS FOR, of an input of which the document goes on with `more`: each part is that of what
-- was read, by its own search
pub record Stands (k : Kept) (texts : List (ℕ × Text)) (I : Input) (more : Text) (h : History) : Type 0 where
  pub read : (ms : List Move) × ReadsFromStart forms I ms × (h ≡ read_by I ms)
  pub goes_on : IsFalse (ends_in_finish h)
  pub doctype_is : k.doctype ≡ types h
  pub places_are : k.stack.places ≡ unread h
  pub open_are : AreDeclared k.doctype.entities k.stack.places
  pub within : AreWithin k.doctype.entities texts k.stack.places
  pub unread_is : ArePlacesOf k.doctype.entities texts more k.stack.places (rests I h)
  pub levels_are : k.stack.levels ≡ k.doctype.syntax.quantities.entlvl
  pub expand_is : k.stack.expand ≡ I.outside.expand
  pub spent_is : k.stack.spent ≡ spent I.outside h
  pub sections_are : reverse k.sections ≡ sections h
  pub stage_is : k.stage ≡ stage h
  pub subset_is : k.subset ≡ external_subset h
  pub supplied : AreSuppliedSoFar I.outside (sources_of k) texts

-- BEFORE THE FIRST BYTE the syntax of a document without an SGML declaration was told
abbrev pub kept_at_start : Outside → Kept
kept_at_start outside = record {
  doctype = nothing outside.syntax;
  stack = record { levels = outside.syntax.quantities.entlvl; expand = outside.expand; spent = 0; places = place_at 0 0 ∷ [] };
  sections = [];
  stage = AtBeginning;
  subset = None;
}

-- AFTER A PIECE, where each entity that is opened has this text
unfoldable pub kept_after : (ℕ → Text) → Piece → Kept → Kept
kept_after text p k = record {
  doctype = declares p.kind k.doctype;
  stack = record {
    levels = (declares p.kind k.doctype).syntax.quantities.entlvl;
    expand = k.stack.expand;
    spent = k.stack.spent + (p.spent + opened_length text (turn p.kind));
    places = turned (turn p.kind) (moved p.size k.stack.places);
  };
  sections = reverse (sections_after (border p.kind) (length k.stack.places) (reverse k.sections));
  stage = stage_after p.kind k.stage;
  subset = option_or (subset_named p.kind) k.subset;
}
