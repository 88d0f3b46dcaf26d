-- What a declaration is read with, or another construct: its own text, and the texts that its
-- references open.
use Rattle.std.specs.Prelude.{ℕ, Bool, ◌==◌, List, [], ◌∷◌, length, drop, map, Option, None, Some, nat_lt, if◌then◌else◌}
use Rattle.sgml_text.specs.Characters.{upper, all_sgml}
use Rattle.sgml_text.specs.declared.place.Place.{Place}
use Rattle.sgml_text.specs.declared.reason.Reason.{Reason}
use Rattle.sgml_text.specs.declared.reason.Reason.TheVariants as reason
use Rattle.sgml_syntax.specs.declared.syntax.Syntax.{Syntax}
use Rattle.sgml_entity.specs.declared.kinds.Body.{Body}
use Rattle.sgml_entity.specs.declared.kinds.Body.TheVariants.{Sgml, Cdata, Sdata, Pi, External, ExternalData}
use Rattle.sgml_entity.specs.declared.kinds.Entity.{Entity}
use Rattle.sgml_entity.specs.declared.kinds.Space.{Space}
use Rattle.sgml_entity.specs.declared.kinds.Space.TheVariants as space
use Rattle.sgml_entity.specs.declared.places.StackRefused.{StackRefused}
use Rattle.sgml_entity.specs.declared.places.StackRefused.TheVariants.{Recursive, EntityLevel, Expansion}
use Rattle.sgml_entity.specs.Entities.{number_of, entity_at}
use Rattle.sgml_entity.specs.Stack.{Stack, refusal, is_on}
use Rattle.sgml_entity.specs.Texts.{text_of}
use Rattle.sgml_decl_parts.specs.declared.ends.Construct.{Construct}
use Rattle.sgml_decl_lexemes.specs.declared.fault.Fault.TheVariants.{Wanting, Refusing}
use Rattle.sgml_decl_lexemes.specs.declared.fault.Reached.{Reached}
use Rattle.sgml_decl_lexemes.specs.declared.fault.Reached.TheVariants.{Opens, PutsText, PutsData, Fails}

pub record Source : Type 0 where
  -- what is read
  pub construct : Construct
  pub syntax : Syntax
  pub entities : List Entity
  -- the texts of external entities other than the one in which it stands
  pub texts : List (ℕ × List ℕ)
  -- the text in which it stands, up to its end
  pub own : List ℕ
  -- how many texts are on the stack there
  pub height : ℕ

-- the texts of all entities but one
abbrev pub without : ℕ → List (ℕ × List ℕ) → List (ℕ × List ℕ)
without entity [] = []
without entity (t ∷ ts) = if entity == t.0 then without entity ts else t ∷ without entity ts

-- the text of an internal entity (10.5.1)
abbrev pub body_text : Body → Option (List ℕ)
body_text (Sgml text) = Some text
body_text _ = None

abbrev pub internal_text : Option Entity → Option (List ℕ)
internal_text None = None
internal_text (Some e) = body_text e.body

abbrev pub or_given : Option (List ℕ) → Option (List ℕ) → Option (List ℕ)
or_given None given = given
or_given (Some text) given = Some text

-- the text of an entity: its own, or the one that was given
abbrev pub text_at : List Entity → List (ℕ × List ℕ) → ℕ → Option (List ℕ)
text_at es texts n = or_given (internal_text (entity_at es n)) (text_of texts n)

abbrev pub or_empty : Option (List ℕ) → List ℕ
or_empty None = []
or_empty (Some text) = text

-- the text at the top of a stack of so many texts
abbrev pub top_text : Source → ℕ → ℕ → List ℕ
top_text I height entity =
    if height == I.height then I.own else or_empty (text_at I.entities I.texts entity)

-- what isn't read of it
abbrev pub unread : Source → List Place → List ℕ
unread I [] = []
unread I (p ∷ ps) = drop p.at (top_text I (length (p ∷ ps)) p.entity)

-- names of entities are folded where NAMECASE ENTITY is YES (13.4.5)
abbrev pub folded : Bool → List ℕ → List ℕ
folded fold name = if fold then map upper name else name

abbrev pub reason_of : StackRefused → Reason
reason_of Recursive = reason.Recursive
reason_of EntityLevel = reason.EntityLevel
reason_of Expansion = reason.Expansion

-- WHAT A REFERENCE REACHES: a text that is opened, data that stands for it, or why it reaches
-- nothing. A text with a byte that is no SGML character isn't read (13.1).
abbrev pub opened_by : Option StackRefused → ℕ → List ℕ → Reached
opened_by (Some refused) n text = Fails (Refusing (reason_of refused))
opened_by None n text = if all_sgml text then Opens n (length text) else Fails (Refusing reason.NonSgml)

abbrev pub opening : Stack → ℕ → List ℕ → Reached
opening s n text = opened_by (refusal n (length text) s) n text

abbrev pub given_or_wanted : Stack → ℕ → Option (List ℕ) → Reached
given_or_wanted s n None = Fails (Wanting n)
given_or_wanted s n (Some text) = opening s n text

-- an external text that is open isn't opened again, and one that isn't there is wanted
abbrev pub reach_external : Source → Stack → ℕ → Reached
reach_external I s n =
    if is_on n s.places then Fails (Refusing reason.Recursive) else given_or_wanted s n (text_of I.texts n)

-- Data stands for a general reference in an attribute value literal alone (9.4.4, 7.9.3).
abbrev pub data_for : Space → Reached → Reached
data_for space.General r = r
data_for space.Parameter r = Fails (Refusing reason.EntityKind)

abbrev pub reach_body : Source → Stack → Space → ℕ → Body → Reached
reach_body I s by n (Sgml text) = opening s n text
reach_body I s by n (External e) = reach_external I s n
reach_body I s by n (Cdata text) = data_for by (PutsText n)
reach_body I s by n (Sdata text) = data_for by (PutsData n)
reach_body I s by n (Pi text) = Fails (Refusing reason.EntityKind)
reach_body I s by n (ExternalData k e o) = Fails (Refusing reason.EntityKind)

abbrev pub reach_entity : Source → Stack → Space → ℕ → Option Entity → Reached
reach_entity I s by n None = Fails (Refusing reason.Undeclared)
reach_entity I s by n (Some e) = reach_body I s by n e.body

abbrev pub reach_number : Source → Stack → Space → Option ℕ → Reached
reach_number I s by None = Fails (Refusing reason.Undeclared)
reach_number I s by (Some n) = reach_entity I s by n (entity_at I.entities n)

-- the rows NameLength, Undeclared, EntityKind, Recursive, EntityLevel and Expansion, in this order
abbrev pub reached : Source → Stack → Space → List ℕ → Reached
reached I s by name =
    if nat_lt I.syntax.quantities.namelen (length name) then Fails (Refusing reason.NameLength)
    else reach_number I s by (number_of I.entities by (folded I.syntax.entity_fold name))

-- the text of a CDATA entity, as units (7.9.3)
abbrev pub cdata_of : Body → List ℕ
cdata_of (Cdata text) = text
cdata_of _ = []

abbrev pub cdata_text : Option Entity → List ℕ
cdata_text None = []
cdata_text (Some e) = cdata_of e.body
