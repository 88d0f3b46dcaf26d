-- What is still to be read (9.4), and what an input is.
use Rattle.std.specs.Prelude.{◌≡◌, ℕ, suc, pred, ◌+◌, ◌==◌, Bool, Option, Some, None, unwrap_or, List, [], ◌∷◌, drop, length, if◌then◌else◌}
use Rattle.std.specs.Option.{option_or}
use Rattle.sgml_dtd.specs.text.declared.place.Place.{Place}
use Rattle.sgml_dtd.specs.syntax.declared.syntax.Syntax.{Syntax}
use Rattle.sgml_dtd.specs.entity.declared.kinds.Space.{Space}
use Rattle.sgml_dtd.specs.entity.declared.kinds.Space.TheVariants as space
use Rattle.sgml_dtd.specs.entity.declared.kinds.External.{External}
use Rattle.sgml_dtd.specs.entity.declared.kinds.Body.{Body}
use Rattle.sgml_dtd.specs.entity.declared.kinds.Body.TheVariants as body
use Rattle.sgml_dtd.specs.entity.declared.kinds.Entity.{Entity}
use Rattle.sgml_dtd.specs.entity.Stack.{place_at, moved, lower}
use Rattle.sgml_catalog.specs.declared.catalog.Kind.{Kind as CatalogKind}
use Rattle.sgml_catalog.specs.declared.catalog.Kind.TheVariants as catalog
use Rattle.sgml_dtd.specs.Doctypes.{Doctype}
use Rattle.sgml_theory_reading.specs.Names.{Name, Text}
use Rattle.sgml_theory_reading.specs.Types.{entity}
use Rattle.sgml_theory_reading.specs.Pieces.{Piece, Sgml, History}
use Rattle.sgml_theory_reading.specs.Facets.{Turn, OpensText, EndsText, StaysInText, turn, subset_number, ExternalSubset, subset_named}
use Rattle.sgml_theory_reading.specs.Nest.{types, without_first}

-- what the store had under a name
pub data Fetched : Type 0 where
  NotThere : Fetched
  TooLarge : Fetched
  Found : (text : Text) → Fetched

-- all that a run depends on besides the document's text
pub record Outside : Type 0 where
  -- the syntax of a document without an SGML declaration
  pub syntax : Syntax
  -- the lengths of opened texts may have this sum
  pub expand : ℕ
  -- the name of the document's file
  pub file : Name
  -- the store's name of a text: by its kind and name in a catalog, its external identifier, and the
  -- name of the file in which that stands
  pub resolved : CatalogKind → Name → External → Name → Option Name
  pub fetched : Name → Fetched

pub record Input : Type 0 where
  pub document : Text
  -- the document was cut at the greatest length, and no end of it was seen
  pub was_cut : Bool
  pub outside : Outside

-- THE EXTERNAL SUBSET, where one was named
unfoldable pub external_subset : History → Option ExternalSubset
external_subset [] = None
external_subset (p ∷ h) = option_or (subset_named p.kind) (external_subset h)

-- what entities are, by their numbers: the document type, and where its external subset is
pub record Sources : Type 0 where
  pub doctype : Doctype
  pub subset : Option ExternalSubset

abbrev pub sources : History → Sources
sources h = record { doctype = types h; subset = external_subset h }

-- THE FILES OF ENTITIES (10.1.6): their names in the store

abbrev pub kind_of : Space → CatalogKind
kind_of space.General = catalog.General
kind_of space.Parameter = catalog.Parameter

-- that of text in a file of its own
abbrev pub file_of_body : Outside → Entity → Body → Option Name
file_of_body outside e (body.External external) = outside.resolved (kind_of e.space) e.name external e.base
file_of_body outside e _ = None

abbrev pub file_of_entity : Outside → Option Entity → Option Name
file_of_entity outside None = None
file_of_entity outside (Some e) = file_of_body outside e e.body

-- a catalog has the external subset under the name of the document type
abbrev pub file_of_subset : Outside → Doctype → Option ExternalSubset → Option Name
file_of_subset outside d None = None
file_of_subset outside d (Some subset) = outside.resolved catalog.Doctype (unwrap_or d.name []) subset.external subset.base

-- the file of the entity of a number, where it is text in one
unfoldable pub file_of : Outside → Sources → ℕ → Option Name
file_of outside k number =
    if number == 0 then Some outside.file
    else (if number == subset_number then file_of_subset outside k.doctype k.subset
    else file_of_entity outside (entity k.doctype number))

-- the file in which a declaration stands that is read at the top of a stack of texts, by their
-- numbers: that of the innermost text that has one
abbrev pub base_in : Outside → Sources → List ℕ → Name
base_in outside k [] = outside.file
base_in outside k (number ∷ ns) = unwrap_or (file_of outside k number) (base_in outside k ns)

-- THE TEXTS OF ENTITIES

abbrev pub found_text : Fetched → Text
found_text NotThere = []
found_text TooLarge = []
found_text (Found text) = text

abbrev pub fetched_text : Outside → Option Name → Text
fetched_text outside None = []
fetched_text outside (Some n) = found_text (outside.fetched n)

-- text that is kept in its declaration, or in the file
abbrev pub text_of_body : Body → Text → Text
text_of_body (body.Sgml text) in_file = text
text_of_body _ in_file = in_file

abbrev pub text_of_entity : Option Entity → Text → Text
text_of_entity None in_file = in_file
text_of_entity (Some e) in_file = text_of_body e.body in_file

-- the text that is read where the entity of this number is opened
unfoldable pub text_of : Outside → Sources → ℕ → Text
text_of outside k number = text_of_entity (entity k.doctype number) (fetched_text outside (file_of outside k number))

-- THE STACK OF PLACES, the top first: it is told by what was read alone

abbrev pub turned : Turn → List Place → List Place
turned (OpensText e) ps = place_at e 0 ∷ ps
turned EndsText ps = lower ps
turned StaysInText ps = ps

unfoldable pub unread : History → List Place
unread [] = place_at 0 0 ∷ []
unread (p ∷ h) = turned (turn p.kind) (moved p.size (unread h))

-- how many texts are on the stack
abbrev pub texts_after : Turn → ℕ → ℕ
texts_after (OpensText e) n = suc n
texts_after EndsText n = pred n
texts_after StaysInText n = n

unfoldable pub texts : History → ℕ
texts [] = 1
texts (p ∷ h) = texts_after (turn p.kind) (texts h)

-- WHAT IS UNREAD OF EACH TEXT ON THE STACK

pub record Rest : Type 0 where
  pub entity : ℕ
  pub bytes : Text

abbrev pub rest_moved : ℕ → List Rest → List Rest
rest_moved n [] = []
rest_moved n (r ∷ rs) = record { entity = r.entity; bytes = drop n r.bytes } ∷ rs

abbrev pub rest_turned : (ℕ → Text) → Turn → List Rest → List Rest
rest_turned text (OpensText e) rs = record { entity = e; bytes = text e } ∷ rs
rest_turned text EndsText rs = without_first rs
rest_turned text StaysInText rs = rs

-- after a piece, by what is known after it: the head of a document type opens what it names itself
abbrev pub rests_after : Outside → Sources → Piece → List Rest → List Rest
rests_after outside k p rs = rest_turned (text_of outside k) (turn p.kind) (rest_moved p.size rs)

unfoldable pub rests : Input → History → List Rest
rests I [] = record { entity = 0; bytes = I.document } ∷ []
rests I (p ∷ h) = rests_after I.outside (sources (p ∷ h)) p (rests I h)

-- THE SUM of the lengths of all texts that were opened, those inside pieces included

abbrev pub opened_length : (ℕ → Text) → Turn → ℕ
opened_length text (OpensText e) = length (text e)
opened_length text EndsText = 0
opened_length text StaysInText = 0

-- after a piece, by what is known after it
abbrev pub spent_after : Outside → Sources → Piece → ℕ → ℕ
spent_after outside k p n = n + (p.spent + opened_length (text_of outside k) (turn p.kind))

unfoldable pub spent : Outside → History → ℕ
spent outside [] = 0
spent outside (p ∷ h) = spent_after outside (sources (p ∷ h)) p (spent outside h)

-- WHERE EACH TEXT ON THE STACK WAS OPENED, the top first: what was read up to the piece that opened
-- it, and nothing for the document
abbrev pub opened_turned : Turn → History → List History → List History
opened_turned (OpensText e) h ks = h ∷ ks
opened_turned EndsText h ks = without_first ks
opened_turned StaysInText h ks = ks

unfoldable pub opened : History → List History
opened [] = [] ∷ []
opened (p ∷ h) = opened_turned (turn p.kind) (p ∷ h) (opened h)

-- the text that was opened there
abbrev pub opened_text : (ℕ → Text) → Turn → Text
opened_text text (OpensText e) = text e
opened_text text EndsText = []
opened_text text StaysInText = []

abbrev pub text_opened : Input → History → Text
text_opened I [] = I.document
text_opened I (p ∷ h) = opened_text (text_of I.outside (sources (p ∷ h))) (turn p.kind)

abbrev pub opened_number : Turn → ℕ
opened_number (OpensText e) = e
opened_number EndsText = 0
opened_number StaysInText = 0

-- the number of the entity that was opened there
abbrev pub number_opened : History → ℕ
number_opened [] = 0
number_opened (p ∷ h) = opened_number (turn p.kind)

-- each place and each rest is of the entity that was opened, and the rest is what stands behind the
-- place in the text that this entity had when it was opened
abbrev pub AreAlong : Input → List History → List Place → List Rest → Type 0
AreAlong I [] [] [] = Unit {0}
AreAlong I (k ∷ ks) (p ∷ ps) (r ∷ rs) =
    (p.entity ≡ number_opened k) × (r.entity ≡ p.entity) × (r.bytes ≡ drop p.at (text_opened I k)) × AreAlong I ks ps rs
AreAlong I _ _ _ = ⊥

-- each rest of an entity that was declared where it was opened is what stands behind its place in the
-- text that the entity has now
abbrev pub AreInTexts : Input → History → List History → List Place → List Rest → Type 0
AreInTexts I h [] [] [] = Unit {0}
AreInTexts I h (k ∷ ks) (p ∷ ps) (r ∷ rs) =
    ((e : Entity) → entity (types k) p.entity ≡ Some e → r.bytes ≡ drop p.at (text_of I.outside (sources h) p.entity)) × AreInTexts I h ks ps rs
AreInTexts I h _ _ _ = ⊥

-- the unread texts, and the sum so far
pub record Standing : Type 0 where
  pub rests : List Rest
  pub spent : ℕ

abbrev pub standing : Input → History → Standing
standing I h = record { rests = rests I h; spent = spent I.outside h }

-- what holds before the first byte: the syntax of a document without an SGML declaration
abbrev pub opening : Outside → History
opening outside = record { kind = Sgml outside.syntax; size = 0; spent = 0 } ∷ []
