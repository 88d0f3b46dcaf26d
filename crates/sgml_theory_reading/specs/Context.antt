-- What the inference of tags has to know of what was read: the open elements, and what is left of
-- each one's content model.
use Rattle.std.specs.Prelude.{Bool, false, ◌||◌, Option, Some, None, List, [], ◌∷◌, map, unwrap_or}
use Rattle.sgml_dtd.specs.syntax.declared.syntax.Syntax.{Syntax}
use Rattle.sgml_dtd.specs.model.Term.{Term}
use Rattle.sgml_dtd.specs.model.Choice.{left_by}
use Rattle.sgml_dtd.specs.decl_forms.declared.declaration.Declaration.{Declaration}
use Rattle.sgml_dtd.specs.decl_forms.declared.declaration.Declaration.TheVariants as form
use Rattle.sgml_dtd.specs.Doctypes.{Doctype}
use Rattle.sgml_dtd.specs.Laws.{Placed}
use Rattle.sgml_theory_reading.specs.Names.{Name, Text}
use Rattle.sgml_theory_reading.specs.Types.{type_of, content_of, model_of}
use Rattle.sgml_theory_reading.specs.Pieces.{Piece, Kind, Sgml, Head, Declare, History}
use Rattle.sgml_theory_reading.specs.Facets.{Token, Effect, Opens, Closes, Stays, effect, token, is_omitted_start, is_start, declares}
use Rattle.sgml_theory_reading.specs.Nest.{Open, nest, word, types, without_first}

pub record Level : Type 0 where
  pub element : Name
  -- what is left of its model
  pub left : Term
  -- it was started with NET enabled
  pub slash : Bool

pub record Context : Type 0 where
  pub doctype : Doctype
  -- the innermost first
  pub levels : List Level
  -- the document element was begun
  pub begun : Bool
  -- the newest piece is a start that was left out
  pub inferred : Bool

-- the term that is left after the token; one that isn't taken leaves it
abbrev pub token_left : Term → Token → Term
token_left r k = unwrap_or (left_by r k) r

-- the term that is left after these tokens
abbrev pub left_after : Term → List Token → Term
left_after r [] = r
left_after r (k ∷ ks) = left_after (token_left r k) ks

-- the model is that of the declarations before its start
abbrev pub level_of : Open → Level
level_of o = record {
  element = o.element;
  left = left_after (model_of (content_of (type_of (types o.before) o.element))) (word o.inside);
  slash = o.slash;
}

abbrev pub any_start : History → Bool
any_start [] = false
any_start (p ∷ h) = is_start p.kind || any_start h

abbrev pub ends_in_omitted_start : History → Bool
ends_in_omitted_start [] = false
ends_in_omitted_start (p ∷ h) = is_omitted_start p.kind

-- by search
unfoldable pub context : History → Context
context h = record {
  doctype = types h;
  levels = map level_of (nest h);
  begun = any_start h;
  inferred = ends_in_omitted_start h;
}

-- BY STEPS

abbrev pub token_taken : Option Token → Term → Term
token_taken None r = r
token_taken (Some k) r = token_left r k

abbrev pub level_with : Kind → Level → Level
level_with kind l = record { element = l.element; left = token_taken (token kind) l.left; slash = l.slash }

-- the innermost element has one piece more
abbrev pub levels_with : Kind → List Level → List Level
levels_with kind [] = []
levels_with kind (l ∷ ls) = level_with kind l ∷ ls

abbrev pub begun_level : Doctype → Name → Bool → Level
begun_level d n slash = record { element = n; left = model_of (content_of (type_of d n)); slash = slash }

abbrev pub levels_after : Doctype → Effect → Kind → List Level → List Level
levels_after d (Opens n slash) kind ls = begun_level d n slash ∷ levels_with kind ls
levels_after d Closes kind ls = without_first ls
levels_after d Stays kind ls = levels_with kind ls

unfoldable pub context_after : Piece → Context → Context
context_after p c = record {
  doctype = declares p.kind c.doctype;
  levels = levels_after c.doctype (effect p.kind) p.kind c.levels;
  begun = is_start p.kind || c.begun;
  inferred = is_omitted_start p.kind;
}

-- nothing was begun
abbrev pub at_start : Doctype → Context
at_start d = record { doctype = d; levels = []; begun = false; inferred = false }

-- the pieces that read a document type

abbrev pub piece_of : Kind → Piece
piece_of kind = record { kind = kind; size = 0; spent = 0 }

-- the head of a document type is a piece of its own (11.1)
abbrev pub kind_of_placed : Text → Declaration → Kind
kind_of_placed base (form.Doctype head) = Head head base
kind_of_placed base says = Declare [] says base

-- with these declarations, in their order
abbrev pub with_placed : History → List Placed → History
with_placed h [] = h
with_placed h (p ∷ ps) = with_placed (piece_of (kind_of_placed p.base p.said) ∷ h) ps

abbrev pub prolog_of : Syntax → List Placed → History
prolog_of syntax ps = with_placed (piece_of (Sgml syntax) ∷ []) ps
