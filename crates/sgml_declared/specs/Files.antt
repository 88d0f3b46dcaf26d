-- Which file a text is in: the names by which a store is asked (10.1.6, TR9401; directories are the
-- profile's).
use Rattle.std.specs.Prelude.{◌≡◌, ℕ, ◌==◌, Bool, true, false, [], ◌∷◌, ◌++◌, Option, Some, None, option_map, unwrap_or, map, if◌then◌else◌}
use Rattle.std.specs.List.{list_any}
use Rattle.sgml_text.specs.declared.place.Place.{Place}
use Rattle.sgml_syntax.specs.declared.syntax.Syntax.{Syntax}
use Rattle.sgml_entity.specs.declared.kinds.External.{External}
use Rattle.sgml_entity.specs.Stack.{Stack}
use Rattle.sgml_catalog.specs.declared.catalog.Kind.{Kind}
use Rattle.sgml_catalog.specs.declared.catalog.Resolved.{Resolved}
use Rattle.sgml_catalog.specs.Resolving.{resolved}
use Rattle.sgml_dtd.specs.Doctypes.{Doctype}
use Rattle.sgml_theory_standing.specs.theory_reading.Names.{Name, Text}
use Rattle.sgml_theory_standing.specs.theory_reading.Facets.{ExternalSubset}
use Rattle.sgml_theory_standing.specs.theory_reading.Unread.{Fetched, Outside, Sources, base_in}
use Rattle.sgml_declared.specs.declared.noted.Noted.{Noted}
use Rattle.sgml_declared.specs.declared.options.Options.{Options}

-- the options of a run that its texts depend on
abbrev pub Choices : Type 0
Choices = Options

abbrev pub is_slash : ℕ → Bool
is_slash b = b == 47

-- the directory of a file: its name up to and including the last `/`
abbrev pub directory : Name → Name
directory [] = []
directory (b ∷ bytes) = if list_any is_slash (b ∷ bytes) then b ∷ directory bytes else []

abbrev pub is_absolute : Text → Bool
is_absolute [] = false
is_absolute (b ∷ bytes) = is_slash b

-- a relative identifier stands after the directory of the file in which it stands
abbrev pub placed : Name → Text → Name
placed file identifier = if is_absolute identifier then identifier else directory file ++ identifier

-- one from a catalog stands in the catalog's file
abbrev pub placed_by : Choices → Name → Resolved → Name
placed_by c base r = placed (if r.from_catalog then c.catalog_base else base) r.text

-- THE NAME of the file of what is declared for this kind and name with an external identifier, in the
-- file of the name `base`
unfoldable pub file_name : Choices → Kind → Name → External → Name → Option Name
file_name c kind name external base = option_map (placed_by c base) (resolved c.catalog external kind name)

-- a file that was noted, of what is declared so
pub record IsNotedAs (kind : Kind) (name : Name) (external : External) (base : Name) (x : Noted) : Type 0 where
  pub kind_is : x.kind ≡ kind
  pub name_is : x.name ≡ name
  pub external_is : x.external ≡ external
  pub base_is : x.base ≡ base

pub record IsFileNoted (kind : Kind) (name : Name) (external : External) (base file : Name) (x : Noted) : Type 0 where
  pub noted : IsNotedAs kind name external base x
  pub file_is : x.file ≡ file

abbrev pub AreNotedAs : Kind → Name → External → Name → Option Noted → Type 0
AreNotedAs kind name external base None = ⊥
AreNotedAs kind name external base (Some x) = IsNotedAs kind name external base x

-- it is the one of a run with these options
abbrev pub IsNoted : Choices → Noted → Type 0
IsNoted c x = file_name c x.kind x.name x.external x.base ≡ Some x.file

-- the file that was noted, where one was found
abbrev pub noted_if : Bool → Option Noted → Option Name
noted_if false o = None
noted_if true o = option_map (λ (x : Noted). x.file) o

-- or else the document's
abbrev pub noted_base : Choices → Bool → Option Noted → Name
noted_base c found o = unwrap_or (noted_if found o) c.base

-- the outside of a run with these options
pub record IsOutsideOf (c : Choices) (outside : Outside) : Type 0 where
  pub expand : outside.expand ≡ c.expand
  pub file : outside.file ≡ c.base
  pub resolved : (kind : Kind) (name : Name) (external : External) (base : Name) →
      outside.resolved kind name external base ≡ file_name c kind name external base

-- one there is over every store, for every syntax of documents without an SGML declaration
abbrev pub outside_of : Choices → Syntax → (Name → Fetched) → Outside
outside_of c syntax store = record { syntax = syntax; expand = c.expand; file = c.base; resolved = file_name c; fetched = store }

abbrev pub EachStoreIsOutside : Type 0
EachStoreIsOutside =
    (c : Choices) (syntax : Syntax) (store : Name → Fetched) → IsOutsideOf c (outside_of c syntax store)

-- the value that each outside of such a run has
abbrev pub InEach : {A : Type 0} → Choices → (Outside → A) → A → Type 0
InEach c value a = (outside : Outside) → IsOutsideOf c outside → a ≡ value outside

abbrev pub sources_in : Doctype → Option ExternalSubset → Sources
sources_in d subset = record { doctype = d; subset = subset }

-- the file in which a declaration stands that is read at the top of this stack
abbrev pub base_at : Outside → Sources → Stack → Name
base_at outside k s = base_in outside k (map (λ (p : Place). p.entity) s.places)
