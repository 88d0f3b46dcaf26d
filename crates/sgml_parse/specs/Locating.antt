-- Where a place is: the name of its text, its line and its column.
use Rattle.std.specs.Prelude.{◌≡◌, ◌≤◌, ◌==◌, ℕ, [], ◌∷◌, ◌++◌, List, length, take, Option, Some, option_map, unwrap_or, if◌then◌else◌, Result, Ok, Err}
use Rattle.std.specs.Option.{option_or}
use Rattle.sgml_text.specs.Places.{line_column_of}
use Rattle.sgml_text.specs.declared.place.Place.{Place}
use Rattle.sgml_entity.specs.declared.kinds.Space.{Space}
use Rattle.sgml_entity.specs.declared.kinds.Space.TheVariants.{General, Parameter}
use Rattle.sgml_entity.specs.declared.kinds.Entity.{Entity}
use Rattle.sgml_entity.specs.Entities.{entity_at}
use Rattle.sgml_entity.specs.Texts as texts
use Rattle.sgml_decl_lexemes.specs.Sources.{text_at, or_empty}
use Rattle.sgml_declared.specs.theory_reading.Names.{Name, Text}
use Rattle.sgml_declared.specs.theory_reading.Types.{entity}
use Rattle.sgml_declared.specs.theory_reading.Pieces.{History}
use Rattle.sgml_declared.specs.theory_reading.Nest.{types}
use Rattle.sgml_declared.specs.theory_reading.Unread.{Input, Outside, sources, file_of, text_of}
use Rattle.sgml_declared.specs.theory_standing.Kept.{Kept, sources_of}
use Rattle.sgml_declared.specs.Files.{Choices, IsOutsideOf}
use Rattle.sgml_instance.specs.Reading.{KeepsSources}
use Rattle.sgml_parse.specs.declared.position.Position.{Position}
use Rattle.sgml_parse.specs.declared.answer.ParseStep.{ParseStep}
use Rattle.sgml_parse.specs.declared.answer.ParseStep.TheVariants as step
use Rattle.sgml_parse.specs.declared.answer.ParseError.{ParseError}
use Rattle.sgml_parse.specs.declared.answer.ParseError.TheVariants as error
use Rattle.sgml_parse.specs.There.{Reading}
use Rattle.sgml_parse.specs.There as reading

-- THE TEXT of an entity of an input, after what was read: that of number 0 is the document's
abbrev pub text_in : Input → History → ℕ → Text
text_in I h number = if number == 0 then I.document else text_of I.outside (sources h) number

-- its name: that of its file, and of an internal entity its own, behind `&` (38) or `%` (37) (profile)
abbrev pub mark_of : Space → ℕ
mark_of General = 38
mark_of Parameter = 37

abbrev pub own_name : Entity → Name
own_name e = mark_of e.space ∷ e.name

abbrev pub name_told : Option Name → Option Entity → Option Name
name_told file e = option_or file (option_map own_name e)

abbrev pub name_in : Input → History → ℕ → Name
name_in I h number = unwrap_or (name_told (file_of I.outside (sources h) number) (entity (types h) number)) []

-- WHERE A PLACE IS
pub record IsPositionOf (I : Input) (h : History) (place : Place) (x : Position) : Type 0 where
  pub name : x.name ≡ name_in I h place.entity
  pub at : (x.line, x.column) ≡ line_column_of (take place.at (text_in I h place.entity))

-- found in what is kept and in the texts that were given
pub record IsFoundIn (c : Choices) (k : Kept) (ts : List (ℕ × Text)) (place : Place) (x : Position) : Type 0 where
  pub name : (outside : Outside) → IsOutsideOf c outside → name_told (file_of outside (sources_of k) place.entity) (entity_at k.doctype.entities place.entity) ≡ Some x.name
  pub text : Text
  pub given : text_at k.doctype.entities ts place.entity ≡ Some text
  pub within : place.at ≤ length text
  pub at : (x.line, x.column) ≡ line_column_of (take place.at text)

-- WHAT IS KNOWN of an input after what was read: its sources, and the texts that were given so far
abbrev pub HasSources : Reading → List (ℕ × Text) → Input → History → Type 0
HasSources (reading.Prolog r) ts I h = KeepsSources r.kept ts I h
HasSources (reading.Instance r) ts I h = KeepsSources r.content.kept ts I h
HasSources reading.Lost ts I h = ⊥

pub record Knows (c : Choices) (there : Reading) (ts : List (ℕ × Text)) (I : Input) (more : Text) (h : History) : Type 0 where
  pub of_options : IsOutsideOf c I.outside
  pub sources : HasSources there ts I h
  pub document : I.document ≡ or_empty (texts.text_of ts 0) ++ more

-- where nothing more is read
abbrev pub KnowsThen : Result ParseStep ParseError → Type 0 → Type 0
KnowsThen (Ok step.Finished) known = known
KnowsThen (Err (error.Refused x)) known = known
KnowsThen answer known = Unit {0}

-- the name of an entity's text, in each outside of a run with these options
abbrev pub IsNameTold : Choices → Kept → ℕ → Option Name → Type 0
IsNameTold c k number name =
    (outside : Outside) → IsOutsideOf c outside → name_told (file_of outside (sources_of k) number) (entity_at k.doctype.entities number) ≡ name
