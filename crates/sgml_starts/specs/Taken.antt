-- One specification after another is filled in.
use Rattle.std.specs.Prelude.{◌≡◌, ◌⊎◌, ℕ, ◌+◌, ◌-◌, ◌∷◌, ◌++◌, true, ◌||◌, if◌then◌else◌, List, [], set, slice_get, slice_index_or, Option, Some, None, option_map, Result, Ok}
use Rattle.std.specs.List.{list_all}
use Rattle.sgml_text.specs.Units.{characters}
use Rattle.sgml_text.specs.declared.unit.Unit.{Unit as AnyUnit}
use Rattle.sgml_entity.specs.Stack.{Stack, moved_to}
use Rattle.sgml_attr.specs.declared.definition.Definition.{Definition}
use Rattle.sgml_attr.specs.declared.definition.Spec.{Spec}
use Rattle.sgml_attr.specs.declared.value.AttrValue.{AttrValue}
use Rattle.sgml_attr.specs.Matching.{attribute_of}
use Rattle.sgml_markup.specs.declared.kinds.Part.{Part}
use Rattle.sgml_markup.specs.Tags.{bytes_of}
use Rattle.sgml_decl_lexemes.specs.decl_parts.declared.ends.Construct.TheVariants.{Literal}
use Rattle.sgml_decl_lexemes.specs.declared.lexeme.Lexeme.{Lexeme}
use Rattle.sgml_decl_lexemes.specs.declared.lexeme.Lexeme.TheVariants.{Value}
use Rattle.sgml_decl_lexemes.specs.declared.fault.LexError.{LexError}
use Rattle.sgml_decl_lexemes.specs.Declares.{asked, is_plain}
use Rattle.sgml_decl_lexemes.specs.Reads.{answer}
use Rattle.sgml_starts.specs.Read.{StandsAlike, IsNoLiteral}
use Rattle.sgml_starts.specs.declared.error.StartError.{StartError}
use Rattle.sgml_starts.specs.declared.filling.Filled.{Filled}
use Rattle.sgml_starts.specs.Rows.{reason_of_spec, reason_of_specs}
use Rattle.sgml_starts.specs.Currents.{is_current}
use Rattle.sgml_starts.specs.Written.{written}
use Rattle.sgml_starts.specs.Specified.{Input, Specified, specified_from}
use Rattle.sgml_starts.specs.Values.{Start, is_conref, any_conref, refused, unvalued, AreValues}
use Rattle.sgml_starts.specs.Filled.{is_among, gives_current, AreFilled}
use Rattle.sgml_starts.specs.Starts.{IsUnvalued}

-- the value is put in the place of an attribute
pub record IsPut (x : Definition) (number : ℕ) (v : AttrValue) (old new : Filled) : Type 0 where
  pub values : new.values.items ≡ set old.values.items number v
  pub specified : new.specified.items ≡ set old.specified.items number true
  pub current : new.current.items ≡ (if is_current x.default then old.current.items ++ number ∷ [] else old.current.items)
  pub conref : new.conref ≡ (old.conref || is_conref x.default)

-- after those before it this one has nothing against it, and is filled in
abbrev pub Takes : Start → Spec → Filled → Filled → Type 0
Takes S s old new = (before : List Spec) → AreFilled S before old
    → (reason_of_spec S.syntax S.tables S.definitions before s ≡ None) × AreFilled S (before ++ s ∷ []) new

-- or is refused so
abbrev pub Refuses : Start → Spec → Filled → StartError → Type 0
Refuses S s old e = (before : List Spec) → AreFilled S before old → IsUnvalued (refused (reason_of_spec S.syntax S.tables S.definitions before s)) e

-- each that names the attribute of this number and has these units
abbrev pub TakesAt : Start → ℕ → List AnyUnit → Filled → Filled → Type 0
TakesAt S number units old new = (s : Spec) → attribute_of S.syntax S.definitions s ≡ Some number → s.value ≡ units → Takes S s old new

abbrev pub RefusesAt : Start → ℕ → List AnyUnit → Filled → StartError → Type 0
RefusesAt S number units old e = (s : Spec) → attribute_of S.syntax S.definitions s ≡ Some number → s.value ≡ units → Refuses S s old e

-- a specification with the name that stands in a part of the tag, where there is one
abbrev pub name_in : List ℕ → Option Part → Option (List ℕ)
name_in tag name = option_map (bytes_of tag) name

abbrev pub spec_in : List ℕ → Option Part → List AnyUnit → Spec
spec_in tag name units = record { name = name_in tag name; value = units }

-- the answer to the literal that stands in a part of a tag at this place of the text at the top
abbrev pub literal_in : Start → List (ℕ × List ℕ) → ℕ → List ℕ → Part → Stack → Result (List Lexeme) LexError × Stack
literal_in S texts at tag p t =
    answer (asked (Literal (slice_index_or tag (p.from - 1) 0)) S.syntax S.tables texts (record t { places = moved_to (at + p.from) t.places }) true)

-- a specification with the units of that literal is filled in
pub record TakesLiteral (S : Start) (texts : List (ℕ × List ℕ)) (at : ℕ) (tag : List ℕ) (name : Option Part) (p : Part) (f : Filled) (t : Stack) (g : Filled) (after : Stack) : Type 0 where
  pub units : List AnyUnit
  pub is : literal_in S texts at tag p t ≡ (Ok (Value units ∷ []), after)
  pub taken : Takes S (spec_in tag name units) f g

-- or it is refused so
pub record RefusesRead (S : Start) (texts : List (ℕ × List ℕ)) (at : ℕ) (tag : List ℕ) (name : Option Part) (p : Part) (f : Filled) (t : Stack) (e : StartError) : Type 0 where
  pub units : List AnyUnit
  pub after : Stack
  pub is : literal_in S texts at tag p t ≡ (Ok (Value units ∷ []), after)
  pub alike : StandsAlike t after
  pub refused : Refuses S (spec_in tag name units) f e

-- or the literal can't be read
abbrev pub RefusesLiteral : Start → List (ℕ × List ℕ) → ℕ → List ℕ → Option Part → Part → Filled → Stack → StartError → Type 0
RefusesLiteral S texts at tag name p f t e = IsNoLiteral (literal_in S texts at tag p t) e ⊎ RefusesRead S texts at tag name p f t e

-- the literal in a part of the tag ends in its quote, and no reference begins in it
pub record IsPlainLiteral (tag : List ℕ) (p : Part) : Type 0 where
  pub ends : slice_get tag p.to ≡ Some (slice_index_or tag (p.from - 1) 0)
  pub plain : list_all (is_plain (slice_index_or tag (p.from - 1) 0)) (bytes_of tag p) ≡ true

-- each that has this name and these characters is filled in
abbrev pub TakesNamed : Start → List ℕ → List ℕ → Filled → Filled → Type 0
TakesNamed S name bytes old new = (s : Spec) → s.name ≡ Some name → s.value ≡ characters bytes → Takes S s old new

-- with what the tag of a start is read
abbrev pub input_in : Start → List (ℕ × List ℕ) → Stack → Input
input_in S texts stack = record { syntax = S.syntax; tables = S.tables; texts = texts; stack = stack }

-- all that is specified is filled in
pub record AreTaken (S : Start) (all : Specified) (told : Filled) (after : Stack) : Type 0 where
  pub none : reason_of_specs S.syntax S.tables S.definitions [] all.specs ≡ None
  pub stop : all.stop ≡ None
  pub filled : AreFilled S all.specs told
  pub spent : after.spent ≡ all.spent

-- and all other values
pub record AreAllFilled (S : Start) (all : Specified) (told : Filled) (after : Stack) : Type 0 where
  pub none : unvalued S all ≡ None
  pub values : AreValues S all.specs told.values.items
  pub current : (i : ℕ) → is_among i told.current.items ≡ gives_current S all.specs i
  pub conref : told.conref ≡ any_conref S all.specs
  pub spent : after.spent ≡ all.spent

-- a tag of a start, and with what it is read
abbrev pub tag_in : Start → List (ℕ × List ℕ) → Stack → List ℕ → Specified
tag_in S texts stack tag =
    specified_from (record { syntax = S.syntax; tables = S.tables; texts = texts; stack = stack }) stack.spent (written S.syntax tag)
