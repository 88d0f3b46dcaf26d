-- The value of an attribute (7.9, 11.3).
use Rattle.std.specs.Prelude.{ℕ, Bool, true, false, List, [], ◌∷◌, map, Option, Some, None, unwrap_or, Result, Ok, Err, if◌then◌else◌}
use Rattle.std.specs.Str.{bytes_eq}
use Rattle.sgml_syntax.specs.declared.syntax.Syntax.{Syntax}
use Rattle.sgml_entity.specs.declared.kinds.Entity.{Entity}
use Rattle.sgml_entity.specs.declared.kinds.Space.TheVariants.{General}
use Rattle.sgml_entity.specs.Entities.{Tables, number_of}
use Rattle.sgml_text.specs.declared.unit.Unit.{Unit as AnyUnit}
use Rattle.sgml_text.specs.SameUnits.{same_units}
use Rattle.sgml_attr.specs.declared.definition.Declared.{Declared}
use Rattle.sgml_attr.specs.declared.definition.Declared.TheVariants as declared
use Rattle.sgml_attr.specs.declared.definition.Default.{Default}
use Rattle.sgml_attr.specs.declared.definition.Default.TheVariants as defaults
use Rattle.sgml_attr.specs.declared.definition.Definition.{Definition}
use Rattle.sgml_attr.specs.declared.error.AttrError.{AttrError}
use Rattle.sgml_attr.specs.declared.error.AttrError.TheVariants.{FixedDiffers, Required, NoCurrent}
use Rattle.sgml_attr.specs.declared.value.AttrValue.{AttrValue}
use Rattle.sgml_attr.specs.declared.value.AttrValue.TheVariants as values
use Rattle.sgml_attr.specs.Literal.{is_cdata}
use Rattle.sgml_attr.specs.Tokens.{folds, tokens}
use Rattle.sgml_text.specs.Refusals.{first_row}
use Rattle.sgml_attr.specs.Rows.{is_other, same_names, token_rows, value_rows}

abbrev pub first_of : List (List ℕ) → List ℕ
first_of [] = []
first_of (t ∷ ts) = t

-- the number of a declared entity
abbrev pub entity_number : List Entity → List ℕ → ℕ
entity_number es name = unwrap_or (number_of es General name) 0

-- the value that these tokens are
abbrev pub token_value : Declared → List Entity → List (List ℕ) → AttrValue
token_value (declared.Notation names) es ts = values.Notation (first_of ts)
token_value declared.Entity es ts = values.Entities (map (entity_number es) ts)
token_value declared.Entities es ts = values.Entities (map (entity_number es) ts)
token_value _ es ts = values.Tokens ts

abbrev pub unless : Option AttrError → AttrValue → Result AttrValue AttrError
unless None value = Ok value
unless (Some reason) value = Err reason

-- what a value with these tokens is
abbrev pub tokens_give : Syntax → Declared → Tables → Option (List AnyUnit) → List (List ℕ) → Result AttrValue AttrError
tokens_give syntax declared tables fixed ts =
    unless (first_row (value_rows syntax declared tables fixed ts)) (token_value declared tables.entities ts)

-- What these units give as a value: of CDATA the units, of any other declared value the tokens. Where a value is
-- fixed, they give that one or none.
abbrev pub units_give : Syntax → Declared → Tables → Option (List AnyUnit) → List AnyUnit → Result AttrValue AttrError
units_give syntax declared tables fixed units =
    if is_cdata declared then unless (first_row ((is_other fixed units, FixedDiffers) ∷ [])) (values.Cdata units)
    else tokens_give syntax declared tables fixed (tokens (folds syntax declared) units)

-- why a default may not be declared so
abbrev pub refusal_of_default : Syntax → Declared → List AnyUnit → Option AttrError
refusal_of_default syntax declared units =
    if is_cdata declared then None else first_row (token_rows syntax declared (tokens (folds syntax declared) units))

abbrev pub fixed_in : Default → Option (List AnyUnit)
fixed_in (defaults.Fixed units) = Some units
fixed_in _ = None

abbrev pub current_given : Option AttrValue → Result AttrValue AttrError
current_given None = Err NoCurrent
current_given (Some value) = Ok value

-- the value without a specification (11.3.4)
abbrev pub default_gives : Syntax → Declared → Tables → Option AttrValue → Default → Result AttrValue AttrError
default_gives syntax declared tables current (defaults.Value units) = units_give syntax declared tables None units
default_gives syntax declared tables current (defaults.Fixed units) = units_give syntax declared tables None units
default_gives syntax declared tables current defaults.Required = Err Required
default_gives syntax declared tables current defaults.Current = current_given current
default_gives syntax declared tables current defaults.Conref = Ok values.Implied
default_gives syntax declared tables current defaults.Implied = Ok values.Implied

-- The value of an attribute, or the first reason against it: the specification's where there is one, else the default.
abbrev pub value : Syntax → Definition → Tables → Option AttrValue → Option (List AnyUnit) → Result AttrValue AttrError
value syntax d tables current (Some units) = units_give syntax d.declared tables (fixed_in d.default) units
value syntax d tables current None = default_gives syntax d.declared tables current d.default

-- equal values
abbrev pub same_value : AttrValue → AttrValue → Bool
same_value values.Implied values.Implied = true
same_value (values.Cdata a) (values.Cdata b) = same_units a b
same_value (values.Notation a) (values.Notation b) = bytes_eq a b
same_value (values.Entities a) (values.Entities b) = bytes_eq a b
same_value (values.Tokens a) (values.Tokens b) = same_names a b
same_value _ _ = false
