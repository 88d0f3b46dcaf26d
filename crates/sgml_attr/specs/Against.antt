-- Why a specification is refused (7.9.3, 7.9.4): the first of these rows that holds.
use Rattle.std.specs.Prelude.{ℕ, Bool, not, List, [], ◌∷◌, length, nat_lt, if◌then◌else◌}
use Rattle.std.specs.List.{list_all}
use Rattle.sgml_text.specs.declared.reason.Reason.{Reason}
use Rattle.sgml_text.specs.declared.reason.Reason.TheVariants as reason
use Rattle.sgml_text.specs.declared.unit.Unit.{Unit as AnyUnit}
use Rattle.sgml_syntax.specs.declared.syntax.Syntax.{Syntax}
use Rattle.sgml_entity.specs.Entities.{Tables}
use Rattle.sgml_attr.specs.declared.definition.Definition.{Definition}
use Rattle.sgml_attr.specs.declared.error.AttrError.{AttrError}
use Rattle.sgml_attr.specs.declared.error.AttrError.TheVariants as against
use Rattle.sgml_attr.specs.Literal.{is_cdata}
use Rattle.sgml_attr.specs.Tokens.{folds, tokens}
use Rattle.sgml_attr.specs.Rows.{passes_namelen, names_no_notation, are_tokens, is_in_group, are_other, is_other, names_no_data}
use Rattle.sgml_attr.specs.Values.{fixed_in}

-- want of memory is no answer of `value`
abbrev pub reason_of : AttrError → Reason
reason_of against.NameLength = reason.NameLength
reason_of against.LiteralLimit = reason.LiteralLimit
reason_of against.NotationUnknown = reason.NotationUnknown
reason_of (against.UnknownAttribute j) = reason.UnknownAttribute
reason_of (against.Twice j) = reason.Twice
reason_of against.NotAToken = reason.NotAToken
reason_of against.NotInGroup = reason.NotInGroup
reason_of against.FixedDiffers = reason.FixedDiffers
reason_of against.EntityUnknown = reason.EntityUnknown
reason_of against.Required = reason.Required
reason_of against.NoCurrent = reason.NoCurrent
reason_of against.Memory = reason.NoCurrent

-- AGAINST A SPECIFICATION (7.9.3, 7.9.4): the rows in their order, its being the second of its
-- attribute among them

abbrev pub passes_litlen : Syntax → List AnyUnit → Bool
passes_litlen syntax units = nat_lt syntax.quantities.litlen (length units)

abbrev pub character_rows : Syntax → Definition → Bool → List AnyUnit → List (Bool × Reason)
character_rows syntax x twice units =
    (passes_litlen syntax units, reason.LiteralLimit)
    ∷ (twice, reason.Twice)
    ∷ (is_other (fixed_in x.default) units, reason.FixedDiffers) ∷ []

abbrev pub token_rows : Syntax → Definition → Tables → Bool → List AnyUnit → List (List ℕ) → List (Bool × Reason)
token_rows syntax x tables twice units ts =
    (passes_namelen syntax ts, reason.NameLength)
    ∷ (passes_litlen syntax units, reason.LiteralLimit)
    ∷ (names_no_notation syntax x.declared tables.notations ts, reason.NotationUnknown)
    ∷ (twice, reason.Twice)
    ∷ (not (are_tokens syntax x.declared ts), reason.NotAToken)
    ∷ (not (list_all (is_in_group x.declared) ts), reason.NotInGroup)
    ∷ (are_other (folds syntax x.declared) (fixed_in x.default) ts, reason.FixedDiffers)
    ∷ (names_no_data x.declared tables.entities ts, reason.EntityUnknown) ∷ []

-- of the units that are written, as its declared value reads them
abbrev pub rows : Syntax → Definition → Tables → Bool → List AnyUnit → List (Bool × Reason)
rows syntax x tables twice units =
    if is_cdata x.declared then character_rows syntax x twice units
    else token_rows syntax x tables twice units (tokens (folds syntax x.declared) units)
