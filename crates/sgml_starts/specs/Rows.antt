-- WHY A SPECIFICATION IS REFUSED (7.9.3, 7.9.4): the first of these rows that holds.
use Rattle.std.specs.Prelude.{ℕ, ◌==◌, Bool, true, false, List, [], ◌∷◌, ◌++◌, Option, Some, None, option_map, option_and_then, slice_get}
use Rattle.std.specs.List.{list_any}
use Rattle.std.specs.Option.{option_or}
use Rattle.sgml_text.specs.Refusals.{first_row}
use Rattle.sgml_text.specs.declared.reason.Reason.{Reason}
use Rattle.sgml_text.specs.declared.reason.Reason.TheVariants as reason
use Rattle.sgml_text.specs.declared.unit.Unit.{Unit as AnyUnit}
use Rattle.sgml_syntax.specs.declared.syntax.Syntax.{Syntax}
use Rattle.sgml_entity.specs.Entities.{Tables}
use Rattle.sgml_attr.specs.declared.definition.Definition.{Definition}
use Rattle.sgml_attr.specs.declared.definition.Spec.{Spec}
use Rattle.sgml_attr.specs.declared.error.AttrError.{AttrError}
use Rattle.sgml_attr.specs.declared.error.AttrError.TheVariants as against
pub use Rattle.sgml_attr.specs.Against.{reason_of, passes_litlen, character_rows, token_rows, rows}
use Rattle.sgml_attr.specs.Literal.{interpreted}
use Rattle.sgml_attr.specs.Matching.{attribute_of}

-- of no attribute nothing else is judged
abbrev pub reason_of_value : Syntax → Tables → Bool → Option Definition → List AnyUnit → Option Reason
reason_of_value syntax tables twice None units = Some reason.UnknownAttribute
reason_of_value syntax tables twice (Some x) units = first_row (rows syntax x tables twice (interpreted x.declared units))

abbrev pub same_number : Option ℕ → Option ℕ → Bool
same_number (Some i) (Some j) = i == j
same_number _ _ = false

-- the specification names the attribute of this number
abbrev pub names : Syntax → List Definition → Option ℕ → Spec → Bool
names syntax xs attribute s = same_number attribute (attribute_of syntax xs s)

abbrev pub any_names : Syntax → List Definition → Option ℕ → List Spec → Bool
any_names syntax xs attribute ss = list_any (names syntax xs attribute) ss

-- after those before it
abbrev pub reason_of_spec : Syntax → Tables → List Definition → List Spec → Spec → Option Reason
reason_of_spec syntax tables xs before s =
    reason_of_value syntax tables (any_names syntax xs (attribute_of syntax xs s) before)
    (option_and_then (slice_get xs) (attribute_of syntax xs s)) s.value

-- the first of all specifications that is refused, in their order
abbrev pub reason_of_specs : Syntax → Tables → List Definition → List Spec → List Spec → Option Reason
reason_of_specs syntax tables xs before [] = None
reason_of_specs syntax tables xs before (s ∷ ss) =
    option_or (reason_of_spec syntax tables xs before s) (reason_of_specs syntax tables xs (before ++ s ∷ []) ss)

-- THE ROWS BY THE ANSWER of `sgml_attr`: NAMELEN ranks before LITLEN, an unknown notation before a second
-- specification, and that before all others

abbrev pub ranked : Bool → Bool → Option AttrError → Option Reason
ranked long twice (Some against.NameLength) = Some reason.NameLength
ranked true twice e = Some reason.LiteralLimit
ranked false twice (Some against.NotationUnknown) = Some reason.NotationUnknown
ranked false true e = Some reason.Twice
ranked false false e = option_map reason_of e
