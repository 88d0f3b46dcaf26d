-- THE VALUE OF EACH ATTRIBUTE (7.9, 11.3): that of its specification, or else its default, which may be
-- the current value.
use Rattle.std.specs.Prelude.{◌≡◌, ℕ, ◌+◌, Bool, true, false, List, [], ◌∷◌, length, find, Option, Some, None, option_map, option_and_then, slice_get, Result, Ok, Err, if◌then◌else◌}
use Rattle.std.specs.List.{list_any}
use Rattle.std.specs.Option.{option_or}
use Rattle.sgml_text.specs.declared.reason.Reason.{Reason}
use Rattle.sgml_syntax.specs.declared.syntax.Syntax.{Syntax}
use Rattle.sgml_entity.specs.Entities.{Tables}
use Rattle.sgml_attr.specs.declared.definition.Default.{Default}
use Rattle.sgml_attr.specs.declared.definition.Default.TheVariants as default
use Rattle.sgml_attr.specs.declared.definition.Definition.{Definition}
use Rattle.sgml_attr.specs.declared.definition.Spec.{Spec}
use Rattle.sgml_attr.specs.declared.error.AttrError.{AttrError}
use Rattle.sgml_attr.specs.declared.value.AttrValue.{AttrValue}
use Rattle.sgml_attr.specs.Literal.{interpreted}
use Rattle.sgml_attr.specs.Currents.{current_at}
use Rattle.sgml_attr.specs.Matching.{attribute_of}
use Rattle.sgml_attr.specs.Values.{value}
use Rattle.sgml_starts.specs.declared.error.StartError.{StartError}
use Rattle.sgml_starts.specs.declared.error.StartError.TheVariants as error
use Rattle.sgml_starts.specs.Rows.{names, any_names, reason_of, reason_of_specs}
use Rattle.sgml_starts.specs.Specified.{Specified}

-- what the values of a start depend on
pub record Start : Type 0 where
  pub syntax : Syntax
  pub tables : Tables
  -- the attribute definitions of its element type, and the number of its attribute list
  pub definitions : List Definition
  pub list : Option ℕ
  -- the current values of all lists
  pub currents : List (List (Option AttrValue))

-- an element type without a list has no attributes
abbrev pub current_in : List (List (Option AttrValue)) → Option ℕ → ℕ → Option AttrValue
current_in currents None i = None
current_in currents (Some list) i = current_at currents list i

-- the specification of the attribute of a number
abbrev pub spec_of : Start → List Spec → ℕ → Option Spec
spec_of S ss i = find (names S.syntax S.definitions (Some i)) ss

abbrev pub is_specified : Start → List Spec → ℕ → Bool
is_specified S ss i = any_names S.syntax S.definitions (Some i) ss

-- THE VALUE of this attribute, or why it has none
abbrev pub result_of : Start → List Spec → ℕ → Definition → Result AttrValue AttrError
result_of S ss i x =
    value S.syntax x S.tables (current_in S.currents S.list i) (option_map (λ (s : Spec). interpreted x.declared s.value) (spec_of S ss i))

-- WITHOUT A SPECIFICATION an attribute may have no value (11.3.4): the first of the definitions, from a
-- number on

abbrev pub reason_in : Result AttrValue AttrError → Option Reason
reason_in (Ok v) = None
reason_in (Err e) = Some (reason_of e)

abbrev pub reason_of_default : Start → List Spec → ℕ → Definition → Option Reason
reason_of_default S ss i x = if is_specified S ss i then None else reason_in (result_of S ss i x)

abbrev pub reason_of_defaults : Start → List Spec → ℕ → List Definition → Option Reason
reason_of_defaults S ss i [] = None
reason_of_defaults S ss i (x ∷ xs) = option_or (reason_of_default S ss i x) (reason_of_defaults S ss (i + 1) xs)

-- WHY A START HAS NO VALUES: of the specifications in their order, then of the definitions without one
abbrev pub refused : Option Reason → Option StartError
refused r = option_map (λ x. error.Refused x) r

abbrev pub unvalued : Start → Specified → Option StartError
unvalued S all =
    option_or (refused (reason_of_specs S.syntax S.tables S.definitions [] all.specs))
    (option_or all.stop (refused (reason_of_defaults S all.specs 0 S.definitions)))

-- THE VALUES, in the order of the definitions
pub record AreValues (S : Start) (ss : List Spec) (values : List AttrValue) : Type 0 where
  pub as_many : length values ≡ length S.definitions
  pub each : (i : ℕ) (x : Definition) → slice_get S.definitions i ≡ Some x
      → option_map (λ (v : AttrValue). Ok v) (slice_get values i) ≡ Some (result_of S ss i x)

-- CONREF: a specification names an attribute of this default (11.3.4)
abbrev pub is_conref : Default → Bool
is_conref default.Conref = true
is_conref _ = false

abbrev pub is_conref_at : Option Definition → Bool
is_conref_at None = false
is_conref_at (Some x) = is_conref x.default

abbrev pub any_conref : Start → List Spec → Bool
any_conref S ss = list_any (λ s. is_conref_at (option_and_then (slice_get S.definitions) (attribute_of S.syntax S.definitions s))) ss
