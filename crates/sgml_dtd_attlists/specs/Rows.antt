-- Why an attribute list declaration is refused (11.3, 13.4.8): the first row that holds.
use Rattle.std.specs.Prelude.{ℕ, Bool, true, false, ◌+◌, ◌||◌, ◌&&◌, not, List, [], ◌∷◌, ◌++◌, length, map, sum_by, count_by, Option, Some, None, if◌then◌else◌, nat_lt}
use Rattle.std.specs.List.{list_any, flat_map}
use Rattle.sgml_names.specs.Lists.{has, repeats}
use Rattle.sgml_text.specs.declared.reason.Reason.{Reason}
use Rattle.sgml_text.specs.Refusals.{first_row}
use Rattle.sgml_text.specs.declared.reason.Reason.TheVariants.{NameLength, LiteralLimit, ListTwice, AttributeTwice, TokenTwice, IdTwice, IdDefault, AttrLimit, NotAToken, NotInGroup}
use Rattle.sgml_syntax.specs.declared.syntax.Syntax.{Syntax}
use Rattle.sgml_names.specs.Naming.{is_long}
use Rattle.sgml_text.specs.declared.unit.Unit.{Unit as AnyUnit}
use Rattle.sgml_attr.specs.declared.definition.Declared.{Declared}
use Rattle.sgml_attr.specs.declared.definition.Declared.TheVariants as declared
use Rattle.sgml_attr.specs.declared.definition.Default.{Default}
use Rattle.sgml_attr.specs.declared.definition.Default.TheVariants as defaults
use Rattle.sgml_attr.specs.declared.definition.Definition.{Definition}
use Rattle.sgml_attr.specs.declared.error.AttrError.{AttrError}
use Rattle.sgml_attr.specs.declared.error.AttrError.TheVariants as against
use Rattle.sgml_attr.specs.Values.{refusal_of_default}
use Rattle.sgml_dtd_attlists.specs.declared.list.AttributeList.{AttributeList}
use Rattle.sgml_dtd_attlists.specs.Interpreted.{group_of, default_units}
use Rattle.sgml_dtd_attlists.specs.Tables.{listed}

abbrev pub judged : Syntax → Declared → Option (List AnyUnit) → Option AttrError
judged syntax declared None = None
judged syntax declared (Some units) = refusal_of_default syntax declared units

-- why the default of an attribute may not be declared so, if it may not (11.3.4)
abbrev pub refusal_in : Syntax → Definition → Option AttrError
refusal_in syntax d = judged syntax d.declared (default_units d.default)

abbrev pub refusals : Syntax → List Definition → List (Option AttrError)
refusals syntax ds = map (refusal_in syntax) ds

abbrev pub is_too_long : Option AttrError → Bool
is_too_long (Some against.NameLength) = true
is_too_long _ = false

abbrev pub is_no_token : Option AttrError → Bool
is_no_token (Some against.NotAToken) = true
is_no_token _ = false

abbrev pub is_in_no_group : Option AttrError → Bool
is_in_no_group (Some against.NotInGroup) = true
is_in_no_group _ = false

-- a name of an attribute, or a name or token of its group, passes NAMELEN
abbrev pub has_long_name : Syntax → Definition → Bool
has_long_name syntax d = is_long syntax d.name || list_any (is_long syntax) (group_of d.declared)

-- one of the declaration does, or a token of a default value, of each of which is told why it may not be declared so
abbrev pub has_long : Syntax → AttributeList → List (Option AttrError) → Bool
has_long syntax l told = list_any (is_long syntax) l.names || list_any (has_long_name syntax) l.definitions || list_any is_too_long told

-- a name or token of the declaration, its default values included, passes NAMELEN (13.4.8)
abbrev pub passes_namelen : Syntax → AttributeList → Bool
passes_namelen syntax l =
    list_any (is_long syntax) l.names || list_any (has_long_name syntax) l.definitions
    || list_any is_too_long (refusals syntax l.definitions)

abbrev pub is_past : ℕ → Option (List AnyUnit) → Bool
is_past limit None = false
is_past limit (Some units) = nat_lt limit (length units)

-- a default value, as it is interpreted, passes LITLEN (13.4.8)
abbrev pub passes_litlen : Syntax → AttributeList → Bool
passes_litlen syntax l = list_any (λ d. is_past syntax.quantities.litlen (default_units d.default)) l.definitions

-- an element type has a list, or stands twice in this declaration (11.3, 10.1.3)
abbrev pub lists_twice : List AttributeList → AttributeList → Bool
lists_twice lists l = repeats (listed lists) l.names

-- an attribute stands twice in the list (11.3)
abbrev pub names_twice : AttributeList → Bool
names_twice l = repeats [] (map (λ d. d.name) l.definitions)

-- a token stands twice in the groups of the list (11.3.3)
abbrev pub tokens_twice : AttributeList → Bool
tokens_twice l = repeats [] (flat_map (λ d. group_of d.declared) l.definitions)

abbrev pub is_id : Definition → Bool
is_id d = is_id_value d.declared
  where
    is_id_value : Declared → Bool
    is_id_value declared.Id = true
    is_id_value _ = false

abbrev pub is_notation : Definition → Bool
is_notation d = is_notation_value d.declared
  where
    is_notation_value : Declared → Bool
    is_notation_value (declared.Notation names) = true
    is_notation_value _ = false

-- the list has two ID or two NOTATION attributes (11.3.3)
abbrev pub ids_twice : AttributeList → Bool
ids_twice l = nat_lt 1 (count_by is_id l.definitions) || nat_lt 1 (count_by is_notation l.definitions)

-- #REQUIRED or #IMPLIED
abbrev pub is_left_open : Default → Bool
is_left_open defaults.Required = true
is_left_open defaults.Implied = true
is_left_open _ = false

-- the default of an ID is neither #REQUIRED nor #IMPLIED (11.3.4)
abbrev pub gives_id : AttributeList → Bool
gives_id l = list_any (λ d. is_id d && not (is_left_open d.default)) l.definitions

-- an attribute counts for its name and for those of its group
abbrev pub count_of : Definition → ℕ
count_of d = 1 + length (group_of d.declared)

-- the names and tokens of the list pass ATTCNT (13.4.8)
abbrev pub passes_attcnt : Syntax → AttributeList → Bool
passes_attcnt syntax l = nat_lt syntax.quantities.attcnt (sum_by count_of l.definitions)

-- a default value isn't of its declared value's tokens (7.9.4, 11.3.4)
abbrev pub is_other_default : Syntax → AttributeList → Bool
is_other_default syntax l = list_any is_no_token (refusals syntax l.definitions)

-- a token of a default value isn't in the group (7.9.4, 11.3.4)
abbrev pub is_outside : Syntax → AttributeList → Bool
is_outside syntax l = list_any is_in_no_group (refusals syntax l.definitions)

abbrev pub rows : Syntax → List AttributeList → AttributeList → List (Bool × Reason)
rows syntax lists l =
    (passes_namelen syntax l, NameLength)
    ∷ (passes_litlen syntax l, LiteralLimit)
    ∷ (lists_twice lists l, ListTwice)
    ∷ (names_twice l, AttributeTwice)
    ∷ (tokens_twice l, TokenTwice)
    ∷ (ids_twice l, IdTwice)
    ∷ (gives_id l, IdDefault)
    ∷ (passes_attcnt syntax l, AttrLimit)
    ∷ (is_other_default syntax l, NotAToken)
    ∷ (is_outside syntax l, NotInGroup) ∷ []

-- why a list is refused beside these lists, if it is
abbrev pub reason : Syntax → List AttributeList → AttributeList → Option Reason
reason syntax lists l = first_row (rows syntax lists l)
