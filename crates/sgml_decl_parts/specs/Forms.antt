-- Which lexemes may come next in a declaration (ISO 8879 11.1 to 11.6, 10.5), and among the status
-- keywords of a marked section (10.4.2): what is due after each lexeme, by the forms of these.
use Rattle.std.specs.Prelude.{ℕ, Bool, true, false, ◌+◌, ◌-◌, ◌==◌, ◌||◌, List, Option, None, Some, codes, min, if◌then◌else◌}
use Rattle.sgml_text.specs.declared.reason.Reason.TheVariants.{LinkOut, SubdocOut, OtherOut}
use Rattle.sgml_delim.specs.declared.delim.Delim.{Delim}
use Rattle.sgml_delim.specs.declared.delim.Delim.TheVariants.{And, Or, Seq, Opt, Plus, Rep, Minus, Grpo, Grpc, Dso, Pero}
use Rattle.sgml_decl_parts.specs.declared.form.Form.{Form}
use Rattle.sgml_decl_parts.specs.declared.form.Form.TheVariants as f
use Rattle.sgml_decl_parts.specs.declared.form.Owner.{Owner}
use Rattle.sgml_decl_parts.specs.declared.form.Owner.TheVariants as owner
use Rattle.sgml_decl_parts.specs.declared.form.Grouped.{Grouped}
use Rattle.sgml_decl_parts.specs.declared.form.Grouped.TheVariants as grouped
use Rattle.sgml_decl_parts.specs.declared.form.LiteralKind.{LiteralKind}
use Rattle.sgml_decl_parts.specs.declared.form.LiteralKind.TheVariants.{NoLiteral, Parameter, Plain, Value}
use Rattle.sgml_text.specs.Characters.{is_word}

-- a group whose first name is due
abbrev pub group : Grouped → Form
group g = f.Group g true None

-- the first of the declarations that have a keyword
abbrev pub begun : List ℕ → Form
begun n =
    if is_word (codes "ELEMENT") n then f.ElementNames
    else if is_word (codes "ATTLIST") n then f.ListNames
    else if is_word (codes "ENTITY") n then f.EntityName
    else if is_word (codes "NOTATION") n then f.NotationName
    else if is_word (codes "SHORTREF") n then f.MapName
    else if is_word (codes "USEMAP") n then f.UsedMap
    else if is_word (codes "DOCTYPE") n then f.DoctypeName
    else if is_word (codes "LINKTYPE") n || is_word (codes "LINK") n || is_word (codes "USELINK") n then f.LeftOut LinkOut
    else f.Broken

-- external identifier: SYSTEM [literal], or PUBLIC literal [literal] (10.1.6)
abbrev pub external : Owner → List ℕ → Form
external o n =
    if is_word (codes "SYSTEM") n then f.System o else if is_word (codes "PUBLIC") n then f.Public o else f.Broken

-- after the external identifier of an entity: CDATA, NDATA or SDATA and a notation (10.5.5)
abbrev pub data_kind : List ℕ → Form
data_kind n =
    if is_word (codes "CDATA") n || is_word (codes "NDATA") n || is_word (codes "SDATA") n then f.DataNotation
    else if is_word (codes "SUBDOC") n then f.LeftOut SubdocOut
    else f.Broken

abbrev pub after_external : Owner → List ℕ → Form
after_external owner.Entity n = data_kind n
after_external o n = f.Broken

-- EMPTY, CDATA, RCDATA, ANY (11.2.3, 11.2.4)
abbrev pub content : List ℕ → Form
content n =
    if is_word (codes "EMPTY") n || is_word (codes "CDATA") n || is_word (codes "RCDATA") n then f.Whole
    else if is_word (codes "ANY") n then f.AfterContent
    else f.Broken

-- the declared values that are keywords (11.3.3)
abbrev pub is_declared_value : List ℕ → Bool
is_declared_value n =
    is_word (codes "CDATA") n || is_word (codes "ENTITY") n || is_word (codes "ENTITIES") n
    || is_word (codes "ID") n || is_word (codes "IDREF") n || is_word (codes "IDREFS") n
    || is_word (codes "NAME") n || is_word (codes "NAMES") n || is_word (codes "NMTOKEN") n
    || is_word (codes "NMTOKENS") n || is_word (codes "NUMBER") n || is_word (codes "NUMBERS") n
    || is_word (codes "NUTOKEN") n || is_word (codes "NUTOKENS") n

abbrev pub declared : List ℕ → Form
declared n =
    if is_word (codes "NOTATION") n then f.Notations else if is_declared_value n then f.Default else f.Broken

-- #FIXED and a value, or one of the others (11.3.4)
abbrev pub default_word : List ℕ → Form
default_word n =
    if is_word (codes "FIXED") n then f.Fixed
    else if is_word (codes "REQUIRED") n || is_word (codes "CURRENT") n || is_word (codes "CONREF") n || is_word (codes "IMPLIED") n then f.AttributeOrEnd
    else f.Broken

-- data text and bracketed text have a keyword before their literal (10.5.3, 10.5.4)
abbrev pub is_text_kind : List ℕ → Bool
is_text_kind n =
    is_word (codes "CDATA") n || is_word (codes "SDATA") n || is_word (codes "PI") n
    || is_word (codes "STARTTAG") n || is_word (codes "ENDTAG") n || is_word (codes "MS") n || is_word (codes "MD") n

abbrev pub entity_value : List ℕ → Form
entity_value n = if is_text_kind n then f.EntityText else external owner.Entity n

-- a mark of omission: O or - (11.2.2)
abbrev pub start_omission : List ℕ → Form
start_omission n = if is_word (codes "O") n then f.EndOmission else content n

abbrev pub end_omission : List ℕ → Form
end_omission n = if is_word (codes "O") n then f.Content else f.Broken

-- AFTER A NAME
abbrev pub after_name : Form → List ℕ → Form
after_name f.Keyword n = begun n
after_name f.DoctypeName n = f.DoctypeNamed
after_name f.DoctypeNamed n = external owner.Doctype n
after_name f.ElementNames n = f.StartOmission
after_name f.StartOmission n = start_omission n
after_name f.EndOmission n = end_omission n
after_name f.Content n = content n
after_name (f.Model level) n = f.Model level
after_name f.ListNames n = f.Attribute
after_name f.Attribute n = f.Declared
after_name f.AttributeOrEnd n = f.Declared
after_name f.Declared n = declared n
after_name f.Default n = f.AttributeOrEnd
after_name f.Fixed n = f.AttributeOrEnd
after_name f.EntityName n = f.EntityValue
after_name f.ParameterName n = f.EntityValue
after_name f.EntityValue n = entity_value n
after_name f.DataNotation n = f.Whole
after_name f.NotationName n = f.NotationNamed
after_name f.NotationNamed n = external owner.Notation n
after_name (f.System o) n = after_external o n
after_name (f.PublicNamed o) n = after_external o n
after_name (f.External o) n = after_external o n
after_name f.MapName n = f.MapLiteral
after_name f.MapEntity n = f.MapLiteralOrEnd
after_name f.UsedMap n = f.MapTargets
after_name f.MapTargets n = f.Whole
after_name f.Statuses n = f.Statuses
after_name (f.Group g due c) n = if due then f.Group g false c else f.Broken
after_name _ n = f.Broken

-- AFTER A TOKEN that is no name: a name token group and an attribute value may have one (11.3.3, 11.3.4)
abbrev pub token_in : Grouped → Bool → Option Delim → Form
token_in grouped.Tokens true c = f.Group grouped.Tokens false c
token_in _ due c = f.Broken

abbrev pub after_token : Form → Form
after_token f.Default = f.AttributeOrEnd
after_token f.Fixed = f.AttributeOrEnd
after_token (f.Group g due c) = token_in g due c
after_token _ = f.Broken

-- AFTER A RESERVED NAME (`#` and a name)
abbrev pub after_reserved : Form → List ℕ → Form
after_reserved f.DoctypeName n = if is_word (codes "IMPLIED") n then f.LeftOut OtherOut else f.Broken
after_reserved (f.Model level) n = if is_word (codes "PCDATA") n then f.Model level else f.Broken
after_reserved f.ListNames n = if is_word (codes "NOTATION") n then f.LeftOut OtherOut else f.Broken
after_reserved f.Default n = default_word n
after_reserved f.EntityName n = if is_word (codes "DEFAULT") n then f.LeftOut OtherOut else f.Broken
after_reserved f.UsedMap n = if is_word (codes "EMPTY") n then f.MapTargets else f.Broken
after_reserved _ n = f.Broken

-- which literal may stand: parameter literals (10.1.2), minimum and system literals (10.1.6, 10.1.7),
-- attribute value literals (7.9.3)
abbrev pub literal_kind : Form → LiteralKind
literal_kind f.EntityValue = Parameter
literal_kind f.EntityText = Parameter
literal_kind f.MapLiteral = Parameter
literal_kind f.MapLiteralOrEnd = Parameter
literal_kind (f.System o) = Plain
literal_kind (f.Public o) = Plain
literal_kind (f.PublicNamed o) = Plain
literal_kind f.Default = Value
literal_kind f.Fixed = Value
literal_kind _ = NoLiteral

-- AFTER A LITERAL
abbrev pub after_literal : Form → Form
after_literal f.EntityValue = f.Whole
after_literal f.EntityText = f.Whole
after_literal f.MapLiteral = f.MapEntity
after_literal f.MapLiteralOrEnd = f.MapEntity
after_literal (f.System o) = f.External o
after_literal (f.Public o) = f.PublicNamed o
after_literal (f.PublicNamed o) = f.External o
after_literal f.Default = f.AttributeOrEnd
after_literal f.Fixed = f.AttributeOrEnd
after_literal _ = f.Broken

-- signs: which go on, by the place
abbrev pub at_grpo : Form → Delim → Form
at_grpo x Grpo = x
at_grpo x _ = f.Broken

abbrev pub ended_by_dso : Delim → Form
ended_by_dso Dso = f.Whole
ended_by_dso _ = f.Broken

abbrev pub at_dso : Owner → Delim → Form
at_dso owner.Doctype d = ended_by_dso d
at_dso o d = f.Broken

abbrev pub at_start_omission : Delim → Form
at_start_omission Minus = f.EndOmission
at_start_omission Grpo = f.Model 1
at_start_omission _ = f.Broken

abbrev pub at_end_omission : Delim → Form
at_end_omission Minus = f.Content
at_end_omission _ = f.Broken

abbrev pub out_of_model : ℕ → Form
out_of_model level = if level == 1 then f.AfterModel else f.Model (level - 1)

-- A model group is read up to its last `)`; its levels are counted, up to 2^32 - 1 (11.2.4).
abbrev pub in_model : ℕ → Delim → Form
in_model level Grpo = f.Model (min (level + 1) 4294967295)
in_model level Grpc = out_of_model level
in_model level Seq = f.Model level
in_model level Or = f.Model level
in_model level And = f.Model level
in_model level Opt = f.Model level
in_model level Plus = f.Model level
in_model level Rep = f.Model level
in_model level _ = f.Broken

-- after the model group: its mark, exclusions, inclusions (11.2.4, 11.2.5)
abbrev pub after_model : Delim → Form
after_model Opt = f.AfterContent
after_model Rep = f.AfterContent
after_model Plus = f.AfterModelPlus
after_model Minus = f.Exclusions
after_model _ = f.Broken

-- A `+` after the model is its mark, or begins the inclusions where `(` follows.
abbrev pub after_model_plus : Delim → Form
after_model_plus Grpo = group grouped.Inclusions
after_model_plus Minus = f.Exclusions
after_model_plus Plus = f.Inclusions
after_model_plus _ = f.Broken

abbrev pub after_content : Delim → Form
after_content Minus = f.Exclusions
after_content Plus = f.Inclusions
after_content _ = f.Broken

abbrev pub after_exclusions : Delim → Form
after_exclusions Plus = f.Inclusions
after_exclusions _ = f.Broken

abbrev pub at_pero : Delim → Form
at_pero Pero = f.ParameterName
at_pero _ = f.Broken

-- what follows a group
abbrev pub after_group : Grouped → Form
after_group grouped.Elements = f.StartOmission
after_group grouped.Lists = f.Attribute
after_group grouped.Notations = f.Default
after_group grouped.Tokens = f.Default
after_group grouped.Exclusions = f.AfterExclusions
after_group grouped.Inclusions = f.Whole
after_group grouped.Mapped = f.Whole

-- A name group, or name token group, has one kind of connector (10.1.3).
abbrev pub connects : Option Delim → Delim → Bool
connects None Seq = true
connects None Or = true
connects None And = true
connects (Some Seq) Seq = true
connects (Some Or) Or = true
connects (Some And) And = true
connects c d = false

abbrev pub is_grpc : Delim → Bool
is_grpc Grpc = true
is_grpc _ = false

abbrev pub in_group : Grouped → Option Delim → Delim → Form
in_group g c d =
    if is_grpc d then after_group g else if connects c d then f.Group g true (Some d) else f.Broken

-- AFTER A SIGN
abbrev pub after_sign : Form → Delim → Form
after_sign f.DoctypeNamed d = at_dso owner.Doctype d
after_sign (f.System o) d = at_dso o d
after_sign (f.PublicNamed o) d = at_dso o d
after_sign (f.External o) d = at_dso o d
after_sign f.ElementNames d = at_grpo (group grouped.Elements) d
after_sign f.StartOmission d = at_start_omission d
after_sign f.EndOmission d = at_end_omission d
after_sign f.Content d = at_grpo (f.Model 1) d
after_sign (f.Model level) d = in_model level d
after_sign f.AfterModel d = after_model d
after_sign f.AfterModelPlus d = after_model_plus d
after_sign f.AfterContent d = after_content d
after_sign f.Exclusions d = at_grpo (group grouped.Exclusions) d
after_sign f.AfterExclusions d = after_exclusions d
after_sign f.Inclusions d = at_grpo (group grouped.Inclusions) d
after_sign f.ListNames d = at_grpo (group grouped.Lists) d
after_sign f.Declared d = at_grpo (group grouped.Tokens) d
after_sign f.Notations d = at_grpo (group grouped.Notations) d
after_sign f.EntityName d = at_pero d
after_sign f.MapTargets d = at_grpo (group grouped.Mapped) d
after_sign f.Statuses d = ended_by_dso d
after_sign (f.Group g due c) d = if due then f.Broken else in_group g c d
after_sign _ d = f.Broken

-- whether the declaration may end here
abbrev pub is_complete : Form → Bool
is_complete f.Comment = true
is_complete f.Whole = true
is_complete f.DoctypeNamed = true
is_complete f.AfterModel = true
is_complete f.AfterModelPlus = true
is_complete f.AfterContent = true
is_complete f.AfterExclusions = true
is_complete f.AttributeOrEnd = true
is_complete (f.System o) = true
is_complete (f.PublicNamed o) = true
is_complete (f.External o) = true
is_complete f.MapLiteralOrEnd = true
is_complete f.MapTargets = true
is_complete _ = false

-- Mode Grp holds in groups (9.6.1).
abbrev pub is_in_group : Form → Bool
is_in_group (f.Model level) = true
is_in_group (f.Group g due c) = true
is_in_group _ = false

-- A parameter separator follows the keyword; a comment declaration has none (10.3).
abbrev pub may_refer : Form → Bool
may_refer f.Comment = false
may_refer f.Keyword = false
may_refer _ = true
