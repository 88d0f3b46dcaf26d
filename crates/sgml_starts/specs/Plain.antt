-- A value that is one token by itself.
use Rattle.std.specs.Prelude.{◌≡◌, ℕ, ◌&&◌, Bool, true, false, List, length, nat_lt, not, Some, None, Ok}
use Rattle.sgml_text.specs.Refusals.{first_row}
use Rattle.sgml_text.specs.NameCharacters.{is_name_of}
use Rattle.sgml_text.specs.declared.name_set.NameSet.{NameSet}
use Rattle.sgml_text.specs.Units.{characters}
use Rattle.sgml_names.specs.Lists.{has}
use Rattle.sgml_syntax.specs.declared.syntax.Syntax.{Syntax}
use Rattle.sgml_entity.specs.Entities.{Tables}
use Rattle.sgml_attr.specs.declared.definition.Declared.{Declared}
use Rattle.sgml_attr.specs.declared.definition.Declared.TheVariants as declared
use Rattle.sgml_attr.specs.declared.definition.Default.{Default}
use Rattle.sgml_attr.specs.declared.definition.Default.TheVariants as default
use Rattle.sgml_attr.specs.declared.definition.Definition.{Definition}
use Rattle.sgml_attr.specs.declared.value.AttrValue.{AttrValue}
use Rattle.sgml_attr.specs.Tokens.{is_number, is_name_token, is_number_token}
use Rattle.sgml_attr.specs.Literal.{interpreted}
use Rattle.sgml_attr.specs.Values.{units_give, value}
use Rattle.sgml_starts.specs.Rows.{rows}

abbrev pub is_fixed : Default → Bool
is_fixed (default.Fixed units) = true
is_fixed _ = false

-- one token is declared, of which no entity or notation has to be declared
abbrev pub is_of_token : Declared → Bool
is_of_token declared.Number = true
is_of_token declared.Name = true
is_of_token declared.Id = true
is_of_token declared.Idref = true
is_of_token declared.Nmtoken = true
is_of_token declared.Nutoken = true
is_of_token (declared.Group names) = true
is_of_token _ = false

-- such a token
abbrev pub is_plain : NameSet → Declared → List ℕ → Bool
is_plain set declared.Number t = is_number t
is_plain set declared.Name t = is_name_of set t
is_plain set declared.Id t = is_name_of set t
is_plain set declared.Idref t = is_name_of set t
is_plain set declared.Nmtoken t = is_name_token set t
is_plain set declared.Nutoken t = is_number_token set t
is_plain set (declared.Group names) t = is_name_token set t && has names t
is_plain set _ t = false

-- the value that these characters are to an attribute, whatever is declared besides
abbrev pub IsPlainValue : Syntax → Definition → List ℕ → AttrValue → Type 0
IsPlainValue syntax x bytes v = (tables : Tables) → value syntax x tables None (Some (characters bytes)) ≡ Ok v

-- one token of a list, where one is declared whose entities aren't asked for
abbrev pub is_of_list : NameSet → Declared → List ℕ → Bool
is_of_list set declared.Names t = is_name_of set t
is_of_list set declared.Idrefs t = is_name_of set t
is_of_list set declared.Nmtokens t = is_name_token set t
is_of_list set declared.Numbers t = is_number t
is_of_list set declared.Nutokens t = is_number_token set t
is_of_list set _ t = false

-- that doesn't pass NAMELEN
abbrev pub is_listed : Syntax → Declared → List ℕ → Bool
is_listed syntax declared t = not (nat_lt syntax.quantities.namelen (length t)) && is_of_list syntax.names declared t

-- the value that these characters are where it is declared so
abbrev pub IsListedValue : Syntax → Declared → List ℕ → AttrValue → Type 0
IsListedValue syntax declared bytes v = (tables : Tables) → units_give syntax declared tables None (characters bytes) ≡ Ok v

-- the value that these characters are to it where no earlier specification names it, and nothing is against it
abbrev pub IsCalmValue : Syntax → Definition → List ℕ → AttrValue → Type 0
IsCalmValue syntax x bytes v =
    (tables : Tables) → (first_row (rows syntax x tables false (interpreted x.declared (characters bytes))) ≡ None)
    × (value syntax x tables None (Some (interpreted x.declared (characters bytes))) ≡ Ok v)
