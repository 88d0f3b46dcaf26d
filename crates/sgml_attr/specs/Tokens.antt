-- The tokens of a value (7.9.4, 9.3, 11.3.3).
use Rattle.std.specs.Prelude.{ℕ, ◌==◌, ◌&&◌, Bool, true, false, List, [], ◌∷◌, if◌then◌else◌, map, nat_lt}
use Rattle.std.specs.List.{list_all}
use Rattle.sgml_text.specs.Characters.{is_digit}
use Rattle.sgml_names.specs.Naming.{cased_character}
use Rattle.sgml_text.specs.NameCharacters.{is_name_character, is_name_of}
use Rattle.sgml_text.specs.declared.name_set.NameSet.{NameSet}
use Rattle.sgml_syntax.specs.declared.syntax.Syntax.{Syntax}
use Rattle.sgml_text.specs.declared.unit.Unit.{Unit as AnyUnit}
use Rattle.sgml_attr.specs.declared.definition.Declared.{Declared}
use Rattle.sgml_attr.specs.declared.definition.Declared.TheVariants as declared
use Rattle.sgml_attr.specs.declared.tokens.Kind.{Kind}
use Rattle.sgml_attr.specs.declared.tokens.Kind.TheVariants as kinds
use Rattle.sgml_attr.specs.Parts.{character_of, parts}

-- one name character or more
abbrev pub is_name_token : NameSet → List ℕ → Bool
is_name_token set [] = false
is_name_token set (b ∷ bytes) = is_name_character set b && list_all (is_name_character set) bytes

-- one digit or more
abbrev pub is_number : List ℕ → Bool
is_number [] = false
is_number (b ∷ bytes) = is_digit b && list_all is_digit bytes

-- a digit and then name characters
abbrev pub is_number_token : NameSet → List ℕ → Bool
is_number_token set [] = false
is_number_token set (b ∷ bytes) = is_digit b && list_all (is_name_character set) bytes

abbrev pub is_token : NameSet → Kind → List ℕ → Bool
is_token set kinds.OfName bytes = is_name_of set bytes
is_token set kinds.OfNameToken bytes = is_name_token set bytes
is_token set kinds.OfNumber bytes = is_number bytes
is_token set kinds.OfNumberToken bytes = is_number_token set bytes

-- the kind of token of each declared value but CDATA, which has none
abbrev pub kind_of : Declared → Kind
kind_of declared.Nmtoken = kinds.OfNameToken
kind_of declared.Nmtokens = kinds.OfNameToken
kind_of (declared.Group names) = kinds.OfNameToken
kind_of declared.Number = kinds.OfNumber
kind_of declared.Numbers = kinds.OfNumber
kind_of declared.Nutoken = kinds.OfNumberToken
kind_of declared.Nutokens = kinds.OfNumberToken
kind_of _ = kinds.OfName

-- one token or more are declared
abbrev pub is_list : Declared → Bool
is_list declared.Entities = true
is_list declared.Idrefs = true
is_list declared.Names = true
is_list declared.Nmtokens = true
is_list declared.Numbers = true
is_list declared.Nutokens = true
is_list _ = false

abbrev pub is_entity : Declared → Bool
is_entity declared.Entity = true
is_entity declared.Entities = true
is_entity _ = false

-- Names of entities are folded by NAMECASE ENTITY, and all other tokens by NAMECASE GENERAL (13.4.5).
abbrev pub folds : Syntax → Declared → Bool
folds syntax declared = if is_entity declared then syntax.entity_fold else syntax.general_fold

abbrev pub token_of : Bool → List AnyUnit → List ℕ
token_of folding part = map (λ u. cased_character folding (character_of u)) part

-- the tokens that a value has, folded
abbrev pub tokens : Bool → List AnyUnit → List (List ℕ)
tokens folding units = map (token_of folding) (parts units)

-- as many tokens as are declared
abbrev pub is_count : Bool → ℕ → Bool
is_count several n = if several then nat_lt 0 n else n == 1
