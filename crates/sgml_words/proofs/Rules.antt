-- The command as `clap` builds it, and the rules that names find.
use Rattle.std.proofs.Common.{◌≡◌, ◌∙◌, ℕ, Bool, true, false, cond, refl, ap, List, [], ◌∷◌, ◌++◌, map, codes, Option, Some, None, bytes_eq}
use Rattle.std.proofs.lemmas.Slice.Eq.{bytes_eq-Decides}
use Rattle.std.specs.List.{list_any}
use Rattle.clap.specs.Walk.{Rule, Text, arg_by_id, arg_by_long}
use Rattle.clap.specs.Simple.{Shape, built, is_simple}
use Rattle.clap.specs.Faults.{is_simple_and_free}
use Rattle.clap.specs.declared.builder.action.ArgAction.TheVariants.{Set}
use Rattle.clap.specs.declared.builder.value_parser.ValueParser.TheVariants as vp
use Rattle.sgml_words.specs.Words.{option_names, is_option}
use Rattle.sgml_words.specs.Clap.{command}

-- ---- the command, built

-- a rule of the command
abbrev pub rule : Text → Option Text → Option ℕ → Bool → Rule
rule id long index required = record {
  id = id;
  long = long;
  aliases = [];
  short = None;
  short_aliases = [];
  index = index;
  action = Some Set;
  range = Some (record { start_inclusive = 1; end_inclusive = 1 });
  value_names = 0;
  defaults = [];
  missing = [];
  trailing_var_arg = false;
  parser = Some vp.String;
  ignore_case = false;
  required = required;
  is_simple = true;
  is_free = true;
}

abbrev pub option_rule : Text → Rule
option_rule name = rule name (Some name) None false

abbrev pub file_rule : Rule
file_rule = rule (codes "FILE") None (Some 1) true

abbrev pub rules : List Rule
rules = map option_rule option_names ++ file_rule ∷ []

abbrev pub top : Shape
top = (built command).top

pub rules_are : top.rules ≡ rules
rules_are = refl

pub simple : is_simple command ≡ true
simple = refl

pub simple_and_free : is_simple_and_free command ≡ true
simple_and_free = refl

-- ---- texts

pub same_text : (a b : Text) → bytes_eq a b ≡ true → a ≡ b
same_text a b e = (bytes_eq-Decides a b).0 e

-- ---- the rules that names find

abbrev pub FindsLong : List Text → List Rule → Text → Type 0
FindsLong names tail name =
    arg_by_long (map option_rule names ++ tail) name
    ≡ cond (list_any (λ n. bytes_eq n name) names) (Some (option_rule name)) (arg_by_long tail name)

pub long_step : (n : Text) (names : List Text) (tail : List Rule) (name : Text) (b : Bool) → bytes_eq n name ≡ b
    → FindsLong names tail name → FindsLong (n ∷ names) tail name
long_step n names tail name true e ih = rw e (ap (λ m. Some (option_rule m)) (same_text n name e))
long_step n names tail name false e ih = rw e ih

pub finds_long : (names : List Text) (tail : List Rule) (name : Text) → FindsLong names tail name
finds_long [] tail name = refl
finds_long (n ∷ names) tail name = long_step n names tail name (bytes_eq n name) refl (finds_long names tail name)

abbrev pub FindsId : List Text → List Rule → Text → Type 0
FindsId names tail name =
    arg_by_id (map option_rule names ++ tail) name
    ≡ cond (list_any (λ n. bytes_eq n name) names) (Some (option_rule name)) (arg_by_id tail name)

pub id_step : (n : Text) (names : List Text) (tail : List Rule) (name : Text) (b : Bool) → bytes_eq n name ≡ b
    → FindsId names tail name → FindsId (n ∷ names) tail name
id_step n names tail name true e ih = rw e (ap (λ m. Some (option_rule m)) (same_text n name e))
id_step n names tail name false e ih = rw e ih

pub finds_id : (names : List Text) (tail : List Rule) (name : Text) → FindsId names tail name
finds_id [] tail name = refl
finds_id (n ∷ names) tail name = id_step n names tail name (bytes_eq n name) refl (finds_id names tail name)

pub long_option : (name : Text) → is_option name ≡ true → arg_by_long rules name ≡ Some (option_rule name)
long_option name e = finds_long option_names (file_rule ∷ []) name ∙ ap (λ b. cond b (Some (option_rule name)) None) e

pub no_long : (name : Text) → is_option name ≡ false → arg_by_long rules name ≡ None
no_long name e = finds_long option_names (file_rule ∷ []) name ∙ ap (λ b. cond b (Some (option_rule name)) None) e

-- the id is that of a rule
abbrev pub Known : Text → Type 0
Known id =
    (long : Option Text) × (index : Option ℕ) × (required : Bool) × (arg_by_id rules id ≡ Some (rule id long index required))

pub known_option : (name : Text) → is_option name ≡ true → Known name
known_option name e = (
  Some name,
  None,
  false,
  finds_id option_names (file_rule ∷ []) name
      ∙ ap (λ b. cond b (Some (option_rule name)) (arg_by_id (file_rule ∷ []) name)) e,
)

pub known_file : Known (codes "FILE")
known_file = (None, Some 1, true, refl)
