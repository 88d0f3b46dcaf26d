-- Attribute list declarations (11.3), after their keyword.
use Rattle.std.specs.Prelude.{ℕ, zero, suc, Bool, true, false, List, [], ◌∷◌, ◌++◌, length, Option, None, Some, if◌then◌else◌, codes, ◌≡◌, ◌≤◌}
use Rattle.sgml_delim.specs.declared.delim.Delim.TheVariants as sign
use Rattle.sgml_text.specs.Units.{characters}
use Rattle.sgml_text.specs.declared.unit.Unit.{Unit as AnyUnit}
use Rattle.sgml_decl_lexemes.specs.sgml_attr.declared.definition.Declared.{Declared}
use Rattle.sgml_decl_lexemes.specs.sgml_attr.declared.definition.Declared.TheVariants as declared
use Rattle.sgml_decl_lexemes.specs.sgml_attr.declared.definition.Default.{Default}
use Rattle.sgml_decl_lexemes.specs.sgml_attr.declared.definition.Default.TheVariants as default
use Rattle.sgml_text.specs.Characters.{is_word}
use Rattle.sgml_decl_forms.specs.Words.{is_keyword}
use Rattle.sgml_decl_lexemes.specs.declared.lexeme.Lexeme.{Lexeme}
use Rattle.sgml_decl_lexemes.specs.declared.lexeme.Lexeme.TheVariants.{Name, Token, Reserved, Value, Sign}
use Rattle.sgml_decl_forms.specs.declared.attlist.AttributeForm.{AttributeForm}
use Rattle.sgml_decl_forms.specs.declared.attlist.AttlistDeclaration.{AttlistDeclaration}
use Rattle.sgml_decl_forms.specs.Words.{◌>>=◌, name_at}
use Rattle.sgml_decl_forms.specs.Groups.{names_at, name_group_at, token_group_at}

-- the declared values that are keywords (11.3.3)
abbrev pub value_words : List (List ℕ × Declared)
value_words =
    (codes "CDATA", declared.Cdata) ∷ (codes "ENTITY", declared.Entity) ∷ (codes "ENTITIES", declared.Entities)
    ∷ (codes "ID", declared.Id) ∷ (codes "IDREF", declared.Idref) ∷ (codes "IDREFS", declared.Idrefs)
    ∷ (codes "NAME", declared.Name) ∷ (codes "NAMES", declared.Names)
    ∷ (codes "NMTOKEN", declared.Nmtoken) ∷ (codes "NMTOKENS", declared.Nmtokens)
    ∷ (codes "NUMBER", declared.Number) ∷ (codes "NUMBERS", declared.Numbers)
    ∷ (codes "NUTOKEN", declared.Nutoken) ∷ (codes "NUTOKENS", declared.Nutokens) ∷ []

-- what a keyword of the table says
abbrev pub worded : {A : Type 0} → List (List ℕ × A) → List ℕ → Option A
worded [] n = None
worded (entry ∷ table) n = if is_word entry.0 n then Some entry.1 else worded table n

-- `(` of the names of notations
abbrev pub notations_at : List Lexeme → Option (Declared × List Lexeme)
notations_at (Sign sign.Grpo ∷ ds) = name_group_at ds >>= (λ g. Some (declared.Notation g.0, g.1))
notations_at _ = None

abbrev pub keyword_at : List ℕ → List Lexeme → Option (Declared × List Lexeme)
keyword_at n ds = if is_word (codes "NOTATION") n then notations_at ds else (worded value_words n >>= (λ v. Some (v, ds)))

-- a declared value: a keyword, NOTATION and names, or a group of name tokens (11.3.3)
abbrev pub declared_at : List Lexeme → Option (Declared × List Lexeme)
declared_at (Name n ∷ ds) = keyword_at n ds
declared_at (Sign sign.Grpo ∷ ds) = token_group_at ds >>= (λ g. Some (declared.Group g.0, g.1))
declared_at _ = None

-- a value in quotes, or without them (7.9.3)
abbrev pub value_at : List Lexeme → Option (List AnyUnit × List Lexeme)
value_at (Value u ∷ ds) = Some (u, ds)
value_at (Name n ∷ ds) = Some (characters n, ds)
value_at (Token t ∷ ds) = Some (characters t, ds)
value_at _ = None

-- the default values that are keywords but FIXED (11.3.4)
abbrev pub default_words : List (List ℕ × Default)
default_words =
    (codes "REQUIRED", default.Required) ∷ (codes "CURRENT", default.Current)
    ∷ (codes "CONREF", default.Conref) ∷ (codes "IMPLIED", default.Implied) ∷ []

abbrev pub reserved_default : List ℕ → List Lexeme → Option (Default × List Lexeme)
reserved_default n ds =
    if is_word (codes "FIXED") n then (value_at ds >>= (λ v. Some (default.Fixed v.0, v.1)))
    else (worded default_words n >>= (λ d. Some (d, ds)))

-- a default value: a value, #FIXED and a value, or a keyword (11.3.4)
abbrev pub default_at : List Lexeme → Option (Default × List Lexeme)
default_at (Reserved n ∷ ds) = reserved_default n ds
default_at ds = value_at ds >>= (λ v. Some (default.Value v.0, v.1))

-- an attribute definition (11.3)
unfoldable pub attribute_at : List Lexeme → Option (AttributeForm × List Lexeme)
attribute_at ds = do
  n ← name_at ds
  v ← declared_at n.1
  d ← default_at v.1
  Some (record { name = n.0; declared = v.0; default = d.0 }, d.1)

-- Up to n definitions behind those that are done, to the end of the lexemes.
abbrev pub attributes_at : ℕ → List AttributeForm → List Lexeme → Option (List AttributeForm)
attributes_at n done [] = Some done
attributes_at zero done (d ∷ ds) = None
attributes_at (suc n) done (d ∷ ds) = attribute_at (d ∷ ds) >>= (λ a. attributes_at n (done ++ a.0 ∷ []) a.1)

-- One definition or more. Each has a lexeme at least, so there are no more of them than lexemes.
unfoldable pub attlist_at : List Lexeme → Option AttlistDeclaration
attlist_at ds = do
  n ← names_at ds
  a ← attribute_at n.1
  more ← attributes_at (length a.1) (a.0 ∷ []) a.1
  Some (record { names = n.0; attributes = more })

-- The same in other words: these are the definitions of the lexemes, one after another.
abbrev pub AreAttributes : List AttributeForm → List Lexeme → Type 0
AreAttributes [] ds = ds ≡ []
AreAttributes (a ∷ more) ds = (rest : List Lexeme) × (attribute_at ds ≡ Some (a, rest)) × AreAttributes more rest

-- What is read behind a first definition are the definitions that stand there, and n of them at most are read.
abbrev pub StandOneAfterAnother : Type 0
StandOneAfterAnother =
    (n : ℕ) (first : AttributeForm) (more : List AttributeForm) (ds : List Lexeme) →
    (attributes_at n (first ∷ []) ds ≡ Some (first ∷ more) → AreAttributes more ds)
    × (AreAttributes more ds → length more ≤ n → attributes_at n (first ∷ []) ds ≡ Some (first ∷ more))
