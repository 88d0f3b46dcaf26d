-- Which specification each attribute has (7.9).
use Rattle.std.specs.Prelude.{◌≡◌, ◌<◌, ◌↔◌, ℕ, Bool, false, List, if◌then◌else◌, length, map, take, Option, Some, None, position, slice_get, drop, ◌+◌}
use Rattle.std.specs.List.{list_any}
use Rattle.std.specs.Str.{bytes_eq}
use Rattle.sgml_syntax.specs.declared.syntax.Syntax.{Syntax}
use Rattle.sgml_text.specs.declared.unit.Unit.{Unit as AnyUnit}
use Rattle.sgml_attr.specs.declared.definition.Declared.{Declared}
use Rattle.sgml_attr.specs.declared.definition.Declared.TheVariants as declared
use Rattle.sgml_attr.specs.declared.definition.Definition.{Definition}
use Rattle.sgml_attr.specs.declared.definition.Spec.{Spec}
use Rattle.sgml_attr.specs.declared.error.AttrError.{AttrError}
use Rattle.sgml_attr.specs.declared.error.AttrError.TheVariants.{Memory, UnknownAttribute, Twice}
use Rattle.sgml_names.specs.Naming.{cased_character}
use Rattle.sgml_attr.specs.Tokens.{token_of}
use Rattle.sgml_names.specs.Lists.{has}

-- the name that is spelled, folded, is this one
abbrev pub is_named : Bool → List ℕ → Definition → Bool
is_named folding spelled d = bytes_eq (map (cased_character folding) spelled) d.name

-- the token is in a declared group of names or name tokens
abbrev pub has_member : List ℕ → Declared → Bool
has_member t (declared.Notation names) = has names t
has_member t (declared.Group names) = has names t
has_member t _ = false

-- the place, unless a later one passes the test too
abbrev pub unless_later : {K : Type 0} → (K → Bool) → List K → Option ℕ → Option ℕ
unless_later test xs None = None
unless_later test xs (Some i) = if list_any test (drop (i + 1) xs) then None else Some i

-- the place of the only one that passes the test
abbrev pub only_position : {K : Type 0} → (K → Bool) → List K → Option ℕ
only_position test xs = unless_later test xs (position test xs)

-- The number of the attribute that a specification names. A value alone names the one attribute in whose group it
-- is (7.9.1.2).
abbrev pub attribute_by : Bool → List Definition → Option (List ℕ) → List AnyUnit → Option ℕ
attribute_by folding ds (Some name) units = position (is_named folding name) ds
attribute_by folding ds None units = only_position (λ d. has_member (token_of folding units) d.declared) ds

abbrev pub attribute_of : Syntax → List Definition → Spec → Option ℕ
attribute_of syntax ds spec = attribute_by syntax.general_fold ds spec.name spec.value

-- the attribute that each specification names
abbrev pub attributes_of : Syntax → List Definition → List Spec → List (Option ℕ)
attributes_of syntax ds specs = map (attribute_of syntax ds) specs

-- Each specification names an attribute, and each of n attributes has the one specification that names it, or none.
pub record AreMatched (n : ℕ) (named matched : List (Option ℕ)) : Type 0 where
  pub as_many : length matched ≡ n
  pub each : (i j : ℕ) → (slice_get matched i ≡ Some (Some j)) ↔ (slice_get named j ≡ Some (Some i))
  pub all_named : (j : ℕ) → j < length named → (i : ℕ) × (slice_get named j ≡ Some (Some i))

-- the specifications before this one have nothing against them
abbrev pub MatchedBefore : ℕ → List (Option ℕ) → ℕ → Type 0
MatchedBefore n named j = (matched : List (Option ℕ)) × AreMatched n (take j named) matched

-- the first specification against which something is names no attribute
pub record IsUnknown (n : ℕ) (named : List (Option ℕ)) (j : ℕ) : Type 0 where
  pub before : MatchedBefore n named j
  pub unknown : slice_get named j ≡ Some None

-- it names the attribute of an earlier one
pub record IsTwice (n : ℕ) (named : List (Option ℕ)) (j : ℕ) : Type 0 where
  pub before : MatchedBefore n named j
  pub attribute : ℕ
  pub earlier : ℕ
  pub is_earlier : earlier < j
  pub here : slice_get named j ≡ Some (Some attribute)
  pub there : slice_get named earlier ≡ Some (Some attribute)

-- only these two reasons, and want of memory
abbrev pub IsAgainst : ℕ → List (Option ℕ) → AttrError → Type 0
IsAgainst n named Memory = Unit {0}
IsAgainst n named (UnknownAttribute j) = IsUnknown n named j
IsAgainst n named (Twice j) = IsTwice n named j
IsAgainst n named _ = ⊥
