-- A VALUE IN A LITERAL (7.9.3, 7.9.4): what a literal gives an attribute, and the units that a value has.
use Rattle.std.specs.Prelude.{◌≡◌, ℕ, false, List, [], ◌∷◌, map, Some, None, option_map, unwrap_or, Ok}
use Rattle.sgml_full.specs.text.declared.unit.Unit.{Unit as AnyUnit}
use Rattle.sgml_full.specs.text.Units.{characters}
use Rattle.sgml_theory_starts.specs.syntax.declared.syntax.Syntax.{Syntax}
use Rattle.sgml_theory_starts.specs.entity.declared.kinds.Entity.{Entity}
use Rattle.sgml_theory_starts.specs.entity.Entities.{Tables, entity_at}
use Rattle.sgml_full.specs.attr.declared.definition.Declared.{Declared}
use Rattle.sgml_full.specs.attr.declared.definition.Definition.{Definition}
use Rattle.sgml_full.specs.attr.declared.value.AttrValue.{AttrValue}
use Rattle.sgml_full.specs.attr.declared.value.AttrValue.TheVariants as of
use Rattle.sgml_full.specs.attr.Literal.{joined, interpreted}
use Rattle.sgml_full.specs.attr.Values.{value}
use Rattle.sgml_full.specs.attr.Against.{passes_litlen}

-- the literal gives the attribute this value, and has at most LITLEN characters as it is interpreted (13.4.8)
pub record IsGivenBy (syntax : Syntax) (tables : Tables) (x : Definition) (literal : List AnyUnit) (v : AttrValue) : Type 0 where
  pub short : passes_litlen syntax (interpreted x.declared literal) ≡ false
  pub gives : value syntax x tables None (Some (interpreted x.declared literal)) ≡ Ok v

-- some literal does
abbrev pub IsGiven : Syntax → Tables → Definition → AttrValue → Type 0
IsGiven syntax tables x v = (literal : List AnyUnit) × IsGivenBy syntax tables x literal v

-- THE UNITS OF A VALUE: of character data the units, of tokens and names their characters, with one SPACE between
-- each two
abbrev pub name_at : List Entity → ℕ → List ℕ
name_at es number = unwrap_or (option_map (λ (e : Entity). e.name) (entity_at es number)) []

abbrev pub spelled : List (List ℕ) → List AnyUnit
spelled names = joined (map characters names)

abbrev pub units_of : List Entity → AttrValue → List AnyUnit
units_of es of.Implied = []
units_of es (of.Cdata us) = us
units_of es (of.Notation n) = spelled (n ∷ [])
units_of es (of.Entities ns) = spelled (map (name_at es) ns)
units_of es (of.Tokens ts) = spelled ts

-- the literal is read as the units of the value
abbrev pub Spells : Declared → List Entity → List AnyUnit → AttrValue → Type 0
Spells declared es literal v = interpreted declared literal ≡ units_of es v
