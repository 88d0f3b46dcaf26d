-- NAMES as the declarations of a document type have them (9.3, 13.4.5, 13.4.8).
use Rattle.std.specs.Prelude.{◌≡◌, ℕ, true, Some, slice_get}
use Rattle.sgml_theory_full.specs.entity.declared.kinds.Entity.{Entity}
use Rattle.sgml_theory_full.specs.attr.declared.definition.Definition.{Definition}
use Rattle.sgml_theory_full.specs.dtd.Doctypes.{Doctype}
use Rattle.sgml_theory_full.specs.theory_reading.Names.{Name}
use Rattle.sgml_theory_full.specs.theory_reading.Types.{is_declared, attributes, entity}
use Rattle.sgml_theory_full.specs.Named.{IsGeneralName, IsEntityName}

-- each declared element type, each attribute and each entity has a name that is folded, of at most NAMELEN characters
pub record HasNames (d : Doctype) : Type 0 where
  pub types : (n : Name) → is_declared d n ≡ true → IsGeneralName d.syntax n
  pub definitions : (n : Name) (i : ℕ) (x : Definition) → slice_get (attributes d n) i ≡ Some x
      → IsGeneralName d.syntax x.name
  pub entities : (number : ℕ) (e : Entity) → entity d number ≡ Some e → IsEntityName d.syntax e.name
