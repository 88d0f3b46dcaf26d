-- The attribute that a specification names, as it is found.
use Rattle.std.proofs.Common.{◌≡◌, ◌<◌, ◌∙◌, sym, subst, ℕ, Bool, List, Option, Some, None, length, map}
use Rattle.std.specs.Prelude.{Result, Ok, Err, IfOk, IfSome}
use Rattle.sgml_text.specs.declared.unit.Unit.{Unit as AnyUnit}
use Rattle.sgml_attr.specs.declared.definition.Definition.{Definition}
use Rattle.sgml_attr.specs.declared.index.AttributeIndex.{AttributeIndex}
use Rattle.sgml_names.specs.Naming.{cased_character}
use Rattle.sgml_attr.specs.Tokens.{token_of}
use Rattle.sgml_attr.specs.Matching.{attribute_by}
use Rattle.sgml_attr.specs.Finding.{attribute_in, IsIndexOf}
use Rattle.sgml_attr.proofs.Numbering.{attribute-within}

in-index : (index : AttributeIndex) (ds : List Definition) (folding : Bool) (name : Option (List ℕ)) (units : List AnyUnit) → IsIndexOf index ds
    → attribute_in index folding name units ≡ attribute_by folding ds name units
in-index index ds folding (Some name) units h = h.named (map (cased_character folding) name)
in-index index ds folding None units h = h.only (token_of folding units)

index-is : (o : Option AttributeIndex) (index : AttributeIndex) (ds : List Definition) → IfSome o (λ x. IsIndexOf x ds) → o ≡ Some index → IsIndexOf index ds
index-is o index ds h e = subst (λ (x : Option AttributeIndex). IfSome x (λ y. IsIndexOf y ds)) e h

-- the index finds it
pub indexed-of : {E : Type 0} (r : Result (Option ℕ) E) (o : Option AttributeIndex) (index : AttributeIndex) (ds : List Definition) (folding : Bool) (name : Option (List ℕ)) (units : List AnyUnit)
    → IfSome o (λ x. IsIndexOf x ds) → o ≡ Some index → IfOk r (λ x. x ≡ attribute_in index folding name units) → IfOk r (λ x. x ≡ attribute_by folding ds name units)
indexed-of (Ok x) o index ds folding name units h e is = is ∙ in-index index ds folding name units (index-is o index ds h e)
indexed-of (Err x) o index ds folding name units h e is = tt

-- it is one of the definitions
pub named-within : {E : Type 0} (r : Result (Option ℕ) E) (ds : List Definition) (folding : Bool) (name : Option (List ℕ)) (units : List AnyUnit)
    → IfOk r (λ x. x ≡ attribute_by folding ds name units) → IfOk r (λ x. IfSome x (λ i. i < length ds))
named-within (Ok x) ds folding name units is = subst (λ (o : Option ℕ). IfSome o (λ i. i < length ds)) (sym is) (attribute-within folding ds name units)
named-within (Err x) ds folding name units is = tt

pub some-within : (o : Option ℕ) (i n : ℕ) → IfSome o (λ x. x < n) → o ≡ Some i → i < n
some-within o i n h e = subst (λ (x : Option ℕ). IfSome x (λ y. y < n)) e h
