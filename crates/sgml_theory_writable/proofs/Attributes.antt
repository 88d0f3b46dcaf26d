-- Each attribute of a start that has values can be written.
use Rattle.std.proofs.Common.{◌≡◌, ℕ, zero, suc, Bool, true, List, [], ◌∷◌, map, Option, Some, None, option_map, unwrap_or, refl, sym, ap, ◌∙◌, subst}
use Rattle.std.specs.List.{list_all, slice_get}
use Rattle.std.proofs.lemmas.Option.{slice_get-map}
use Rattle.sgml_theory_again.specs.text.NameCharacters.{is_name_character}
use Rattle.sgml_theory_again.specs.text.declared.unit.Unit.{Unit as AnyUnit}
use Rattle.sgml_theory_again.specs.text.declared.unit.Unit.TheVariants as unit
use Rattle.sgml_theory_again.specs.entity.declared.kinds.Entity.{Entity}
use Rattle.sgml_theory_again.specs.entity.declared.kinds.Body.TheVariants as body
use Rattle.sgml_theory_again.specs.attr.declared.definition.Definition.{Definition}
use Rattle.sgml_theory_again.specs.attr.declared.value.AttrValue.{AttrValue}
use Rattle.sgml_theory_again.specs.attr.declared.value.AttrValue.TheVariants as of
use Rattle.sgml_theory_again.specs.dtd.Doctypes.{Doctype}
use Rattle.sgml_theory_again.specs.theory_reading.Names.{Name}
use Rattle.sgml_theory_again.specs.theory_reading.Types.{attributes, entity, entity_tables, name_of_entity}
use Rattle.sgml_theory_again.specs.theory_reading.Pieces.{Specification, How, Kind, Start}
use Rattle.sgml_theory_again.specs.theory_reading.State.{State}
use Rattle.sgml_theory_again.specs.theory_reading.Reads.{Attribute}
use Rattle.sgml_theory_again.specs.theory_spelling.Attributes.{value_of, attribute_of, valued}
use Rattle.sgml_theory_again.specs.sgml_theory_values.Laws.{HasValues, HasItsValue, ValuesAreGiven}
use Rattle.sgml_theory_again.specs.sgml_theory_full.Named.{AllAre, UnitIsWritten, IsToken, ValueIsWritten, AttributeIsWritten}
use Rattle.sgml_theory_again.specs.Names.{HasNames}
use Rattle.sgml_theory_again.specs.Laws.{ReferredIsEntity}
use Rattle.sgml_theory_writable.specs.Spelled.{UnitRefers, SpecificationRefers, IsSpelledSo, ValueRefers, ValuesRefer}
use Rattle.sgml_theory_writable.proofs.Basics.{one-some, all-so}
use Rattle.sgml_theory_writable.proofs.Tokens.{name-is-token, given-has-tokens}
use Rattle.sgml_theory_writable.proofs.Values.{value-of-refers}

all-mapped : {A B : Type 0} (P : B → Type 0) (f : A → B) (xs : List A) → ((i : ℕ) (x : A) → slice_get xs i ≡ Some x → P (f x)) → AllAre P (map f xs)
all-mapped P f [] g = tt
all-mapped P f (x ∷ xs) g = (g zero x refl, all-mapped P f xs (λ i y e. g (suc i) y e))

module _ (entities : ReferredIsEntity) (d : Doctype) (names : HasNames d) where
  unit-written : (u : AnyUnit) → UnitRefers d u → UnitIsWritten d u
  unit-written (unit.Byte b) a = tt
  unit-written (unit.Coded b) a = tt
  unit-written (unit.Sdata e) a = (a.0, entities d e (body.Sdata a.0) names a.1)

  entity-token : (e : ℕ) → IsToken d.syntax (name_of_entity d e)
  entity-token e = by (entity d e) refl
    where
      by : (o : Option Entity) → entity d e ≡ o → list_all (is_name_character d.syntax.names) (unwrap_or (option_map (λ (x : Entity). x.name) o) []) ≡ true
      by None at = refl
      by (Some x) at = name-is-token d.syntax.names x.name (names.entities e x at).is_name

  entity-tokens : (es : List ℕ) → AllAre (λ e. IsToken d.syntax (name_of_entity d e)) es
  entity-tokens [] = tt
  entity-tokens (e ∷ es) = (entity-token e, entity-tokens es)

  value-written : (x : Definition) (v : AttrValue) → HasItsValue d x v → ValueRefers d v → ValueIsWritten d v
  value-written x of.Implied g a = tt
  value-written x (of.Cdata us) g a = all-so (UnitRefers d) (UnitIsWritten d) us unit-written a
  value-written x (of.Notation n) g a = given-has-tokens d.syntax (entity_tables d) x (of.Notation n) g
  value-written x (of.Entities es) g a = entity-tokens es
  value-written x (of.Tokens ts) g a = given-has-tokens d.syntax (entity_tables d) x (of.Tokens ts) g

start-written : ValuesAreGiven → ReferredIsEntity → (s : State) (n : Name) (ss : List Specification) (how : How) (proper at_once : Bool)
    → HasNames s.context.doctype → ValuesRefer s.context.doctype s.currents → AllAre (SpecificationRefers s.context.doctype) ss
    → HasValues s (Start n ss how proper at_once) → AllAre (AttributeIsWritten s.context.doctype) (valued s (Start n ss how proper at_once))
unfolding valued
start-written values entities s n ss how proper at_once names refer so h =
    let d = s.context.doctype in
    let f = attribute_of d s.currents n ss in
    all-mapped (AttributeIsWritten d) f (attributes d n)
    (λ i x at.
    let g = values s n ss how proper at_once i x h at in
    let same : value_of d s.currents n ss x ≡ g.0 =
    ap (λ (a : Attribute). a.value)
    (one-some (f x) (record { attribute = x.name; declared = x.declared; value = g.0 }) (sym (slice_get-map f (attributes d n) i ∙ ap (option_map f) at) ∙ g.1)) in
    let its : HasItsValue d x (value_of d s.currents n ss x) = subst (HasItsValue d x) (sym same) g.2 in
    record {
      name = names.definitions n i x at;
      value = value-written entities d names x (value_of d s.currents n ss x) its (value-of-refers d s.currents refer n i x at ss so);
    })

-- of any piece
pub attributes-written : ValuesAreGiven → ReferredIsEntity → (s : State) (k : Kind) → HasNames s.context.doctype → ValuesRefer s.context.doctype s.currents
    → IsSpelledSo s.context.doctype k → HasValues s k → AllAre (AttributeIsWritten s.context.doctype) (valued s k)
unfolding valued
attributes-written values entities s (Start n ss how proper at_once) names refer so h = start-written values entities s n ss how proper at_once names refer so h
attributes-written values entities s _ names refer so h = tt
