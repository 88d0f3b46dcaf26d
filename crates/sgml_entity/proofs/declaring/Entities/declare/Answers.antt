use Rattle.std.proofs.Common.{ap, ◌∙◌, sym, ◌≡◌, ◌++◌, ◌∷◌, [], length, arith, List}
use Rattle.sgml_entity.specs.declared.kinds.Entity.{Entity}
use Rattle.sgml_entity.specs.declared.kinds.Space.TheVariants.{General, Parameter}
use Rattle.sgml_entity.proofs.Numbers.{absent, added_general, added_parameter}
use Rattle.sgml_entity.proofs.declaring.Entities.declare.Goals as goal

pub add-requires : goal.add-requires
add-requires c =
    absent General c.self.inside.general c.self.inside.entities.items c.args.self.now.entities c.args.entity.name c.items.result.now c.lookup.result
    c.self.invariant.general_is (ap (λ t. t.entities) c.self.view_is) c.items.ensures.list
    (rw c.in-General.is at c.lookup.ensures) (sym c.is_some.ensures ∙ c.if-is_some.false)

pub add-requires-in-Parameter : goal.add-requires-in-Parameter
add-requires-in-Parameter c =
    absent Parameter c.self.inside.parameter c.self.inside.entities.items c.args.self.now.entities c.args.entity.name c.items-in-Parameter.result.now c.lookup.result
    c.self.invariant.parameter_is (ap (λ t. t.entities) c.self.view_is) c.items-in-Parameter.ensures.list
    (rw c.in-Parameter.is at c.lookup.ensures) (sym c.is_some.ensures ∙ c.if-is_some.false)

pub invariant_of-self-in-General : goal.invariant_of-self-in-General
invariant_of-self-in-General c =
    let same : length c.self.inside.entities.items ≡ length c.args.self.now.entities = ap (λ t. length t.entities) c.self.view_is in
    added_general c.self.inside.entities.items c.push_reserved.new.self.items c.self.inside.notations.items c.self.inside.general c.add.new.self c.self.inside.parameter c.self.inside.of_notations c.args.entity c.items.result.now _
    c.self.invariant (c.push_reserved.ensures.items ∙ ap (λ (es : List Entity). es ++ c.args.entity ∷ []) c.in_ok-reserve.ensures.items) c.in-General.is c.items.ensures.list
    (omega arith) (omega arith) c.in_ok-add-in-General.ensures.ok

pub invariant_of-self-in-Parameter : goal.invariant_of-self-in-Parameter
invariant_of-self-in-Parameter c =
    let same : length c.self.inside.entities.items ≡ length c.args.self.now.entities = ap (λ t. length t.entities) c.self.view_is in
    added_parameter c.self.inside.entities.items c.push_reserved-in-Parameter.new.self.items c.self.inside.notations.items c.self.inside.general c.self.inside.parameter c.add-in-Parameter.new.self c.self.inside.of_notations c.args.entity c.items-in-Parameter.result.now _
    c.self.invariant (c.push_reserved-in-Parameter.ensures.items ∙ ap (λ (es : List Entity). es ++ c.args.entity ∷ []) c.in_ok-reserve.ensures.items) c.in-Parameter.is c.items-in-Parameter.ensures.list
    (omega arith) (omega arith) c.in_ok-add-in-Parameter.ensures.ok
