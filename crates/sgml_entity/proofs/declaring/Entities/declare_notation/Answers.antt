use Rattle.std.proofs.Common.{ap, ◌∙◌, sym, ◌≡◌, ◌++◌, ◌∷◌, [], length, arith, List}
use Rattle.sgml_entity.specs.declared.kinds.Notation.{Notation}
use Rattle.sgml_entity.proofs.Numbers.{absent_notation, added_notation}
use Rattle.sgml_entity.proofs.declaring.Entities.declare_notation.Goals as goal

pub add-requires : goal.add-requires
add-requires c =
    absent_notation c.self.inside.of_notations c.self.inside.notations.items c.args.self.now.notations c.args.name c.items.result.now c.notation_number.result
    c.self.invariant.notations_are (ap (λ t. t.notations) c.self.view_is) c.items.ensures.list
    c.notation_number.ensures (sym c.is_some.ensures ∙ c.if-is_some.false)

pub invariant_of-self-2 : goal.invariant_of-self-2
invariant_of-self-2 c =
    let same : length c.self.inside.notations.items ≡ length c.args.self.now.notations = ap (λ t. length t.notations) c.self.view_is in
    added_notation c.self.inside.entities.items c.self.inside.notations.items c.push_reserved.new.self.items c.self.inside.general c.self.inside.parameter c.self.inside.of_notations c.add.new.self
    (record { name = c.args.name; external = c.args.external }) c.items.result.now _
    c.self.invariant (c.push_reserved.ensures.items ∙ ap (λ (os : List Notation). os ++ record { name = c.args.name; external = c.args.external } ∷ []) c.in_ok-reserve.ensures.items) c.items.ensures.list
    (omega arith) (omega arith) c.in_ok-add.ensures.ok
