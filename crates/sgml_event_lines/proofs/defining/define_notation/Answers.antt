use Rattle.std.specs.Vec.{with_items}
use Rattle.std.proofs.lemmas.List.{with_items_is}
use Rattle.sgml_esis.proofs.Holding.{puts_as}
use Rattle.std.proofs.Common.{◌≡◌, [], ◌∷◌, ◌++◌, List, Bool, true, false, ap, sym, ◌∙◌, refl, arith, get_or, set, length}
use Rattle.sgml_entity.specs.Entities.{notation_of}
use Rattle.sgml_event_lines.proofs.Definitions.{notation_put}
use Rattle.sgml_event_lines.proofs.defining.define_notation.Goals as goal

pub returns : goal.returns
returns g c =
    let ns = c.args.pen.now.notations in
    let long : length c.set_mark.new.marks ≡ ns.len = omega (arith, c.set_mark.auto.marks, c.deref_mut.ensures.len) in
    notation_put c.args.dtd.now c.args.name.now c.in-Some.number _ _ c.args.pen.now _ _ _ _ _ (record { held = c.put_name_line.new.held; entities = c.args.pen.now.entities; notations = with_items ns c.set_mark.new.marks })
    (sym (c.notation_number.ensures ∙ ap (λ os. notation_of os c.args.name.now) c.entities.ensures.notations) ∙ c.in-Some.is)
    (sym (c.is_marked.ensures ∙ ap (λ (ms : List Bool). get_or ms c.in-Some.number false) c.deref.ensures.value) ∙ c.if-is_marked.false)
    c.put_notation_external.ensures
    (puts_as _ _ _ _ _ _ (78 ∷ c.items.result.now ++ 10 ∷ []) _ (ap (λ v. 78 ∷ v ++ 10 ∷ []) c.items.ensures.list) c.put_name_line.ensures)
    refl
    (with_items_is ns c.set_mark.new.marks long ∙ c.set_mark.ensures ∙ ap (λ (ms : List Bool). set ms c.in-Some.number true) c.deref_mut.ensures.value)
