use Rattle.std.proofs.Common.{ℕ, List, Bool, false, ap, sym, ◌∙◌, get_or}
use Rattle.sgml_event_lines.proofs.Definitions.{entity_known, entity_put}
use Rattle.sgml_event_lines.proofs.defining.define_new.Goals as goal

pub returns-then-is_marked : goal.returns-then-is_marked
returns-then-is_marked g c = entity_known c.args.dtd.now c.args.name.now c.args.number _ _ c.args.pen.now c.requires.number
    (ap (λ (i : ℕ). get_or c.args.pen.now.entities.items i false) (sym c.saturating_sub-index.ensures) ∙ ap (λ (ms : List Bool). get_or ms c.saturating_sub-index.result false) (sym c.deref.ensures.value) ∙ sym c.is_marked.ensures ∙ c.if-is_marked.true)

pub returns : goal.returns
returns g c = entity_put c.args.dtd.now c.args.name.now c.args.number c.args.entity.now _ _ _ _ _ _ c.requires.number c.requires.there
    (ap (λ (i : ℕ). get_or c.args.pen.now.entities.items i false) (sym c.saturating_sub-index.ensures) ∙ ap (λ (ms : List Bool). get_or ms c.saturating_sub-index.result false) (sym c.deref.ensures.value) ∙ sym c.is_marked.ensures ∙ c.if-is_marked.false)
    c.define_body.ensures
