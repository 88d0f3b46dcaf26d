use Rattle.std.specs.Vec.{with_items}
use Rattle.std.proofs.lemmas.List.{with_items_is}
use Rattle.std.proofs.Common.{◌≡◌, List, Bool, true, ap, ◌∙◌, refl, arith, set, length}
use Rattle.sgml_text.specs.declared.data_kind.DataKind.TheVariants.{Cdata, Sdata}
use Rattle.sgml_event_lines.proofs.Definitions.{internal_marked, external_marked, cdata_as, sdata_as, external_as}
use Rattle.sgml_event_lines.proofs.defining.define_body.Goals as goal

pub returns-in-Cdata : goal.returns-in-Cdata
returns-in-Cdata g c =
    let es = c.args.pen.now.entities in
    let long : length c.set_mark.new.marks ≡ es.len = omega (arith, c.set_mark.auto.marks, c.deref_mut.ensures.len) in
    cdata_as c.args.dtd.now c.args.name.now c.args.body.now c.in-Cdata.text _ _ _ _ _ _ c.in-Cdata.is
    (internal_marked c.args.dtd.now c.args.name.now Cdata c.in-Cdata.text c.args.index _ _ c.args.pen.now _ _ (record { held = c.put_internal.new.held; entities = with_items es c.set_mark.new.marks; notations = c.args.pen.now.notations })
    c.requires.number c.put_internal.ensures
    (with_items_is es c.set_mark.new.marks long ∙ c.set_mark.ensures ∙ ap (λ (ms : List Bool). set ms c.args.index true) c.deref_mut.ensures.value) refl)

pub returns-in-Sdata : goal.returns-in-Sdata
returns-in-Sdata g c =
    let es = c.args.pen.now.entities in
    let long : length c.set_mark-in-Sdata.new.marks ≡ es.len = omega (arith, c.set_mark-in-Sdata.auto.marks, c.deref_mut-in-Sdata.ensures.len) in
    sdata_as c.args.dtd.now c.args.name.now c.args.body.now c.in-Sdata.text _ _ _ _ _ _ c.in-Sdata.is
    (internal_marked c.args.dtd.now c.args.name.now Sdata c.in-Sdata.text c.args.index _ _ c.args.pen.now _ _ (record { held = c.put_internal-in-Sdata.new.held; entities = with_items es c.set_mark-in-Sdata.new.marks; notations = c.args.pen.now.notations })
    c.requires.number c.put_internal-in-Sdata.ensures
    (with_items_is es c.set_mark-in-Sdata.new.marks long ∙ c.set_mark-in-Sdata.ensures ∙ ap (λ (ms : List Bool). set ms c.args.index true) c.deref_mut-in-Sdata.ensures.value) refl)

pub returns-in-ExternalData : goal.returns-in-ExternalData
returns-in-ExternalData g c =
    let p = c.define_external.new.pen in
    let long : length c.set_mark-in-ExternalData.new.marks ≡ p.entities.len = omega (arith, c.set_mark-in-ExternalData.auto.marks, c.deref_mut-in-ExternalData.ensures.len) in
    external_as c.args.dtd.now c.args.name.now c.args.body.now c.in-ExternalData.kind c.in-ExternalData.external c.in-ExternalData.notation _ _ _ _ _ _ c.in-ExternalData.is
    (external_marked c.args.dtd.now c.args.name.now c.in-ExternalData.kind c.in-ExternalData.external c.in-ExternalData.notation c.args.index _ _ c.args.pen.now _ _ p (record { held = p.held; entities = with_items p.entities c.set_mark-in-ExternalData.new.marks; notations = p.notations })
    c.requires.number c.define_external.ensures refl
    (with_items_is p.entities c.set_mark-in-ExternalData.new.marks long ∙ c.set_mark-in-ExternalData.ensures ∙ ap (λ (ms : List Bool). set ms c.args.index true) c.deref_mut-in-ExternalData.ensures.value) refl)
