use Rattle.std.proofs.Common.{◌≡◌, ◌<◌, ◌∙◌, sym, ap, subst, refl, arith, length, true, Option, Some, List, ℕ}
use Rattle.std.specs.Prelude.{slice_get}
use Rattle.sgml_attr.specs.declared.value.AttrValue.{AttrValue}
use Rattle.sgml_dtd.specs.dtd_elements.Types.{types}
use Rattle.sgml_starts.specs.declared.starts.StartValues.{StartValues}
use Rattle.sgml_starts.specs.Values.{Start, unvalued, AreValues}
use Rattle.sgml_starts.specs.Filled.{is_among, gives_current}
use Rattle.sgml_starts.specs.Setting.{SetsAllIn}
use Rattle.sgml_starts.specs.Starts.{list_for, IsUnvalued, HasValues}
use Rattle.sgml_starts.proofs.Whole.{start_with, defined-is, given-within, currents-in}
use Rattle.sgml_starts.proofs.starts.defined_values.Goals as goal

pub returns-in-Err-clause-err : goal.returns-in-Err-clause-err
returns-in-Err-clause-err c = λ spent.
    subst (λ (S : Start). IsUnvalued (unvalued S (record { specs = c.args.read.now.specs.items; stop = c.args.read.now.stop; spent = spent })) c.in-Err.error)
    (defined-is c.args.syntax.now c.args.dtd.now c.args.element c.args.currents.now c.entities.result.now c.args.definitions.now c.entities.ensures.entities c.entities.ensures.notations c.requires.definitions)
    (c.in-Err.ensures.err spent)

pub set_all-requires-clause-within : goal.set_all-requires-clause-within
set_all-requires-clause-within c = λ i e.
    let S : Start = start_with c.args.syntax.now c.entities.result.now c.args.definitions.now (list_for c.args.dtd.now c.args.element) c.args.currents.now in
    let gives : gives_current S c.args.read.now.specs.items i ≡ true = sym (c.in-Ok.ensures.current i) ∙ ap (is_among i) (sym c.deref.ensures.value) ∙ e in
    omega (arith, given-within S c.args.read.now.specs.items i gives, c.in-Ok.ensures.values.as_many, ap (λ (l : List AttrValue). length l) c.deref-2.ensures.value)

pub returns-clause-ok : goal.returns-clause-ok
returns-clause-ok c = λ spent.
    let S : Start = start_with c.args.syntax.now c.entities.result.now c.args.definitions.now (list_for c.args.dtd.now c.args.element) c.args.currents.now in
    let ss = c.args.read.now.specs.items in
    let values : AreValues S ss c.of.result = subst (AreValues S ss) (sym c.of.ensures) c.in-Ok.ensures.values in
    let sets : SetsAllIn S.list S.currents c.set_all.new.currents c.in-Ok.filled.current.items c.of.result =
    subst (λ (v : List AttrValue). SetsAllIn S.list S.currents c.set_all.new.currents c.in-Ok.filled.current.items v) (c.deref-2.ensures.value ∙ sym c.of.ensures)
    (subst (λ (l : List ℕ). SetsAllIn S.list S.currents c.set_all.new.currents l c.deref-2.result.now) c.deref.ensures.value c.in_ok-set_all.ensures.ok) in
    let told : StartValues = record { values = c.of.result; conref = c.in-Ok.filled.conref } in
    subst (λ (T : Start). HasValues T (record { specs = c.args.read.now.specs.items; stop = c.args.read.now.stop; spent = spent }) told c.set_all.new.currents)
    (defined-is c.args.syntax.now c.args.dtd.now c.args.element c.args.currents.now c.entities.result.now c.args.definitions.now c.entities.ensures.entities c.entities.ensures.notations c.requires.definitions)
    (record {
      none = c.in-Ok.ensures.none spent;
      values = values;
      conref = c.in-Ok.ensures.conref;
      currents = currents-in S ss c.of.result c.set_all.new.currents c.in-Ok.filled.current.items values.as_many c.in-Ok.ensures.current sets;
    })
