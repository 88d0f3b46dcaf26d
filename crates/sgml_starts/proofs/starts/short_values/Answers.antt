use Rattle.std.proofs.Common.{◌≡◌, ◌<◌, ◌∙◌, sym, ap, subst, refl, arith, length, take, drop, true, Some, List, ℕ}
use Rattle.sgml_entity.specs.Entities.{Tables}
use Rattle.sgml_entity.specs.Stack.{offset_of}
use Rattle.sgml_decl_lexemes.specs.Sources.{text_at, or_empty}
use Rattle.sgml_decl_lexemes.specs.Readings.{entity_of}
use Rattle.std.specs.Prelude.{slice_get}
use Rattle.sgml_attr.specs.declared.value.AttrValue.{AttrValue}
use Rattle.sgml_dtd.specs.dtd_elements.Types.{types}
use Rattle.sgml_starts.specs.declared.starts.StartValues.{StartValues}
use Rattle.sgml_starts.specs.Values.{Start, unvalued, AreValues}
use Rattle.sgml_starts.specs.Filled.{is_among, gives_current}
use Rattle.sgml_starts.specs.Setting.{SetsAllIn}
use Rattle.sgml_starts.specs.Starts.{list_for, IsUnvalued, HasValues}
use Rattle.sgml_starts.specs.Taken.{tag_in}
use Rattle.sgml_starts.proofs.Whole.{start_with, defined-is, given-within, currents-in, tables-are}
use Rattle.sgml_starts.proofs.starts.short_values.Goals as goal

pub returns-in-Err-clause-err : goal.returns-in-Err-clause-err
returns-in-Err-clause-err c =
    subst (λ (S : Start). IsUnvalued (unvalued S (tag_in S c.args.texts.now c.args.stack.now c.args.tag.now)) c.in-Err.error)
    (defined-is c.args.syntax.now c.args.dtd.now c.args.element c.args.currents.now c.entities.result.now c.args.definitions.now c.entities.ensures.entities c.entities.ensures.notations c.requires.definitions)
    c.in-Err.ensures.err

pub set_all-requires-clause-within : goal.set_all-requires-clause-within
set_all-requires-clause-within c = λ i e.
    let S : Start = start_with c.args.syntax.now c.entities.result.now c.args.definitions.now (list_for c.args.dtd.now c.args.element) c.args.currents.now in
    let ss = (tag_in S c.args.texts.now c.args.stack.now c.args.tag.now).specs in
    let gives : gives_current S ss i ≡ true = sym (c.in_default.ensures.ok.current i) ∙ ap (is_among i) (sym c.deref.ensures.value) ∙ e in
    omega (arith, given-within S ss i gives, c.in_default.ensures.ok.values.as_many, ap (λ (l : List AttrValue). length l) c.deref-2.ensures.value)

pub returns-clause-ok : goal.returns-clause-ok
returns-clause-ok c =
    let S : Start = start_with c.args.syntax.now c.entities.result.now c.args.definitions.now (list_for c.args.dtd.now c.args.element) c.args.currents.now in
    let ss = (tag_in S c.args.texts.now c.args.stack.now c.args.tag.now).specs in
    let values : AreValues S ss c.of.result = subst (AreValues S ss) (sym c.of.ensures) c.in_default.ensures.ok.values in
    let sets : SetsAllIn S.list S.currents c.set_all.new.currents c.take_all.new.filled.current.items c.of.result =
    subst (λ (v : List AttrValue). SetsAllIn S.list S.currents c.set_all.new.currents c.take_all.new.filled.current.items v) (c.deref-2.ensures.value ∙ sym c.of.ensures)
    (subst (λ (l : List ℕ). SetsAllIn S.list S.currents c.set_all.new.currents l c.deref-2.result.now) c.deref.ensures.value c.in_ok-set_all.ensures.ok) in
    let told : StartValues = record { values = c.of.result; conref = c.take_all.new.filled.conref } in
    subst (λ (T : Start). HasValues T (tag_in T c.args.texts.now c.args.stack.now c.args.tag.now) told c.set_all.new.currents)
    (defined-is c.args.syntax.now c.args.dtd.now c.args.element c.args.currents.now c.entities.result.now c.args.definitions.now c.entities.ensures.entities c.entities.ensures.notations c.requires.definitions)
    (record {
      none = c.in_default.ensures.ok.none;
      values = values;
      conref = c.in_default.ensures.ok.conref;
      currents = currents-in S ss c.of.result c.set_all.new.currents c.take_all.new.filled.current.items values.as_many c.in_default.ensures.ok.current sets;
    })

pub returns-clause-spent : goal.returns-clause-spent
returns-clause-spent c =
    subst (λ (T : Start). c.take_all.new.stack.spent ≡ (tag_in T c.args.texts.now c.args.stack.now c.args.tag.now).spent)
    (defined-is c.args.syntax.now c.args.dtd.now c.args.element c.args.currents.now c.entities.result.now c.args.definitions.now c.entities.ensures.entities c.entities.ensures.notations c.requires.definitions)
    c.in_default.ensures.ok.spent

pub take_all-requires-clause-text : goal.take_all-requires-clause-text
take_all-requires-clause-text c =
    let d = c.args.dtd.now in
    let t = c.entities.result.now in
    let stack = c.args.stack.now in
    let tag = c.args.tag.now in
    c.requires.text
    ∙ ap (λ (z : Tables). take (length tag) (drop (offset_of stack.places) (or_empty (text_at z.entities c.args.texts.now (entity_of stack.places)))))
    (sym (tables-are d t c.entities.ensures.entities c.entities.ensures.notations))
