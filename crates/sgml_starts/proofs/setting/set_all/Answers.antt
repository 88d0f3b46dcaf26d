use Rattle.std.proofs.Common.{◌≡◌, ◌∙◌, sym, subst, arith, length, [], List, ℕ, Option, None, Some, OnOk}
use Rattle.std.specs.Prelude.{slice_get}
use Rattle.sgml_attr.specs.declared.value.AttrValue.{AttrValue}
use Rattle.sgml_dtd.specs.dtd_elements.Types.{types}
use Rattle.sgml_starts.specs.Setting.{SetsAllIn}
use Rattle.sgml_starts.specs.Starts.{list_for}
use Rattle.sgml_starts.proofs.Whole.{list-is, lists-within, nothing-set, none-there}
use Rattle.sgml_starts.proofs.setting.set_all.Goals as goal

pub returns-then-is_empty-clause-ok : goal.returns-then-is_empty-clause-ok
returns-then-is_empty-clause-ok c =
    let none : length c.args.attributes.now ≡ 0 = grind (arith, c.is_empty.ensures, c.if-is_empty.true) in
    subst (λ (l : List ℕ). SetsAllIn (list_for c.args.dtd.now c.args.element) c.args.currents.now c.args.currents.now l c.args.values.now)
    (sym (none-there c.args.attributes.now none))
    (nothing-set (list_for c.args.dtd.now c.args.element) c.args.currents.now c.args.values.now)

pub set_some-requires-clause-list : goal.set_some-requires-clause-list
set_some-requires-clause-list c =
    lists-within c.args.dtd.now (slice_get (types c.args.dtd.now.elements) c.args.element) c.list.result (length c.args.currents.now) c.list.ensures c.requires.lists

pub returns-clause-ok : goal.returns-clause-ok
returns-clause-ok c =
    let is : c.list.result ≡ list_for c.args.dtd.now c.args.element = list-is c.args.dtd.now (slice_get (types c.args.dtd.now.elements) c.args.element) c.list.result c.list.ensures in
    subst (λ (l : Option ℕ). OnOk c.set_some.result (SetsAllIn l c.args.currents.now c.set_some.new.currents c.args.attributes.now c.args.values.now)) is c.set_some.ensures.ok
