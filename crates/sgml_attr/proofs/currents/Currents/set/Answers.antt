use Rattle.std.proofs.Common.{◌<◌, List, Option, length, get_or, ap, sym, ◌∙◌, subst, set}
use Rattle.sgml_attr.specs.declared.value.AttrValue.{AttrValue}
use Rattle.sgml_attr.specs.Currents.{EndsInValue, placed}
use Rattle.sgml_attr.proofs.Placing.{ends-at, set-ends, ends-after, sets-one, on-ok}
use Rattle.sgml_attr.proofs.currents.Currents.set.Goals as goal

pub invariant_of-self : goal.invariant_of-self
invariant_of-self c =
    let lists = c.self.inside.lists.items in
    let below : c.args.list < length lists = subst (λ (x : List (List (Option AttrValue))). c.args.list < length x) (sym c.self.view_is) c.requires in
    let old : EndsInValue c.index_mut-entries.result.now =
    subst EndsInValue (sym c.index_mut-entries.ensures.value) (ends-at lists c.args.list c.index_mut-entries.result.now below c.self.invariant) in
    set-ends lists c.args.list c.set.new.self c.self.invariant
    (ends-after c.set.result c.index_mut-entries.result.now c.set.new.self c.args.attribute c.args.value old c.set.ensures.ok c.set.ensures.err)

pub returns-clause-ok : goal.returns-clause-ok
returns-clause-ok c =
    let lists = c.self.inside.lists.items in
    let at = c.args.list in
    let below : at < length c.args.self.now = c.requires in
    on-ok c.set.result c.set.ensures.ok (λ is.
    sets-one c.args.self.now (set lists at c.set.new.self) at c.args.attribute c.args.value c.index_mut-entries.result.now below
    (ap (λ x. set x at c.set.new.self) c.self.view_is
    ∙ ap (set c.args.self.now at) (is
    ∙ ap (λ x. placed x c.args.attribute c.args.value) (c.index_mut-entries.ensures.value
    ∙ ap (λ (x : List (List (Option AttrValue))). get_or x at c.index_mut-entries.result.now) c.self.view_is))))
