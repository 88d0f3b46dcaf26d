use Rattle.std.proofs.Common.{rules, ◌∙◌, ap, sym, nat_eq}
use Rattle.std.specs.Map.{lookup}
use Rattle.std.proofs.lemmas.Result.{err_from_is_err_and}
use Rattle.sgml_entity.specs.Texts.{texts_in, with_more}
use Rattle.sgml_entity.proofs.Grown.{grown, kept, begun}
use Rattle.sgml_entity.proofs.texts.Texts.append.Goals as goal

pub returns-in_err-extend_from_slice-clause-err : goal.returns-in_err-extend_from_slice-clause-err
returns-in_err-extend_from_slice-clause-err c =
    let failed = err_from_is_err_and c.from_residual.result c.from_residual.ensures.1 in
    rw failed.1
    (ap texts_in (c.get_mut.follows.holds c.extend_from_slice.new.self).0
    ∙ kept c.args.entity c.self.inside.texts.entries c.in-Some.text.now c.extend_from_slice.new.self (sym c.in-Some.ensures.value) c.in_err-extend_from_slice.ensures.items
    ∙ c.self.view_is)

pub returns-in-Some-clause-ok : goal.returns-in-Some-clause-ok
returns-in-Some-clause-ok c =
    ap texts_in (c.get_mut.follows.holds c.extend_from_slice.new.self).0
    ∙ grown c.args.entity c.args.bytes.now c.self.inside.texts.entries c.in-Some.text.now c.extend_from_slice.new.self (sym c.in-Some.ensures.value) c.in_ok-extend_from_slice.ensures.items
    ∙ ap (with_more c.args.entity c.args.bytes.now) c.self.view_is

pub returns-clause-ok : goal.returns-clause-ok
returns-clause-ok c =
    let absent = ap (λ m. lookup (nat_eq c.args.entity) m.entries) c.get_mut.follows.holds-at-none ∙ sym c.in_default.ensures.value in
    ap texts_in c.in_ok-insert.ensures.entries
    ∙ begun c.args.entity c.args.bytes.now c.get_mut.follows.lender-at-none.entries c.in_ok-text.text absent (search rules)
    ∙ ap (with_more c.args.entity c.args.bytes.now) (ap (λ m. texts_in m.entries) c.get_mut.follows.holds-at-none ∙ c.self.view_is)
