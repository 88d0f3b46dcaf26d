use Rattle.std.proofs.Common.{◌-◌, ◌∙◌, None, refl, sym, ap, arith, length}
use Rattle.std.specs.List.{list_any}
use Rattle.std.specs.Option.{option_copied}
use Rattle.std.proofs.lemmas.Option.{slice_get_read}
use Rattle.sgml_theory_reading.specs.Omission.{is_token_in}
use Rattle.sgml_infer.specs.Tables.{type_at}
use Rattle.sgml_infer.specs.Links.{excepted}
use Rattle.sgml_infer.specs.declared.level.Level.{Level}
use Rattle.sgml_infer.proofs.Links.{any-begins, any-outward, any-found, link-bound, no-token, excepted-none}
use Rattle.sgml_infer.proofs.exceptions.any_excepts.Goals as goal

pub outward-init : goal.outward-init
outward-init c =
    let t = c.args.dtd.now in let ls = c.args.levels.now in let k = option_copied c.args.token in
    let b = link-bound t (length ls) ls c.requires.linked (omega arith) in
    let e = c.nearest-at.ensures in
    record {
      within = omega (arith, b, e);
      tried = any-begins t (λ (x : Level). is_token_in k (excepted c.args.exception (type_at t x.element))) (λ l h. excepted-none c.args.exception k (type_at t l.element) h) ls c.nearest-at.result c.requires.linked e;
    }

pub outward-preserved : goal.outward-preserved
outward-preserved c =
    let t = c.args.dtd.now in let ls = c.args.levels.now in let k = option_copied c.args.token in let at = c.outward.at in
    let p = c.outward-test.true in let w = c.outward.invariant.within in
    let l = c.index-levels-at.result in
    let b = link-bound t (at - 1) ls c.requires.linked (omega (arith, p, w)) in
    let e = c.nearest-at-in-outward.ensures in
    record {
      within = omega (arith, b, e, p, w);
      tried = any-outward t (λ (x : Level). is_token_in k (excepted c.args.exception (type_at t x.element))) (λ x h. excepted-none c.args.exception k (type_at t x.element) h) ls at c.nearest-at-in-outward.result l c.requires.linked p w
          (slice_get_read ls (length ls) (at - 1) l refl (omega (arith, p, w)) c.index-levels-at.is) (sym c.excepts.ensures ∙ c.if-excepts.false) e c.outward.invariant.tried;
    }

pub outward-smaller : goal.outward-smaller
outward-smaller c =
    let p = c.outward-test.true in let w = c.outward.invariant.within in
    let b = link-bound c.args.dtd.now (c.outward.at - 1) c.args.levels.now c.requires.linked (omega (arith, p, w)) in
    let e = c.nearest-at-in-outward.ensures in
    omega (arith, b, e, p)

pub returns-then-excepts : goal.returns-then-excepts
returns-then-excepts c =
    let t = c.args.dtd.now in let ls = c.args.levels.now in let k = option_copied c.args.token in let at = c.outward.at in
    let p = c.outward-test.true in let w = c.outward.invariant.within in
    let l = c.index-levels-at.result in
    any-found t (λ (x : Level). is_token_in k (excepted c.args.exception (type_at t x.element))) (λ x h. excepted-none c.args.exception k (type_at t x.element) h) ls at l p
    (slice_get_read ls (length ls) (at - 1) l refl (omega (arith, p, w)) c.index-levels-at.is) (sym c.excepts.ensures ∙ c.if-excepts.true) c.outward.invariant.tried

pub returns-in-None : goal.returns-in-None
returns-in-None c =
    let t = c.args.dtd.now in let ls = c.args.levels.now in
    no-token None refl (λ (x : Level). (excepted c.args.exception (type_at t x.element))) ls
    ∙ ap (λ o. list_any (λ (x : Level). is_token_in (option_copied o) (excepted c.args.exception (type_at t x.element))) ls) (sym c.in-None.is)
