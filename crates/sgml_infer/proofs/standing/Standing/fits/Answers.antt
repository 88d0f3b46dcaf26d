use Rattle.std.proofs.Common.{◌≡◌, ◌||◌, ◌&&◌, true, false, ap, ◌∙◌}
use Rattle.std.specs.Option.{option_copied}
use Rattle.sgml_theory_reading.specs.Types.{has_model, content_of}
use Rattle.sgml_theory_reading.specs.Omission.{is_included}
use Rattle.sgml_infer.specs.Tables.{type_at}
use Rattle.sgml_infer.specs.Trees.{may_take}
use Rattle.sgml_infer.specs.Seen.{seen}
use Rattle.sgml_infer.proofs.Asked.{fits-inner}
use Rattle.sgml_infer.proofs.standing.Standing.fits.Goals as goal

pub returns-then-fits : goal.returns-then-fits
returns-then-fits c =
    let s = c.args.self.now in let t = s.dtd.now in let i = c.in-Some.inner.element in let k = option_copied c.args.token in
    let e : true ≡ may_take (content_of (type_at t i)) c.in-Some.inner.state.now k = c.if-fits.ensures in
    ap (λ b. b || (has_model (content_of (type_at t i)) && is_included t (seen s).levels k)) e
    ∙ fits-inner t i c.in-Some.inner.position c.in-Some.inner.state.now (seen s) c.requires.standing.distinct c.in-Some.ensures k c.requires.declared

pub returns-then-has_model : goal.returns-then-has_model
returns-then-has_model c =
    let s = c.args.self.now in let t = s.dtd.now in let i = c.in-Some.inner.element in let k = option_copied c.args.token in
    let e : false ≡ may_take (content_of (type_at t i)) c.in-Some.inner.state.now k = c.if-fits.ensures in
    let f : true ≡ has_model (content_of (type_at t i)) = c.if-has_model.ensures in
    (λ j. e j || (f j && c.is_included.ensures j))
    ∙ fits-inner t i c.in-Some.inner.position c.in-Some.inner.state.now (seen s) c.requires.standing.distinct c.in-Some.ensures k c.requires.declared

pub returns-else-has_model : goal.returns-else-has_model
returns-else-has_model c =
    let s = c.args.self.now in let t = s.dtd.now in let i = c.in-Some.inner.element in let k = option_copied c.args.token in
    let e : false ≡ may_take (content_of (type_at t i)) c.in-Some.inner.state.now k = c.if-fits.ensures in
    let f : false ≡ has_model (content_of (type_at t i)) = c.if-has_model.ensures in
    c.if-has_model.false ∙ ((λ j. e j || (f j && is_included t (seen s).levels k))
    ∙ fits-inner t i c.in-Some.inner.position c.in-Some.inner.state.now (seen s) c.requires.standing.distinct c.in-Some.ensures k c.requires.declared)
