use Rattle.std.proofs.Common.{◌≡◌, ◌&&◌, Some, true, false, ap, sym, ◌∙◌}
use Rattle.std.proofs.Math.Bool.{and-true, and-false}
use Rattle.sgml_theory_reading.specs.Types.{has_model, content_of}
use Rattle.sgml_theory_reading.specs.Context.{Context}
use Rattle.sgml_theory_reading.specs.Omission.{is_included, fits}
use Rattle.sgml_theory_reading.specs.Reads.{is_proper_in}
use Rattle.sgml_infer.specs.Tables.{type_at}
use Rattle.sgml_infer.specs.Seen.{seen}
use Rattle.sgml_infer.proofs.Asked.{improper-fits, proper-fits}
use Rattle.sgml_infer.proofs.standing.Standing.fits_start.Goals as goal

pub returns-then-proper : goal.returns-then-proper
returns-then-proper c =
    let s = seen c.args.self.now in
    sym (proper-fits s s.levels (Some c.args.name.now) (sym c.requires.proper ∙ c.if-proper.true))

pub returns-then-is_included : goal.returns-then-is_included
returns-then-is_included c =
    let s = c.args.self.now in let t = s.dtd.now in let i = c.in-Some.inner.element in let n = c.args.name.now in
    let f : true ≡ is_included t (seen s).levels (Some n) = c.if-is_included.ensures in
    (c.has_model.ensures ∙ (sym (and-true (has_model (content_of (type_at t i)))) ∙ ap (λ b. has_model (content_of (type_at t i)) && b) f))
    ∙ improper-fits t i c.in-Some.inner.position c.in-Some.inner.state.now (seen s) c.requires.standing.distinct c.in-Some.ensures n c.requires.declared (sym c.requires.proper ∙ c.if-proper.false)

pub returns-else-is_included : goal.returns-else-is_included
returns-else-is_included c =
    let s = c.args.self.now in let t = s.dtd.now in let i = c.in-Some.inner.element in let n = c.args.name.now in
    let f : false ≡ is_included t (seen s).levels (Some n) = c.if-is_included.ensures in
    c.if-is_included.false ∙ ((sym (and-false (has_model (content_of (type_at t i)))) ∙ ap (λ b. has_model (content_of (type_at t i)) && b) f)
    ∙ improper-fits t i c.in-Some.inner.position c.in-Some.inner.state.now (seen s) c.requires.standing.distinct c.in-Some.ensures n c.requires.declared (sym c.requires.proper ∙ c.if-proper.false))

pub returns-in-None : goal.returns-in-None
returns-in-None c =
    let s = seen c.args.self.now in let n = c.args.name.now in
    sym (ap (λ (x : Context). fits x (Some n)) c.in-None.ensures
    ∙ (sym (ap (λ (x : Context). is_proper_in x x.levels (Some n)) c.in-None.ensures) ∙ (sym c.requires.proper ∙ c.if-proper.false)))
