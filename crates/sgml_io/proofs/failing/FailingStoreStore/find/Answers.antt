use Rattle.std.proofs.Common.{arith, ◌≡◌, false, sym, ap, ◌∙◌}
use Rattle.sgml_io.specs.Failing.{next_call, is_listed}
use Rattle.sgml_io.proofs.failing.FailingStoreStore.find.Goals as goal

pub returns-clause-fails : goal.returns-clause-fails
returns-clause-fails c = λ there.
    let s = c.args.self.now in
    let unlisted : is_listed s.failing.items (next_call s.calls) ≡ false = ap (is_listed s.failing.items) (sym c.saturating_add-self.ensures) ∙ ap (λ v. is_listed v c.saturating_add-self.result) (sym c.deref.ensures.value) ∙ sym c.is_failing.ensures ∙ c.if-is_failing.false in
    (λ e. absurd (omega (arith, c.find.ensures.cause.failed e)), λ t. cc (unlisted, t))
