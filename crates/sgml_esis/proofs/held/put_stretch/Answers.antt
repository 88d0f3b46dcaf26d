use Rattle.std.proofs.Common.{◌++◌, sym, ap, ◌∙◌}
use Rattle.sgml_esis.proofs.Holding.{puts_given, puts_failed}
use Rattle.sgml_esis.proofs.held.put_stretch.Goals as goal

pub returns-in-Ok : goal.returns-in-Ok
returns-in-Ok g c =
    let h = c.args.held.now in
    puts_given _ _ _ _ h h c.args.bytes.now c.args.bytes.now (sym c.failed.ensures ∙ c.if-failed.false) (sym (ap (λ v. v ++ c.args.bytes.now) c.requires)) c.in-Ok.ensures.bytes c.write_whole.ensures.cause.later (ap (λ v. (v, h.1)) c.requires)

pub returns-in-Err : goal.returns-in-Err
returns-in-Err g c =
    puts_failed _ _ _ _ c.args.held.now c.fail.new.self c.args.bytes.now c.args.bytes.now (sym c.failed.ensures ∙ c.if-failed.false) (sym (ap (λ v. v ++ c.args.bytes.now) c.requires)) c.in-Err.ensures.bytes c.write_whole.ensures.cause.later c.in-Err.ensures.cause.failed c.fail.ensures
