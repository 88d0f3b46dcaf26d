use Rattle.std.proofs.Common.{arith, ◌-◌, length, take, drop, length-take, length-drop, take-append-drop, sym}
use Rattle.std.proofs.lemmas.List.{take_rest}
use Rattle.std.proofs.lemmas.Result.{err_from_is_err_and}
use Rattle.sgml_io.specs.Writes.{Appends-keeps}
use Rattle.sgml_io.proofs.Bytes.{appends_more}
use Rattle.sgml_io.proofs.outside.write_whole.Goals as goal

pub loop-done-preserved : goal.loop-done-preserved
loop-done-preserved g c =
    let bytes = c.args.bytes.now in
    let done = c.loop-done.done in
    record {
      within = omega (arith, c.in_ok-done.ensures.bound, length-take (length bytes - done) (drop done bytes), length-drop done bytes);
      taken = appends_more _ _ _ bytes done _ c.loop-done.invariant.taken (rw (take_rest bytes done) at c.in_ok-done.ensures.bytes);
      faults = omega (arith, c.loop-done.invariant.faults, c.write.ensures.cause.later);
    }

pub returns-in_err-done : goal.returns-in_err-done
returns-in_err-done g c =
    let p = err_from_is_err_and c.from_residual.result c.from_residual.ensures.1 in
    let bytes = c.args.bytes.now in
    let done = c.loop-done.done in
    rw (p.1)
    (record {
      bytes = (take done bytes, drop done bytes, sym (take-append-drop done bytes), Appends-keeps _ _ _ _ c.loop-done.invariant.taken c.in_err-done.ensures.bytes);
      cause = record { later = omega (arith, c.loop-done.invariant.faults, c.in_err-done.ensures.cause.later); failed = omega (arith, c.loop-done.invariant.faults, c.in_err-done.ensures.cause.failed) };
    })
