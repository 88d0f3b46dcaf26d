use Rattle.std.proofs.Common.{◌≡◌, true, sym, ap, ◌∙◌}
use Rattle.std.specs.Prelude.{bytes_eq}
use Rattle.sgml_io.proofs.Bytes.{found_here}
use Rattle.sgml_io.proofs.memory.place_of.Goals as goal

pub returns-then-eq : goal.returns-then-eq
returns-then-eq c =
    let name = c.args.name.now in
    let e : bytes_eq c.index-files-i.result.name.items name ≡ true = sym (ap (λ v. bytes_eq v name) c.as_slice.ensures.value) ∙ sym c.if-eq.ensures in
    sym c.loop-i.invariant.rest ∙ found_here c.args.files.now name c.loop-i.i c.index-files-i.result c.loop-i-test.true c.index-files-i.is e
