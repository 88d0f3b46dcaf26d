use Rattle.std.proofs.Common.{rules, ◌≡◌, ◌++◌, ◌≢◌, List, ℕ, length, false, sym, ap, ◌∙◌, append_assoc, arith}
use Rattle.sgml_io.specs.Records.{records_from, begun}
use Rattle.sgml_io.proofs.Made.{whole_stretch}
use Rattle.sgml_io.proofs.records.take_stretch.Goals as goal

pub returns-clause-ok : goal.returns-clause-ok
returns-clause-ok c = λ rest.
    let bytes = c.args.bytes.now in
    let some : length bytes ≢ 0 = λ e. absurd (search rules) in
    let tail : List ℕ = records_from false false rest in
    let taken = c.in_ok-extend_from_slice.ensures.items in
    ap (λ v. v ++ tail) taken ∙ append_assoc c.begin_record.new.text.items bytes tail ∙ c.in_ok-begin_record.ensures.ok (bytes ++ tail)
    ∙ ap (λ v. c.args.text.now.items ++ v) (sym (whole_stretch c.args.start c.args.cr bytes rest c.requires.plain some))
