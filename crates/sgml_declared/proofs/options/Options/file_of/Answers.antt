use Rattle.std.proofs.Common.{◌≡◌, ◌<◌, ap, sym, ◌∙◌, Some, arith}
use Rattle.sgml_theory_standing.specs.theory_reading.Unread.{file_of}
use Rattle.sgml_declared.specs.Files.{sources_in}
use Rattle.sgml_declared.proofs.Numbered.{document-file, subset-answer, entity-answer}
use Rattle.sgml_declared.proofs.options.Options.file_of.Goals as goal

pub returns-in_ok-copy-in-0 : goal.returns-in_ok-copy-in-0
returns-in_ok-copy-in-0 c = λ outside o.
    let k = sources_in c.args.dtd.now c.args.subset.now in
    let number : c.args.number ≡ 0 = omega arith in
    ap Some (c.in_ok-copy-in-0.ensures ∙ sym o.file) ∙ (sym (document-file outside k) ∙ ap (file_of outside k) (sym number))

pub returns-in-1 : goal.returns-in-1
returns-in-1 c =
    let number : c.args.number ≡ 1 = omega arith in
    subset-answer c.args.self.now c.args.dtd.now c.args.subset.now c.args.number c.file_of_subset.result number c.file_of_subset.ensures

pub returns-in_default : goal.returns-in_default
returns-in_default c =
    let number : 1 < c.args.number = omega arith in
    entity-answer c.args.self.now c.args.dtd.now c.args.subset.now c.args.number c.file_of_entity.result number c.file_of_entity.ensures
