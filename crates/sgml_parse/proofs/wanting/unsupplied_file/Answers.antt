use Rattle.std.proofs.Common.{rules, ◌≡◌, true, sym, ◌∙◌, subst}
use Rattle.std.specs.Prelude.{IfOk}
use Rattle.sgml_declared.specs.theory_reading.Unread.{file_of}
use Rattle.sgml_declared.specs.theory_standing.Kept.{Kept, sources_of}
use Rattle.sgml_declared.specs.Files.{InEach}
use Rattle.sgml_parse.proofs.Unsupplied.{file-is-found}
use Rattle.sgml_parse.proofs.wanting.unsupplied_file.Goals as goal

pub returns : goal.returns
returns c =
    let left : c.is_unsupplied.result ≡ true = search rules in
    file-is-found c.args.options.now c.args.kept.now c.args.texts.now c.args.missing.now c.args.number c.file_of.result c.requires.declared (sym c.is_unsupplied.ensures ∙ left)
    (subst (λ (k : Kept). IfOk c.file_of.result (InEach c.args.options.now (λ outside. file_of outside (sources_of k) c.args.number))) c.kept.view_is c.file_of.ensures)
