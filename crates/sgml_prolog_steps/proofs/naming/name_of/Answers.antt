use Rattle.std.proofs.Common.{◌∙◌, ap, take}
use Rattle.sgml_delim.specs.syntax.declared.syntax.Syntax.{Syntax}
use Rattle.sgml_text.specs.NameCharacters.{is_name_character}
use Rattle.sgml_markup.specs.References.{run_of}
use Rattle.sgml_markup.proofs.Quiet.{run-taken}
use Rattle.sgml_prolog_steps.proofs.naming.name_of.Goals as goal

pub returns : goal.returns
returns c =
    ap (λ n. take n c.args.bytes.now) c.name_length.ensures.value
    ∙ (run-taken (is_name_character c.syntax.result.now.names) c.args.bytes.now ∙ ap (λ (s : Syntax). run_of (is_name_character s.names) c.args.bytes.now) c.syntax.ensures)
