use Rattle.std.proofs.Common.{◌∙◌, ap, take}
use Rattle.sgml_text.specs.NameCharacters.{is_name_character}
use Rattle.sgml_markup.specs.References.{function_named}
use Rattle.sgml_markup.proofs.Quiet.{run-taken}
use Rattle.sgml_markup.proofs.references.function_at.Goals as goal

pub returns : goal.returns
returns c =
    c.function_named.ensures
    ∙ ap (λ n. function_named c.args.syntax.now.general_fold (take n c.args.text.now)) c.name_length.ensures.value
    ∙ ap (function_named c.args.syntax.now.general_fold) (run-taken (is_name_character c.args.syntax.now.names) c.args.text.now)
