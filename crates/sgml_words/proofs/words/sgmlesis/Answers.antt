use Rattle.std.proofs.Common.{rules, ap, ap₂, codes, true, ◌≡◌, ◌∙◌}
use Rattle.std.proofs.lemmas.Result.{IfOk-weaker}
use Rattle.clap.specs.Walk.{rule_of}
use Rattle.clap.specs.Simple.{App, Shape, app_of, app_of_fields, on_top, with_rule}
use Rattle.sgml_words.specs.Clap.{bare, option_arg}
use Rattle.sgml_words.proofs.words.sgmlesis.Goals as goal

abbrev without_name : App → App
without_name = on_top (λ (s : Shape). record s { no_binary_name = true })

abbrev without_help : App → App
without_help = on_top (λ (s : Shape). record s { disable_help_flag = true })

pub returns : goal.returns
returns c =
    let named : app_of c.no_binary_name.result ≡ without_name (app_of c.new.result) =
    ap app_of_fields c.no_binary_name.ensures in
    let helped : app_of c.disable_help_flag.result ≡ without_help (app_of c.no_binary_name.result) =
    ap app_of_fields c.disable_help_flag.ensures in
    let start : app_of c.disable_help_flag.result ≡ bare =
    helped ∙ ap without_help (named ∙ ap without_name c.new.ensures.app) in
    let mode : rule_of c.option.result ≡ option_arg (codes "mode") = search rules in
    let catalog : rule_of c.option-2.result ≡ option_arg (codes "catalog") = search rules in
    let piece : rule_of c.option-3.result ≡ option_arg (codes "piece") = search rules in
    let expand : rule_of c.option-4.result ≡ option_arg (codes "expand") = search rules in
    let one = c.in_ok-arg.ensures.shape c.option.ensures.local ∙ ap₂ with_rule start mode in
    let two = c.in_ok-arg-2.ensures.shape c.option-2.ensures.local ∙ ap₂ with_rule one catalog in
    let three = c.in_ok-arg-3.ensures.shape c.option-3.ensures.local ∙ ap₂ with_rule two piece in
    let four = c.in_ok-arg-4.ensures.shape c.option-4.ensures.local ∙ ap₂ with_rule three expand in
    IfOk-weaker c.arg-5.result _ _
    (λ made adds. adds.shape c.file.ensures.local ∙ ap₂ with_rule four c.file.ensures.rule)
    c.arg-5.ensures
