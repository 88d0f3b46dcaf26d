use Rattle.std.proofs.Common.{◌≡◌, ℕ, List, take, drop, ◌∙◌, ap}
use Rattle.std.specs.List.{list_all, prefix_len}
use Rattle.sgml_decl_lexemes.specs.Quiet.{is_quiet}
use Rattle.sgml_decl_lexemes.proofs.Plainly.{all-front}
use Rattle.sgml_decl_lexemes.proofs.Quietly.{calm-run}
use Rattle.sgml_decl_lexemes.proofs.quiet.past_quiet.Goals as goal

pub returns-clause-calm : goal.returns-clause-calm
returns-clause-calm c =
    let rest : List ℕ = drop c.args.size c.args.bytes.now in
    let count : c.quiet_length.result ≡ prefix_len is_quiet rest = c.quiet_length.ensures.value ∙ ap (prefix_len is_quiet) c.after.ensures.value in
    calm-run c.args.bytes.now c.args.size c.quiet_length.result c.requires.calm
    (ap (λ (n : ℕ). list_all is_quiet (take n rest)) count ∙ all-front is_quiet rest)
