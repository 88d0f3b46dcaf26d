use Rattle.std.proofs.Common.{ap, sym, true, ◌≡◌, ◌∙◌, map, string_bytes, true≢false}
use denote.Enum.Bare.{sameb}
use Rattle.clap.specs.contracts.error.kind.ErrorKind.{the_type}
use Rattle.clap.specs.declared.error.kind.ErrorKind.TheVariants.{OutOfMemory}
use Rattle.clap.specs.Faults.{is_simple_and_free}
use Rattle.clap.specs.Simple.{App}
use Rattle.sgml_words.specs.Clap.{command}
use Rattle.sgml_words.proofs.Found.{fault_none, shows, all_texts}
use Rattle.sgml_words.proofs.Rules.{simple_and_free}
use Rattle.sgml_words.proofs.words.matches_of.Goals as goal

free : (app : App) → app ≡ command → is_simple_and_free app ≡ true
free app e = ap is_simple_and_free e ∙ simple_and_free

pub returns-in-Ok : goal.returns-in-Ok
returns-in-Ok c =
    shows (map string_bytes c.args.words.now)
    (all_texts c.args.words.now) _ c.in-Ok.matches c.in_ok-sgmlesis.ensures c.in-Ok.ensures.matches
    (c.in-Ok.ensures.kinds (free _ c.in_ok-sgmlesis.ensures))

pub returns : goal.returns
returns c =
    fault_none (map string_bytes c.args.words.now)
    (all_texts c.args.words.now) _ c.in-Err.error c.in_ok-sgmlesis.ensures
    (λ memory. true≢false (sym (c.if-eq.ensures ∙ ap (λ k. sameb the_type k OutOfMemory) (c.kind.ensures ∙ memory))))
    (c.in-Err.ensures.kinds (free _ c.in_ok-sgmlesis.ensures))
