use Rattle.std.proofs.Common.{sym, subst}
use Rattle.std.specs.Prelude.{IfSome, IfOk}
use Rattle.sgml_words.specs.declared.mode.Mode.{Mode}
use Rattle.sgml_cli.specs.Counting.{Counts}
use Rattle.sgml_cli.proofs.OneCount.{book-counts}
use Rattle.sgml_cli.proofs.counting.count.Goals as goal

pub returns-in-Lines-clause-counts : goal.returns-in-Lines-clause-counts
returns-in-Lines-clause-counts g c =
    subst (λ (m : Mode). IfSome (g.S.Store.files c.args.store.now) (λ files. IfOk c.count_lines.result (Counts c.args.limit m files c.args.command.now c.args.settings))) (sym c.in-Lines.is) (c.count_lines.ensures.counts c.args.settings)

pub returns-in-Ok-clause-counts : goal.returns-in-Ok-clause-counts
returns-in-Ok-clause-counts g c =
    book-counts c.args.limit (g.S.Store.files c.args.store.now) c.args.command.now.mode c.in-Selfcheck.number c.args.command.now c.args.settings c.in-Ok.counted c.in-Selfcheck.is c.in-Ok.ensures.counts
