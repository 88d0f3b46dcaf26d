use Rattle.std.proofs.Common.{◌+◌, sym, ap, ◌∙◌}
use Rattle.sgml_entity.specs.Stack.{offset_of}
use Rattle.sgml_declared.specs.theory_spelling.Decided.{is_before}
use Rattle.sgml_declared.specs.theory_standing.Kept.{Kept}
use Rattle.sgml_prolog.proofs.Restarted.{restart-step}
use Rattle.sgml_prolog.proofs.sgml_declaration.take_sgml.Goals as goal

pub returns-in-Ok : goal.returns-in-Ok
returns-in-Ok c choices asked =
    restart-step choices c.args.texts.now c.args.ended asked c.args.kept.now c.restart.new.kept c.args.n (c.in-Ok.syntax, c.in-Ok.used) c.args.options.now.expand
    (c.offset-at.result + c.in-Ok.used) c.restart.result c.requires.kept c.requires.going_on (ap is_before c.requires.there.beginning) c.requires.there c.in-Ok.ensures.read c.restart.ensures.ok
    c.restart.ensures.kept c.restart.ensures.err c.restart.ensures.left (sym c.requires.expand)
    (ap (λ m. m + c.in-Ok.used) (c.offset-at.ensures ∙ ap (λ (k : Kept). offset_of k.stack.places) c.kept.view_is))
