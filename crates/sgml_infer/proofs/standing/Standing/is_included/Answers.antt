use Rattle.std.proofs.Common.{◌∙◌, sym, ap, not}
use Rattle.std.specs.Option.{option_copied}
use Rattle.sgml_infer.specs.declared.exceptions.Exception.TheVariants.{Inclusion}
use Rattle.sgml_infer.proofs.Points.{included-seen}
use Rattle.sgml_infer.proofs.standing.Standing.is_included.Goals as goal

pub returns-then-not-has_no_exceptions : goal.returns-then-not-has_no_exceptions
returns-then-not-has_no_exceptions c = c.excepts.ensures ∙ included-seen c.args.self.now c.requires (option_copied c.args.token)

pub returns-else-not-has_no_exceptions : goal.returns-else-not-has_no_exceptions
returns-else-not-has_no_exceptions c =
    let k = option_copied c.args.token in
    ap not c.if-not-has_no_exceptions.false ∙ (sym (c.if-not-has_no_exceptions.ensures Inclusion k) ∙ included-seen c.args.self.now c.requires k)
