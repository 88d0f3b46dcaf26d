use Rattle.std.proofs.Common.{None, Err, ap, sym, subst, ◌∙◌}
use Rattle.sgml_decl_lexemes.specs.decl_parts.declared.ends.Construct.TheVariants.{Declaration}
use Rattle.sgml_theory_standing.specs.theory_spelling.Prolog.{other_reason}
use Rattle.sgml_declared.specs.Reading.{LexemesAreStopped}
use Rattle.sgml_declared.proofs.Wanted.{none-declared}
use Rattle.sgml_declared.proofs.head.misplaced_declaration.Goals as goal

pub returns-in-Err-Refused-clause-reason : goal.returns-in-Err-Refused-clause-reason
returns-in-Err-Refused-clause-reason c outside n a ends =
    let stopped = subst (LexemesAreStopped Declaration c.args.options.now c.args.dtd.now None c.args.texts.now c.args.stack.now) c.in-Err-Refused.field-0-is c.in-Err-Refused.ensures.err in
    ap other_reason (stopped outside n a ends) ∙ sym (c.other_reason.ensures ∙ ap (λ r. other_reason (Err r)) c.in-Err-Refused.reason-is)

pub returns-in-Err-Wanted-clause-reason : goal.returns-in-Err-Wanted-clause-reason
returns-in-Err-Wanted-clause-reason c outside n a ends =
    let stopped = subst (LexemesAreStopped Declaration c.args.options.now c.args.dtd.now None c.args.texts.now c.args.stack.now) c.in-Err-Wanted.field-0-is c.in-Err-Wanted.ensures.err in
    absurd (none-declared c.args.dtd.now.entities c.in-Err-Wanted.field-0-0 c.requires.first (stopped outside n a ends).declared)
