use Rattle.std.proofs.Common.{sym, ◌∙◌, ap, subst}
use Rattle.sgml_dtd.specs.Errors.{IsEnd}
use Rattle.sgml_dtd.specs.Rows.{final_reason}
use Rattle.sgml_declared.specs.theory_standing.Kept.{Kept}
use Rattle.sgml_prolog.proofs.Ending.{alone-open-section, alone-ends, alone-refused}
use Rattle.sgml_prolog.proofs.subset_end.end_alone.Goals as goal

pub returns-then-is_section_open : goal.returns-then-is_section_open
returns-then-is_section_open c = alone-open-section c.args.kept.now c.requires.kept c.requires.alone c.requires.none (sym c.is_section_open.ensures ∙ c.if-is_section_open.true)

pub returns-in-Ok : goal.returns-in-Ok
returns-in-Ok c =
    alone-ends c.args.kept.now c.requires.kept c.requires.alone c.requires.none (sym c.is_section_open.ensures ∙ c.if-is_section_open.false)
    (sym (ap (λ (k : Kept). final_reason k.doctype) c.kept.view_is) ∙ c.in-Ok.ensures.ok)

pub returns-in-Err-Refused : goal.returns-in-Err-Refused
returns-in-Err-Refused c =
    alone-refused c.args.kept.now c.in-Err-Refused.reason c.requires.kept c.requires.alone c.requires.none (sym c.is_section_open.ensures ∙ c.if-is_section_open.false)
    (sym (ap (λ (k : Kept). final_reason k.doctype) c.kept.view_is)
    ∙ subst (λ e. IsEnd (final_reason c.kept.inside.dtd) e) c.in-Err-Refused.field-0-is c.in-Err-Refused.ensures.refused)
