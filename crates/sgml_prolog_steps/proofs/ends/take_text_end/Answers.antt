use Rattle.sgml_declared.specs.sgml_dtd.Errors.{IsEnd}
use Rattle.std.proofs.Common.{◌∙◌, subst, sym, ap, eq-eqb}
use Rattle.sgml_marked.specs.Opened.{is_open_at}
use Rattle.sgml_decl_lexemes.specs.Readings.{entity_of}
use Rattle.sgml_declared.specs.theory_spelling.Spelled.{type_end}
use Rattle.sgml_prolog_steps.proofs.Closing.{document-end-step, section-open-step, type-end-step, text-end-step, differs}
use Rattle.sgml_prolog_steps.proofs.ends.take_text_end.Goals as goal

pub returns-then-number-eq0 : goal.returns-then-number-eq0
returns-then-number-eq0 c texts o ended asked f =
    document-end-step texts o ended asked c.args.kept.now c.document_reason.result c.requires.kept c.requires.going_on
    (eq-eqb (entity_of c.args.kept.now.stack.places) 0 (sym c.entity_at_top-number.ensures ∙ c.if-number-eq0.true)) c.document_reason.ensures f

pub returns-then-is_section_open : goal.returns-then-is_section_open
returns-then-is_section_open c texts o ended asked f =
    section-open-step texts o ended asked c.args.kept.now c.requires.kept c.requires.going_on
    (differs (entity_of c.args.kept.now.stack.places) c.entity_at_top-number.result c.entity_at_top-number.ensures c.if-number-eq0.false)
    (ap (λ n. is_open_at n c.args.kept.now.sections) (sym c.in-Ok.ensures) ∙ (sym c.is_section_open.ensures ∙ c.if-is_section_open.true)) f

pub returns-in-Err-Refused : goal.returns-in-Err-Refused
returns-in-Err-Refused c texts o ended asked f =
    type-end-step texts o ended asked c.args.kept.now c.in-Err-Refused.reason c.requires.kept c.requires.going_on
    (differs (entity_of c.args.kept.now.stack.places) c.entity_at_top-number.result c.entity_at_top-number.ensures c.if-number-eq0.false)
    (ap (λ n. is_open_at n c.args.kept.now.sections) (sym c.in-Ok.ensures) ∙ (sym c.is_section_open.ensures ∙ c.if-is_section_open.false))
    (ap (λ n. type_end n c.args.kept.now.doctype) (sym c.entity_at_top-number.ensures) ∙ subst (IsEnd (type_end c.entity_at_top-number.result c.args.kept.now.doctype)) c.in-Err-Refused.field-0-is c.in-Err-Refused.ensures.refused) f

pub returns : goal.returns
returns c texts o ended asked f =
    text-end-step texts o ended asked c.args.kept.now c.end_text.new.kept c.requires.kept c.requires.going_on
    (differs (entity_of c.args.kept.now.stack.places) c.entity_at_top-number.result c.entity_at_top-number.ensures c.if-number-eq0.false)
    (ap (λ n. is_open_at n c.args.kept.now.sections) (sym c.in-Ok.ensures) ∙ (sym c.is_section_open.ensures ∙ c.if-is_section_open.false))
    (ap (λ n. type_end n c.args.kept.now.doctype) (sym c.entity_at_top-number.ensures) ∙ c.in-Ok-judge_end.ensures.ok) c.end_text.ensures f
