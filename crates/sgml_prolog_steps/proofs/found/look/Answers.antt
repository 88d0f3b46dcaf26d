use Rattle.std.proofs.Common.{sym, ◌∙◌, ap}
use Rattle.sgml_declared.specs.theory_spelling.Decided.{is_before}
use Rattle.sgml_declared.specs.Taking.{rest_at_top}
use Rattle.sgml_prolog_steps.specs.Standing.{stage_of}
use Rattle.sgml_prolog_steps.specs.Telling.{told_before}
use Rattle.sgml_prolog_steps.proofs.Told.{seen-end, seen-early, seen-first, seen-later, seen-inside}
use Rattle.sgml_prolog_steps.proofs.found.look.Goals as goal

pub returns-in_default : goal.returns-in_default
returns-in_default g c =
    seen-end c.args.kept.now _ c.args.texts.now c.args.ended c.unread-bytes.result.now c.may_grow-grows.result c.at_end.result
    (record { kept = c.requires.kept; going_on = c.requires.going_on; same = c.kept.view_is; bytes_are = sym (c.unread-bytes.ensures.value ∙ ap (λ es. rest_at_top es c.args.texts.now c.kept.inside.stack) c.entities.ensures.entities); grows_is = c.may_grow-grows.ensures })
    c.in_default.len_below c.at_end.ensures

pub returns-then-is_early_end : goal.returns-then-is_early_end
returns-then-is_early_end g c =
    seen-early c.args.kept.now _ c.args.texts.now c.args.ended c.unread-bytes.result.now c.may_grow-grows.result
    (record { kept = c.requires.kept; going_on = c.requires.going_on; same = c.kept.view_is; bytes_are = sym (c.unread-bytes.ensures.value ∙ ap (λ es. rest_at_top es c.args.texts.now c.kept.inside.stack) c.entities.ensures.entities); grows_is = c.may_grow-grows.ensures })
    c.in-len1-up.len_at_least (sym c.is_early_end.ensures ∙ c.if-is_early_end.true)

pub returns-in-AtBeginning : goal.returns-in-AtBeginning
returns-in-AtBeginning g c =
    seen-first c.args.kept.now _ c.args.texts.now c.args.ended c.unread-bytes.result.now c.may_grow-grows.result c.at_beginning.result
    (record { kept = c.requires.kept; going_on = c.requires.going_on; same = c.kept.view_is; bytes_are = sym (c.unread-bytes.ensures.value ∙ ap (λ es. rest_at_top es c.args.texts.now c.kept.inside.stack) c.entities.ensures.entities); grows_is = c.may_grow-grows.ensures })
    c.in-len1-up.len_at_least (sym c.is_early_end.ensures ∙ c.if-is_early_end.false) (ap stage_of c.in-AtBeginning.is) c.at_beginning.ensures

pub returns-in-BeforeDoctype : goal.returns-in-BeforeDoctype
returns-in-BeforeDoctype g c =
    seen-later c.args.kept.now _ c.args.texts.now c.args.ended c.unread-bytes.result.now c.may_grow-grows.result c.scanned-scanned.result c.told_before.result
    (record { kept = c.requires.kept; going_on = c.requires.going_on; same = c.kept.view_is; bytes_are = sym (c.unread-bytes.ensures.value ∙ ap (λ es. rest_at_top es c.args.texts.now c.kept.inside.stack) c.entities.ensures.entities); grows_is = c.may_grow-grows.ensures })
    c.in-len1-up.len_at_least (sym c.is_early_end.ensures ∙ c.if-is_early_end.false) (ap stage_of c.in-BeforeDoctype.is) c.scanned-scanned.ensures
    (c.told_before.ensures ∙ ap (λ y. told_before y.names c.unread-bytes.result.now c.scanned-scanned.result) c.syntax.ensures)

pub returns-in-InSubset : goal.returns-in-InSubset
returns-in-InSubset g c =
    seen-inside c.args.kept.now _ c.args.texts.now c.args.ended c.unread-bytes.result.now c.may_grow-grows.result c.is_in_document.result c.scanned-scanned-in-InSubset.result c.told_inside.result
    (record { kept = c.requires.kept; going_on = c.requires.going_on; same = c.kept.view_is; bytes_are = sym (c.unread-bytes.ensures.value ∙ ap (λ es. rest_at_top es c.args.texts.now c.kept.inside.stack) c.entities.ensures.entities); grows_is = c.may_grow-grows.ensures })
    c.in-len1-up.len_at_least (ap (λ s. is_before (stage_of s)) c.in-InSubset.is) c.scanned-scanned-in-InSubset.ensures c.is_in_document.ensures c.told_inside.ensures

pub returns-in-AfterSubset : goal.returns-in-AfterSubset
returns-in-AfterSubset g c =
    seen-inside c.args.kept.now _ c.args.texts.now c.args.ended c.unread-bytes.result.now c.may_grow-grows.result c.is_in_document-in-AfterSubset.result c.scanned-scanned-in-AfterSubset.result c.told_inside-in-AfterSubset.result
    (record { kept = c.requires.kept; going_on = c.requires.going_on; same = c.kept.view_is; bytes_are = sym (c.unread-bytes.ensures.value ∙ ap (λ es. rest_at_top es c.args.texts.now c.kept.inside.stack) c.entities.ensures.entities); grows_is = c.may_grow-grows.ensures })
    c.in-len1-up.len_at_least (ap (λ s. is_before (stage_of s)) c.in-AfterSubset.is) c.scanned-scanned-in-AfterSubset.ensures c.is_in_document-in-AfterSubset.ensures c.told_inside-in-AfterSubset.ensures
