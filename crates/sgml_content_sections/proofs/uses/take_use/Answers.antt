use Rattle.std.proofs.Common.{◌∙◌, sym, ap, subst, take}
use Rattle.sgml_content_steps.specs.sgml_infer.Trees.{context_in}
use Rattle.sgml_declared.specs.theory_spelling.Content.{has_open}
use Rattle.sgml_prolog_steps.specs.Found.{rest_in}
use Rattle.sgml_content_steps.specs.Content.{Content}
use Rattle.sgml_content_sections.specs.Uses.{IsUseRead, IsNotUsed, map_set_in}
use Rattle.sgml_prolog_steps.specs.Misplaced.{sgml_reason}
use Rattle.sgml_content_sections.proofs.Quiet.{now-kept}
use Rattle.sgml_content_sections.proofs.Declaring.{sgml-step, use-step, unused-step}
use Rattle.sgml_content_sections.proofs.uses.take_use.Goals as goal

pub returns-in-Ok-Some : goal.returns-in-Ok-Some
returns-in-Ok-Some c =
    sgml-step c.args.options.now c.args.texts.now c.args.token c.args.content.now c.in-Ok-Some.reason c.requires.content c.requires.kind
    (ap (λ (z : Content). sgml_reason z.kept.doctype.syntax.names (take c.args.token.length (rest_in z.kept c.args.texts.now))) (sym c.content.view_is)
    ∙ (sym c.in-Ok-Some.ensures ∙ c.in-Ok-Some.field-0-is))

pub returns-in-Ok : goal.returns-in-Ok
returns-in-Ok c =
    use-step c.args.options.now c.args.texts.now c.args.token c.args.content.now c.set_map.new.content c.read_use.new.kept c.is_inside-inside.result c.in-Ok.number
    c.requires.content c.requires.kind
    (ap (λ (z : Content). sgml_reason z.kept.doctype.syntax.names (take c.args.token.length (rest_in z.kept c.args.texts.now))) (sym c.content.view_is)
    ∙ (sym c.in-Ok-None.ensures ∙ c.in-Ok-None.field-0-is))
    c.requires.whole
    (λ d. c.is_inside-inside.ensures d ∙ ap (λ (z : Content). has_open (context_in d z.tree).levels) c.content.view_is)
    (subst (λ (z : Content). IsUseRead c.args.options.now c.args.texts.now c.is_inside-inside.result z.kept c.read_use.new.kept c.in-Ok.number) c.content.view_is c.in-Ok.ensures.ok)
    (c.set_map.ensures ∙ ap (λ (z : Content). map_set_in c.in-Ok.number (record z { kept = c.read_use.new.kept })) c.content.view_is)

pub returns-in-Err-read_use : goal.returns-in-Err-read_use
returns-in-Err-read_use c =
    unused-step c.args.options.now c.args.texts.now c.args.token c.args.content.now _ c.is_inside-inside.result c.in-Err-read_use.error
    c.requires.content c.requires.kind
    (ap (λ (z : Content). sgml_reason z.kept.doctype.syntax.names (take c.args.token.length (rest_in z.kept c.args.texts.now))) (sym c.content.view_is)
    ∙ (sym c.in-Ok-None.ensures ∙ c.in-Ok-None.field-0-is))
    c.requires.whole
    (λ d. c.is_inside-inside.ensures d ∙ ap (λ (z : Content). has_open (context_in d z.tree).levels) c.content.view_is)
    (subst (λ (z : Content). IsNotUsed c.args.options.now c.args.texts.now c.is_inside-inside.result z.kept c.in-Err-read_use.error) c.content.view_is c.in-Err-read_use.ensures.err)
    (now-kept c.read_use.new.kept _ c.args.content.now c.content.view_is c.in-Err-read_use.ensures.left)
