use Rattle.std.proofs.Common.{◌≡◌, None, subst, sym, ap, ◌∙◌}
use Rattle.sgml_entity.specs.Stack.{Stack}
use Rattle.sgml_declared.specs.theory_standing.Kept.{Kept}
use Rattle.sgml_declared.specs.Files.{sources_in}
use Rattle.sgml_declared.specs.Heads.{IsMisplaced}
use Rattle.sgml_prolog_steps.specs.Standing.{stage_of}
use Rattle.sgml_prolog_steps.specs.Steps.{IsStep}
use Rattle.sgml_prolog_steps.proofs.Shared.{memory-step}
use Rattle.sgml_prolog.proofs.Before.{misplaced-step}
use Rattle.sgml_prolog.proofs.misplaced.refuse_other.Goals as goal
use Rattle.sgml_prolog.proofs.misplaced.refuse_other.Goals.{in-Ok, in-Err}

pub returns : goal.returns
returns c asked =
    let old : Kept = c.args.kept.now in
    let with : Stack → Kept = λ s. record { doctype = c.kept.inside.dtd; stack = s; sections = c.kept.inside.sections; stage = stage_of c.kept.inside.stage; subset = c.kept.inside.subset } in
    let new : Kept = with c.misplaced_declaration.new.stack in
    let same : new ≡ old = ap with c.misplaced_declaration.ensures.stack ∙ c.kept.view_is in
    let c1 = c.args.options.now in
    elim c.match-misplaced_declaration.branch [
      | in-Ok w ↦
          subst (λ z. IsStep c1 c.args.texts.now c.args.ended asked old new z) (sym w.result-is)
          (misplaced-step c1 c.args.texts.now c.args.ended c.args.token old new w.in-Ok.reason c.requires.kept c.requires.going_on c.requires.there c.requires.sort c.requires.other
          (subst (λ (k : Kept). IsMisplaced c1 (sources_in k.doctype None) c.args.texts.now k.stack w.in-Ok.reason) c.kept.view_is w.in-Ok.ensures.reason) same asked)
      | in-Err w ↦
          subst (λ z. IsStep c1 c.args.texts.now c.args.ended asked old new z) (sym w.result-is)
          (memory-step c1 c.args.texts.now c.args.ended asked old new same)
    ]
