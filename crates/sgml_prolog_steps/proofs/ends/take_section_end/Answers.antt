use Rattle.std.proofs.Common.{◌≡◌, ◌∙◌, sym, ap, false, length}
use Rattle.sgml_marked.specs.Opened.{is_open_at}
use Rattle.sgml_prolog_steps.proofs.Closing.{section-none-step, section-end-step}
use Rattle.sgml_prolog_steps.proofs.ends.take_section_end.Goals as goal

pub returns-then-not-is_section_open : goal.returns-then-not-is_section_open
returns-then-not-is_section_open c =
    let closed : is_open_at (length c.args.kept.now.stack.places) c.args.kept.now.sections ≡ false =
    ap (λ n. is_open_at n c.args.kept.now.sections) (sym c.in-Ok.ensures) ∙ (sym c.is_section_open.ensures ∙ c.if-not-is_section_open.true) in
    section-none-step c.args.texts.now c.args.token c.args.kept.now c.requires.kept c.requires.going_on c.requires.sort closed

pub returns : goal.returns
returns c =
    section-end-step c.args.texts.now c.args.token c.args.kept.now c.end_section.new.kept c.begin_over.new.kept c.in-Ok.on c.requires.kept c.requires.going_on c.requires.sort
    c.in-Ok.ensures (sym c.is_section_open.ensures ∙ c.if-not-is_section_open.false) c.end_section.ensures c.begin_over.ensures
