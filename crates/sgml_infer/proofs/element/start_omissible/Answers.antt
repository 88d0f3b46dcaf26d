use Rattle.std.proofs.Common.{ap, sym, ◌∙◌}
use Rattle.sgml_dtd_elements.specs.Types.{ElementType}
use Rattle.sgml_infer.proofs.Contents.{number-within, said-found, start-said, unsaid}
use Rattle.sgml_infer.proofs.element.start_omissible.Goals as goal

pub omits-requires : goal.omits-requires
omits-requires c = number-within c.args.dtd.now c.args.name.now c.in-Some.n (sym c.in-Some.ensures)

pub returns-in-Some : goal.returns-in-Some
returns-in-Some c =
    start-said c.args.dtd.now c.in-Some.n c.omits.result c.omits.ensures
    ∙ sym (ap (λ (e : ElementType). e.omits.start) (said-found c.args.dtd.now c.args.name.now c.in-Some.n c.requires (sym c.in-Some.ensures)))

pub returns-in-None : goal.returns-in-None
returns-in-None c = sym (ap (λ (e : ElementType). e.omits.start) (unsaid c.args.dtd.now c.args.name.now (sym c.in-None.ensures)))
