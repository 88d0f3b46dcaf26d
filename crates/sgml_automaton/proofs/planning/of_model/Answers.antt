use Rattle.std.proofs.Common.{ap, sym, subst, ◌∙◌}
use Rattle.sgml_model.specs.View.{view}
use Rattle.sgml_model.specs.Model.{model_of}
use Rattle.sgml_automaton.specs.declared.plan.Place.{Place}
use Rattle.sgml_automaton.specs.declared.plan.Plan.{Plan}
use Rattle.sgml_automaton.specs.Plan.{tables_of, ends}
use Rattle.sgml_automaton.specs.Known.{Answers}
use Rattle.sgml_automaton.proofs.Knowing.{ends_is, known_by}
use Rattle.sgml_automaton.proofs.planning.of_model.Goals as goal

pub returns-clause-known : goal.returns-clause-known
returns-clause-known c =
    let m = c.term-term.ensures in let x = model_of c.args.model.now in
    let i = c.note_texts.new.self in let e = c.note_texts.ensures in
    λ h. subst (λ (p : Plan). Answers (tables_of p) i.start x) (sym e.plan)
    (subst (λ (s : Place). Answers (tables_of c.plan.new.self) s x) (sym e.start)
    (known_by (view c.term-term.result.now) x c.in-Some.end m.in_order.0 c.in_ok-index-2.index.start (tables_of c.in_ok-index-2.index.plan) (tables_of c.plan.new.self)
    c.in_ok-index-2.index.plan.places.items c.in_ok-index-3.field-0
    m.term (c.in-Some.ensures ∙ ap ends m.term ∙ ends_is x 0 m.in_order.0 m.well_formed m.in_order.1) m.well_formed m.in_order.1
    c.in_ok-index-2.ensures.tables c.in_ok-index-3.ensures (sym e.counts ∙ h)))
