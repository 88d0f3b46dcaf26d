use Rattle.std.proofs.Common.{sym, ap, ◌∙◌, subst, Bool}
use Rattle.std.specs.Prelude.{MatchBool, is_some}
use Rattle.std.specs.Option.{option_copied}
use Rattle.sgml_model.specs.Term.{Term}
use Rattle.sgml_model.specs.Left.{Leaves}
use Rattle.sgml_automaton.specs.Automaton.{term_of}
use Rattle.sgml_automaton.proofs.Lists.{takes_is}
use Rattle.sgml_automaton.proofs.automaton.Automaton.takes.Goals as goal

pub returns : goal.returns
returns c =
    let r = term_of c.args.self.now c.args.state.now in let l = option_copied c.args.name in
    subst (λ (b : Bool). MatchBool b ((r' : Term) × Leaves r l r') ((r' : Term) → Leaves r l r' → ⊥)) (sym (c.is_some.ensures ∙ ap is_some c.next.ensures)) (takes_is r l)
