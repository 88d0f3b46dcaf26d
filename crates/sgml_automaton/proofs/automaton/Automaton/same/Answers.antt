use Rattle.std.proofs.Common.{sym, ap, ◌∙◌}
use Rattle.sgml_automaton.specs.Alike.{same_place}
use Rattle.sgml_automaton.specs.Automaton.{whole_of}
use Rattle.sgml_automaton.proofs.OneTerm.{same_place_is}
use Rattle.sgml_automaton.proofs.automaton.Automaton.same.Goals as goal

pub returns : goal.returns
returns c =
    let a = c.args.self.now in let s = c.args.first.now in let t = c.args.second.now in
    let law = same_place_is (whole_of a) a.model.in_order.0 s.last s.bits.items t.last t.bits.items a.model.well_formed a.model.in_order.1 c.requires.first.placed c.requires.second.placed in
    let e = c.same_place.ensures ∙ ap (λ b. same_place (whole_of a) s.last b t.last c.deref-2.result.now) c.deref.ensures.value
    ∙ ap (λ b. same_place (whole_of a) s.last s.bits.items t.last b) c.deref-2.ensures.value in
    (λ h. law.0 (sym e ∙ h), λ h. e ∙ law.1 h)
