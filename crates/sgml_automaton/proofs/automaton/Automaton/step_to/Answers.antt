use Rattle.std.proofs.Common.{◌≡◌, ◌≤◌, ℕ, sym, ap, ◌∙◌, subst, arith, List, Bool, length}
use Rattle.std.proofs.lemmas.List.{with_items_is}
use Rattle.std.specs.Option.{option_copied}
use Rattle.sgml_model.specs.Term.{Takes}
use Rattle.sgml_ambiguity.specs.Scan.{token}
use Rattle.sgml_automaton.specs.Position.{at, bits_of, room}
use Rattle.sgml_automaton.specs.Automaton.{whole_of, term_of}
use Rattle.sgml_automaton.specs.Moved.{moved_l}
use Rattle.sgml_automaton.proofs.Lists.{step_taken}
use Rattle.sgml_automaton.proofs.automaton.Automaton.step_to.Goals as goal

pub returns-clause-state : goal.returns-clause-state
returns-clause-state c =
    let a = c.args.self.now in let s = c.args.state.now in let x = whole_of a in let l = option_copied c.args.name in
    let fits : room x ≤ length s.bits.items = subst (λ (n : ℕ). n ≤ length s.bits.items) a.counted c.requires.state.fits in
    let m = step_taken x a.model.in_order.0 a.model.well_formed a.model.in_order.1 s.last l s.bits.items fits c.requires.state.placed c.args.token c.requires.token in
    let long : length c.mark.new.bits ≡ s.bits.len = omega (arith, c.mark.auto.bits, c.deref_mut.ensures.len) in
    let e = with_items_is s.bits c.mark.new.bits long in
    record { fits = subst (λ (bs : List Bool). a.room ≤ length bs) (sym e) (omega (arith, long, c.requires.state.fits, s.bits.ok.0)); placed = m.1 }

pub returns-clause-left : goal.returns-clause-left
returns-clause-left c =
    let a = c.args.self.now in let s = c.args.state.now in let x = whole_of a in let l = option_copied c.args.name in
    let fits : room x ≤ length s.bits.items = subst (λ (n : ℕ). n ≤ length s.bits.items) a.counted c.requires.state.fits in
    let m = step_taken x a.model.in_order.0 a.model.well_formed a.model.in_order.1 s.last l s.bits.items fits c.requires.state.placed c.args.token c.requires.token in
    let long : length c.mark.new.bits ≡ s.bits.len = omega (arith, c.mark.auto.bits, c.deref_mut.ensures.len) in
    let e = with_items_is s.bits c.mark.new.bits long ∙ c.mark.ensures ∙ ap (moved_l x s.last c.args.token l) c.deref_mut.ensures.value in
    (c.args.token, subst (λ (bs : List Bool). Takes (term_of a s) (token c.args.token l) (at x 0 c.args.token (bits_of bs))) (sym e) m.0)
