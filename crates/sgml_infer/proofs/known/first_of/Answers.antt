use Rattle.std.proofs.Common.{◌≡◌, ◌==◌, ◌∙◌, ℕ, true, ap, sym, arith}
use Rattle.std.specs.Option.{option_copied}
use Rattle.sgml_automaton.specs.model.Term.{required}
use Rattle.sgml_automaton.specs.Position.{room}
use Rattle.sgml_automaton.specs.Automaton.{whole_of}
use Rattle.sgml_infer.specs.Known.{first_by}
use Rattle.sgml_infer.proofs.known.first_of.Goals as goal

pub returns-in-Some : goal.returns-in-Some
returns-in-Some c =
    let x = whole_of c.args.automaton.now in let m = c.room.ensures.members in
    let z : room x ≡ 0 = omega (arith, m) in
    let b : (room x == 0) ≡ true = ap (λ (n : ℕ). n == 0) z in
    let r = sym (c.required.ensures ∙ ap required (c.term.ensures.term ∙ c.model.ensures.model)) ∙ ap option_copied c.in-Some.is in
    c.element.ensures ∙ sym (λ j. first_by c.args.dtd.now (b j) (r j))

pub returns-in-None : goal.returns-in-None
returns-in-None c =
    let x = whole_of c.args.automaton.now in let m = c.room.ensures.members in
    let z : room x ≡ 0 = omega (arith, m) in
    let b : (room x == 0) ≡ true = ap (λ (n : ℕ). n == 0) z in
    let r = sym (c.required.ensures ∙ ap required (c.term.ensures.term ∙ c.model.ensures.model)) ∙ ap option_copied c.in-None.is in
    sym (λ j. first_by c.args.dtd.now (b j) (r j))
