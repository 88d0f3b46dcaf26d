use Rattle.std.proofs.Common.{◌∙◌, sym, eq-eqb}
use Rattle.sgml_attr.proofs.Indexing.{found-more, member-kept, member-shared, same-some, differs}
use Rattle.sgml_attr.proofs.index.add_member.Goals as goal

pub returns-in_ok-add_first : goal.returns-in_ok-add_first
returns-in_ok-add_first c = λ rest other.
    member-shared c.args.members.now c.add_first.new.index c.args.shared.now c.add_first-then-earlier-number.new.index rest c.args.name.now c.args.number c.in-Some.earlier other
    (found-more c.args.members.now c.add_first.new.index c.args.name.now c.args.number c.in_ok-earlier.ensures.first)
    (found-more c.args.shared.now c.add_first-then-earlier-number.new.index c.args.name.now c.args.number c.in_ok-add_first.ensures.first)
    (sym c.in_ok-earlier.ensures.earlier ∙ c.in-Some.is)
    (differs c.in-Some.earlier c.args.number c.if-earlier-number.true)

pub returns-else-earlier-number : goal.returns-else-earlier-number
returns-else-earlier-number c = λ rest other.
    member-kept c.args.members.now c.add_first.new.index c.args.shared.now rest c.args.name.now c.args.number other
    (found-more c.args.members.now c.add_first.new.index c.args.name.now c.args.number c.in_ok-earlier.ensures.first)
    (λ f e. eq-eqb c.args.number f (sym c.if-earlier-number.false ∙ same-some c.in-Some.earlier f (sym c.in-Some.is ∙ c.in_ok-earlier.ensures.earlier ∙ e)))

pub returns-in_default : goal.returns-in_default
returns-in_default c = λ rest other.
    member-kept c.args.members.now c.add_first.new.index c.args.shared.now rest c.args.name.now c.args.number other
    (found-more c.args.members.now c.add_first.new.index c.args.name.now c.args.number c.in_ok-earlier.ensures.first)
    (λ f e. absurd (c.in_default.not-Some f (c.in_ok-earlier.ensures.earlier ∙ e)))
