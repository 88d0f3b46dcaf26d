use Rattle.std.proofs.Common.{◌≡◌, ◌∙◌, sym, subst, ◌++◌, List, ℕ, ap, drop, length}
use Rattle.sgml_delim.specs.Tables.{string, begins, follows}
use Rattle.sgml_delim.specs.Answers.{Decides, EndsInside}
use Rattle.sgml_delim.proofs.Deciding.{stands-unforced, stands-unlike, stands-inside, decides-after, rest-of}
use Rattle.sgml_delim.proofs.recognising.standing.Goals as goal

pub returns-then-not-is_in_force : goal.returns-then-not-is_in_force
returns-then-not-is_in_force c = λ rest h.
    stands-unforced c.args.syntax.now c.args.mode c.args.net c.args.delim (c.args.text.now ++ rest)
    (sym c.is_in_force.ensures ∙ c.if-not-is_in_force.true)

pub returns-in-Fails : goal.returns-in-Fails
returns-in-Fails c = λ rest h.
    stands-unlike c.args.syntax.now c.args.mode c.args.net c.args.delim (c.args.text.now ++ rest)
    (ap (λ s. begins s (c.args.text.now ++ rest)) (sym c.string_of-string.ensures) ∙ c.in-Fails.ensures rest h)

pub returns-in-Undecided : goal.returns-in-Undecided
returns-in-Undecided c =
    stands-inside c.args.ended c.args.syntax.now c.args.mode c.args.net c.args.delim c.args.text.now
    (sym c.is_in_force.ensures ∙ c.if-not-is_in_force.false)
    (subst (λ s. EndsInside c.args.ended s c.args.text.now) c.string_of-string.ensures c.in-Undecided.ensures)

pub returns-in-Holds : goal.returns-in-Holds
returns-in-Holds c =
    decides-after c.args.ended c.args.syntax.now c.args.mode c.args.net c.args.delim c.args.text.now c.following.result
    (sym c.is_in_force.ensures ∙ c.if-not-is_in_force.false)
    (subst (λ s. (more : List ℕ) × (c.args.text.now ≡ s ++ more)) c.string_of-string.ensures c.in-Holds.ensures)
    (subst (λ n. Decides c.args.ended (follows c.args.syntax.now n) (drop (length (string c.args.delim)) c.args.text.now) c.following.result)
    c.need_of.ensures
    (subst (λ s. Decides c.args.ended (follows c.args.syntax.now c.need_of.result) (drop (length s) c.args.text.now) c.following.result)
    c.string_of-string.ensures
    (subst (λ r. Decides c.args.ended (follows c.args.syntax.now c.need_of.result) r c.following.result)
    (rest-of (length c.string_of-string.result.now) c.args.text.now)
    c.following.ensures)))
