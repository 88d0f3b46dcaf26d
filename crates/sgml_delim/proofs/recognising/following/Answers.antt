use Rattle.std.proofs.Common.{◌∙◌, sym, subst}
use Rattle.sgml_delim.specs.Tables.{follows}
use Rattle.sgml_delim.specs.Answers.{Decides}
use Rattle.sgml_delim.proofs.Deciding.{follows-end-of, minus-end-of}
use Rattle.sgml_delim.proofs.recognising.following.Goals as goal

pub returns-in-empty : goal.returns-in-empty
returns-in-empty c =
    subst (λ v. Decides c.args.ended (follows c.args.syntax.now c.args.need) c.args.text.now v) (sym c.undecided.ensures)
    (follows-end-of c.args.ended c.args.syntax.now c.args.need c.args.text.now c.in_default.not-Nothing c.in-empty.len_below)

pub returns-then-b-eq45 : goal.returns-then-b-eq45
returns-then-b-eq45 c =
    subst (λ v. Decides c.args.ended (follows c.args.syntax.now c.args.need) c.args.text.now v) (sym c.undecided-then-b-eq45.ensures)
    (minus-end-of c.args.ended c.args.syntax.now c.args.need c.args.text.now (sym c.is_after_mdo.ensures ∙ c.if-is_after_mdo.true) c.in-len1.len_at_least c.in-len1.len_below c.if-b-eq45.true
    (sym c.is_allowed.ensures ∙ c.if-is_allowed.false))
