use Rattle.std.proofs.Common.{ℕ, List, sym, ◌∙◌, subst}
use Rattle.sgml_decl_lexemes.specs.Quiet.{IsComment}
use Rattle.sgml_decl_lexemes.proofs.Quietly.{calm-comment}
use Rattle.sgml_decl_lexemes.proofs.quiet.past_comment.Goals as goal

pub returns-in-Some-clause-calm : goal.returns-in-Some-clause-calm
returns-in-Some-clause-calm c =
    calm-comment c.args.bytes.now c.args.size c.in-Some.n c.requires.calm (sym c.is_gap.ensures ∙ c.if-not-is_gap.false)
    (subst (λ (bytes : List ℕ). IsComment bytes c.in-Some.n) c.after.ensures.value c.in-Some.ensures.comment)
