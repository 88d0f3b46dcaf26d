use Rattle.std.proofs.Common.{ℕ, List, subst}
use Rattle.sgml_decl_lexemes.specs.Quiet.{IsLiteral}
use Rattle.sgml_decl_lexemes.proofs.Quietly.{calm-literal}
use Rattle.sgml_decl_lexemes.proofs.quiet.past_literal.Goals as goal

pub returns-in-Some-clause-calm : goal.returns-in-Some-clause-calm
returns-in-Some-clause-calm c =
    calm-literal c.args.bytes.now c.args.size c.in-Some.n c.requires.calm
    (subst (λ (bytes : List ℕ). IsLiteral bytes c.in-Some.n) c.after.ensures.value c.in-Some.ensures.literal)
