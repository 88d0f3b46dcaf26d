use Rattle.std.proofs.Common.{ℕ, List, subst}
use Rattle.sgml_decl_lexemes.specs.Quiet.{IsQuietEnd}
use Rattle.sgml_decl_lexemes.proofs.Quietly.{own-whole}
use Rattle.sgml_decl_lexemes.proofs.reader.own_text.Goals as goal

pub returns-in-Some-clause-ok : goal.returns-in-Some-clause-ok
returns-in-Some-clause-ok c =
    own-whole c.args.names.now c.args.construct c.args.grows c.args.at c.args.text.now c.in-Some.n
    (subst (λ (bytes : List ℕ). IsQuietEnd c.args.construct bytes c.in-Some.n) c.after.ensures.value c.in-Some.ensures.end)
