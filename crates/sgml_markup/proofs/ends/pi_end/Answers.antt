use Rattle.std.proofs.Common.{sym, arith}
use Rattle.sgml_markup.proofs.EndLemmas.{pi-none, pi-some}
use Rattle.sgml_markup.proofs.ends.pi_end.Goals as goal

pub returns-in-None-clause-value : goal.returns-in-None-clause-value
returns-in-None-clause-value c = sym (pi-none c.args.text.now (λ k l e. c.in-None.ensures k (omega arith) l e))

pub returns-in-Some-clause-value : goal.returns-in-Some-clause-value
returns-in-Some-clause-value c =
    let found = c.in-Some.ensures in
    sym (pi-some c.in-Some.n c.args.text.now found.0.high (λ k l e. found.0.before k (omega arith) l e) found.1)
