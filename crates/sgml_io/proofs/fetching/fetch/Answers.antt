use Rattle.std.proofs.Common.{rules, arith, ◌∙◌, ℕ, subst}
use Rattle.std.proofs.lemmas.Grind.{common_steps}
use Rattle.sgml_io.proofs.fetching.fetch.Goals as goal

pub loop-buf-preserved : goal.loop-buf-preserved
loop-buf-preserved g c =
    let i = c.loop-buf.invariant in
    let r = c.read.ensures in
    record {
      fresh = i.fresh;
      others = λ id h. (
        r.given id (i.others id h).0,
        r.others id (λ e. i.fresh (subst (λ (n : ℕ). g.S.Store.given c.args.store.now n) e h)) ∙ (i.others id h).1,
      );
      given = r.given c.in-Some.id i.given;
      rest = grind (arith, common_steps);
      absents = search rules;
      files = search rules;
      asked = search rules;
      faults = search rules;
    }
