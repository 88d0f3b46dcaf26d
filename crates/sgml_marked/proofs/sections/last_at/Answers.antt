use Rattle.std.proofs.Common.{arith, ◌≡◌, ◌<◌, ◌≤◌, ◌-◌, suc, false, length, drop, subst, sym}
use Rattle.sgml_marked.specs.Opened.{is_open_at}
use Rattle.sgml_marked.proofs.Opening.{removed-before, none-ended}
use Rattle.sgml_marked.proofs.Bounding.{same-length, none-up-to}
use Rattle.sgml_marked.proofs.sections.last_at.Goals as goal

pub returns-then-sections-n-clause-last : goal.returns-then-sections-n-clause-last
returns-then-sections-n-clause-last c =
    let some : 0 < c.search.n = c.search-test.true in
    let is : c.search.n ≡ suc (c.search.n - 1) = omega arith in
    removed-before c.args.level c.args.sections.now (c.search.n - 1) c.search.n _ is c.search.invariant.within c.if-sections-n.true c.search.invariant.none

pub returns-clause-none : goal.returns-clause-none
returns-clause-none c =
    let at_start : c.search.n ≡ 0 = omega (arith, c.search-test.false) in
    λ _. none-ended c.args.level c.args.sections.now
    (subst (λ n. is_open_at c.args.level (drop n c.args.sections.now) ≡ false) at_start c.search.invariant.none)

pub bounds-highest-n : goal.bounds-highest-n
bounds-highest-n c =
    let same = same-length 0 c.args.sections.now c.args.highest.now c.requires in
    let some : 0 < c.search.n = c.search-test.true in
    let within : c.search.n ≤ length c.args.sections.now = c.search.invariant.within in
    omega (arith, same, some, within)

pub returns-then-highest-n-clause-some : goal.returns-then-highest-n-clause-some
returns-then-highest-n-clause-some c =
    let some : 0 < c.search.n = c.search-test.true in
    let within : c.search.n ≤ length c.args.sections.now = c.search.invariant.within in
    let is : c.search.n ≡ suc (c.search.n - 1) = omega (arith, some) in
    sym (none-up-to 0 c.args.level c.args.sections.now c.args.highest.now (c.search.n - 1) c.requires (omega (arith, some, within)) c.if-highest-n.true
    (subst (λ n. is_open_at c.args.level (drop n c.args.sections.now) ≡ false) is c.search.invariant.none))

pub returns-then-highest-n-clause-none : goal.returns-then-highest-n-clause-none
returns-then-highest-n-clause-none c =
    let some : 0 < c.search.n = c.search-test.true in
    let within : c.search.n ≤ length c.args.sections.now = c.search.invariant.within in
    let is : c.search.n ≡ suc (c.search.n - 1) = omega (arith, some) in
    λ _. none-ended c.args.level c.args.sections.now
    (none-up-to 0 c.args.level c.args.sections.now c.args.highest.now (c.search.n - 1) c.requires (omega (arith, some, within)) c.if-highest-n.true
    (subst (λ n. is_open_at c.args.level (drop n c.args.sections.now) ≡ false) is c.search.invariant.none))
