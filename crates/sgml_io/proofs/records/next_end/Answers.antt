use Rattle.std.proofs.Common.{rules, ◌≡◌, List, ℕ, [], take, drop, length, ◌+◌, ◌-◌, ◌<◌, ◌≤◌, sym, ap, ◌∙◌, arith}
use Rattle.sgml_io.proofs.Plain.{IsFirstEnd, first-end, no-end, plain-stretch, plain-rest}
use Rattle.sgml_io.proofs.records.next_end.Goals as goal

pub returns-in-Some-clause-low : goal.returns-in-Some-clause-low
returns-in-Some-clause-low c = (first-end c.args.bytes.now c.args.from (length c.args.bytes.now - c.args.from) c.in-Some.at c.next.new.self (sym c.requires.left ∙ c.in-Some.ensures.steps)).low

pub returns-in-Some-clause-high : goal.returns-in-Some-clause-high
returns-in-Some-clause-high c =
    let first = first-end c.args.bytes.now c.args.from (length c.args.bytes.now - c.args.from) c.in-Some.at c.next.new.self (sym c.requires.left ∙ c.in-Some.ensures.steps) in
    omega (arith, first.high, c.requires.within)

pub returns-in-Some-clause-plain : goal.returns-in-Some-clause-plain
returns-in-Some-clause-plain c =
    let first = first-end c.args.bytes.now c.args.from (length c.args.bytes.now - c.args.from) c.in-Some.at c.next.new.self (sym c.requires.left ∙ c.in-Some.ensures.steps) in
    plain-stretch c.args.bytes.now c.args.from c.in-Some.at first.low (omega (arith, first.high, c.requires.within)) first.before

pub returns-in-Some-clause-left : goal.returns-in-Some-clause-left
returns-in-Some-clause-left c =
    let bytes = c.args.bytes.now in
    let first = first-end bytes c.args.from (length bytes - c.args.from) c.in-Some.at c.next.new.self (sym c.requires.left ∙ c.in-Some.ensures.steps) in
    let count : c.args.from + (length bytes - c.args.from) - (c.in-Some.at + 1) ≡ length bytes - (c.in-Some.at + 1) = omega (arith, c.requires.within) in
    rw (← count) first.behind

pub returns-in-None-clause-last : goal.returns-in-None-clause-last
returns-in-None-clause-last c =
    let bytes = c.args.bytes.now in
    plain-rest bytes c.args.from c.requires.within (no-end bytes c.args.from (length bytes - c.args.from) (sym c.requires.left ∙ c.in-None.ensures.steps.0))
