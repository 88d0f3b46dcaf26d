use Rattle.std.proofs.Common.{◌+◌, rules, arith, [], sym, subst, List, ℕ}
use Rattle.sgml_io.specs.Pieces.{HasMade}
use Rattle.sgml_storage.proofs.Fronts.{is-storage, made-more, shorter-more, none-shorter, all-fewer}
use Rattle.sgml_storage.proofs.storage.stored.Goals as goal

pub loop-count-init : goal.loop-count-init
loop-count-init c = record {
  within = search (rules, arith);
  made = subst (λ (z : List ℕ). HasMade c.new-reader.result [] z) (sym c.new-text.ensures.items) c.new-reader.ensures;
  shorter = none-shorter c.args.bytes.now c.args.n;
}

pub loop-count-preserved : goal.loop-count-preserved
loop-count-preserved c =
    let i = c.loop-count.invariant in
    let n = c.loop-count.count in record {
      within = search (rules, arith);
      made = made-more c.loop-count.reader c.push.new.self c.args.bytes.now c.loop-count.text.items c.push.new.text.items n (n + c.sure.result) i.within (search (rules, arith)) i.made c.in_ok-push.ensures.pushed;
      shorter = shorter-more c.loop-count.reader c.args.bytes.now c.loop-count.text.items c.args.n n (n + c.sure.result) i.within (search (rules, arith)) i.made (search (rules, arith)) (search (rules, arith)) (search (rules, arith)) i.shorter;
    }

pub returns-then-made-n-clause-storage : goal.returns-then-made-n-clause-storage
returns-then-made-n-clause-storage c =
    let i = c.loop-count.invariant in
    is-storage c.loop-count.reader c.args.bytes.now c.loop-count.text.items c.args.n c.loop-count.count i.within i.made (search (rules, arith)) i.shorter

pub returns-then-len-n-clause-none : goal.returns-then-len-n-clause-none
returns-then-len-n-clause-none c =
    let i = c.loop-count.invariant in
    all-fewer c.loop-count.reader c.args.bytes.now c.loop-count.text.items c.args.n c.loop-count.count (search (rules, arith)) i.made (search (rules, arith))

pub returns-clause-storage : goal.returns-clause-storage
returns-clause-storage c =
    let i = c.loop-count.invariant in
    is-storage c.loop-count.reader c.args.bytes.now c.loop-count.text.items c.args.n c.loop-count.count i.within i.made (search (rules, arith)) i.shorter
