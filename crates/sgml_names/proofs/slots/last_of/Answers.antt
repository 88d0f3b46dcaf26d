use Rattle.std.proofs.Common.{◌≡◌, ◌∙◌, ◌-◌, suc, arith}
use Rattle.sgml_names.specs.declared.slots.Link.{Link}
use Rattle.sgml_names.proofs.Chains.{chain_on, chain_same, chain_less}
use Rattle.sgml_names.proofs.slots.last_of.Goals as goal

abbrev none : Link
none = record { hash = 0; earlier = 0; depth = 0 }

pub chain-smaller : goal.chain-smaller
chain-smaller c =
    let is : c.chain.place ≡ suc (c.chain.place - 1) = omega (arith, c.chain-test.true) in
    chain_less c.args.links.now c.args.last.now c.args.hash c.chain.place (c.chain.place - 1) none c.requires.linked is c.chain.invariant.chained

pub chain-preserved : goal.chain-preserved
chain-preserved c =
    let is : c.chain.place ≡ suc (c.chain.place - 1) = omega (arith, c.chain-test.true) in
    record {
      chained = chain_on c.args.links.now c.args.last.now c.args.hash c.chain.place (c.chain.place - 1) none c.requires.linked is c.chain.invariant.chained;
      same = chain_same c.args.links.now c.args.last.now c.args.hash c.chain.place (c.chain.place - 1) none c.requires.linked is c.chain.invariant.chained c.if-link-hash.false ∙ c.chain.invariant.same;
    }
