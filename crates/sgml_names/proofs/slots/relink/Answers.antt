use Rattle.std.proofs.Common.{◌<◌, ◌∙◌, length, arith}
use Rattle.std.proofs.lemmas.List.{take_more_set, length-set}
use Rattle.sgml_names.proofs.Chains.{hashes_set}
use Rattle.sgml_names.proofs.slots.relink.Goals as goal

pub loop-place-preserved : goal.loop-place-preserved
loop-place-preserved c =
    let within : c.loop-place.place < length c.loop-place.links = omega (arith, c.loop-place-test.true, c.loop-place.invariant.links) in
    record {
      linked = rw (take_more_set c.loop-place.links c.loop-place.place c.enter.result within) c.enter.ensures.linked;
      hashes = hashes_set c.loop-place.links c.loop-place.place c.enter.result _ within c.enter.ensures.hash ∙ c.loop-place.invariant.hashes;
      links = length-set c.loop-place.links c.loop-place.place c.enter.result ∙ c.loop-place.invariant.links;
      slots = c.enter.ensures.slots ∙ c.loop-place.invariant.slots;
    }
