use Rattle.std.proofs.Common.{rules, ◌≡◌, ◌<◌, ◌∙◌, ap, length, arith}
use Rattle.sgml_names.specs.Slots.{slot_of}
use Rattle.sgml_names.proofs.Chains.{linked_pop}
use Rattle.sgml_names.proofs.slots.Slots.pop.Goals as goal

pub invariant_of-self : goal.invariant_of-self
invariant_of-self c =
    let last = c.self.inside.last.items in
    let count : c.len.result ≡ length last = search rules in
    let slot : c.slot_of-slot.result ≡ slot_of (length last) c.in-Some.link.hash = c.slot_of-slot.ensures.value ∙ ap (λ m. slot_of m c.in-Some.link.hash) count in
    let within : c.slot_of-slot.result < length last = omega (arith, c.slot_of-slot.ensures.within, count) in
    linked_pop c.self.inside.links.items c.pop.new.self.items last c.in-Some.link c.slot_of-slot.result c.in-Some.ensures.items c.self.invariant slot within
