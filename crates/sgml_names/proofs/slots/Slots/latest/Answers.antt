use Rattle.std.proofs.Common.{rules, ◌≡◌, ◌<◌, ◌∙◌, ap, length, arith, List, ℕ}
use Rattle.sgml_names.specs.declared.slots.Link.{Link}
use Rattle.sgml_names.specs.Slots.{hashes_of, latest, slot_of}
use Rattle.sgml_names.proofs.Chains.{chained_slot, latest_slot}
use Rattle.sgml_names.proofs.slots.Slots.latest.Goals as goal

pub last_of-requires-clause-chained : goal.last_of-requires-clause-chained
last_of-requires-clause-chained c =
    let last = c.self.inside.last.items in
    let count : c.len.result ≡ length last = search rules in
    let slot : c.slot_of.result ≡ slot_of (length last) c.args.hash = c.slot_of.ensures.value ∙ ap (λ m. slot_of m c.args.hash) count in
    let within : c.slot_of.result < length last = omega (arith, c.slot_of.ensures.within, count) in
    rw (c.deref.ensures.value, c.deref-2.ensures.value) (chained_slot c.self.inside.links.items last c.args.hash c.slot_of.result c.index-start.result.now c.self.invariant slot within c.index-start.ensures)

pub returns : goal.returns
returns c =
    let last = c.self.inside.last.items in
    let count : c.len.result ≡ length last = search rules in
    let slot : c.slot_of.result ≡ slot_of (length last) c.args.hash = c.slot_of.ensures.value ∙ ap (λ m. slot_of m c.args.hash) count in
    let within : c.slot_of.result < length last = omega (arith, c.slot_of.ensures.within, count) in
    c.last_of.ensures
    ∙ ap (λ (ls : List Link). latest c.args.hash (hashes_of ls) c.index-start.result.now) c.deref.ensures.value
    ∙ latest_slot c.self.inside.links.items last c.args.hash c.slot_of.result c.index-start.result.now c.self.invariant slot within c.index-start.ensures
    ∙ ap (λ (hs : List ℕ). latest c.args.hash hs (length hs)) c.self.view_is
