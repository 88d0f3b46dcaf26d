use Rattle.std.proofs.Common.{◌<◌, ◌∙◌, ap, length, get_or, arith, List, ℕ}
use Rattle.std.proofs.lemmas.List.{length-map}
use Rattle.sgml_names.specs.declared.slots.Link.{Link}
use Rattle.sgml_names.specs.Slots.{hashes_of, latest}
use Rattle.sgml_names.proofs.Chains.{chained_link, latest_link}
use Rattle.sgml_names.proofs.slots.Slots.before.Goals as goal

pub last_of-requires-clause-chained : goal.last_of-requires-clause-chained
last_of-requires-clause-chained c =
    let links = c.self.inside.links.items in
    let within : c.args.place < length links = omega (arith, c.requires, ap length c.self.view_is, length-map links (λ (l : Link). l.hash)) in
    rw (c.deref.ensures.value, c.deref-2.ensures.value) (chained_link links c.self.inside.last.items c.args.place c.index-link.result.now c.self.invariant within c.index-link.ensures)

pub returns : goal.returns
returns c =
    let links = c.self.inside.links.items in
    let within : c.args.place < length links = omega (arith, c.requires, ap length c.self.view_is, length-map links (λ (l : Link). l.hash)) in
    c.last_of.ensures
    ∙ ap (λ (ls : List Link). latest c.index-link.result.now.hash (hashes_of ls) c.index-link.result.now.earlier) c.deref.ensures.value
    ∙ latest_link links c.self.inside.last.items c.args.place c.index-link.result.now c.self.invariant within c.index-link.ensures
    ∙ ap (λ (hs : List ℕ). latest (get_or hs c.args.place 0) hs c.args.place) c.self.view_is
