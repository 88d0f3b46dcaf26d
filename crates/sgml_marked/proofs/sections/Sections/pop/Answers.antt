use Rattle.std.proofs.Common.{length, arith, ◌≡◌, ◌<◌, subst, sym, vec_len}
use Rattle.std.specs.List.{remove}
use Rattle.sgml_marked.specs.Opened.{Bounds}
use Rattle.sgml_marked.proofs.Bounding.{one-less, same-length}
use Rattle.sgml_marked.proofs.sections.Sections.pop.Goals as goal

pub remove-requires-in-Some : goal.remove-requires-in-Some
remove-requires-in-Some c =
    let same : length c.self.inside.highest.items ≡ length c.self.inside.sections.items = same-length 0 c.self.inside.sections.items c.self.inside.highest.items c.self.invariant in
    let bound : c.in-Some.i < length c.deref.result.now = c.in-Some.ensures.bound in
    let len : length c.deref.result.now ≡ vec_len c.self.inside.sections = c.deref.ensures.len in
    omega (arith, same, bound, len)

pub invariant_of-self : goal.invariant_of-self
invariant_of-self c =
    let bound : c.in-Some.i < length c.deref.result.now = c.in-Some.ensures.bound in
    let len : length c.deref.result.now ≡ vec_len c.self.inside.sections = c.deref.ensures.len in
    subst (λ hs. Bounds 0 c.remove.new.self.items hs) (sym c.remove-in-Some.ensures.items)
    (subst (λ ss. Bounds 0 ss (remove c.self.inside.highest.items c.in-Some.i)) (sym c.remove.ensures.items)
    (one-less 0 c.self.inside.sections.items c.self.inside.highest.items c.in-Some.i c.self.invariant (omega (arith, bound, len))))
