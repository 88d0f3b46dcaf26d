use Rattle.std.proofs.Common.{◌≡◌, List, ℕ, ◌+◌, ◌-◌, ◌≤◌, Bool, take, length, ap, sym, ◌∙◌, ◌++◌, arith}
use Rattle.std.proofs.lemmas.List.{length-take-le}
use borrow.Rule.Slice.PartMut.{put_mid}
use Rattle.sgml_esis.proofs.Fronts.{short_held}
use Rattle.sgml_esis.proofs.held.Held.extend_short.Goals as goal

pub returns : goal.returns
returns c =
    let h = c.self.inside in
    let least : h.used ≤ length h.bytes = omega (arith, c.self.invariant, c.self.told) in
    let long : length c.args.self.now.0 ≡ h.used = sym (ap (λ (x : List ℕ × Bool). length x.0) c.self.view_is) ∙ length-take-le h.used h.bytes least in
    let fits : h.used + 24 ≤ length h.bytes = omega (arith, long, c.requires, c.self.told) in
    ap (λ (v : List ℕ). (v, h.failed)) (ap (λ (r : List ℕ). take (h.used + c.len.result) (put_mid h.used (h.used + 24 - h.used) h.bytes r)) c.copy_from_slice.ensures.after
    ∙ short_held h.bytes c.room.result.now c.args.short.now h.used (h.used + 24 - h.used) c.len.result fits c.room.ensures.length c.len.ensures.length c.len.ensures.within c.room.ensures.front)
    ∙ ap (λ (x : List ℕ × Bool). (x.0 ++ c.args.short.now, x.1)) c.self.view_is
