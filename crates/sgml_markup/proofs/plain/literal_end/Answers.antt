use Rattle.std.proofs.Common.{◌≡◌, ◌+◌, ◌<◌, ◌∙◌, refl, ap, arith, drop, length, List, ℕ, not, ◌==◌, slice_index_or}
use Rattle.std.proofs.lemmas.List.{length-drop}
use Rattle.sgml_markup.specs.References.{run_of}
use Rattle.sgml_markup.proofs.Walking.{quoted-next}
use Rattle.sgml_markup.proofs.plain.literal_end.Goals as goal

pub returns-clause-value : goal.returns-clause-value
returns-clause-value c = λ some s closing.
    let body = c.args.body.now in
    let at = c.args.at in
    let n = c.length_before.result in
    let q = slice_index_or body at 0 in
    let run : n ≡ length (run_of (λ b. not (b == q)) (drop (at + 1) body)) =
    c.length_before.ensures.value ∙ ap (λ (b : List ℕ). length (run_of (λ b. not (b == q)) b)) c.after.ensures in
    let size = length-drop (at + 1) body in
    let same : length c.after.result.now ≡ length (drop (at + 1) body) = ap length c.after.ensures in
    let room : at < length body = omega (arith, c.if-at-body.false) in
    let inside : at + 1 + n < length body = omega (arith, size, same, room, c.length_before.ensures.within, c.if-to-body.false) in
    quoted-next s closing at n body room (c.if-not-begins_literal.ensures.separator refl) (c.if-not-begins_literal.ensures.quote refl)
    run inside (c.if-not-is_end.ensures refl)
