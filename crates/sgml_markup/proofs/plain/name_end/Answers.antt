use Rattle.std.proofs.Common.{◌≡◌, ◌+◌, ◌<◌, ◌∙◌, refl, ap, arith, drop, length, List, ℕ}
use Rattle.std.proofs.lemmas.List.{length-drop}
use Rattle.sgml_text.specs.NameCharacters.{is_name_character}
use Rattle.sgml_markup.specs.References.{run_of}
use Rattle.sgml_markup.proofs.Walking.{attribute-next}
use Rattle.sgml_markup.proofs.plain.name_end.Goals as goal

pub returns-clause-named : goal.returns-clause-named
returns-clause-named c = λ some closing.
    let s = c.args.syntax.now in
    let body = c.args.body.now in
    let at = c.args.at in
    let n = c.name_length.result in
    let run : n ≡ length (run_of (is_name_character s.names) (drop (at + 1) body)) =
    c.name_length.ensures.value ∙ ap (λ (b : List ℕ). length (run_of (is_name_character s.names) b)) c.after.ensures in
    let size = length-drop (at + 1) body in
    let same : length c.after.result.now ≡ length (drop (at + 1) body) = ap length c.after.ensures in
    let room : at < length body = omega (arith, c.if-at-body.false) in
    let inside : at + 1 + n < length body = omega (arith, size, same, room, c.name_length.ensures.within, c.if-to-body.false) in
    attribute-next s closing at n body room (c.if-not-begins_name.ensures.separator refl) (c.if-not-begins_name.ensures.name refl) (c.if-not-begins_name.ensures.start refl)
    run inside (c.if-not-is_sign.ensures.sign refl) (c.if-not-is_sign.ensures.other refl)
