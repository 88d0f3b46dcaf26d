use Rattle.std.proofs.Common.{◌≡◌, ◌+◌, ◌<◌, ◌∷◌, ◌∙◌, refl, ap, sym, arith, drop, length, List, ℕ}
use Rattle.std.proofs.lemmas.List.{length-drop}
use Rattle.sgml_text.specs.NameCharacters.{is_name_character}
use Rattle.sgml_markup.specs.References.{run_of}
use Rattle.sgml_markup.proofs.Walking.{bare-last, bare-next, ready-over, separator-next}
use Rattle.sgml_markup.specs.declared.kinds.PartKind.TheVariants as part
use Rattle.sgml_markup.specs.declared.kinds.Part.{Part}
use Rattle.sgml_markup.proofs.plain.bare_end.Goals as goal

pub returns-then-to-body-clause-value : goal.returns-then-to-body-clause-value
returns-then-to-body-clause-value c = λ some closing.
    let s = c.args.syntax.now in
    let body = c.args.body.now in
    let at = c.args.at in
    let n = c.name_length.result in
    let bare : Part = record { kind = part.Bare; from = at; to = at + 1 + n } in
    let run : n ≡ length (run_of (is_name_character s.names) (drop (at + 1) body)) =
    c.name_length.ensures.value ∙ ap (λ (b : List ℕ). length (run_of (is_name_character s.names) b)) c.after.ensures in
    let room : at < length body = omega (arith, c.if-at-body.false) in
    let ends : at + 1 + n ≡ length body = c.if-to-body.true in
    bare-last s closing at n body room (c.if-not-begins_bare.ensures.separator refl) (c.if-not-begins_bare.ensures.quote refl) (c.if-not-begins_bare.ensures.name refl)
    (c.if-not-begins_bare.ensures.bare refl) run ends
    ∙ ap (λ (ps : List Part). bare ∷ ps) (sym (ready-over s closing (at + 1 + n) body (omega (arith, ends))))

pub returns-then-ends_name-clause-value : goal.returns-then-ends_name-clause-value
returns-then-ends_name-clause-value c = λ some closing.
    let s = c.args.syntax.now in
    let body = c.args.body.now in
    let at = c.args.at in
    let n = c.name_length.result in
    let bare : Part = record { kind = part.Bare; from = at; to = at + 1 + n } in
    let run : n ≡ length (run_of (is_name_character s.names) (drop (at + 1) body)) =
    c.name_length.ensures.value ∙ ap (λ (b : List ℕ). length (run_of (is_name_character s.names) b)) c.after.ensures in
    let size = length-drop (at + 1) body in
    let same : length c.after.result.now ≡ length (drop (at + 1) body) = ap length c.after.ensures in
    let room : at < length body = omega (arith, c.if-at-body.false) in
    let inside : at + 1 + n < length body = omega (arith, size, same, room, c.name_length.ensures.within, c.if-to-body.false) in
    bare-next s closing at n body room (c.if-not-begins_bare.ensures.separator refl) (c.if-not-begins_bare.ensures.quote refl) (c.if-not-begins_bare.ensures.name refl)
    (c.if-not-begins_bare.ensures.bare refl) run inside (c.if-ends_name.ensures.other refl) (c.if-ends_name.ensures.separator refl)
    ∙ ap (λ (ps : List Part). bare ∷ ps) (sym (separator-next s closing (at + 1 + n) body inside (c.if-ends_name.ensures.separator refl)))
