use Rattle.std.proofs.Common.{◌≡◌, ◌+◌, ◌<◌, ◌∷◌, ◌∙◌, refl, ap, sym, arith, drop, length, List, ℕ}
use Rattle.std.proofs.lemmas.List.{length-drop}
use Rattle.sgml_text.specs.NameCharacters.{is_name_character}
use Rattle.sgml_markup.specs.Tags.{tag_parts}
use Rattle.sgml_markup.specs.References.{run_of}
use Rattle.sgml_markup.specs.declared.kinds.PartKind.TheVariants as part
use Rattle.sgml_markup.specs.declared.kinds.TagState.{TagState}
use Rattle.sgml_markup.specs.declared.kinds.Part.{Part}
use Rattle.sgml_markup.proofs.Walking.{name-last, name-next}
use Rattle.sgml_markup.proofs.walk.name_part.Goals as goal

pub returns-then-at-body-clause-parts : goal.returns-then-at-body-clause-parts
returns-then-at-body-clause-parts c =
    let s = c.args.syntax.now in
    let w = c.args.walk in
    let body = c.unclosed-body.result.now in
    let n = c.name_length.result in
    let run : n ≡ length (run_of (is_name_character s.names) (drop w.at body)) =
    c.name_length.ensures.value ∙ ap (λ (b : List ℕ). length (run_of (is_name_character s.names) b)) c.after.ensures in
    rw c.if-walk.false (
    ap (λ (b : List ℕ). tag_parts s w.closing w.at w.state (drop w.at b)) (sym c.unclosed-body.ensures.value)
    ∙ ap (λ (st : TagState). tag_parts s w.closing w.at st (drop w.at body)) c.in-ElementName.is
    ∙ name-last s w.closing w.at c.in-ElementName.from n body run c.if-at-body.true)

pub returns-clause-parts : goal.returns-clause-parts
returns-clause-parts c =
    let s = c.args.syntax.now in
    let w = c.args.walk in
    let body = c.unclosed-body.result.now in
    let n = c.name_length.result in
    let at = w.at + n in
    let run : n ≡ length (run_of (is_name_character s.names) (drop w.at body)) =
    c.name_length.ensures.value ∙ ap (λ (b : List ℕ). length (run_of (is_name_character s.names) b)) c.after.ensures in
    let size = length-drop w.at body in
    let same : length c.after.result.now ≡ length (drop w.at body) = ap length c.after.ensures in
    let within : at < length body = omega (arith, size, same, c.name_length.ensures.within) in
    let named : Part = record { kind = part.ElementName; from = c.in-ElementName.from; to = at } in
    rw c.if-walk.false (
    ap (λ (b : List ℕ). tag_parts s w.closing w.at w.state (drop w.at b)) (sym c.unclosed-body.ensures.value)
    ∙ ap (λ (st : TagState). tag_parts s w.closing w.at st (drop w.at body)) c.in-ElementName.is
    ∙ name-next s w.closing w.at c.in-ElementName.from n body run within (c.if-not-ends_name.ensures.other refl) (c.if-not-ends_name.ensures.separator refl)
    ∙ ap (λ (st : TagState). named ∷ tag_parts s w.closing (at + 1) st (drop (at + 1) body)) (sym c.after_name.ensures)
    ∙ ap (λ (b : List ℕ). named ∷ tag_parts s w.closing (at + 1) c.after_name.result (drop (at + 1) b)) c.unclosed-body.ensures.value)
