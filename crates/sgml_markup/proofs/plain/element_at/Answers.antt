use Rattle.std.proofs.Common.{◌≡◌, ◌+◌, ◌<◌, ◌∷◌, ◌∙◌, refl, ap, sym, arith, drop, length, List, ℕ, false}
use Rattle.std.proofs.lemmas.List.{length-drop}
use Rattle.sgml_text.specs.NameCharacters.{is_name_character}
use Rattle.sgml_markup.specs.References.{run_of}
use Rattle.sgml_markup.proofs.Walking.{name-last, name-next, ready-over}
use Rattle.sgml_markup.specs.declared.kinds.PartKind.TheVariants as part
use Rattle.sgml_markup.specs.declared.kinds.Part.{Part}
use Rattle.sgml_markup.proofs.plain.element_at.Goals as goal

pub returns-then-at-body-clause-parts : goal.returns-then-at-body-clause-parts
returns-then-at-body-clause-parts c =
    let s = c.args.syntax.now in
    let body = c.args.body.now in
    let n = c.name_length-at.result in
    let run : n ≡ length (run_of (is_name_character s.names) (drop 1 body)) =
    c.name_length-at.ensures.value ∙ ap (λ (b : List ℕ). length (run_of (is_name_character s.names) b)) c.after.ensures in
    let named : Part = record { kind = part.ElementName; from = 1; to = 1 + n } in
    let ends : 1 + n ≡ length body = c.if-at-body.true in
    name-last s false 1 1 n body run ends
    ∙ ap (λ (ps : List Part). named ∷ ps) (sym (ready-over s false (1 + n) body (omega (arith, ends))))

pub returns-then-ends_name-clause-parts : goal.returns-then-ends_name-clause-parts
returns-then-ends_name-clause-parts c =
    let s = c.args.syntax.now in
    let body = c.args.body.now in
    let n = c.name_length-at.result in
    let run : n ≡ length (run_of (is_name_character s.names) (drop 1 body)) =
    c.name_length-at.ensures.value ∙ ap (λ (b : List ℕ). length (run_of (is_name_character s.names) b)) c.after.ensures in
    let size = length-drop 1 body in
    let same : length c.after.result.now ≡ length (drop 1 body) = ap length c.after.ensures in
    let inside : 1 + n < length body = omega (arith, size, same, c.if-body-lt2.false, c.name_length-at.ensures.within, c.if-at-body.false) in
    name-next s false 1 1 n body run inside (c.if-ends_name.ensures.other refl) (c.if-ends_name.ensures.separator refl)
