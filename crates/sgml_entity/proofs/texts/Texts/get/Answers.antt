use Rattle.std.proofs.Common.{ℕ, List, ◌∙◌, ap, Some, length, ◌-◌, slice_get}
use Rattle.std.specs.Global.{Vec}
use Rattle.sgml_entity.specs.Texts.{text_of}
use Rattle.sgml_entity.proofs.Grown.{read_place}
use Rattle.sgml_entity.proofs.texts.Texts.get.Goals as goal

pub returns-then-first-entity : goal.returns-then-first-entity
returns-then-first-entity c =
    let texts = c.self.inside.texts in
    ap Some c.as_slice.ensures.value
    ∙ read_place c.args.entity texts 0 (c.in-Some.first.now, c.in-Some.text.now) c.as_slice-texts.ensures.unique (c.in-Some.ensures.entry ∙ ap (λ (es : List (ℕ × Vec ℕ)). slice_get es 0) c.as_slice-texts.ensures.entries) c.if-first-entity.true
    ∙ ap (λ ts. text_of ts c.args.entity) c.self.view_is

pub returns-then-last-entity : goal.returns-then-last-entity
returns-then-last-entity c =
    let texts = c.self.inside.texts in
    ap Some c.as_slice-then-last-entity.ensures.value
    ∙ read_place c.args.entity texts (length texts.entries - 1) (c.in-Some-last.last.now, c.in-Some-last.text.now) c.as_slice-texts.ensures.unique (c.in-Some-last.ensures.entry ∙ ap (λ (es : List (ℕ × Vec ℕ)). slice_get es (length es - 1)) c.as_slice-texts.ensures.entries) c.if-last-entity.true
    ∙ ap (λ ts. text_of ts c.args.entity) c.self.view_is
