use Rattle.std.proofs.Common.{ℕ, List, length, refl, sym, ap, ◌∙◌, subst, ◌<◌}
use Rattle.std.specs.List.{slice_get}
use Rattle.sgml_dtd_elements.specs.Types.{types}
use Rattle.sgml_full.specs.Events.{inside_at}
use Rattle.sgml_full.proofs.Contents.{some-length, by-content}
use Rattle.sgml_full.proofs.inside.inside_of.Goals as goal

pub returns : goal.returns
returns c =
    by-content c.args.dtd.now c.args.element (slice_get (types c.args.dtd.now.elements) c.args.element) c.content.result.now c.content_inside.result refl c.content.ensures c.content_inside.ensures c.elements.ensures.distinct
    (subst (λ (name : List ℕ). 0 < length name) c.element_name.ensures (some-length c.element_name.result.now (sym c.is_empty.ensures ∙ c.if-is_empty.false)))
    ∙ ap (inside_at c.args.dtd.now c.args.element) (sym c.if-refers.false)
