use Rattle.std.specs.Prelude.{◌≡◌, ℕ, Option, Some, None, is_some}
use Rattle.std.specs.Option.{option_copied}
use Rattle.std.proofs.Common.{refl, ap, ◌∙◌, Bor}
use Rattle.sgml_dtd_maps.specs.declared.uses.MapOf.{MapOf}
use Rattle.sgml_theory_reading.specs.Names.{Name}
use Rattle.sgml_declared.specs.theory_spelling.Content.{entity_of_string}
use Rattle.sgml_inside.specs.Inside.{map_in}
use Rattle.sgml_content_steps.specs.Content.{Content}
use Rattle.sgml_content_steps.specs.contracts.content.Content.{the_view}
use Rattle.sgml_content_references.proofs.mapping.is_mapped.Goals as goal

copied-some : (o : Option (Bor Name)) → is_some o ≡ is_some (option_copied o)
copied-some None = refl
copied-some (Some x) = refl

named-in : (z old : Content) (map : MapOf) (o : Option Name) (string : ℕ) → z ≡ old → map ≡ map_in z.inside.elements → o ≡ entity_of_string z.kept.doctype map string
    → is_some o ≡ is_some (entity_of_string old.kept.doctype (map_in old.inside.elements) string)
named-in z old map o string same m e =
    ap is_some e ∙ (ap (λ x. is_some (entity_of_string z.kept.doctype x string)) m
    ∙ ap (λ (c : Content). is_some (entity_of_string c.kept.doctype (map_in c.inside.elements) string)) same)

pub returns : goal.returns
returns c =
    c.is_some.ensures
    ∙ (copied-some c.name_of.result
    ∙ named-in _ c.args.content.now c.map.result (option_copied c.name_of.result) c.args.string (ap the_view c.content-inside.view_is ∙ c.content.view_is) c.map.ensures c.name_of.ensures)
