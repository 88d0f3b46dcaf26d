use Rattle.std.proofs.Common.{◌∙◌, ap, refl}
use Rattle.sgml_content_references.specs.Strings.{mapped_to, numbered}
use Rattle.sgml_content_references.proofs.Spelling.{number-is}
use Rattle.sgml_content_references.proofs.mapping.mapped_to.Goals as goal

pub returns-in-Some-lookup : goal.returns-in-Some-lookup
returns-in-Some-lookup c =
    ap numbered (c.in-Some-lookup.ensures ∙ number-is c.args.dtd.now c.entities.result.now.entities c.in-Some.name.now c.in-Some.name.now c.entities.ensures.entities refl)
    ∙ ap (mapped_to c.args.dtd.now) c.in-Some.ensures

pub returns-in-None-lookup : goal.returns-in-None-lookup
returns-in-None-lookup c =
    ap numbered (c.in-None-lookup.ensures ∙ number-is c.args.dtd.now c.entities.result.now.entities c.in-Some.name.now c.in-Some.name.now c.entities.ensures.entities refl)
    ∙ ap (mapped_to c.args.dtd.now) c.in-Some.ensures
