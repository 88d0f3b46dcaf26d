use Rattle.std.proofs.Common.{None, ◌∙◌}
use Rattle.sgml_settings.proofs.Nothing.{nothing-read}
use Rattle.sgml_settings.proofs.setting.without_catalog.Goals as goal

pub returns : goal.returns
returns c =
    let none = nothing-read c.in-Ok.catalog c.in-Ok.ensures in
    λ i. record { catalog = none i; catalog_base = (c.of.ensures ∙ c.new.ensures.items) i; declaration = None }
