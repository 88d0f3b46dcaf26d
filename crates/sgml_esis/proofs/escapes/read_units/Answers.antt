use Rattle.std.proofs.Common.{◌≡◌, [], ◌++◌, map, take, ap, subst, ◌∙◌}
use Rattle.std.specs.Prelude.{IfOk, option_map}
use Rattle.sgml_esis.specs.Reading.{units_on}
use Rattle.sgml_esis.specs.declared.line.EscUnit.TheVariants as units
use Rattle.sgml_esis.specs.declared.escapes.Mode.TheVariants as modes
use Rattle.sgml_esis.proofs.Runs.{plain_start}
use Rattle.sgml_esis.proofs.escapes.read_units.Goals as goal

pub returns : goal.returns
returns c =
    let bytes = c.args.bytes.now in
    let all : c.push_bytes.new.units.items ≡ map units.Byte (take c.args.run bytes) =
    c.in_ok-push_bytes.ensures.ok ∙ ap (λ v. v ++ map units.Byte c.split_at.result.0.now) c.in_ok-units.ensures.items ∙ ap (map units.Byte) c.split_at.ensures.front in
    let same : units_on c.push_bytes.new.units.items modes.Plain c.split_at.result.1.now ≡ units_on [] modes.Plain bytes =
    ap (λ v. units_on v modes.Plain c.split_at.result.1.now) all
    ∙ ap (units_on (map units.Byte (take c.args.run bytes)) modes.Plain) c.split_at.ensures.back
    ∙ plain_start bytes c.args.run c.requires.plain in
    subst (λ v. IfOk c.read_on.result (λ us. option_map (λ u. u.items) us ≡ v)) same c.read_on.ensures
