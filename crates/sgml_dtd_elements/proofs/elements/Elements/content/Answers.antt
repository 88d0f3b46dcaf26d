use Rattle.std.specs.List.{slice_get}
use Rattle.sgml_dtd_elements.specs.Types.{types}
use Rattle.sgml_dtd_elements.proofs.KeptRows.{content_of_row}
use Rattle.sgml_dtd_elements.proofs.elements.Elements.content.Goals as goal

pub returns : goal.returns
returns c = content_of_row (slice_get (types c.args.self.now) c.args.number) c.row.result.now c.row.ensures.body c.row.ensures.read
