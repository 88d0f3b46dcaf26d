use Rattle.sgml_content_data.specs.Roles.{around_of}
use Rattle.sgml_content_data.proofs.Fronts.{above-space}
use Rattle.sgml_content_data.proofs.quick.is_data_first.Goals as goal

pub returns-then-byte-gt32 : goal.returns-then-byte-gt32
returns-then-byte-gt32 c = above-space (around_of c.args.content.now) c.args.byte c.if-byte-gt32.true
