use Rattle.sgml_content_data.proofs.Fronts.{above-space}
use Rattle.sgml_content_data.proofs.front.is_data_at.Goals as goal

pub returns-then-byte-gt32 : goal.returns-then-byte-gt32
returns-then-byte-gt32 c = above-space c.args.around c.args.byte c.if-byte-gt32.true
