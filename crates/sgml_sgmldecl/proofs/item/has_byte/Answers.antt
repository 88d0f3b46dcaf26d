use Rattle.std.proofs.Common.{sym, arith}
use Rattle.sgml_sgmldecl.proofs.Bytes.{has_byte-read, has_byte-past}
use Rattle.sgml_sgmldecl.proofs.item.has_byte.Goals as goal

pub returns-then-n-bytes : goal.returns-then-n-bytes
returns-then-n-bytes c = has_byte-read c.args.bytes.now c.args.n c.args.b (omega arith)

pub returns-else-n-bytes : goal.returns-else-n-bytes
returns-else-n-bytes c = sym (has_byte-past c.args.bytes.now c.args.n c.args.b (omega arith))
