use Rattle.std.proofs.Common.{sym}
use Rattle.sgml_decl_parts.proofs.Standing.{inner_sign}
use Rattle.sgml_decl_parts.proofs.part.read_in_group.Goals as goal

pub returns-in-Some-clause-part : goal.returns-in-Some-clause-part
returns-in-Some-clause-part c = inner_sign c.args.names.now c.args.b c.args.bytes.now c.in-Some.sign (sym c.in-Some.ensures)
