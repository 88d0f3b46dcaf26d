use Rattle.std.proofs.Common.{sym}
use Rattle.sgml_decl_parts.proofs.Standing.{sign_outside}
use Rattle.sgml_decl_parts.proofs.part.read_outside.Goals as goal

pub returns-in-Some-clause-part : goal.returns-in-Some-clause-part
returns-in-Some-clause-part c =
    sign_outside c.args.names.now c.args.at_base c.args.after_group c.args.b c.args.bytes.now c.in-Some.sign
    c.if-b-eq45.false (sym c.if-is_quote.ensures) c.if-b-eq62.false (sym c.in-Some.ensures)
