use Rattle.std.proofs.Common.{◌≡◌, arith}
use Rattle.sgml_decl_lexemes.proofs.reader.read_construct.Goals as goal

pub rewind-requires-clause-spent : goal.rewind-requires-clause-spent
rewind-requires-clause-spent c =
    let same : c.read.new.stack.expand ≡ c.args.stack.now.expand = c.in-Err.ensures.on_top.expand_is in
    omega (arith, c.mark-mark.ensures.within, same)
