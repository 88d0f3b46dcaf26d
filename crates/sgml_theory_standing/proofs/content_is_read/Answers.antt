use Rattle.sgml_theory_standing.proofs.Parsing.{spelled-is-next, move-reads, move-parses}
use Rattle.sgml_theory_standing.proofs.content_is_read.Goals as goal

pub returns : goal.returns
returns c = record { next = spelled-is-next; reads = move-reads; parses = move-parses }
