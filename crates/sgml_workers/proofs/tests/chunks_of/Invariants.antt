use Rattle.std.proofs.Common.{◌≡◌, ◌<◌, vec_len, All}
use Rattle.sgml_workers.proofs.tests.chunks_of.Given as goal

abbrev pub invariant-loop-from : goal.invariant-loop-from
invariant-loop-from l = (vec_len l.chunks ≡ l.from) × All (λ chunk. chunk.from < vec_len l.bytes.all) l.chunks.items
