-- The runs that a board is made for.
use Rattle.std.specs.Prelude.{List, map}
use Rattle.sgml_runs.specs.declared.run.Chunk.{Chunk}
use Rattle.sgml_runs.specs.declared.run.Entry.{Entry}
use Rattle.sgml_runs.specs.declared.expected.Expected.{Expected}

-- each chunk, and the tokens that begin in it
abbrev pub Runs : Type 0 → Type 0
Runs T = List (Chunk × List (Entry T))

-- what scanning each chunk gives
abbrev pub runs_by : {S X T : Type 0} → (S → X → Chunk → List (Entry T)) → Expected S X → Runs T
runs_by scanned e = map (λ p. (p, scanned e.syntax.value e.texts.value p)) e.chunks.value.items
