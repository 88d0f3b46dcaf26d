-- What a board stands for, and what a pass knows.
use Rattle.std.specs.Prelude.{◌≡◌, List}
use Rattle.sgml_runs.specs.declared.run.Chunk.{Chunk}
use Rattle.sgml_runs.specs.declared.run.Entry.{Entry}
use Rattle.sgml_runs.specs.Runs.{Runs, runs_by}
use Rattle.sgml_runs.specs.declared.view.View.{View}
use Rattle.sgml_runs.specs.declared.board.Board.{Board}
use Rattle.sgml_runs.specs.declared.pass.Pass.{Pass}

-- the syntax that the board is made for
abbrev pub syntax_of : {S X T : Type 0} → Board S X T → S
syntax_of b = b.table.shared.key.syntax.value

-- the texts that the board is made for
abbrev pub texts_of : {S X T : Type 0} → Board S X T → X
texts_of b = b.table.shared.key.texts.value

-- the run that each chunk has to get
abbrev pub runs_of : {S X T : Type 0} → (S → X → Chunk → List (Entry T)) → Board S X T → Runs T
runs_of scanned b = runs_by scanned b.table.shared.key

abbrev pub known : {T : Type 0} → Pass T → View T
known p = p.seat.me.0

abbrev pub IsPassOf : {S X T : Type 0} → (S → X → Chunk → List (Entry T)) → Board S X T → Pass T → Type 0
IsPassOf scanned b p = (p.seat.table_id ≡ b.table.shared.table_id) × (p.seat.me.0.runs ≡ runs_of scanned b)
