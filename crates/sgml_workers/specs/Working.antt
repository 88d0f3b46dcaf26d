-- What the reader and the workers are for.
use Rattle.std.specs.Prelude.{◌≡◌, ◌<◌, ◌+◌, ℕ, zero, suc, List, [], ◌∷◌, All}
use Rattle.sgml_runs.specs.declared.run.Chunk.{Chunk}
use Rattle.sgml_runs.specs.declared.run.Entry.{Entry}
use Rattle.sgml_runs.specs.declared.view.View.{View}
use Rattle.sgml_runs.specs.declared.board.Board.{Board}
use Rattle.sgml_runs.specs.Names.{syntax_of, texts_of}

-- the board is made for this syntax and these texts, in which its chunks lie
pub record IsFor {S X T : Type 0} (lies : X → Chunk → Type 0) (b : Board S X T) (syntax : S) (texts : X) : Type 0 where
  pub of_syntax : syntax_of b ≡ syntax
  pub of_texts : texts_of b ≡ texts
  pub chunks : All (lies texts) b.chunks.items

-- the entries of a run
abbrev pub entries_of : {T : Type 0} → Chunk × List (Entry T) → List (Entry T)
entries_of r = r.1

-- nothing was done but to look and to take
pub record LooksAlone {T : Type 0} (v w : View T) : Type 0 where
  pub parts : w.parts ≡ v.parts
  pub nones : w.nones ≡ v.nones
  pub leads : w.leads ≡ v.leads

-- what a reader begins with: it leads, has taken nothing, has found a chunk at each claim, and has a part for each
-- of so many workers beside it and one of its own
abbrev pub Leads : {T : Type 0} → ℕ → View T → Type 0
Leads workers v = (0 < v.leads) × (v.taken ≡ []) × (v.nones ≡ 0) × (workers < v.parts)

-- what a worker begins with
abbrev pub Begins : {T : Type 0} → View T → Type 0
Begins v = (v.nones ≡ 0) × (v.leads ≡ 0)

-- what a worker ends with: it has its parts still, and found no chunk left
abbrev pub HasWorked : {T : Type 0} → View T → View T → Type 0
HasWorked v w = (w.leads ≡ 0) × (w.parts ≡ v.parts) × (0 < w.nones)

-- what a reader ends with, once so many workers are done: the same, where there was one
abbrev pub HasRead : {T : Type 0} → ℕ → View T → View T → Type 0
HasRead workers v w = (w.parts ≡ v.parts) × (0 < workers → 0 < w.nones)

-- what scanning each of the chunks costs, added up
abbrev pub cost_of_all : (Chunk → ℕ) → List Chunk → ℕ
cost_of_all cost [] = 0
cost_of_all cost (c ∷ cs) = cost c + cost_of_all cost cs

-- what scanning the chunk with this number costs
abbrev pub cost_at : (Chunk → ℕ) → List Chunk → ℕ → ℕ
cost_at cost [] k = 0
cost_at cost (c ∷ cs) zero = cost c
cost_at cost (c ∷ cs) (suc k) = cost_at cost cs k
