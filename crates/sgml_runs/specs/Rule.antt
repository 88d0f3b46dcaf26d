-- The rule of the board: word 0 counts the claims, and each chunk has a word, which becomes 1, and a slot.
use Rattle.std.specs.Prelude.{◌≡◌, ℕ, ◌+◌, ◌-◌, ◌<◌, ◌≤◌, ◌^◌, List, [], length, slice_index, Option, Some}
use mathlib.Core.Option.{some}
use lib.ListN.{get_elem?}
use Rattle.atomic_table.specs.Table.{State}
use Rattle.sgml_runs.specs.Runs.{Runs}
use Rattle.sgml_runs.specs.declared.run.Run.{Run}
use Rattle.sgml_runs.specs.declared.view.View.{View}
use Rattle.sgml_runs.specs.Counts.{times, total}

abbrev pub view : {T : Type 0} → Runs T → ℕ → ℕ → ℕ → List ℕ → List ℕ → List ℕ → List ℕ → List ℕ → List ℕ → View T
view runs parts nones leads claims held marks seen misses taken = record { marker = record {}; runs = runs; parts = parts; nones = nones; leads = leads; claims = claims; held = held; marks = marks; seen = seen; misses = misses; taken = taken }

abbrev pub opening_view : {T : Type 0} → Runs T → View T
opening_view runs = view runs 64 0 1 [] [] [] [] [] []

abbrev pub spent_view : {T : Type 0} → View T
spent_view = view [] 0 0 0 [] [] [] [] [] []

-- the run is that of the chunk k
abbrev pub IsRunOf : {T : Type 0} → Runs T → ℕ → Run T → Type 0
IsRunOf runs k r = get_elem? runs k ≡ some (r.chunk, r.entries.items)

-- the slot k is at home, and has the run of its chunk where it is marked
abbrev pub IsHome : {T : Type 0} → Runs T → List (mathlib.Core.Option.Option (Option (Run T))) → ℕ → ℕ → Type 0
IsHome {T} runs homes k marks = (y : Option (Run T)) × (get_elem? homes k ≡ some (some y)) × (0 < marks → (r : Run T) × (y ≡ Some r) × IsRunOf runs k r)

pub record IsSound {T : Type 0} (v : View T) : Type 0 where
  pub nones : v.nones ≤ v.parts
  pub idle : (k : ℕ) → v.parts ≡ 0 → times k v.claims ≡ 0
  pub claimed : (k : ℕ) → times k v.marks + times k v.held ≤ times k v.claims
  pub follows : (k : ℕ) → v.leads ≡ 0 → times k v.taken ≡ 0

pub record IsKept {T : Type 0} (runs : Runs T) (s : State (Option (Run T)) (View T)) : Type 0 where
  pub few : length runs < 2 ^ 32
  pub words : length s.words ≡ length runs + 1
  pub homes : length s.homes ≡ length runs
  pub sound : (i : ℕ) (v : View T) → get_elem? s.views i ≡ some v → IsSound v
  pub parts : total (λ v. v.parts) s.views ≡ 64
  pub leads : total (λ v. v.leads) s.views ≡ 1
  pub nones : total (λ v. v.nones) s.views ≡ slice_index s.words 0 - length runs
  -- the claims are the numbers of chunks below word 0, each once
  pub drawn : (k : ℕ) → k < length runs → k < slice_index s.words 0 → total (λ v. times k v.claims) s.views ≡ 1
  pub later : (k : ℕ) → slice_index s.words 0 ≤ k → total (λ v. times k v.claims) s.views ≡ 0
  pub beyond : (k : ℕ) → length runs ≤ k → total (λ v. times k v.claims) s.views ≡ 0
  pub marks : (k : ℕ) → k < length runs → slice_index s.words (k + 1) ≡ total (λ v. times k v.marks) s.views
  pub seen : (k : ℕ) → 0 < total (λ v. times k v.seen) s.views → 0 < total (λ v. times k v.marks) s.views
  pub taken : (k : ℕ) → total (λ v. times k v.taken) s.views ≤ total (λ v. times k v.marks) s.views
  pub home : (k : ℕ) → k < length runs → total (λ v. times k v.held) s.views ≡ 0 → total (λ v. times k v.taken) s.views ≡ 0
      → IsHome runs s.homes k (total (λ v. times k v.marks) s.views)
