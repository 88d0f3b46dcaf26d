-- What each step on the board tells: of the step, the seat before, the number found and the seat after.
use Rattle.std.specs.Prelude.{◌≡◌, ◌≢◌, ℕ, ◌+◌, ◌-◌, ◌<◌, ◌≤◌, List, [], ◌∷◌, ◌++◌, length, Option, Some}
use Rattle.atomic_table.specs.Table.{Me, Step, rest}
use Rattle.sgml_runs.specs.declared.run.Run.{Run}
use Rattle.sgml_runs.specs.declared.view.View.{View}
use Rattle.sgml_runs.specs.Counts.{EachOnce, times, after_first}
use Rattle.sgml_runs.specs.Rule.{view, IsRunOf}

abbrev pub Sat : Type 0 → Type 0
Sat T = Me (Option (Run T)) (View T)

abbrev pub Told : Type 0 → Type 1
Told T = Step (Option (Run T)) → Sat T → ℕ → Sat T → Type 0

abbrev pub with_claim : {T : Type 0} → View T → ℕ → View T
with_claim v k = view v.runs v.parts v.nones v.leads (k ∷ v.claims) v.held v.marks v.seen v.misses v.taken

abbrev pub with_none : {T : Type 0} → View T → View T
with_none v = view v.runs v.parts (1 + v.nones) v.leads v.claims v.held v.marks v.seen v.misses v.taken

abbrev pub with_held : {T : Type 0} → View T → ℕ → View T
with_held v k = view v.runs v.parts v.nones v.leads v.claims (k ∷ v.held) v.marks v.seen v.misses v.taken

-- the slot k is no longer held
abbrev pub with_mark : {T : Type 0} → View T → ℕ → List ℕ → View T
with_mark v k held = view v.runs v.parts v.nones v.leads v.claims held (k ∷ v.marks) v.seen v.misses v.taken

abbrev pub with_seen : {T : Type 0} → View T → ℕ → View T
with_seen v k = view v.runs v.parts v.nones v.leads v.claims v.held v.marks (k ∷ v.seen) v.misses v.taken

abbrev pub with_miss : {T : Type 0} → View T → ℕ → View T
with_miss v k = view v.runs v.parts v.nones v.leads v.claims v.held v.marks v.seen (k ∷ v.misses) v.taken

abbrev pub with_taken : {T : Type 0} → View T → ℕ → View T
with_taken v k = view v.runs v.parts v.nones v.leads v.claims v.held v.marks v.seen v.misses (k ∷ v.taken)

abbrev pub kept_part : {T : Type 0} → View T → View T
kept_part v = view v.runs (v.parts - 1) v.nones v.leads v.claims v.held v.marks v.seen v.misses v.taken

abbrev pub cut_part : {T : Type 0} → View T → View T
cut_part v = view v.runs 1 0 0 [] [] [] [] [] []

abbrev pub both_views : {T : Type 0} → View T → View T → View T
both_views v w = view v.runs (v.parts + w.parts) (v.nones + w.nones) v.leads (v.claims ++ w.claims) (v.held ++ w.held) (v.marks ++ w.marks) (v.seen ++ w.seen) (v.misses ++ w.misses) v.taken

abbrev pub Claims : {T : Type 0} → Told T
Claims st m r n = (r < st.slots → (n ≡ (with_claim m.0 r, m.1)) × (after_first m.0.claims ≤ r) × (times r m.0.marks ≡ 0)) × (st.slots ≤ r → n ≡ (with_none m.0, m.1))

abbrev pub Lifts : {T : Type 0} → Told T
Lifts {T} st m r n = (k : ℕ) → st.word ≡ k + 1 → (y : Option (Run T)) × (n ≡ (with_held m.0 k, (k, y) ∷ m.1))

abbrev pub Marks : {T : Type 0} → Told T
Marks st m r n = (k : ℕ) → st.word ≡ k + 1 → n ≡ (with_mark m.0 k [], rest m.1)

abbrev pub Looks : {T : Type 0} → Told T
Looks st m r n = (k : ℕ) → st.word ≡ k + 1 → (r ≡ 0 → n ≡ (with_miss m.0 k, m.1)) × (r ≢ 0 → n ≡ (with_seen m.0 k, m.1))

abbrev pub Takes : {T : Type 0} → Told T
Takes {T} st m r n = (k : ℕ) → st.word ≡ k + 1 → (x : Run T) × IsRunOf m.0.runs k x × (n ≡ (with_taken m.0 k, (k, Some x) ∷ m.1)) × (length m.0.taken < st.slots)

-- nothing changed; no chunk is claimed twice, and a pass with each part that found no chunk left has claimed all
abbrev pub Tells : {T : Type 0} → Told T
Tells st m r n = (n ≡ m) × ((k : ℕ) → times k m.0.claims ≤ 1) × (m.0.parts ≡ 64 → 0 < m.0.nones → EachOnce st.slots m.0.claims)
