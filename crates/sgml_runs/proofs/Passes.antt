-- What a step leaves as it was.
use Rattle.std.proofs.Common.{◌≡◌, ℕ, ◌+◌, ◌<◌, ◌≢◌, Bool, true, false, List, [], ◌∷◌, length, sym, refl, ap, ◌∙◌, subst, arith, Some, None}
use Rattle.std.specs.declared.option.Option.{Option}
use mathlib.Core.Logic.{dite}
use native.Mathlib.Decide.{ℕ_discrete}
use Rattle.atomic_table.specs.Table.{rest}
use Rattle.sgml_runs.specs.declared.run.Chunk.{Chunk}
use Rattle.sgml_runs.specs.declared.run.Entry.{Entry}
use Rattle.sgml_runs.specs.declared.run.Run.{Run}
use Rattle.sgml_runs.specs.Rule.{IsRunOf}
use Rattle.sgml_runs.specs.declared.view.View.{View}
use Rattle.sgml_runs.specs.Steps.{Sat, with_mark, with_seen, with_miss, with_taken}

module _ {T : Type 0} where
  -- equal seats know the same and have the same slots
  pub known_is : {m n : Sat T} → m ≡ n → m.0 ≡ n.0
  known_is e = ap (λ (m : Sat T). m.0) e

  pub slots_is : {m n : Sat T} → m ≡ n → m.1 ≡ n.1
  slots_is e = ap (λ (m : Sat T). m.1) e

  -- after the mark
  pub marked_is : (k : ℕ) {m n : Sat T} → m ≡ n → ◌≡◌ {A = Sat T} (with_mark m.0 k [], rest m.1) (with_mark n.0 k [], rest n.1)
  marked_is k e = ap (λ (m : Sat T). (with_mark m.0 k [], rest m.1)) e

  -- the run of a chunk, where the runs are those of the board
  pub run_is : (runs known : List (Chunk × List (Entry T))) (k : ℕ) (x y : Run T) → known ≡ runs → IsRunOf known k x → x ≡ y → IsRunOf runs k y
  run_is runs known k x y e is same = subst (λ (r : Run T). IsRunOf runs k r) same (subst (λ (rs : List (Chunk × List (Entry T))). IsRunOf rs k x) e is)

  -- what a pass with this seat has to keep
  abbrev pub Fine : Sat T → Bool → ℕ → Type 0
  Fine m finished taken = (0 < m.0.parts) × (m.0.held ≡ []) × (m.0.leads ≡ 0 → m.1 ≡ []) × (finished ≡ true → 0 < m.0.nones) × (finished ≡ false → m.0.nones ≡ 0) × (taken ≡ length m.0.taken)

  pub fine_look : (r k : ℕ) (m n : Sat T) (finished : Bool) (taken : ℕ) → (r ≡ 0 → n ≡ (with_miss m.0 k, m.1)) → (r ≢ 0 → n ≡ (with_seen m.0 k, m.1)) → Fine m finished taken → Fine n finished taken × (n.0.runs ≡ m.0.runs)
  fine_look r k m n finished taken miss hit h = dite (ℕ_discrete r 0)
      (λ e. subst (λ (x : Sat T). Fine x finished taken × (x.0.runs ≡ m.0.runs)) (sym (miss e)) (h, refl))
      (λ e. subst (λ (x : Sat T). Fine x finished taken × (x.0.runs ≡ m.0.runs)) (sym (hit e)) (h, refl))

  -- the slot taken last, once the list is known
  pub first_slot : (c xs : List (ℕ × Option (Run T))) (x : ℕ × Option (Run T)) → c ≡ x ∷ xs → c ≡ x ∷ rest c
  first_slot c xs x e = subst (λ (d : List (ℕ × Option (Run T))). d ≡ x ∷ rest d) (sym e) refl

  -- after the exchange
  pub put : (v : View T) (k : ℕ) (y z : Option (Run T)) (xs : List (ℕ × Option (Run T))) (a b : Sat T) → a ≡ (v, (k, y) ∷ xs) → b ≡ (a.0, (k, z) ∷ rest a.1) → b ≡ (v, (k, z) ∷ xs)
  put v k y z xs a b e f = f ∙ ap (λ (m : Sat T). (m.0, (k, z) ∷ rest m.1)) e

  pub fine_post : (k : ℕ) (m n : Sat T) (finished : Bool) (taken : ℕ) → n ≡ (with_mark m.0 k [], m.1) → Fine m finished taken → Fine n finished taken × (n.0.runs ≡ m.0.runs)
  fine_post k m n finished taken e h = subst (λ (x : Sat T). Fine x finished taken × (x.0.runs ≡ m.0.runs)) (sym e) ((h.0, refl, h.2, h.3, h.4, h.5), refl)

  pub fine_take : (k : ℕ) (y : Option (Run T)) (m n : Sat T) (finished : Bool) (taken : ℕ) → n ≡ (with_taken m.0 k, (k, y) ∷ m.1) → 0 < m.0.leads → Fine m finished taken → Fine n finished (taken + 1) × (n.0.runs ≡ m.0.runs)
  fine_take k y m n finished taken e leading h = subst (λ (x : Sat T). Fine x finished (taken + 1) × (x.0.runs ≡ m.0.runs)) (sym e) ((h.0, h.1, (λ z. absurd (omega arith)), h.3, h.4, omega (arith, h.5)), refl)

  abbrev first_of : List (ℕ × Option (Run T)) → Option (Run T)
  first_of [] = None
  first_of (x ∷ xs) = x.1

  -- what came out is what the slot had
  pub handed : (k : ℕ) (c xs ys : List (ℕ × Option (Run T))) (x y : Option (Run T)) → c ≡ (k, x) ∷ xs → c ≡ (k, y) ∷ ys → x ≡ y
  handed k c xs ys x y e f = ap first_of (sym e ∙ f)

  abbrev run_or : Run T → Option (Run T) → Run T
  run_or d None = d
  run_or d (Some x) = x

  pub one_run : (x y : Run T) → Some x ≡ Some y → x ≡ y
  one_run x y e = ap (run_or x) e

  abbrev IsThere : Option (Run T) → Type 0
  IsThere None = ⊥
  IsThere (Some x) = Unit {0}

  pub no_run : (x : Run T) (o : Option (Run T)) → Some x ≡ o → o ≡ None → ⊥
  no_run x o e f = subst IsThere (e ∙ f) tt
