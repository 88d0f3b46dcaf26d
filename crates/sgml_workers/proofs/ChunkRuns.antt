-- The run of one chunk, and the entries of the chunks before it.
use Rattle.std.proofs.Common.{◌≡◌, ℕ, zero, suc, ◌+◌, ◌<◌, List, [], ◌∷◌, ◌++◌, map, flat_map, length, get_or, drop, append_assoc, refl, sym, ap, ◌∙◌, subst, arith, Ok, Err, IfOk, Result}
use mathlib.Core.Option.{some, some-injective, some-ne-none}
use lib.ListN.{get_elem?}
use Rattle.std.proofs.lemmas.List.Elements.{All-get_or}
use Rattle.sgml_runs.specs.declared.run.Chunk.{Chunk}
use Rattle.sgml_runs.specs.declared.run.Entry.{Entry}
use Rattle.sgml_runs.specs.declared.run.Run.{Run}
use Rattle.sgml_runs.specs.declared.board.Board.{Board}
use Rattle.sgml_runs.specs.Runs.{Runs}
use Rattle.sgml_runs.specs.Rule.{IsRunOf}
use Rattle.sgml_runs.specs.Names.{texts_of, runs_of}
use Rattle.sgml_workers.specs.Working.{IsFor, entries_of, cost_at, cost_of_all}

pub both_ok : {A E : Type 0} (x : Result A E) (P Q R : A → Type 0) → ((a : A) → P a → Q a → R a) → IfOk x P → IfOk x Q → IfOk x R
both_ok (Ok a) P Q R f p q = f a p q
both_ok (Err e) P Q R f p q = p

there-map : {B : Type 0} (f : Chunk → B) (ps : List Chunk) (k : ℕ) (d : Chunk) → k < length ps → get_elem? (map f ps) k ≡ some (f (get_or ps k d))
there-map f [] k d h = absurd (omega arith)
there-map f (p ∷ ps) zero d h = refl
there-map f (p ∷ ps) (suc k) d h = there-map f ps k d (omega arith)

module _ {S X T : Type 0} (scanned : S → X → Chunk → List (Entry T)) (lies : X → Chunk → Type 0) (b : Board S X T) (s : S) (x : X) (h : IsFor lies b s x) where
  pub runs_for : runs_of scanned b ≡ map (λ p. (p, scanned s x p)) b.chunks.items
  runs_for = ap (λ (y : S). map (λ p. (p, scanned y (texts_of b) p)) b.table.shared.key.chunks.value.items) h.of_syntax
      ∙ (ap (λ (y : X). map (λ p. (p, scanned s y p)) b.table.shared.key.chunks.value.items) h.of_texts ∙ ap (map (λ p. (p, scanned s x p))) b.of_chunks)

  pub lies_there : (k : ℕ) (d : Chunk) → k < length b.chunks.items → lies x (get_or b.chunks.items k d)
  lies_there k d lt = All-get_or (lies x) b.chunks.items k d lt h.chunks

  -- what was scanned of the chunk k is its run
  pub right_run : (k : ℕ) (d q : Chunk) (r : Run T) → k < length b.chunks.items → q ≡ get_or b.chunks.items k d → r.chunk ≡ q → r.entries.items ≡ scanned s x q → IsRunOf (runs_of scanned b) k r
  right_run k d q r lt is chunk entries = ap (λ (rs : Runs T). get_elem? rs k) runs_for
      ∙ (there-map (λ p. (p, scanned s x p)) b.chunks.items k d lt ∙ ap (λ (y : Chunk × List (Entry T)). some y) (ap (λ (p : Chunk). (p, scanned s x p)) (sym is) ∙ (λ i. (sym chunk i, sym entries i))))

  flat_runs : (ps : List Chunk) → flat_map entries_of (map (λ p. (p, scanned s x p)) ps) ≡ flat_map (scanned s x) ps
  flat_runs [] = refl
  flat_runs (p ∷ ps) = ap (λ (es : List (Entry T)). scanned s x p ++ es) (flat_runs ps)

  -- the entries of all runs are those of scanning each chunk
  pub flat : flat_map entries_of (runs_of scanned b) ≡ flat_map (scanned s x) b.chunks.items
  flat = ap (λ (rs : Runs T). flat_map entries_of rs) runs_for ∙ flat_runs b.chunks.items

module _ {A : Type 0} where
  -- the run k and those behind it
  next_run : (rs : Runs A) (k : ℕ) (r : Run A) → IsRunOf rs k r → flat_map entries_of (drop k rs) ≡ r.entries.items ++ flat_map entries_of (drop (suc k) rs)
  next_run [] k r e = absurd (some-ne-none (r.chunk, r.entries.items) (sym e))
  next_run (y ∷ ys) zero r e = ap (λ (z : Chunk × List (Entry A)). z.1 ++ flat_map entries_of ys) (some-injective y (r.chunk, r.entries.items) e)
  next_run (y ∷ ys) (suc k) r e = next_run ys k r e

  -- the entries of one run more
  pub one_more : (rs : Runs A) (k : ℕ) (r : Run A) (all new es : List (Entry A)) → IsRunOf rs k r → es ≡ r.entries.items → new ≡ all ++ es → all ++ flat_map entries_of (drop k rs) ≡ flat_map entries_of rs
      → new ++ flat_map entries_of (drop (k + 1) rs) ≡ flat_map entries_of rs
  one_more rs k r all new es is same added h =
      let e : suc k ≡ k + 1 = omega arith in
      let rest : List (Entry A) = flat_map entries_of (drop (suc k) rs) in
      subst (λ (j : ℕ). new ++ flat_map entries_of (drop j rs) ≡ flat_map entries_of rs) e
      (ap (λ (l : List (Entry A)). l ++ rest) (added ∙ ap (λ (l : List (Entry A)). all ++ l) same) ∙ (append_assoc all r.entries.items rest ∙ (ap (λ (l : List (Entry A)). all ++ l) (sym (next_run rs k r is)) ∙ h)))

-- the cost of the chunk k and of those behind it
pub next_cost : (cost : Chunk → ℕ) (cs : List Chunk) (k : ℕ) → k < length cs → cost_of_all cost (drop k cs) ≡ cost_at cost cs k + cost_of_all cost (drop (k + 1) cs)
next_cost cost [] k lt = absurd (omega arith)
next_cost cost (c ∷ cs) zero lt = refl
next_cost cost (c ∷ cs) (suc k) lt =
    let e : suc k + 1 ≡ suc (k + 1) = omega arith in
    next_cost cost cs k (omega arith) ∙ ap (λ (j : ℕ). cost_at cost cs k + cost_of_all cost (drop j (c ∷ cs))) (sym e)

-- its cost is that of the chunk that stands there
pub cost_there : (cost : Chunk → ℕ) (cs : List Chunk) (k : ℕ) (d : Chunk) → k < length cs → cost (get_or cs k d) ≡ cost_at cost cs k
cost_there cost [] k d lt = absurd (omega arith)
cost_there cost (c ∷ cs) zero d lt = refl
cost_there cost (c ∷ cs) (suc k) d lt = cost_there cost cs k d (omega arith)
