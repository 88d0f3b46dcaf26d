-- The loop over the bytes is the run.
use Rattle.std.proofs.Common.{◌≡◌, ℕ, ◌+◌, ◌<◌, ◌≤◌, List, ◌∷◌, length, get_or, drop, sym, ap, ◌∙◌, add-one, arith}
use Rattle.std.proofs.Math.Seq.{drop-cons}
use Rattle.std.proofs.lemmas.List.{drop_all}
use Rattle.sgml_sgmldecl.specs.declared.reading.Turn.{Turn}
use Rattle.sgml_sgmldecl.specs.Machine.{State, Step, Outcome, bad, met, step, go_on, run}

rest_at : (text : List ℕ) (i : ℕ) → i < length text → drop i text ≡ get_or text i 0 ∷ drop (i + 1) text
rest_at text i h = rw (add-one) (drop-cons text i 0 h)

pub stepped : (all : Outcome) (text : List ℕ) (i : ℕ) (s : State) → i < length text → run i s (drop i text) ≡ all → all ≡ go_on i (step i s (get_or text i 0)) (λ t. run (i + 1) t (drop (i + 1) text))
unfolding run
stepped all text i s h is = sym is ∙ ap (run i s) (rest_at text i h)

pub turned_so : (all : Outcome) (text : List ℕ) (i : ℕ) (s t : State) (turn known : Turn) → i < length text → run i s (drop i text) ≡ all → met turn t ≡ step i s (get_or text i 0) → turn ≡ known → all ≡ go_on i (met known t) (λ u. run (i + 1) u (drop (i + 1) text))
turned_so all text i s t turn known h is did same =
    stepped all text i s h is ∙ ap (λ (x : Step). go_on i x (λ u. run (i + 1) u (drop (i + 1) text))) (sym did ∙ ap (λ (k : Turn). met k t) same)

pub at_the_end : (all : Outcome) (text : List ℕ) (i : ℕ) (s : State) → length text ≤ i → i ≤ length text → run i s (drop i text) ≡ all → all ≡ bad (length text)
unfolding run
at_the_end all text i s low high is =
    let same : i ≡ length text = omega arith in
    sym is ∙ ap (run i s) (drop_all i text low) ∙ ap bad same
