use Rattle.std.proofs.Common.{◌≡◌, ℕ, List, ◌+◌, ◌-◌, ◌<◌, ◌≤◌, length, take, drop, ◌∙◌, ap, sym, subst, arith}
use Rattle.std.proofs.lemmas.List.{length-drop}
use Rattle.std.specs.List.{prefix_len}
use Rattle.sgml_delim.specs.Ends.{later, stays_in}
use Rattle.sgml_delim.proofs.Deciding.{rest-of}
use Rattle.sgml_delim.proofs.Runs.{step, later-later}
use Rattle.sgml_delim.proofs.ends.end_after.Goals as goal

pub bytes-preserved : goal.bytes-preserved
bytes-preserved c =
    let text : List ℕ = c.args.text.now in
    let i : ℕ = c.bytes.i in
    let n : ℕ = c.run_length.result in
    let at : i < length text = search (arith, c.bytes-test.true) in
    let rest : take (length text - (i + 1)) (drop (i + 1) text) ≡ drop (i + 1) text = rest-of (i + 1) text in
    let few : n ≤ length text - (i + 1) = subst (λ (m : ℕ). n ≤ m) (ap length rest ∙ length-drop (i + 1) text) c.run_length.ensures.within in
    let count : n ≡ prefix_len (stays_in c.inside_after-inside.result) (drop (i + 1) text) = c.run_length.ensures.value ∙ ap (prefix_len (stays_in c.inside_after-inside.result)) rest in
    record {
      within = omega (arith, at, few);
      found =
          c.bytes.invariant.found
          ∙ ap (later i) (step c.args.names.now c.args.ender c.bytes.inside text i at (sym c.ends_here.ensures ∙ c.if-ends_here.false) c.inside_after-inside.result c.inside_after-inside.ensures n count)
          ∙ later-later i (1 + n) _;
    }
