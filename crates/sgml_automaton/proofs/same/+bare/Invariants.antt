use Rattle.std.proofs.Common.{◌≡◌, map, drop}
use Rattle.sgml_model.specs.View.{view, terms}
use Rattle.sgml_automaton.specs.Alike.{bare_some}
use Rattle.sgml_automaton.proofs.same.+bare.Given as goal

abbrev pub invariant-bare_some-loop-i : goal.invariant-bare_some-loop-i
invariant-bare_some-loop-i l =
    let ms = terms (map view l.members) in let rest = terms (map view (drop l.i l.members)) in
    bare_some ms l.k ≡ bare_some rest l.k
