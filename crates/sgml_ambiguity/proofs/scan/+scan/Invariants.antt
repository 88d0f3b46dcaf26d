use Rattle.std.proofs.Common.{◌≡◌, map, drop}
use Rattle.sgml_model.specs.Term.{all_done, some_done}
use Rattle.sgml_model.specs.View.{view, terms}
use Rattle.sgml_ambiguity.specs.Scan.{token_view, heads, firsts_in_order, firsts_of_some, lasts_in_order, lasts_of_some, lasts_among, clash_in_order, clash_apart, clash_among}
use Rattle.sgml_ambiguity.specs.Parts.{RestLists, AmongLists}
use Rattle.sgml_ambiguity.proofs.scan.+scan.Given as goal

abbrev pub invariant-scan_in_order-loop-i : goal.invariant-scan_in_order-loop-i
invariant-scan_in_order-loop-i l =
    let ms = terms (map view (drop l.i l.members)) in RestLists l.rest (clash_in_order ms) (all_done ms) (firsts_in_order ms) (lasts_in_order ms) × (map token_view l.head.items ≡ heads ms)

abbrev pub invariant-scan_of_some-loop-i : goal.invariant-scan_of_some-loop-i
invariant-scan_of_some-loop-i l =
    let ms = terms (map view (drop l.i l.members)) in RestLists l.rest (clash_apart ms) (some_done ms) (firsts_of_some ms) (lasts_of_some ms)

abbrev pub invariant-scan_among-loop-i : goal.invariant-scan_among-loop-i
invariant-scan_among-loop-i l =
    let ms = terms (map view (drop l.i l.members)) in AmongLists l.rest (clash_among ms) (firsts_of_some ms) (lasts_of_some ms) (lasts_among ms)
