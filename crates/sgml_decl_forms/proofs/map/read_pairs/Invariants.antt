use Rattle.std.proofs.Common.{◌≡◌, [], ◌∷◌, None, length, option_map}
use Rattle.sgml_decl_forms.specs.Maps.{pairs_at}
use Rattle.sgml_decl_forms.proofs.map.read_pairs.Given as goal

abbrev pub invariant-pairs : goal.invariant-pairs
invariant-pairs l =
    pairs_at l.pairs.items (option_map (λ t. t.now) l.string) l.rest ≡ pairs_at (l.fn.first ∷ []) None l.fn.lexemes

abbrev pub decreases-pairs : goal.decreases-pairs
decreases-pairs l = length l.rest
