use Rattle.std.proofs.Common.{◌≡◌, drop}
use Rattle.std.specs.List.{list_any}
use Rattle.sgml_dtd.specs.Rows.{lacks_notation}
use Rattle.sgml_dtd.proofs.declaring.any_lacks_notation.Given as goal

abbrev pub invariant-loop-number : goal.invariant-loop-number
invariant-loop-number l =
    list_any (λ e. lacks_notation l.entities.notations e.body) (drop l.number l.entities.entities)
    ≡ list_any (λ e. lacks_notation l.entities.notations e.body) l.entities.entities
