use Rattle.std.proofs.Common.{◌≡◌, false, take}
use Rattle.std.specs.List.{list_any}
use Rattle.std.specs.Option.{option_copied}
use Rattle.sgml_theory_reading.specs.Omission.{is_token_in}
use Rattle.sgml_infer.specs.Tables.{type_at}
use Rattle.sgml_infer.specs.Links.{excepted}
use Rattle.sgml_infer.proofs.exceptions.some_excepts.Given as goal

abbrev pub invariant-loop-element : goal.invariant-loop-element
invariant-loop-element l = list_any (λ x. is_token_in (option_copied l.token) (excepted l.exception (type_at l.dtd x))) (take l.element-index l.elements) ≡ false
