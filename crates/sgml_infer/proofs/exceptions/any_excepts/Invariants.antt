use Rattle.std.proofs.Common.{◌≡◌, ◌≤◌, take, length}
use Rattle.std.specs.List.{list_any}
use Rattle.std.specs.Option.{option_copied}
use Rattle.sgml_theory_reading.specs.Omission.{is_token_in}
use Rattle.sgml_infer.specs.Tables.{type_at}
use Rattle.sgml_infer.specs.Links.{excepted}
use Rattle.sgml_infer.specs.declared.level.Level.{Level}
use Rattle.sgml_infer.proofs.exceptions.any_excepts.Given as goal

abbrev pub invariant-outward : goal.invariant-outward
invariant-outward l = record {
  within : l.at ≤ length l.levels;
  tried : list_any (λ (x : Level). is_token_in (option_copied l.token) (excepted l.exception (type_at l.dtd x.element))) l.levels ≡ list_any (λ (x : Level). is_token_in (option_copied l.token) (excepted l.exception (type_at l.dtd x.element))) (take l.at l.levels);
}

abbrev pub decreases-outward : goal.decreases-outward
decreases-outward l = l.at
