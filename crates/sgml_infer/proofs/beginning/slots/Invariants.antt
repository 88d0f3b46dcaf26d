use Rattle.std.proofs.Common.{◌≡◌, All, length}
use Rattle.sgml_automaton.specs.Automaton.{bits_in}
use Rattle.sgml_infer.specs.declared.level.Level.{Level}
use Rattle.sgml_infer.proofs.beginning.slots.Given as goal

abbrev pub invariant-loop : goal.invariant-loop
invariant-loop l = record {
  counted : length l.levels.items ≡ l.counter;
  rooms : All (λ (x : Level). bits_in x.state ≡ l.room) l.levels.items;
}
