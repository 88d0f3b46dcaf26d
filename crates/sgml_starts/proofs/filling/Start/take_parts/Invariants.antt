use Rattle.std.proofs.Common.{◌≡◌, ◌<◌, ◌≤◌, length}
use Rattle.std.specs.Prelude.{IfSome}
use Rattle.sgml_markup.specs.Walks.{parts_left, StandsIn}
use Rattle.sgml_starts.proofs.SoFar.{AreSoFar, input_in}
use Rattle.sgml_starts.proofs.filling.Start.take_parts.Given as goal

abbrev pub invariant-parts : goal.invariant-parts
invariant-parts l = record {
  stands : StandsIn l.tag l.walk;
  some : 0 < length l.stack.places;
  values : length l.filled.values.items ≡ length l.self.definitions;
  flags : length l.filled.specified.items ≡ length l.self.definitions;
  within : IfSome l.name (λ p. (p.from ≤ p.to) × (p.to ≤ length l.tag));
  so_far : AreSoFar l.self (input_in l.self l.texts l.fn.stack) l.tag l.name l.filled l.stack (parts_left l.self.syntax l.tag l.walk);
}

abbrev pub decreases-parts : goal.decreases-parts
decreases-parts l = length (parts_left l.self.syntax l.tag l.walk)
