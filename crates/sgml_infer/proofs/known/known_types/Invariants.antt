use Rattle.std.proofs.Common.{◌≡◌, ℕ, ◌<◌, Some, length}
use Rattle.std.specs.List.{slice_get}
use Rattle.sgml_infer.specs.Known.{known_of}
use Rattle.sgml_infer.proofs.known.known_types.Given as goal

abbrev pub invariant-loop-element : goal.invariant-loop-element
invariant-loop-element l = record {
  counted : length l.known.items ≡ l.element;
  each : (i : ℕ) → i < l.element → slice_get l.known.items i ≡ Some (known_of l.dtd i);
}
