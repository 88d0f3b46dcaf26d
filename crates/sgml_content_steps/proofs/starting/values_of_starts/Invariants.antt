use Rattle.std.proofs.Common.{◌≡◌, drop, length}
use Rattle.sgml_attr.specs.Currents.{SameCurrents}
use Rattle.sgml_theory_starts.specs.theory_reading.State.{State}
use Rattle.sgml_content_steps.specs.Starts.{IsBy, GoesOn}
use Rattle.sgml_content_steps.proofs.starting.values_of_starts.Given as goal

abbrev pub invariant-starts : goal.invariant-starts
invariant-starts l = record {
  same : l.content ≡ record l.fn.content { currents = l.content.currents };
  currents : SameCurrents l.content.currents l.fn.content.currents;
  count : length l.values.items ≡ l.at;
  goes : (s : State) → IsBy l.fn.content.kept.doctype l.fn.content.currents s
      → GoesOn l.fn.content.kept.doctype l.fn.content.tree.starts.items l.content.currents l.values.items (drop l.at l.fn.content.tree.starts.items) s;
}
