use Rattle.std.proofs.Common.{◌≡◌, [], length, take, drop}
use Rattle.sgml_attr.specs.Matching.{attributes_of}
use Rattle.sgml_starts.specs.Numbers.{AreNumbers}
use Rattle.sgml_starts.specs.Rows.{reason_of_specs}
use Rattle.sgml_starts.specs.Filled.{AreFilled}
use Rattle.sgml_starts.proofs.filling.Start.fill.Given as goal

abbrev pub invariant-specs : goal.invariant-specs
invariant-specs l = record {
  numbers : AreNumbers (length l.self.definitions) (attributes_of l.self.syntax l.self.definitions l.specs) l.numbers;
  filled : AreFilled l.self (take l.j l.specs) l.filled;
  none : reason_of_specs l.self.syntax l.self.tables l.self.definitions [] l.specs
      ≡ reason_of_specs l.self.syntax l.self.tables l.self.definitions (take l.j l.specs) (drop l.j l.specs);
}
