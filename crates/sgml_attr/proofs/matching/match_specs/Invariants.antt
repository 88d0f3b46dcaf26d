use Rattle.std.proofs.Common.{length, take}
use Rattle.std.specs.Prelude.{IfSome}
use Rattle.sgml_attr.specs.Matching.{attributes_of, AreMatched}
use Rattle.sgml_attr.specs.Finding.{IsIndexOf}
use Rattle.sgml_attr.proofs.matching.match_specs.Given as goal

abbrev pub invariant-specs : goal.invariant-specs
invariant-specs l = record {
  index : IfSome l.index (λ index. IsIndexOf index l.definitions);
  matched : AreMatched (length l.definitions) (take l.j (attributes_of l.syntax l.definitions l.specs)) l.matched.items;
}
