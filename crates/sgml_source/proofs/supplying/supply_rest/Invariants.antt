use Rattle.std.proofs.Common.{◌≡◌, ◌<◌, ◌≤◌, None}
use Rattle.sgml_io.specs.Files.{Keeps}
use Rattle.sgml_parse.specs.declared.answer.Wanted.{Wanted}
use Rattle.sgml_parse.specs.Parsing.{IsUnsupplied}
use Rattle.sgml_source.specs.Feeding.{SuppliesRestIfTold}
use Rattle.sgml_source.proofs.supplying.supply_rest.Given as goal

abbrev pub invariant-rest : goal.invariant-rest
invariant-rest g l =
    let S = g.S.Store in
    record {
      supplied : SuppliesRestIfTold l.limit (S.files l.fn.store) l.fn.parser l.parser;
      before : (v : Wanted) → v.entity < l.from → IsUnsupplied l.parser v → ⊥;
      reading : l.parser.reading ≡ l.fn.parser.reading;
      well : l.parser.failed ≡ None;
      records : l.parser.records ≡ l.fn.parser.records;
      ended : l.parser.ended ≡ l.fn.parser.ended;
      others : Keeps (S.given l.fn.store) (S.given l.store) (S.left l.fn.store) (S.left l.store);
      files : S.files l.store ≡ S.files l.fn.store;
      faults : S.faults l.fn.store ≤ S.faults l.store;
    }
