use Rattle.sgml_names.specs.Index.{names_of}
use Rattle.sgml_idents.proofs.Growing.{dangling_found, dangling_passed}
use Rattle.sgml_idents.proofs.idents.first_dangling.Goals as goal

pub returns-in-Some : goal.returns-in-Some
returns-in-Some c = dangling_found c.args.references.now c.loop-reference.reference-index c.reference-item.result (names_of c.args.ids.now) c.dangling_place.result c.in-Some.place _ c.loop-reference-test.true c.reference-item.is c.dangling_place.ensures c.in-Some.is c.loop-reference.invariant

pub loop-reference-preserved : goal.loop-reference-preserved
loop-reference-preserved c = dangling_passed c.args.references.now c.loop-reference.reference-index c.reference-item.result (names_of c.args.ids.now) c.dangling_place.result _ c.loop-reference-test.true c.reference-item.is c.dangling_place.ensures c.in_default.is c.loop-reference.invariant
