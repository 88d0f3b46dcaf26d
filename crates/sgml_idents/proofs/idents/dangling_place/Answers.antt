use Rattle.sgml_idents.proofs.Growing.{place_known, place_unknown}
use Rattle.sgml_idents.proofs.idents.dangling_place.Goals as goal

pub returns-in-Some : goal.returns-in-Some
returns-in-Some c = place_known c.args.ids.now _ _ c.number.result _ _ c.number.ensures c.items.ensures.list c.in-Some.is

pub returns-in-None : goal.returns-in-None
returns-in-None c = place_unknown c.args.ids.now _ _ c.number.result _ c.number.ensures c.items.ensures.list c.in-None.is
