use Rattle.sgml_delim.proofs.Deciding.{found-length}
use Rattle.sgml_scan.proofs.Standing.{some-there}
use Rattle.sgml_scan.proofs.scanning.scan_any.Goals as goal

pub begun-requires : goal.begun-requires
begun-requires c =
    found-length c.args.syntax.now c.args.state.mode c.args.state.net c.args.ended c.args.text.now c.in-Found.delim c.in-Found.field-1 c.in-Found.ensures

pub undelimited-requires-clause-some : goal.undelimited-requires-clause-some
undelimited-requires-clause-some c =
    some-there c.args.syntax.now c.args.state.mode c.args.state.net c.args.ended c.args.text.now c.requires.mode c.requires.some c.in-Plain.ensures
