use Rattle.sgml_infer.proofs.Knowing.{known-within, known-is}
use Rattle.sgml_infer.proofs.standing.Standing.known.Goals as goal

pub known_at-requires : goal.known_at-requires
known_at-requires c = let s = c.args.self.now in known-within s.dtd.now s.known.now c.args.element c.requires.standing.known c.requires.number

pub returns : goal.returns
returns c = let s = c.args.self.now in known-is s.dtd.now s.known.now c.args.element c.known_at.result.now c.requires.standing.known c.requires.number c.known_at.ensures
