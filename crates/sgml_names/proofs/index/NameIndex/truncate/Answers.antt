use Rattle.sgml_names.proofs.Finding.{once_take, hashed_take}
use Rattle.sgml_names.proofs.index.NameIndex.truncate.Goals as goal

pub invariant_of-self : goal.invariant_of-self
invariant_of-self c =
    rw (c.truncate.ensures.items, c.truncate_hashes.ensures)
    (once_take c.self.inside.entries.items c.args.n c.self.invariant.0, hashed_take c.self.inside.hashing c.self.inside.slots c.self.inside.entries.items c.args.n c.self.invariant.1)
