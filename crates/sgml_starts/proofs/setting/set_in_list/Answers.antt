use Rattle.std.proofs.Common.{arith, slice_index_or}
use Rattle.sgml_starts.proofs.Whole.{among-at}
use Rattle.sgml_starts.proofs.setting.set_in_list.Goals as goal

pub set_one-requires-clause-within : goal.set_one-requires-clause-within
set_one-requires-clause-within c =
    c.requires.within (slice_index_or c.args.attributes.now 0 0) (among-at c.args.attributes.now 0 (omega (arith, c.in-len1.len_at_least)))
