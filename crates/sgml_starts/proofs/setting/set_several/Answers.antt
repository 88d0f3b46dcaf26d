use Rattle.std.proofs.Common.{slice_index_or}
use Rattle.sgml_starts.proofs.Whole.{among-at}
use Rattle.sgml_starts.proofs.setting.set_several.Goals as goal

pub set_one-requires-clause-within : goal.set_one-requires-clause-within
set_one-requires-clause-within c =
    c.requires.within (slice_index_or c.args.attributes.now c.loop-attribute.attribute-index 0)
    (among-at c.args.attributes.now c.loop-attribute.attribute-index c.loop-attribute-test.true)
