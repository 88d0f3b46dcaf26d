use Rattle.std.proofs.Common.{refl}
use Rattle.sgml_names.proofs.Chains.{linked_enter}
use Rattle.sgml_names.proofs.slots.enter.Goals as goal

pub returns-clause-linked : goal.returns-clause-linked
returns-clause-linked c = linked_enter c.args.links.now c.args.last.now _ c.slot_of-slot.result c.requires.linked c.requires.room c.slot_of-slot.ensures.value c.slot_of-slot.ensures.within refl
