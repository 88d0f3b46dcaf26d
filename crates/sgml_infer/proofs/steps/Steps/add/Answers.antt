use Rattle.std.proofs.Common.{Some}
use Rattle.std.specs.Prelude.{IfSome}
use Rattle.std.proofs.lemmas.List.Elements.{All-set}
use Rattle.sgml_infer.specs.Trees.{IsStepOf}
use Rattle.sgml_infer.proofs.steps.Steps.add.Goals as goal

pub returns-then-slot-len : goal.returns-then-slot-len
returns-then-slot-len c = λ t h s. All-set (λ o. IfSome o (IsStepOf t)) c.args.self.now.slots.items c.slot_of-slot.result (Some c.args.step) s h
