use Rattle.std.proofs.Common.{refl, sym, subst}
use Rattle.sgml_declared.specs.Files.{Choices}
use Rattle.sgml_parse.specs.There.{reading_of}
use Rattle.sgml_parse.specs.Going.{IsOver, TellsProlog}
use Rattle.sgml_parse.proofs.going.go_over.Goals as goal

pub begin_instance-requires : goal.begin_instance-requires
begin_instance-requires c = subst (λ (o : Choices). IsOver o (reading_of c.args.reading.now)) (sym c.in-Ok.ensures) c.requires

pub returns-in-Ok : goal.returns-in-Ok
returns-in-Ok c =
    subst (λ (o : Choices). TellsProlog o (reading_of c.args.reading.now) (reading_of c.begin_instance.new.reading) c.begin_instance.result) c.in-Ok.ensures c.begin_instance.ensures

pub returns-in-Err : goal.returns-in-Err
returns-in-Err c = (refl, refl)
