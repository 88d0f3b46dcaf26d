use Rattle.std.proofs.Common.{ap}
use Rattle.sgml_idents.specs.Noted.{start_of}
use Rattle.sgml_idents.proofs.Growing.{defined_ok, other_noted}
use Rattle.sgml_idents.proofs.idents.Idents.note_defined.Goals as goal

pub returns-in-Start : goal.returns-in-Start
returns-in-Start c = defined_ok _ c.args.self.now c.note_values.new.self c.args.definitions.now c.args.event.now c.in-Start.element c.in-Start.place c.in-Start.values c.items.result.now c.in-Start.is c.items.ensures c.note_values.ensures

pub returns-in-End : goal.returns-in-End
returns-in-End c = λ d es same h. other_noted c.args.self.now d es c.args.event.now (ap (start_of d) c.in-End.is) h

pub returns-in-Chars : goal.returns-in-Chars
returns-in-Chars c = λ d es same h. other_noted c.args.self.now d es c.args.event.now (ap (start_of d) c.in-Chars.is) h

pub returns-in-Pi : goal.returns-in-Pi
returns-in-Pi c = λ d es same h. other_noted c.args.self.now d es c.args.event.now (ap (start_of d) c.in-Pi.is) h

pub returns-in-DataRef : goal.returns-in-DataRef
returns-in-DataRef c = λ d es same h. other_noted c.args.self.now d es c.args.event.now (ap (start_of d) c.in-DataRef.is) h
