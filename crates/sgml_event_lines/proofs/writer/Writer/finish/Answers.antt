use Rattle.std.proofs.Common.{sym, ◌∙◌}
use Rattle.sgml_esis.proofs.Holding.{done, stopped}
use Rattle.sgml_event_lines.proofs.Standing.{finished}
use Rattle.sgml_event_lines.proofs.writer.Writer.finish.Goals as goal

pub returns-then-failed-clause-bytes : goal.returns-then-failed-clause-bytes
returns-then-failed-clause-bytes g c = λ start count d es s. stopped start _ count _ c.flush.new.held _ (sym c.failed.ensures ∙ c.if-failed.true) (finished start count _ _ c.args.self.now _ _ c.put_head.new.self _ _ _ _ _ _ _ _ _ d es c.args.conforming c.put_head.ensures.puts c.put_head.ensures.within c.close.ensures.puts c.put_conforming.ensures c.flush.ensures.puts s)

pub returns-then-failed-clause-cause : goal.returns-then-failed-clause-cause
returns-then-failed-clause-cause g c = λ start count d es s. record { later = (finished start count _ _ c.args.self.now _ _ c.put_head.new.self _ _ _ _ _ _ _ _ _ d es c.args.conforming c.put_head.ensures.puts c.put_head.ensures.within c.close.ensures.puts c.put_conforming.ensures c.flush.ensures.puts s).later; failed = (finished start count _ _ c.args.self.now _ _ c.put_head.new.self _ _ _ _ _ _ _ _ _ d es c.args.conforming c.put_head.ensures.puts c.put_head.ensures.within c.close.ensures.puts c.put_conforming.ensures c.flush.ensures.puts s).failed (sym c.failed.ensures ∙ c.if-failed.true) }

pub returns-clause-bytes : goal.returns-clause-bytes
returns-clause-bytes g c = λ start count d es s. done start _ count _ c.flush.new.held _ c.flush.ensures.none (sym c.failed.ensures ∙ c.if-failed.false) (finished start count _ _ c.args.self.now _ _ c.put_head.new.self _ _ _ _ _ _ _ _ _ d es c.args.conforming c.put_head.ensures.puts c.put_head.ensures.within c.close.ensures.puts c.put_conforming.ensures c.flush.ensures.puts s)

pub returns-clause-cause : goal.returns-clause-cause
returns-clause-cause g c = λ start count d es s. record { later = (finished start count _ _ c.args.self.now _ _ c.put_head.new.self _ _ _ _ _ _ _ _ _ d es c.args.conforming c.put_head.ensures.puts c.put_head.ensures.within c.close.ensures.puts c.put_conforming.ensures c.flush.ensures.puts s).later; failed = tt }
