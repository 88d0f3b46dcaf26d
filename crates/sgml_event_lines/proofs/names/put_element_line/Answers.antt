use Rattle.std.proofs.Common.{[], ◌∷◌, ◌++◌, ap, ◌∙◌}
use Rattle.sgml_esis.proofs.Holding.{puts_as}
use Rattle.sgml_event_lines.specs.Spelled.{closing}
use Rattle.sgml_event_lines.specs.Standing.{element_line}
use Rattle.sgml_event_lines.proofs.Bytes.{closing_is}
use Rattle.sgml_event_lines.proofs.names.put_element_line.Goals as goal

pub returns-in-Some : goal.returns-in-Some
returns-in-Some g c = λ are. puts_as _ _ _ _ _ _ _ _ (ap (λ v. v ++ (c.args.mark ∷ c.in-Some.short.now)) (closing_is c.args.within) ∙ ap (λ v. closing c.args.within ++ (c.args.mark ∷ v)) (c.in-Some.ensures c.args.dtd.now are)) c.put_short_line.ensures

pub returns-in-None : goal.returns-in-None
returns-in-None g c = λ are. puts_as _ _ _ _ _ _ _ _ (ap (λ v. closing c.args.within ++ (c.args.mark ∷ v ++ 10 ∷ [])) c.element_name.ensures) c.put_long_line.ensures

pub returns-then-goes_nowhere : goal.returns-then-goes_nowhere
returns-then-goes_nowhere g c = λ are. c.put_unseen.ensures (element_line c.args.dtd.now c.args.within c.args.mark c.args.element)
