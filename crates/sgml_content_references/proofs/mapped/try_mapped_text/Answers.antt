use Rattle.std.specs.Prelude.{◌≤◌, length, take}
use Rattle.std.proofs.Common.{refl, ap, ◌∙◌, subst}
use Rattle.sgml_text.specs.Units.{characters}
use Rattle.sgml_content_data.proofs.Alike.{left-so}
use Rattle.sgml_content_data.proofs.Plainly.{is-some}
use Rattle.sgml_content_references.specs.Mapped.{AreTextThere, IsTextEnd}
use Rattle.sgml_content_references.proofs.mapped.try_mapped_text.Goals as goal

pub returns-then-not-is_in_text-clause-takes : goal.returns-then-not-is_in_text-clause-takes
returns-then-not-is_in_text-clause-takes c = (left-so c.args.content.now, refl)

pub returns-then-n-eq0-clause-takes : goal.returns-then-n-eq0-clause-takes
returns-then-n-eq0-clause-takes c = (left-so c.args.content.now, refl)

pub take_row-requires-clause-some : goal.take_row-requires-clause-some
take_row-requires-clause-some c = is-some c.length_there-n.result c.if-n-eq0.false

pub take_row-requires-clause-within : goal.take_row-requires-clause-within
take_row-requires-clause-within c = subst (λ bs. c.length_there-n.result ≤ length bs) c.rest_at-rest.ensures.value c.length_there-n.ensures.within

pub take_row-requires-clause-stretch : goal.take_row-requires-clause-stretch
take_row-requires-clause-stretch c = c.in-Ok.ensures ∙ ap (λ bs. characters (take c.length_there-n.result bs)) c.rest_at-rest.ensures.value

pub take_row-requires-clause-each : goal.take_row-requires-clause-each
take_row-requires-clause-each c = subst (λ bs. AreTextThere c.args.content.now bs c.length_there-n.result) c.rest_at-rest.ensures.value c.length_there-n.ensures.each

pub take_row-requires-clause-ends : goal.take_row-requires-clause-ends
take_row-requires-clause-ends c = subst (λ bs. IsTextEnd c.args.content.now bs c.length_there-n.result) c.rest_at-rest.ensures.value c.length_there-n.ensures.ends

pub returns-in-Err-clause-takes : goal.returns-in-Err-clause-takes
returns-in-Err-clause-takes c = (left-so c.args.content.now, refl)
