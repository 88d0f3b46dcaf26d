use Rattle.std.specs.Prelude.{◌≤◌, length}
use Rattle.std.proofs.Common.{refl, sym, ◌∙◌, subst, arith}
use Rattle.sgml_content_data.specs.Roles.{around_of, is_data_there}
use Rattle.sgml_content_data.proofs.Alike.{left-so}
use Rattle.sgml_content_data.proofs.Plainly.{text-data-there, one-data, is-some}
use Rattle.sgml_content_data.proofs.Leading.{begun-plainly}
use Rattle.sgml_content_data.proofs.quick.try_begun_text.Goals as goal

pub returns-then-n-eq0-clause-takes : goal.returns-then-n-eq0-clause-takes
returns-then-n-eq0-clause-takes c = (left-so c.args.content.now, refl)

pub returns-then-not-is_data_first-clause-takes : goal.returns-then-not-is_data_first-clause-takes
returns-then-not-is_data_first-clause-takes c = (left-so c.args.content.now, refl)

pub take_begun-requires-clause-some : goal.take_begun-requires-clause-some
take_begun-requires-clause-some c = is-some c.text_there-n.result c.if-n-eq0.false

pub take_begun-requires-clause-within : goal.take_begun-requires-clause-within
take_begun-requires-clause-within c = subst (λ bs. c.text_there-n.result ≤ length bs) c.rest_at-rest.ensures.value c.text_there-n.ensures.within

pub take_begun-requires-clause-begins : goal.take_begun-requires-clause-begins
take_begun-requires-clause-begins c =
    let some = is-some c.text_there-n.result c.if-n-eq0.false in
    let within = c.text_there-n.ensures.within in
    one-data (is_data_there (around_of c.args.content.now)) c.rest_at-rest.result.now _ c.rest_at-rest.ensures.value (omega (arith, some, within))
    (sym c.is_data_first.ensures ∙ c.if-not-is_data_first.false)

pub take_begun-requires-clause-data : goal.take_begun-requires-clause-data
take_begun-requires-clause-data c =
    text-data-there c.args.content.now c.args.texts.now c.rest_at-rest.result.now c.text_there-n.result c.rest_at-rest.ensures.value c.text_there-n.ensures.within c.text_there-n.ensures.sure

pub returns-clause-takes : goal.returns-clause-takes
returns-clause-takes c =
    let some = is-some c.text_there-n.result c.if-n-eq0.false in
    begun-plainly c.args.texts.now c.args.content.now c.take_begun.new.content c.args.told.now.items c.take_begun.new.told.items c.rest_at-rest.result.now c.counted.result
    c.text_there-n.result c.take_begun.result c.requires.content c.rest_at-rest.ensures.value some c.text_there-n.ensures.within (c.text_there-n.ensures.scanned some)
    c.take_begun.ensures.takes c.counted.ensures
