use Rattle.std.specs.Prelude.{◌≤◌, length, take}
use Rattle.std.proofs.Common.{refl, ap, ◌∙◌, subst}
use Rattle.sgml_text.specs.Units.{characters}
use Rattle.sgml_content_data.proofs.Alike.{left-so, stays-so}
use Rattle.sgml_content_data.proofs.Plainly.{end-plainly, start-plainly, row-plainly, front-plainly, data-there, is-some}
use Rattle.sgml_content_data.proofs.quick.try_plain_text.Goals as goal

pub returns-in-empty-clause-takes : goal.returns-in-empty-clause-takes
returns-in-empty-clause-takes c = (left-so c.args.content.now, refl)

pub returns-in-empty-clause-alike : goal.returns-in-empty-clause-alike
returns-in-empty-clause-alike c = stays-so c.args.content.now

pub returns-then-b-eq60-clause-takes : goal.returns-then-b-eq60-clause-takes
returns-then-b-eq60-clause-takes c = (left-so c.args.content.now, refl)

pub returns-then-b-eq60-clause-alike : goal.returns-then-b-eq60-clause-alike
returns-then-b-eq60-clause-alike c = stays-so c.args.content.now

pub returns-then-b-eq13-clause-takes : goal.returns-then-b-eq13-clause-takes
returns-then-b-eq13-clause-takes c =
    end-plainly c.args.texts.now c.args.content.now c.try_separator.new.content c.args.told.now.items c.try_separator.new.told.items c.rest_at-rest.result.now c.counted.result c.try_separator.result
    c.requires.content c.rest_at-rest.ensures.value c.in-len1-up.len_at_least c.if-b-eq13.true c.try_separator.ensures.takes c.counted.ensures

pub returns-then-b-eq10-clause-takes : goal.returns-then-b-eq10-clause-takes
returns-then-b-eq10-clause-takes c =
    let last = c.try_separator-then-b-eq10 in
    start-plainly c.args.texts.now c.args.content.now last.new.content c.args.told.now.items last.new.told.items c.rest_at-rest.result.now c.counted-then-b-eq10.result last.result
    c.requires.content c.rest_at-rest.ensures.value c.in-len1-up.len_at_least c.if-b-eq10.true last.ensures.takes c.counted-then-b-eq10.ensures

pub returns-then-b-gt32-clause-takes : goal.returns-then-b-gt32-clause-takes
returns-then-b-gt32-clause-takes c = (left-so c.args.content.now, refl)

pub returns-then-b-gt32-clause-alike : goal.returns-then-b-gt32-clause-alike
returns-then-b-gt32-clause-alike c = stays-so c.args.content.now

pub returns-then-n-eq0-clause-takes : goal.returns-then-n-eq0-clause-takes
returns-then-n-eq0-clause-takes c = (left-so c.args.content.now, refl)

pub returns-then-n-eq0-clause-alike : goal.returns-then-n-eq0-clause-alike
returns-then-n-eq0-clause-alike c = stays-so c.args.content.now

pub try_front-requires-clause-some : goal.try_front-requires-clause-some
try_front-requires-clause-some c = is-some c.text_there-n.result c.if-n-eq0.false

pub try_front-requires-clause-within : goal.try_front-requires-clause-within
try_front-requires-clause-within c = subst (λ bs. c.text_there-n.result ≤ length bs) c.rest_at-rest.ensures.value c.text_there-n.ensures.within

pub returns-then-not-is_in_text-clause-takes : goal.returns-then-not-is_in_text-clause-takes
returns-then-not-is_in_text-clause-takes c =
    let some = is-some c.text_there-n.result c.if-n-eq0.false in
    front-plainly c.args.texts.now c.args.content.now c.try_front.new.content c.args.told.now.items c.args.told.now.items c.rest_at-rest.result.now c.counted-then-not-is_in_text.result
    c.text_there-n.result c.try_front.result c.requires.content c.rest_at-rest.ensures.value some c.text_there-n.ensures.within (c.text_there-n.ensures.scanned some) (c.try_front.ensures.takes c.args.told.now.items)
    c.counted-then-not-is_in_text.ensures

pub try_data-requires-clause-some : goal.try_data-requires-clause-some
try_data-requires-clause-some c = is-some c.text_there-n.result c.if-n-eq0.false

pub try_data-requires-clause-within : goal.try_data-requires-clause-within
try_data-requires-clause-within c = subst (λ bs. c.text_there-n.result ≤ length bs) c.rest_at-rest.ensures.value c.text_there-n.ensures.within

pub try_data-requires-clause-data : goal.try_data-requires-clause-data
try_data-requires-clause-data c =
    data-there c.args.content.now c.args.texts.now c.args.around c.rest_at-rest.result.now c.text_there-n.result c.requires.around (c.is_in_text.ensures c.if-not-is_in_text.false)
    c.rest_at-rest.ensures.value c.text_there-n.ensures.within c.text_there-n.ensures.sure

pub try_data-requires-clause-stretch : goal.try_data-requires-clause-stretch
try_data-requires-clause-stretch c = c.in-Ok.ensures ∙ ap (λ bs. characters (take c.text_there-n.result bs)) c.rest_at-rest.ensures.value

pub returns-in-Ok-clause-takes : goal.returns-in-Ok-clause-takes
returns-in-Ok-clause-takes c =
    let some = is-some c.text_there-n.result c.if-n-eq0.false in
    row-plainly c.args.texts.now c.args.content.now c.try_data.new.content c.args.told.now.items c.try_data.new.told.items c.rest_at-rest.result.now c.counted-in-Ok.result
    c.text_there-n.result c.try_data.result c.requires.content c.rest_at-rest.ensures.value some c.text_there-n.ensures.within (c.text_there-n.ensures.scanned some) c.try_data.ensures.takes
    c.counted-in-Ok.ensures

pub returns-in-Err-clause-takes : goal.returns-in-Err-clause-takes
returns-in-Err-clause-takes c = (left-so c.args.content.now, refl)

pub returns-in-Err-clause-alike : goal.returns-in-Err-clause-alike
returns-in-Err-clause-alike c = stays-so c.args.content.now
