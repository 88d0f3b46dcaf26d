use Rattle.std.specs.Prelude.{◌+◌, ◌^◌, ◌<◌, take}
use Rattle.std.specs.List.{list_all}
use Rattle.std.proofs.Common.{ap, sym, ◌∙◌, subst, arith}
use Rattle.sgml_entity.specs.Stack.{offset_of}
use Rattle.sgml_prolog_steps.specs.theory_standing.Kept.{Kept}
use Rattle.sgml_prolog_steps.specs.Found.{rest_in}
use Rattle.sgml_content_steps.specs.Runs.{room_of}
use Rattle.sgml_content_data.specs.declared.around.Around.{Around}
use Rattle.sgml_content_data.specs.Roles.{around_of, is_data_there}
use Rattle.sgml_content_data.specs.Steps.{taken}
use Rattle.sgml_content_data.proofs.Judged.{unchanged-from}
use Rattle.sgml_content_data.proofs.From.{plain-from, around-from, stretch-from, all-of}
use Rattle.sgml_content_data.proofs.Stretches.{stretch-memory, stretch-either}
use Rattle.sgml_content_data.proofs.Starting.{stretch-widens, first-of}
use Rattle.sgml_content_data.proofs.plain.take_plain_stretch.Goals as goal

pub take_stretch-requires-clause-some : goal.take_stretch-requires-clause-some
take_stretch-requires-clause-some c = let some = c.requires.some in let front = c.requires.front in omega (arith, some, front)

pub take_stretch-requires-clause-data : goal.take_stretch-requires-clause-data
take_stretch-requires-clause-data c =
    let old = c.args.content.now in
    let p = plain-from old c.judge_plain.new.content c.judge_plain.ensures.holds c.judge_plain.ensures.same c.judge_plain.ensures.context c.judge_plain.ensures.content in
    ap (λ (a : Around). list_all (is_data_there a) (take 1 (rest_in c.judge_plain.new.content.kept c.args.texts.now))) (around-from old c.judge_plain.new.content p.from)
    ∙ (ap (λ (k : Kept). list_all (is_data_there (around_of old)) (take 1 (rest_in k c.args.texts.now))) p.from.kept
    ∙ first-of (is_data_there (around_of old)) c.args.n (rest_in old.kept c.args.texts.now) c.requires.some c.requires.data)

pub take_data-requires-clause-fits : goal.take_data-requires-clause-fits
take_data-requires-clause-fits c =
    let p = plain-from c.args.content.now c.judge_plain.new.content c.judge_plain.ensures.holds c.judge_plain.ensures.same c.judge_plain.ensures.context c.judge_plain.ensures.content in
    let front = c.requires.front in
    let fits = c.requires.fits in
    subst (λ (k : Kept). offset_of k.stack.places + c.args.n < 2 ^ 64) (sym p.from.kept) (omega (arith, front, fits))

pub returns-in-Ok : goal.returns-in-Ok
returns-in-Ok c =
    let p = plain-from c.args.content.now c.judge_plain.new.content c.judge_plain.ensures.holds c.judge_plain.ensures.same c.judge_plain.ensures.context c.judge_plain.ensures.content in
    let front = c.requires.front in
    let within = c.requires.within in
    stretch-widens c.args.texts.now c.args.n c.args.whole c.args.content.now c.take_data.new.content c.args.told.now.items c.take_data.new.told.items _ front
    (stretch-either c.args.texts.now c.args.n c.args.n c.args.content.now c.judge_plain.new.content c.take_data.new.content c.args.told.now.items c.take_data.new.told.items
    c.in-Some.run' c.args.stretch c.requires.content p.from c.in-Some.ensures.run c.requires.some (omega (arith, front, within)) c.requires.data
    (all-of (room_of c.in-Some.run') c.args.n c.in-Some.ensures.plain) c.requires.stretch c.in-Ok.ensures.taken)

pub returns-in-Err : goal.returns-in-Err
returns-in-Err c =
    let p = plain-from c.args.content.now c.judge_plain.new.content c.judge_plain.ensures.holds c.judge_plain.ensures.same c.judge_plain.ensures.context c.judge_plain.ensures.content in
    stretch-memory c.args.texts.now c.args.whole c.args.content.now c.take_data.new.content c.args.told.now.items c.take_data.new.told.items
    (unchanged-from c.args.content.now c.judge_plain.new.content c.take_data.new.content p.from c.in-Err.ensures.content) c.in-Err.ensures.told

pub returns-in-None : goal.returns-in-None
returns-in-None c =
    let p = plain-from c.args.content.now c.judge_plain.new.content c.judge_plain.ensures.holds c.judge_plain.ensures.same c.judge_plain.ensures.context c.judge_plain.ensures.content in
    stretch-from c.args.texts.now c.args.whole c.args.content.now c.judge_plain.new.content c.take_stretch.new.content c.args.told.now.items c.take_stretch.new.told.items
    (taken c.take_stretch.result c.take_stretch.new.stop) p c.take_stretch.ensures
