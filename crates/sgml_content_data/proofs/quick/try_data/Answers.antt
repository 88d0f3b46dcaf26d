use Rattle.std.proofs.Common.{refl}
use Rattle.sgml_content_steps.specs.Runs.{room_of}
use Rattle.sgml_content_data.proofs.From.{plain-from, all-of}
use Rattle.sgml_content_data.proofs.Stretches.{stretch-either}
use Rattle.sgml_content_data.proofs.Alike.{taken-stays, taken-content, judged-stays, judged-left}
use Rattle.sgml_content_data.proofs.quick.try_data.Goals as goal

pub returns-in-Ok-clause-takes : goal.returns-in-Ok-clause-takes
returns-in-Ok-clause-takes c =
    let p = plain-from c.args.content.now c.judge_plain.new.content c.judge_plain.ensures.holds c.judge_plain.ensures.same c.judge_plain.ensures.context c.judge_plain.ensures.content in
    stretch-either c.args.texts.now c.args.n c.args.n c.args.content.now c.judge_plain.new.content c.take_data.new.content c.args.told.now.items c.take_data.new.told.items
    c.in-Some.run' c.args.stretch c.requires.content p.from c.in-Some.ensures.run c.requires.some c.requires.within c.requires.data
    (all-of (room_of c.in-Some.run') c.args.n c.in-Some.ensures.plain) c.requires.stretch c.in-Ok.ensures.taken

pub returns-in-Ok-clause-alike : goal.returns-in-Ok-clause-alike
returns-in-Ok-clause-alike c =
    let p = plain-from c.args.content.now c.judge_plain.new.content c.judge_plain.ensures.holds c.judge_plain.ensures.same c.judge_plain.ensures.context c.judge_plain.ensures.content in
    let t = c.in-Ok.ensures.taken in
    taken-stays c.args.content.now c.judge_plain.new.content c.take_data.new.content c.args.n _ c.args.told.now.items t.run_told t.released c.in-Some.run' p.from
    c.judge_plain.ensures.same c.in-Some.ensures.run c.in-Some.ensures.plain t.taken

pub returns-in-Ok-clause-content : goal.returns-in-Ok-clause-content
returns-in-Ok-clause-content c =
    let t = c.in-Ok.ensures.taken in
    taken-content c.judge_plain.new.content c.take_data.new.content c.args.n _ c.args.told.now.items t.run_told t.released c.judge_plain.ensures.content t.taken

pub returns-in-Err-clause-takes : goal.returns-in-Err-clause-takes
returns-in-Err-clause-takes c =
    let p = plain-from c.args.content.now c.judge_plain.new.content c.judge_plain.ensures.holds c.judge_plain.ensures.same c.judge_plain.ensures.context c.judge_plain.ensures.content in
    (judged-left c.args.content.now c.judge_plain.new.content c.take_data.new.content p c.in-Err.ensures.content, c.in-Err.ensures.told)

pub returns-in-Err-clause-alike : goal.returns-in-Err-clause-alike
returns-in-Err-clause-alike c =
    let p = plain-from c.args.content.now c.judge_plain.new.content c.judge_plain.ensures.holds c.judge_plain.ensures.same c.judge_plain.ensures.context c.judge_plain.ensures.content in
    judged-stays c.args.content.now c.judge_plain.new.content c.take_data.new.content p c.in-Err.ensures.content

pub returns-in-None-clause-takes : goal.returns-in-None-clause-takes
returns-in-None-clause-takes c =
    let p = plain-from c.args.content.now c.judge_plain.new.content c.judge_plain.ensures.holds c.judge_plain.ensures.same c.judge_plain.ensures.context c.judge_plain.ensures.content in
    (judged-left c.args.content.now c.judge_plain.new.content c.judge_plain.new.content p refl, refl)

pub returns-in-None-clause-alike : goal.returns-in-None-clause-alike
returns-in-None-clause-alike c =
    let p = plain-from c.args.content.now c.judge_plain.new.content c.judge_plain.ensures.holds c.judge_plain.ensures.same c.judge_plain.ensures.context c.judge_plain.ensures.content in
    judged-stays c.args.content.now c.judge_plain.new.content c.judge_plain.new.content p refl
