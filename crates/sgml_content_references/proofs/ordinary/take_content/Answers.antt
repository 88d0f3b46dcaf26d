use Rattle.std.specs.Prelude.{true}
use Rattle.std.proofs.Common.{refl, subst}
use Rattle.sgml_theory_reading.specs.Pieces.{Ordinary}
use Rattle.sgml_declared.specs.theory_standing.Kept.{Kept}
use Rattle.sgml_content_references.specs.Strings.{string_in}
use Rattle.sgml_content_data.proofs.Judged.{judged-from, unchanged-from, memory-piece, refused-piece}
use Rattle.sgml_content_references.specs.Ordinary.{IsStringTaken}
use Rattle.sgml_content_references.proofs.Alike.{plain}
use Rattle.sgml_content_references.proofs.DataStanding.{noted-as, means-content}
use Rattle.sgml_content_references.proofs.Content.{content-text, content-taken}
use Rattle.sgml_content_references.proofs.ordinary.take_content.Goals as goal

pub returns-in-Err : goal.returns-in-Err
returns-in-Err c =
    let string = string_in c.args.content.now.kept c.args.texts.now c.args.n in
    refused-piece c.args.texts.now c.args.n (plain string true) c.args.content.now c.judge.new.content c.args.told.now.items c.in-Err.stop
    (judged-from c.args.content.now c.judge.new.content c.judge.ensures.holds c.judge.ensures.same c.judge.ensures.context c.judge.ensures.content)
    (content-text string)
    (λ x h. noted-as c.args.content.now x string (Ordinary true true) true true h refl (means-content c.args.content.now string c.requires.is))
    (record { refused = c.in-Err.ensures.refused; stops = c.in-Err.ensures.stops })

pub returns-in-Ok-take_string : goal.returns-in-Ok-take_string
returns-in-Ok-take_string c =
    let n = c.args.n in
    let from = judged-from c.args.content.now c.judge.new.content c.judge.ensures.holds c.judge.ensures.same c.judge.ensures.context c.judge.ensures.content in
    content-taken c.args.texts.now c.args.content.now c.judge.new.content c.take_string.new.content c.args.told.now.items c.take_string.new.told.items c.in-Ok.run'
    (string_in c.args.content.now.kept c.args.texts.now n) n c.requires.content from c.in-Ok.ensures.ok c.requires.some c.requires.within c.requires.is
    (subst (λ (k : Kept). IsStringTaken c.judge.new.content c.take_string.new.content n (string_in k c.args.texts.now n) c.args.told.now.items c.take_string.new.told.items) from.kept
    c.in-Ok-take_string.ensures.taken)

pub returns-in-Err-take_string : goal.returns-in-Err-take_string
returns-in-Err-take_string c =
    memory-piece c.args.texts.now c.args.n (plain (string_in c.args.content.now.kept c.args.texts.now c.args.n) true) c.args.content.now c.take_string.new.content c.args.told.now.items
    c.take_string.new.told.items
    (unchanged-from c.args.content.now c.judge.new.content c.take_string.new.content
    (judged-from c.args.content.now c.judge.new.content c.judge.ensures.holds c.judge.ensures.same c.judge.ensures.context c.judge.ensures.content)
    c.in-Err-take_string.ensures.content) c.in-Err-take_string.ensures.told
