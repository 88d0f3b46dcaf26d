use Rattle.std.proofs.Common.{refl, ap, ◌∙◌, arith}
use Rattle.sgml_text.specs.Units.{characters}
use Rattle.sgml_prolog_steps.specs.Found.{rest_in}
use Rattle.sgml_content_data.specs.Roles.{is_data}
use Rattle.sgml_content_data.proofs.Judged.{unjudged}
use Rattle.sgml_content_data.proofs.Stretches.{stretch-memory}
use Rattle.sgml_content_data.proofs.Scanned.{front-there, front-within, front-data, front-taken, data-tells, one-tells, ignored-tells}
use Rattle.sgml_content_data.specs.Steps.{taken}
use Rattle.sgml_content_data.proofs.characters.take_read.Goals as goal

pub take_plain_stretch-requires-clause-data : goal.take_plain_stretch-requires-clause-data
take_plain_stretch-requires-clause-data c =
    let old = c.args.content.now in
    let front = front-there old c.args.texts.now c.args.token.length _ c.bytes_at-bytes.result.now c.front_of-front.result c.look_around-around.ensures c.bytes_at-bytes.ensures.value c.front_of-front.ensures in
    front-data _ c.args.token.length (rest_in old.kept c.args.texts.now) c.front_of-front.result front c.requires.within c.in-Data.is

pub take_plain_stretch-requires-clause-stretch : goal.take_plain_stretch-requires-clause-stretch
take_plain_stretch-requires-clause-stretch c =
    let old = c.args.content.now in
    let front = front-there old c.args.texts.now c.args.token.length _ c.bytes_at-bytes.result.now c.front_of-front.result c.look_around-around.ensures c.bytes_at-bytes.ensures.value c.front_of-front.ensures in
    c.in-Ok.ensures ∙ ap characters (front-taken _ c.args.token.length (rest_in old.kept c.args.texts.now) c.bytes_at-bytes.result.now c.front_of-front.result front c.requires.within c.bytes_at-bytes.ensures.value)

pub returns-in-Err : goal.returns-in-Err
returns-in-Err c =
    let old = c.args.content.now in
    let front = front-there old c.args.texts.now c.args.token.length _ c.bytes_at-bytes.result.now c.front_of-front.result c.look_around-around.ensures c.bytes_at-bytes.ensures.value c.front_of-front.ensures in
    data-tells c.args.texts.now c.args.token c.front_of-front.result.length old old c.args.told.now.items c.args.told.now.items
    _ c.requires.kind
    (front-within _ c.args.token.length (rest_in old.kept c.args.texts.now) c.front_of-front.result front c.requires.within)
    (stretch-memory c.args.texts.now c.front_of-front.result.length old old c.args.told.now.items c.args.told.now.items (unjudged old c.requires.content) refl)

pub returns-in-Ok : goal.returns-in-Ok
returns-in-Ok c =
    let old = c.args.content.now in
    data-tells c.args.texts.now c.args.token c.args.token.length old c.take_plain_stretch.new.content c.args.told.now.items c.take_plain_stretch.new.told.items
    (taken c.take_plain_stretch.result c.take_plain_stretch.new.stop) c.requires.kind (omega arith) c.take_plain_stretch.ensures

pub returns-in-RecordEnd : goal.returns-in-RecordEnd
returns-in-RecordEnd c =
    let old = c.args.content.now in
    one-tells c.args.texts.now c.args.token c.front_of-front.result old c.take_separator.new.content c.args.told.now.items c.take_separator.new.told.items
    (taken c.take_separator.result c.take_separator.new.stop) c.requires.kind c.requires.some c.requires.within
    (front-there old c.args.texts.now c.args.token.length _ c.bytes_at-bytes.result.now c.front_of-front.result c.look_around-around.ensures c.bytes_at-bytes.ensures.value c.front_of-front.ensures)
    (ap is_data c.in-RecordEnd.is) c.take_separator.ensures

pub returns-in-RecordStart : goal.returns-in-RecordStart
returns-in-RecordStart c =
    let old = c.args.content.now in
    let last = c.take_separator-in-RecordStart in
    one-tells c.args.texts.now c.args.token c.front_of-front.result old last.new.content c.args.told.now.items last.new.told.items
    (taken last.result last.new.stop) c.requires.kind c.requires.some c.requires.within
    (front-there old c.args.texts.now c.args.token.length _ c.bytes_at-bytes.result.now c.front_of-front.result c.look_around-around.ensures c.bytes_at-bytes.ensures.value c.front_of-front.ensures)
    (ap is_data c.in-RecordStart.is) last.ensures

pub returns-in-Ignored : goal.returns-in-Ignored
returns-in-Ignored c =
    let old = c.args.content.now in
    ignored-tells c.args.texts.now c.args.token old c.pass.new.content c.args.told.now.items c.front_of-front.result c.requires.content c.requires.within c.requires.kind
    (front-there old c.args.texts.now c.args.token.length _ c.bytes_at-bytes.result.now c.front_of-front.result c.look_around-around.ensures c.bytes_at-bytes.ensures.value c.front_of-front.ensures)
    c.in-Ignored.is c.pass.ensures
