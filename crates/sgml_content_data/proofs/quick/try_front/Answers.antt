use Rattle.std.specs.Prelude.{None}
use Rattle.std.proofs.Common.{refl, arith}
use Rattle.sgml_prolog_steps.specs.Found.{rest_in}
use Rattle.sgml_content_data.specs.Alike.{chars}
use Rattle.sgml_content_data.proofs.Scanned.{front-there, front-within, ignored-tells}
use Rattle.sgml_content_data.proofs.Alike.{alone-stays, alone-content, left-so, stays-so}
use Rattle.sgml_content_data.proofs.quick.try_front.Goals as goal

pub returns-then-is_data_at-clause-takes : goal.returns-then-is_data_at-clause-takes
returns-then-is_data_at-clause-takes c told = (left-so c.args.content.now, refl)

pub returns-then-is_data_at-clause-alike : goal.returns-then-is_data_at-clause-alike
returns-then-is_data_at-clause-alike c = stays-so c.args.content.now

pub pass_next-requires-clause-fits : goal.pass_next-requires-clause-fits
pass_next-requires-clause-fits c =
    let old = c.args.content.now in
    let front = front-there old c.args.texts.now c.args.n _ c.bytes_at-bytes.result.now c.front_of-front.result c.requires.around c.bytes_at-bytes.ensures.value c.front_of-front.ensures in
    let a = front-within _ c.args.n (rest_in old.kept c.args.texts.now) c.front_of-front.result front c.requires.within in
    let b = c.bytes_at-bytes.ensures.fits in
    omega (arith, a, b)

pub returns-in-Ignored-clause-takes : goal.returns-in-Ignored-clause-takes
returns-in-Ignored-clause-takes c told =
    let old = c.args.content.now in
    ignored-tells c.args.texts.now (chars c.args.n) old c.pass_next.new.content told c.front_of-front.result c.requires.content c.requires.within refl
    (front-there old c.args.texts.now c.args.n _ c.bytes_at-bytes.result.now c.front_of-front.result c.requires.around c.bytes_at-bytes.ensures.value c.front_of-front.ensures)
    c.in-Ignored.is c.pass_next.ensures

pub returns-in-Ignored-clause-alike : goal.returns-in-Ignored-clause-alike
returns-in-Ignored-clause-alike c = alone-stays c.args.content.now c.pass_next.new.content _ None c.pass_next.ensures

pub returns-in-Ignored-clause-content : goal.returns-in-Ignored-clause-content
returns-in-Ignored-clause-content c = alone-content c.args.content.now c.pass_next.new.content _ None c.requires.content c.pass_next.ensures

pub returns-in-Data-clause-takes : goal.returns-in-Data-clause-takes
returns-in-Data-clause-takes c told = (left-so c.args.content.now, refl)

pub returns-in-Data-clause-alike : goal.returns-in-Data-clause-alike
returns-in-Data-clause-alike c = stays-so c.args.content.now

pub returns-in-RecordEnd-clause-takes : goal.returns-in-RecordEnd-clause-takes
returns-in-RecordEnd-clause-takes c told = (left-so c.args.content.now, refl)

pub returns-in-RecordEnd-clause-alike : goal.returns-in-RecordEnd-clause-alike
returns-in-RecordEnd-clause-alike c = stays-so c.args.content.now

pub returns-in-RecordStart-clause-takes : goal.returns-in-RecordStart-clause-takes
returns-in-RecordStart-clause-takes c told = (left-so c.args.content.now, refl)

pub returns-in-RecordStart-clause-alike : goal.returns-in-RecordStart-clause-alike
returns-in-RecordStart-clause-alike c = stays-so c.args.content.now
