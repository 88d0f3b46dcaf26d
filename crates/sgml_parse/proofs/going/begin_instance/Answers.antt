use Rattle.std.proofs.Common.{refl, sym, ap, ◌∙◌, subst}
use Rattle.sgml_declared.specs.theory_standing.Prologs.{is_over}
use Rattle.sgml_declared.specs.Files.{Choices}
use Rattle.sgml_prolog.specs.Reading.{IsSound}
use Rattle.sgml_parse.specs.There.{reading_of}
use Rattle.sgml_parse.specs.There as reading
use Rattle.sgml_parse.proofs.Leading.{over-of, begins-over}
use Rattle.sgml_parse.proofs.going.begin_instance.Goals as goal

pub into_kept-requires : goal.into_kept-requires
into_kept-requires c =
    (over-of c.args.options.value (reading_of c.args.reading.now) c.into_inner.result
    (sym (ap reading_of c.replace.ensures.value) ∙ ap reading_of c.in-Prolog.is ∙ ap reading.Prolog (sym c.into_inner.ensures)) c.requires).0

pub instance_after-requires-clause-sound : goal.instance_after-requires-clause-sound
instance_after-requires-clause-sound c =
    subst (λ (o : Choices). IsSound o c.into_kept.result)
    (over-of c.args.options.value (reading_of c.args.reading.now) c.into_inner.result
    (sym (ap reading_of c.replace.ensures.value) ∙ ap reading_of c.in-Prolog.is ∙ ap reading.Prolog (sym c.into_inner.ensures)) c.requires).1 c.into_kept.ensures.sound

pub instance_after-requires-clause-over : goal.instance_after-requires-clause-over
instance_after-requires-clause-over c =
    ap is_over c.into_kept.ensures.kept
    ∙ (over-of c.args.options.value (reading_of c.args.reading.now) c.into_inner.result
    (sym (ap reading_of c.replace.ensures.value) ∙ ap reading_of c.in-Prolog.is ∙ ap reading.Prolog (sym c.into_inner.ensures)) c.requires).0

pub returns-in-Ok : goal.returns-in-Ok
returns-in-Ok c = (
  refl,
  begins-over c.args.options.value (reading_of c.args.reading.now) c.into_inner.result c.into_kept.result c.in-Ok.instance.value
      (sym (ap reading_of c.replace.ensures.value) ∙ ap reading_of c.in-Prolog.is ∙ ap reading.Prolog (sym c.into_inner.ensures)) c.into_kept.ensures.kept c.in-Ok.ensures.begins c.in-Ok.ensures.options,
)

pub returns-in-Err : goal.returns-in-Err
returns-in-Err c = (refl, ap reading_of c.replace.ensures.after)

pub returns-in-Instance : goal.returns-in-Instance
returns-in-Instance c = (refl, ap reading_of c.replace.ensures.after)
