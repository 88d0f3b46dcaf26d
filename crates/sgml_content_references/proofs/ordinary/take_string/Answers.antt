use Rattle.std.specs.Prelude.{List, ◌++◌}
use Rattle.std.proofs.Common.{refl, ap, ◌∙◌, subst}
use Rattle.sgml_text.specs.Units.{characters}
use Rattle.sgml_events.specs.declared.event.Event.{Event}
use Rattle.sgml_declared.specs.theory_standing.Kept.{Kept}
use Rattle.sgml_infer.specs.declared.visible.Visible.TheVariants as visible
use Rattle.sgml_content_steps.specs.Taken.{TakesRun}
use Rattle.sgml_content_references.specs.Strings.{string_in}
use Rattle.sgml_content_references.specs.Entities.{chars_told}
use Rattle.sgml_content_references.specs.Ordinary.{bytes_shown, with_string}
use Rattle.sgml_content_references.proofs.ordinary.take_string.Goals as goal

pub returns-clause-taken : goal.returns-clause-taken
returns-clause-taken c =
    let mid = c.take_run.new.content in
    let n = c.args.n in
    record {
      after_run = mid;
      run_told = c.take_run.new.told.items;
      run = subst (λ (es : List Event). TakesRun c.args.content.now mid visible.Chars es c.take_run.new.told.items) c.make_room.ensures.items
          (c.take_run.ensures.taken c.args.content.now (record { doctype = refl; tree = refl; inside = refl }) c.requires.run c.place_of-place.ensures);
      texts = c.take_run.ensures.kept;
      currents = c.take_run.ensures.currents;
      kept = c.note_string.ensures.content ∙ ap (λ (k : Kept). with_string n (string_in k c.args.texts.now n) mid) c.take_run.ensures.kept;
      told = c.tell_bytes.ensures
          ∙ ap (λ bs. c.take_run.new.told.items ++ chars_told (characters bs)) (c.note_string.ensures.out
          ∙ (λ i. c.in_ok-out.ensures.items i ++ bytes_shown mid.inside.elements (string_in (c.take_run.ensures.kept i) c.args.texts.now n)));
    }
