use Rattle.std.proofs.Common.{refl}
use Rattle.sgml_content_data.proofs.taking.take_item.Goals as goal

pub returns-clause-taken : goal.returns-clause-taken
returns-clause-taken c = record {
  after_run = c.take_run.new.content;
  run = c.take_run.ensures.taken c.args.content.now (record { doctype = refl; tree = refl; inside = refl }) c.requires.run c.place_of-place.ensures;
  texts = c.take_run.ensures.kept;
  currents = c.take_run.ensures.currents;
  kept = c.note_next.ensures.content;
  puts_out = c.note_next.ensures.released;
}
