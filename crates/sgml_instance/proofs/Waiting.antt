-- What waits is told one event after another.
use Rattle.std.specs.Prelude.{ℕ, Bool, true, List, [], ◌∷◌, ◌++◌, Ok}
use Rattle.std.proofs.Common.{refl, sym, ◌∙◌}
use Rattle.std.proofs.lemmas.List.{append_assoc}
use Rattle.sgml_events.specs.declared.event.Event.{Event}
use Rattle.sgml_content_tags.specs.said.Told.{said, all_said}
use Rattle.sgml_declared.specs.theory_reading.Names.{Text}
use Rattle.sgml_declared.specs.theory_reading.Pieces.{History}
use Rattle.sgml_declared.specs.theory_reading.Unread.{Input}
use Rattle.sgml_declared.specs.theory_reading.Reads.{after_moves}
use Rattle.sgml_declared.specs.theory_reading.Events as reading
use Rattle.sgml_declared.specs.Files.{Choices}
use Rattle.sgml_content_tags.specs.sgml_content_steps.Content.{Content}
use Rattle.sgml_instance.specs.Reading.{Reader, IsReading, NextIsReading, reader}
use Rattle.sgml_instance.specs.Going.{GoesFrom}
use Rattle.sgml_instance.specs.declared.answer.InstanceStep.TheVariants as step
use Rattle.sgml_instance.proofs.Placed.{rest-is-placed, first-is-placed}

tells-first : (c : Choices) (k : Content) (over : Bool) (e : Event) (es : List Event) (texts : List (ℕ × Text)) (ended : Bool) (I : Input) (more : Text) (h : History) (told : List reading.Event)
    → IsReading (reader c k (e ∷ es) over) texts ended I more h told → IsReading (reader c k es over) texts ended I more h (told ++ said k.kept.doctype e)
tells-first c k over e es texts ended I more h told r = record {
  well = refl;
  of_options = r.of_options;
  keeps = r.keeps;
  follows = r.follows;
  all = r.all ∙ sym (append_assoc told (said k.kept.doctype e) (all_said k.kept.doctype es));
  placed = rest-is-placed k.kept.doctype h told e es r.placed;
}

-- the first event is told, once all before was read
pub event-is-told : (c : Choices) (texts : List (ℕ × Text)) (ended : Bool) (from : Reader) (k : Content) (over : Bool) (e : Event) (es : List Event)
    → GoesFrom c texts ended from (reader c k (e ∷ es) over) → NextIsReading from (reader c k es over) texts ended (Ok (step.Event e))
event-is-told c texts ended from k over e es g = λ I more h told x.
    let a = g I more h told x in
    record {
      moves = a.moves;
      read = a.read;
      leads = (tells-first c k over e es texts ended I more (after_moves h a.moves) told a.goes_on, first-is-placed (after_moves h a.moves) told e es a.goes_on.placed);
    }

-- or the document has ended, and nothing waits
pub end-is-told : (c : Choices) (texts : List (ℕ × Text)) (ended : Bool) (from : Reader) (k : Content)
    → GoesFrom c texts ended from (reader c k [] true) → NextIsReading from (reader c k [] true) texts ended (Ok step.Finished)
end-is-told c texts ended from k g = λ I more h told x.
    let a = g I more h told x in
    record { moves = a.moves; read = a.read; leads = (record { reading = a.goes_on; none = refl }, a.goes_on.keeps.0) }
