use Rattle.std.specs.Prelude.{◌≡◌, ◌<◌, ◌≤◌, ℕ, List, [], Option, length, true}
use Rattle.sgml_events.specs.declared.event.Event.{Event}
use Rattle.sgml_source.specs.parse.Parsing.{doctype_in, is_in_instance}
use Rattle.sgml_source.specs.Feeding.{IsGoing}
use Rattle.sgml_conversion.specs.Writing.{StandAfter}
use Rattle.sgml_conversion.specs.Showing.{ShowsThen, ForEachInput}
use Rattle.sgml_conversion.proofs.instance.read_instance.Given as goal

-- more events were told and written since
abbrev pub invariant-instance : goal.invariant-instance
invariant-instance g l =
    let S = g.S.Store in let O = g.O.Sink in
    record {
      given : S.given l.store l.source.id;
      going : IsGoing l.source l.parser;
      room : 0 < length l.buffer;
      none : l.told.items ≡ [];
      inside : is_in_instance l.parser.reading ≡ true;
      files : S.files l.store ≡ S.files l.fn.store;
      later : S.faults l.fn.store ≤ S.faults l.store;
      shown : (start : Option (List ℕ)) (count : ℕ) (es : List Event) → StandAfter start count (O.taken l.fn.out) (O.faults l.fn.out) l.fn.writer l.fn.idents (doctype_in l.fn.parser.reading) es
          → (es' : List Event) × StandAfter start count (O.taken l.out) (O.faults l.out) l.writer l.idents (doctype_in l.parser.reading) es'
          × ForEachInput (S.files l.fn.store) (S.left l.fn.store) l.fn.source l.fn.parser es (λ limit bytes I h. ShowsThen limit bytes (S.left l.store) l.source l.parser I h es');
    }
