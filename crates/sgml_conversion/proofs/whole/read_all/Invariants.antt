use Rattle.std.specs.Prelude.{◌≡◌, ◌<◌, ◌≤◌, length, true}
use Rattle.sgml_source.specs.parse.Parsing.{doctype_in, is_in_instance}
use Rattle.sgml_source.specs.Feeding.{IsGoing}
use Rattle.sgml_conversion.specs.Showing.{ShowsThen, ForEachInput}
use Rattle.sgml_conversion.specs.Telling.{HasMore}
use Rattle.sgml_conversion.proofs.whole.read_all.Given as goal

-- more events were told since, and kept
abbrev pub invariant-instance : goal.invariant-instance
invariant-instance g l =
    let S = g.S.Store in
    record {
      given : S.given l.store l.source.id;
      going : IsGoing l.source l.parser;
      room : 0 < length l.buffer;
      inside : is_in_instance l.parser.reading ≡ true;
      tables : doctype_in l.parser.reading ≡ doctype_in l.fn.parser.reading;
      files : S.files l.store ≡ S.files l.fn.store;
      later : S.faults l.fn.store ≤ S.faults l.store;
      more : HasMore l.fn.events.items l.events.items;
      shown : ForEachInput (S.files l.fn.store) (S.left l.fn.store) l.fn.source l.fn.parser l.fn.events.items (λ limit bytes I h. ShowsThen limit bytes (S.left l.store) l.source l.parser I h l.events.items);
    }
