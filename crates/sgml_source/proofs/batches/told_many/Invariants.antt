use Rattle.std.proofs.Common.{◌≡◌, ◌≤◌, ℕ, [], length, None, true}
use Rattle.sgml_parse.specs.Parsing.{doctype_in, is_in_instance}
use Rattle.sgml_source.specs.Feeding.{IsGoing}
use Rattle.sgml_source.specs.Turning.{Turns}
use Rattle.sgml_source.proofs.batches.told_many.Given as goal

-- nothing was told yet
abbrev pub invariant-turns : goal.invariant-turns
invariant-turns g l =
    let S = g.S.Store in
    record {
      turns : Turns (S.files l.fn.store) (S.left l.fn.store) l.fn.source l.fn.parser (S.left l.store) l.source l.parser None;
      none : l.told.items ≡ [];
      going : IsGoing l.source l.parser;
      inside : is_in_instance l.parser.reading ≡ true;
      tables : doctype_in l.parser.reading ≡ doctype_in l.fn.parser.reading;
      id : l.source.id ≡ l.fn.source.id;
      given : (id : ℕ) → S.given l.fn.store id → S.given l.store id;
      files : S.files l.store ≡ S.files l.fn.store;
      faults : S.faults l.fn.store ≤ S.faults l.store;
      room : length l.buffer ≡ length l.fn.buffer;
    }
