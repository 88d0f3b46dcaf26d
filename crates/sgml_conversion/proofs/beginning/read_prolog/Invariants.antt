use Rattle.std.specs.Prelude.{◌≡◌, ◌≤◌, ℕ, length, true, false, None}
use Rattle.std.specs.List.{list_all}
use Rattle.sgml_source.specs.parse.Parsing.{is_in_instance, is_instruction}
use Rattle.sgml_source.specs.Feeding.{IsGoing}
use Rattle.sgml_conversion.specs.Beginning.{PrologReads}
use Rattle.sgml_conversion.proofs.beginning.read_prolog.Given as goal

-- instructions were told since, and kept
abbrev pub invariant-prolog : goal.invariant-prolog
invariant-prolog g l =
    let S = g.S.Store in
    record {
      given : S.given l.store l.source.id;
      going : IsGoing l.source l.parser;
      room : length l.buffer ≡ length l.fn.buffer;
      id : l.source.id ≡ l.fn.source.id;
      kept : (id : ℕ) → S.given l.fn.store id → S.given l.store id;
      files : S.files l.store ≡ S.files l.fn.store;
      later : S.faults l.fn.store ≤ S.faults l.store;
      outside : is_in_instance l.parser.reading ≡ false;
      instructions : list_all is_instruction l.early.items ≡ true;
      reads : PrologReads (S.files l.fn.store) (S.left l.fn.store) l.fn.source l.fn.parser (S.left l.store) l.source l.parser l.early.items None;
    }
