use Rattle.std.proofs.Common.{◌≡◌, ◌≤◌, ℕ, length}
use Rattle.sgml_source.specs.Feeding.{IsGoing, StaysThere, FeedsOn}
use Rattle.sgml_source.proofs.source.feed_pieces.Given as goal

abbrev pub invariant-pieces : goal.invariant-pieces
invariant-pieces g l =
    let S = g.S.Store in
    record {
      fed : FeedsOn (S.left l.fn.store) l.fn.source l.fn.parser (S.left l.store) l.source l.parser;
      there : StaysThere l.fn.parser l.parser;
      going : IsGoing l.source l.parser;
      id : l.source.id ≡ l.fn.source.id;
      given : (id : ℕ) → S.given l.fn.store id → S.given l.store id;
      files : S.files l.store ≡ S.files l.fn.store;
      faults : S.faults l.fn.store ≤ S.faults l.store;
      room : length l.buffer ≡ length l.fn.buffer;
    }
