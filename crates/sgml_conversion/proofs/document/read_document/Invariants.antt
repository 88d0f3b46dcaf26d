use Rattle.std.proofs.Common.{◌≡◌, ◌≤◌, ℕ, List, [], length}
use Rattle.sgml_source.specs.declared.source.Phase.TheVariants.{Going}
use Rattle.sgml_conversion.specs.Documents.{HasRead}
use Rattle.sgml_conversion.proofs.document.read_document.Given as goal

abbrev pub invariant-pieces : goal.invariant-pieces
invariant-pieces g l =
    let S = g.S.Store in
    record {
      given : S.given l.store l.id;
      room : length l.buffer ≡ length l.fn.buffer;
      within : length l.bytes.items ≤ l.limit;
      kept : (other : ℕ) → S.given l.fn.store other → S.given l.store other;
      files : S.files l.store ≡ S.files l.fn.store;
      later : S.faults l.fn.store ≤ S.faults l.store;
      read : (whole : List ℕ) → HasRead l.limit whole (S.left l.fn.store l.id) [] Going → HasRead l.limit whole (S.left l.store l.id) l.bytes.items Going;
    }
