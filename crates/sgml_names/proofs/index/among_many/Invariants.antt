use Rattle.std.proofs.Common.{◌≡◌, ◌<◌, ℕ, Some, length, take, get_or}
use Rattle.sgml_names.specs.Index.{found}
use Rattle.sgml_names.specs.Hashing.{hash_by}
use Rattle.sgml_names.specs.Hashed.{hashes}
use Rattle.sgml_names.proofs.Finding.{up_to}
use Rattle.sgml_names.proofs.index.among_many.Given as goal

abbrev pub invariant-places : goal.invariant-places
invariant-places l = record {
  left : found (take (up_to l.next) l.entries) l.name ≡ found l.entries l.name;
  here : (p : ℕ) → l.next ≡ Some p → (p < length l.entries) × (get_or (hashes l.fn.hashing l.entries) p 0 ≡ hash_by l.fn.hashing l.name);
}

abbrev pub decreases-places : goal.decreases-places
decreases-places l = up_to l.next
