use Rattle.std.proofs.Common.{ℕ, ◌<◌, drop}
use Rattle.sgml_content_references.specs.Mapped.{StartsOwn}
use Rattle.sgml_content_references.proofs.mapped.length_there.Given as goal

abbrev pub invariant-loop-i : goal.invariant-loop-i
invariant-loop-i l = (i : ℕ) → i < l.i → StartsOwn l.content (drop i l.text)
