use Rattle.std.proofs.Common.{◌≡◌, ◌+◌, drop}
use Rattle.std.specs.Prelude.{option_map}
use Rattle.sgml_marked.specs.Keywords.{first_unknown}
use Rattle.sgml_marked.proofs.status.unknown_of.Given as goal

abbrev pub invariant-loop-i : goal.invariant-loop-i
invariant-loop-i l = first_unknown l.keywords ≡ option_map (λ n. l.i + n) (first_unknown (drop l.i l.keywords))
