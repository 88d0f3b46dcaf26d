use Rattle.std.proofs.Common.{◌≤◌, ◌-◌, length}
use Rattle.sgml_markup.specs.Tags.{HasSameParts}
use Rattle.sgml_markup.proofs.plain.behind_separators.Given as goal

abbrev pub invariant-separators : goal.invariant-separators
invariant-separators l = record {
  on : l.at ≤ l.to;
  within : l.to ≤ length l.body;
  parts : HasSameParts l.body l.at l.to;
}

abbrev pub decreases-separators : goal.decreases-separators
decreases-separators l = length l.body - l.to
