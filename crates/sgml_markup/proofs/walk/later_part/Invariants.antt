use Rattle.std.proofs.Common.{◌≡◌, ◌≤◌, ◌-◌, length, drop}
use Rattle.sgml_markup.specs.Tags.{tag_parts, Behind}
use Rattle.sgml_markup.proofs.walk.later_part.Given as goal

abbrev pub invariant-bytes : goal.invariant-bytes
invariant-bytes l =
    (l.at ≤ length l.markup) × Behind l.at l.state
    × (tag_parts l.syntax l.closing l.fn.walk.at l.fn.walk.state (drop l.fn.walk.at l.body) ≡ tag_parts l.syntax l.closing l.at l.state (drop l.at l.body))

abbrev pub decreases-bytes : goal.decreases-bytes
decreases-bytes l = length l.body - l.at
