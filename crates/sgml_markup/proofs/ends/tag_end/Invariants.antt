use Rattle.std.proofs.Common.{◌≡◌, ◌≤◌, ◌-◌, length, drop, None}
use Rattle.sgml_markup.specs.Ends.{tag_end}
use Rattle.sgml_delim.specs.Ends.{later}
use Rattle.sgml_markup.proofs.ends.tag_end.Given as goal

abbrev pub invariant-tag : goal.invariant-tag
invariant-tag l =
    (l.i ≤ length l.text)
    × (tag_end l.shorttag None l.text ≡ later l.i (tag_end l.shorttag None (drop l.i l.text)))

abbrev pub decreases-tag : goal.decreases-tag
decreases-tag l = length l.text - l.i
