use Rattle.std.proofs.Common.{◌≡◌, slice_get}
use Rattle.sgml_markup.specs.Forms.{parts_of_tag}
use Rattle.sgml_markup.specs.Walks.{parts_left, StandsIn}
use Rattle.sgml_markup.proofs.walk.part_of_number.Given as goal

abbrev pub invariant-parts : goal.invariant-parts
invariant-parts l =
    StandsIn l.markup l.walk × (slice_get (parts_of_tag l.syntax l.markup) l.number ≡ slice_get (parts_left l.syntax l.markup l.walk) l.left)

abbrev pub decreases-parts : goal.decreases-parts
decreases-parts l = l.left
