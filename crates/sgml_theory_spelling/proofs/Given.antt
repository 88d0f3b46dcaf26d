-- What comes out of a document is read.
use Rattle.std.proofs.Common.{◌≡◌, false, [], refl, ap, ◌∙◌, subst}
use Rattle.sgml_theory_reading.specs.Facets.{is_finish, items_of, effect}
use Rattle.sgml_theory_reading.specs.Nest.{nest}
use Rattle.sgml_theory_reading.specs.Unread.{Outside, opening}
use Rattle.sgml_theory_reading.specs.Events.{events, shown}
use Rattle.sgml_theory_reading.specs.Reads.{ends_in_finish}
use Rattle.sgml_theory_reading.specs.Outcome.{is_ended, Gives}
use Rattle.sgml_theory_reading.proofs.Computed.{gives-computed}
use Rattle.sgml_theory_spelling.specs.Spelled.{forms}
use Rattle.sgml_theory_spelling.specs.Worked.{computed, WhatComesOutIsRead}

unfinished : (outside : Outside) → ends_in_finish (opening outside) ≡ false
unfolding is_finish
unfinished outside = refl

nothing-told : (outside : Outside) → events forms (opening outside) ≡ []
unfolding events shown nest items_of effect
nothing-told outside = refl

pub what-comes-out-is-read : WhatComesOutIsRead
what-comes-out-is-read I ending ls h e =
    subst (λ z. Gives forms I (opening I.outside) ls z) h.ends
    (gives-computed 400 forms I (opening I.outside) (computed I) ls refl (unfinished I.outside) (nothing-told I.outside) (ap is_ended h.ends ∙ e) h.lines_are)
