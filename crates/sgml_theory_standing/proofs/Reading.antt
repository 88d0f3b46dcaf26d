-- Pieces that stand next, one after another, are read.
use Rattle.std.specs.Prelude.{◌≡◌, ℕ, ◌&&◌, Bool, true, Ok, List, [], ◌∷◌}
use Rattle.std.proofs.Common.{sym, ap, ◌∙◌, subst}
use Rattle.sgml_theory_spelling.specs.theory_reading.Names.{Text}
use Rattle.sgml_theory_spelling.specs.theory_reading.Pieces.{Piece, History}
use Rattle.sgml_theory_spelling.specs.theory_reading.Unread.{Input}
use Rattle.sgml_theory_spelling.specs.theory_reading.Reads.{Reads}
use Rattle.sgml_theory_spelling.specs.Spelled.{forms}
use Rattle.sgml_theory_standing.specs.Supplied.{MayFollow}
use Rattle.sgml_theory_standing.specs.Kept.{Kept, Stands}
use Rattle.sgml_theory_standing.specs.Prologs.{is_in_prolog, alone}
use Rattle.sgml_theory_standing.specs.Next.{after, IsNext}
use Rattle.sgml_theory_standing.specs.Laws.{NextAreRead}
use Rattle.sgml_theory_standing.proofs.Prologs.{prolog-reads, state-in-prolog}
use Rattle.sgml_theory_standing.proofs.Given.{next-in-prolog}
use Rattle.sgml_theory_standing.proofs.Standing.{stands-on}

next-reads : (k : Kept) (texts : List (ℕ × Text)) (ended : Bool) (I : Input) (more : Text) (h : History) (p : Piece)
    → Stands k texts I more h → MayFollow ended I more → is_in_prolog h ≡ true → IsNext I.outside k texts ended p → Reads forms I h (alone p)
next-reads k texts ended I more h p s m e x =
    prolog-reads I h p s.goes_on x.of_prolog
    (next-in-prolog k texts ended I more h (Ok p) s m (state-in-prolog k texts I more h s e) x.decided x.spelled ∙ ap Ok x.noted)

pub next-are-read : NextAreRead
next-are-read k new texts ended I more h [] s m e a =
    record { read = tt; stands = subst (λ (z : Kept). Stands z texts I more h) (sym a) s; in_prolog = e }
next-are-read k new texts ended I more h (p ∷ ps) s m e a =
    let r = next-reads k texts ended I more h p s m e a.0 in
    let rest = next-are-read (after I.outside p k) new texts ended I more (p ∷ h) ps
    (stands-on k texts I more h p s a.0.of_prolog r a.0.there) m (λ i. a.0.of_prolog i && e i) a.1 in
    record { read = (r, rest.read); stands = rest.stands; in_prolog = rest.in_prolog }
