-- No piece of the prolog is read behind a border.
use Rattle.std.proofs.Common.{◌≡◌, ℕ, ◌==◌, Bool, true, false, not, ◌&&◌, List, [], ◌∷◌, map, length, refl, sym, ap, ◌∙◌}
use Rattle.sgml_declared.specs.theory_reading.Names.{Text}
use Rattle.sgml_declared.specs.theory_reading.Pieces.{Piece, History}
use Rattle.sgml_declared.specs.theory_reading.Unread.{Input, texts}
use Rattle.sgml_declared.specs.theory_reading.State.{state, stage}
use Rattle.sgml_declared.specs.theory_reading.Reads.{after_moves, ends_in_finish, is_after_subset, is_border, had_border}
use Rattle.sgml_declared.proofs.theory_reading.Stack.{length-unread}
use Rattle.sgml_declared.proofs.theory_reading.Borders.{none-before-next}
use Rattle.sgml_declared.specs.theory_standing.Supplied.{MayFollow}
use Rattle.sgml_declared.specs.theory_standing.Kept.{Kept, Stands}
use Rattle.sgml_declared.specs.theory_standing.Prologs.{is_in_prolog, is_over, alone}
use Rattle.sgml_declared.specs.theory_standing.Next.{after, AreNext}
use Rattle.sgml_declared.specs.theory_standing.Laws.{AreRead}
use Rattle.sgml_declared.proofs.theory_standing.Reading.{next-are-read}

-- where the prolog goes on there is no border
not-all : (a b c : Bool) → (a && b) ≡ false → (a && (b && c)) ≡ false
not-all true true c e = absurd (cc)
not-all true false c e = refl
not-all false b c e = refl

none-here : (k : Kept) (ts : List (ℕ × Text)) (I : Input) (more : Text) (h : History) → Stands k ts I more h → is_over k ≡ false → is_border h ≡ false
unfolding state
none-here k ts I more h s o =
    not-all (is_after_subset (stage h)) (texts h == 1) (not (ends_in_finish h))
    (sym (λ i. is_after_subset (s.stage_is i) && ((ap length s.places_are ∙ length-unread h) i == 1)) ∙ o)

-- so none is before what is read of it
pub none-before-read : (k new : Kept) (ts : List (ℕ × Text)) (ended : Bool) (I : Input) (more : Text) (h : History) (ps : List Piece)
    → Stands k ts I more h → MayFollow ended I more → is_in_prolog h ≡ true → had_border h ≡ false → AreNext I.outside k ts ended ps new
    → had_border (after_moves h (map alone ps)) ≡ false
none-before-read k new ts ended I more h [] s f e none n = none
none-before-read k new ts ended I more h (p ∷ ps) s f e none n =
    let one : AreRead (after I.outside p k) ts I more h (p ∷ []) = next-are-read k (after I.outside p k) ts ended I more h (p ∷ []) s f e (n.0, refl) in
    none-before-read (after I.outside p k) new ts ended I more (p ∷ h) ps one.stands f one.in_prolog
    (none-before-next p h none (none-here k ts I more h s n.0.going_on)) n.1
