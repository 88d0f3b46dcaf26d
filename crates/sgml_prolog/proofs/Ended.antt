-- Where the document type has been read, the document stands alone.
use Rattle.std.proofs.Common.{◌≡◌, ◌==◌, Bool, true, false, ◌&&◌, List, [], ◌∷◌, length, ap, arith, eqb-true}
use Rattle.sgml_text.specs.declared.place.Place.{Place}
use Rattle.sgml_entity.specs.Stack.{place_at, offset_of}
use Rattle.sgml_declared.specs.theory_reading.Reads.{is_after_subset}
use Rattle.sgml_declared.specs.theory_standing.Kept.{Kept}
use Rattle.sgml_declared.specs.theory_standing.Prologs.{is_over}
use Rattle.sgml_prolog_steps.specs.Standing.{LiesUnder, IsKept}

and-right : (a b : Bool) → (a && b) ≡ true → b ≡ true
and-right true b e = e
and-right false b e = absurd (never e)
  where
    never : false ≡ true → ⊥
    never e = cc

alone-in : (ps : List Place) → LiesUnder ps → length ps ≡ 1 → ps ≡ place_at 0 (offset_of ps) ∷ []
alone-in [] l e = absurd l
alone-in (p ∷ []) l e = ap (λ n. place_at n p.at ∷ []) l
alone-in (p ∷ q ∷ ps) l e = absurd (omega (arith, e))

pub document-alone : (k : Kept) → IsKept k → is_over k ≡ true → k.stack.places ≡ place_at 0 (offset_of k.stack.places) ∷ []
document-alone k h o = alone-in k.stack.places h.document (eqb-true (length k.stack.places) 1 (and-right (is_after_subset k.stage) (length k.stack.places == 1) o))
