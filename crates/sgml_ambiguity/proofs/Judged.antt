-- A pair is found exactly where a model is ambiguous.
use Rattle.std.proofs.Common.{◌≡◌, true, false, Option, Some, None, is_some, refl}
use Rattle.sgml_model.specs.Term.{Term, Token}
use Rattle.sgml_model.specs.Group.{IsModel, IsNumbered}
use Rattle.sgml_ambiguity.specs.Ambiguity.{IsUnambiguous}
use Rattle.sgml_ambiguity.specs.Scan.{clash}
use Rattle.sgml_ambiguity.specs.Laws.{HasAmbiguity, PairWhereAmbiguous}
use Rattle.sgml_ambiguity.proofs.Found.{unambiguous, ambiguous}

-- an unambiguous model has no ambiguity
opposed : (x : Term) → HasAmbiguity x → IsUnambiguous x → ⊥
opposed x h u = h.2.apart (u h.2.at h.2.reached h.0 h.1 h.2.first h.2.second h.2.same)

found-ambiguous : (x : Term) → IsModel x → is_some (clash x) ≡ true → HasAmbiguity x
found-ambiguous x i h = of_pair (clash x) refl h
  where
    of_pair : (o : Option (Token × Token)) → clash x ≡ o → is_some o ≡ true → HasAmbiguity x
    of_pair None e g = cc
    of_pair (Some p) e g = (p.0, p.1, ambiguous x p.0 p.1 i e)

none-unambiguous : (x : Term) → IsModel x → IsNumbered x → is_some (clash x) ≡ false → IsUnambiguous x
none-unambiguous x i n h = of_pair (clash x) refl h
  where
    of_pair : (o : Option (Token × Token)) → clash x ≡ o → is_some o ≡ false → IsUnambiguous x
    of_pair None e g = unambiguous x n.0 i n.1 e
    of_pair (Some p) e g = cc

ambiguous-found : (x : Term) → IsModel x → IsNumbered x → HasAmbiguity x → is_some (clash x) ≡ true
ambiguous-found x i n h = of_pair (clash x) refl
  where
    of_pair : (o : Option (Token × Token)) → clash x ≡ o → is_some o ≡ true
    of_pair (Some p) e = refl
    of_pair None e = absurd (opposed x h (unambiguous x n.0 i n.1 e))

unambiguous-none : (x : Term) → IsModel x → IsUnambiguous x → is_some (clash x) ≡ false
unambiguous-none x i u = of_pair (clash x) refl
  where
    of_pair : (o : Option (Token × Token)) → clash x ≡ o → is_some o ≡ false
    of_pair None e = refl
    of_pair (Some p) e = absurd (opposed x (p.0, p.1, ambiguous x p.0 p.1 i e) u)

pub pair-where-ambiguous : PairWhereAmbiguous
pair-where-ambiguous x i n =
    ((found-ambiguous x i, ambiguous-found x i n), (none-unambiguous x i n, unambiguous-none x i))
