-- The whole of a full document.
use Rattle.std.proofs.Common.{◌≡◌, ℕ, Bool, false, Option, List, [], ◌∷◌, ◌++◌, append-nil, subst}
use Rattle.sgml_esis.specs.Writing.{Puts, Stands}
use Rattle.sgml_dtd.specs.Doctypes.{Doctype}
use Rattle.sgml_events.specs.declared.event.Event.{Event}
use Rattle.sgml_said.specs.Told.{all_said}
use Rattle.sgml_full.specs.declared.inside.Inside.TheVariants as inside
use Rattle.sgml_full.specs.Full.{full_document}
use Rattle.sgml_full.specs.Events.{spelled_events}
use Rattle.sgml_full.proofs.Said.{document-said}
use Rattle.sgml_esis.proofs.Holding.{puts_then, puts_as, begins}

pub whole_put : (prolog events : List ℕ) (t u v w x : Option (List ℕ)) (a b c d e : ℕ) (h i j k l : List ℕ × Bool) → h ≡ ([], false) → Puts t a h u b i prolog → Puts u b i v c j events → Puts v c j w d k (10 ∷ []) → Puts w d k x e l [] → Stands t a x e l (prolog ++ (events ++ 10 ∷ []))
whole_put prolog events t u v w x a b c d e h i j k l none p q r s =
    let all : Puts t a h x e l (prolog ++ (events ++ 10 ∷ [])) =
    puts_then t u x a b e h i l prolog (events ++ 10 ∷ []) p (puts_as u x b e i l _ _ (append-nil (events ++ 10 ∷ [])) (puts_then u w x b d e i k l (events ++ 10 ∷ []) [] (puts_then u v w b c d i j k events (10 ∷ []) q r) s)) in
    let from : Puts t a ([], false) x e l (prolog ++ (events ++ 10 ∷ [])) = rw none at all in
    from.goes_on t a [] (begins t a)

-- with what the events say
pub whole_said : (prolog : List ℕ) (m : Doctype) (es : List Event) (t u v w x : Option (List ℕ)) (a b c d e : ℕ) (h i j k l : List ℕ × Bool) → h ≡ ([], false) → Puts t a h u b i prolog → Puts u b i v c j (spelled_events m inside.Mixed es) → Puts v c j w d k (10 ∷ []) → Puts w d k x e l []
    → Stands t a x e l (full_document prolog m (all_said m es))
whole_said prolog m es t u v w x a b c d e h i j k l none p q r s =
    subst (Stands t a x e l) (document-said prolog m es) (whole_put prolog (spelled_events m inside.Mixed es) t u v w x a b c d e h i j k l none p q r s)
