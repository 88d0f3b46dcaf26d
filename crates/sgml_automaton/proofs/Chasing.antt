-- An exit without the token is passed over.
use Rattle.std.proofs.Common.{◌≡◌, ℕ, zero, suc, ◌-◌, ◌<◌, List, Option, Some, None, refl, ◌∙◌, ap, arith, slice_get}
use Rattle.std.specs.Prelude.{option_and_then}
use Rattle.sgml_automaton.specs.declared.plan.Scope.{Scope}
use Rattle.sgml_automaton.specs.declared.plan.Exit.{Exit}
use Rattle.sgml_automaton.specs.Plan.{hit, hit_or, chase}

passed : (ss : List Scope) (o : Option Exit) (e : Exit) (l : Option (List ℕ)) (others : Option ℕ → Option ℕ) → o ≡ Some e → hit ss e l ≡ None → hit_or ss o l others ≡ others e.next
passed ss o e l others is none = rw is (rw none refl)

less : (n : ℕ) → n ≡ suc n - 1
less n = omega arith

pub chased-on : (ss : List Scope) (es : List Exit) (n : ℕ) (at : Option ℕ) (i : ℕ) (e : Exit) (l : Option (List ℕ)) → 0 < n → at ≡ Some i → slice_get es i ≡ Some e → hit ss e l ≡ None
    → chase n ss es at l ≡ chase (n - 1) ss es e.next l
chased-on ss es zero at i e l some is there none = absurd (omega (arith, some))
chased-on ss es (suc n) at i e l some is there none =
    passed ss (option_and_then (slice_get es) at) e l (λ j. chase n ss es j l) (ap (option_and_then (slice_get es)) is ∙ there) none
    ∙ ap (λ (m : ℕ). chase m ss es e.next l) (less n)
