-- Whether NET is in force, as the innermost open element knows.
use Rattle.std.proofs.Common.{◌≡◌, ℕ, zero, suc, ◌+◌, ◌-◌, ◌<◌, ◌≤◌, Bool, true, false, ◌||◌, List, [], ◌∷◌, ◌++◌, Some, length, take, refl, sym, ap, ◌∙◌, subst, arith}
use Rattle.std.specs.List.{list_any, slice_get, slice_set}
use Rattle.std.proofs.lemmas.List.{take_more_set}
use Rattle.std.proofs.lemmas.Option.{slice_get_within}
use Rattle.sgml_attr.proofs.Getting.{take-get}
use Rattle.sgml_infer.specs.declared.level.Level.{Level}
use Rattle.sgml_infer.specs.Links.{last_net, KnowNetFrom, KnowNet}
use Rattle.sgml_infer.specs.Trees.{enabled}
use Rattle.sgml_infer.proofs.Links.{take-front}

net-take : (n : ℕ) (o : Bool) (ls : List Level) → KnowNetFrom o ls → KnowNetFrom o (take n ls)
net-take zero o ls w = tt
net-take (suc n) o [] w = tt
net-take (suc n) o (l ∷ ls) w = (w.0, net-take n l.within_net ls w.1)

pub net-front : (m n : ℕ) (ls : List Level) → m ≤ n → KnowNet (take n ls) → KnowNet (take m ls)
net-front m n ls h w = subst KnowNet (take-front m n ls h) (net-take m false (take n ls) w)

net-push : (o : Bool) (ls : List Level) (l : Level) → KnowNetFrom o ls → l.within_net ≡ (last_net o ls || l.slash) → KnowNetFrom o (ls ++ l ∷ [])
net-push o [] l w e = (e, tt)
net-push o (k ∷ ls) l w e = (w.0, net-push k.within_net ls l w.1 e)

net-last : (o : Bool) (ls : List Level) (l : Level) → KnowNetFrom o (ls ++ l ∷ []) → l.within_net ≡ (last_net o ls || l.slash)
net-last o [] l w = w.0
net-last o (k ∷ ls) l w = net-last k.within_net ls l w.1

net-before : (o : Bool) (ls : List Level) (l : Level) → KnowNetFrom o (ls ++ l ∷ []) → KnowNetFrom o ls
net-before o [] l w = tt
net-before o (k ∷ ls) l w = (w.0, net-before k.within_net ls l w.1)

or-true : (b : Bool) → true ≡ (b || true)
or-true true = refl
or-true false = refl

or-false : (b : Bool) → b ≡ (b || false)
or-false true = refl
or-false false = refl

or-turned : (a b c : Bool) → (a || (b || c)) ≡ ((a || b) || c)
or-turned a b c = grind arith

net-set : (ls : List Level) (n : ℕ) (k l : Level) → 0 < n → slice_get ls (n - 1) ≡ Some k → l.within_net ≡ (last_net false (take (n - 1) ls) || l.slash) → KnowNet (take n ls) → KnowNet (take n (slice_set ls (n - 1) l))
net-set ls n k l p g e w =
    let back : n - 1 + 1 ≡ n = omega arith in
    let within = slice_get_within ls (n - 1) k g in
    let old : take n ls ≡ take (n - 1) ls ++ k ∷ [] = ap (λ (m : ℕ). take m ls) (sym back) ∙ take-get ls (n - 1) k g in
    let new : take n (slice_set ls (n - 1) l) ≡ take (n - 1) ls ++ l ∷ [] = ap (λ (m : ℕ). take m (slice_set ls (n - 1) l)) (sym back) ∙ take_more_set ls (n - 1) l within in
    subst KnowNet (sym new) (net-push false (take (n - 1) ls) l (net-before false (take (n - 1) ls) k (subst KnowNet old w)) e)

net-of : (ls : List Level) (n : ℕ) (k : Level) → 0 < n → slice_get ls (n - 1) ≡ Some k → KnowNet (take n ls) → k.within_net ≡ (last_net false (take (n - 1) ls) || k.slash)
net-of ls n k p g w =
    let back : n - 1 + 1 ≡ n = omega arith in
    let old : take n ls ≡ take (n - 1) ls ++ k ∷ [] = ap (λ (m : ℕ). take m ls) (sym back) ∙ take-get ls (n - 1) k g in
    net-last false (take (n - 1) ls) k (subst KnowNet old w)

-- the innermost of these elements is another one with the same NET
pub net-same : (ls : List Level) (n : ℕ) (k l : Level) → 0 < n → slice_get ls (n - 1) ≡ Some k → l.slash ≡ k.slash → l.within_net ≡ k.within_net → KnowNet (take n ls) → KnowNet (take n (slice_set ls (n - 1) l))
net-same ls n k l p g e f w = net-set ls n k l p g (f ∙ (net-of ls n k p g w ∙ ap (λ b. last_net false (take (n - 1) ls) || b) (sym e))) w

-- it enables NET
pub net-enabled : (ls : List Level) (n : ℕ) (k : Level) → 0 < n → slice_get ls (n - 1) ≡ Some k → KnowNet (take n ls) → KnowNet (take n (slice_set ls (n - 1) (enabled k)))
net-enabled ls n k p g w = net-set ls n k (enabled k) p g (or-true (last_net false (take (n - 1) ls))) w

-- one more element
pub net-begun : (ls : List Level) (n : ℕ) (l : Level) → n < length ls → l.slash ≡ false → l.within_net ≡ last_net false (take n ls) → KnowNet (take n ls) → KnowNet (take (n + 1) (slice_set ls n l))
net-begun ls n l h s e w =
    subst KnowNet (sym (take_more_set ls n l h))
    (net-push false (take n ls) l w (e ∙ (or-false (last_net false (take n ls)) ∙ ap (λ b. last_net false (take n ls) || b) (sym s))))

net-push-last : (o : Bool) (ls : List Level) (l : Level) → last_net o (ls ++ l ∷ []) ≡ l.within_net
net-push-last o [] l = refl
net-push-last o (k ∷ ls) l = net-push-last k.within_net ls l

-- what an open element knows
pub net-of-place : (ls : List Level) (n : ℕ) (l : Level) → 0 < n → slice_get ls (n - 1) ≡ Some l → l.within_net ≡ last_net false (take n ls)
net-of-place ls n l p g =
    let back : n - 1 + 1 ≡ n = omega arith in
    sym (ap (λ (m : ℕ). last_net false (take m ls)) (sym back) ∙ (ap (last_net false) (take-get ls (n - 1) l g) ∙ net-push-last false (take (n - 1) ls) l))

net-any : (o : Bool) (ls : List Level) → KnowNetFrom o ls → last_net o ls ≡ (o || list_any (λ (l : Level). l.slash) ls)
net-any o [] w = or-false o
net-any o (l ∷ ls) w =
    net-any l.within_net ls w.1
    ∙ (ap (λ b. b || list_any (λ (k : Level). k.slash) ls) w.0 ∙ sym (or-turned o l.slash (list_any (λ (k : Level). k.slash) ls)))

pub net-known : (ls : List Level) → KnowNet ls → last_net false ls ≡ list_any (λ (l : Level). l.slash) ls
net-known ls w = net-any false ls w
