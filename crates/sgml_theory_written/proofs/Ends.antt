-- The element that an end-tag ends, in whatever way that was spelled, is the innermost one of its type after the tags
-- that were left out before it.
use Rattle.std.specs.Prelude.{◌≡◌, ℕ, suc, Bool, true, false, bytes_eq, cond, Option, Some, None, List, [], ◌∷◌}
use Rattle.std.proofs.Common.{refl, sym, ap, ◌∙◌, inl, inr, subst}
use Rattle.std.proofs.lemmas.Slice.Eq.{bytes_eq-Decides}
use Rattle.sgml_theory_worked.specs.theory_reading.Names.{Name}
use Rattle.sgml_theory_worked.specs.theory_reading.Pieces.{Piece, End, How, Tag, Short, Slash, Net, Omitted}
use Rattle.sgml_theory_worked.specs.theory_reading.Facets.{effect, token}
use Rattle.sgml_theory_worked.specs.theory_reading.Nest.{without_first}
use Rattle.sgml_theory_worked.specs.theory_reading.Context.{Level, Context, context_after}
use Rattle.sgml_theory_worked.specs.theory_reading.Omission.{MayStand, EndMayStand, leaves, is_outer, counted, inside_of_first, inside_of_ended, omitted_end}
use Rattle.sgml_theory_worked.specs.theory_reading.Runs.{LongestRunFrom, context_after_run}
use Rattle.sgml_theory_worked.specs.theory_reading.ShortTags.{empty_end_type, net_type, first_type, first_enabling}
use Rattle.sgml_theory_written.specs.Standing.{HasItsType}
use Rattle.sgml_theory_written.proofs.Plain.{inside_of}

enabled : Level → Bool
enabled l = l.slash

-- before </> nothing is left out
none-outside : (ls : List Level) → is_outer (inside_of_first (λ l. true) ls) ≡ false
none-outside [] = refl
none-outside (l ∷ ls) = refl

-- and before NET no element that enabled it ends
ends-no-enabling : (b : Bool) (o : Option ℕ) (n : Name) (rest : Option Name) → is_outer (counted b o) ≡ true → cond b (Some n) rest ≡ rest
ends-no-enabling true o n rest e = absurd (cc)
ends-no-enabling false o n rest e = refl

past : (ls : List Level) → is_outer (inside_of_first (λ l. l.slash) ls) ≡ true → first_enabling (without_first ls) ≡ first_enabling ls
past [] e = refl
past (l ∷ ls) e = sym (ends-no-enabling l.slash (inside_of_first (λ k. k.slash) ls) l.element (first_enabling ls) e)

before-end : (c : Context) (n : Name) (how : How) → leaves c (End n how) ≡ is_outer (inside_of_ended c (End n how))
unfolding leaves token
before-end c n how = refl

after-omitted-end : (c : Context) (k : Name) → (context_after (omitted_end k) c).levels ≡ without_first c.levels
unfolding context_after effect
after-omitted-end c k = refl

keeps-type : (c : Context) (n k : Name) (how : How) → EndMayStand c k (End n how) → HasItsType c (End n how) → HasItsType (context_after (omitted_end k) c) (End n how)
unfolding net_type inside_of_ended
keeps-type c n k Short m h =
    let e : is_outer (inside_of_first (λ l. true) c.levels) ≡ true = sym (before-end c n Short) ∙ m.before in
    let f : true ≡ false = sym e ∙ none-outside c.levels in
    absurd (cc)
keeps-type c n k Net m h =
    let e : is_outer (inside_of_first (λ l. l.slash) c.levels) ≡ true = sym (before-end c n Net) ∙ m.before in
    ap first_enabling (after-omitted-end c k) ∙ (past c.levels e ∙ h)
keeps-type c n k Tag m h = tt
keeps-type c n k Slash m h = tt
keeps-type c n k Omitted m h = tt

one-keeps : (c : Context) (n : Name) (how : How) (o : Piece) → MayStand c o (End n how) → HasItsType c (End n how) → HasItsType (context_after o c) (End n how)
unfolding token
one-keeps c n how o (inl m) h =
    subst (λ (p : Piece). HasItsType (context_after p c) (End n how)) (sym m.1) (keeps-type c n m.0 how m.2 h)
one-keeps c n how o (inr m) h = absurd (let e : false ≡ true = m.2.before in cc)

pub run-keeps : (c : Context) (n : Name) (how : How) (os : List Piece) → LongestRunFrom c (End n how) os → HasItsType c (End n how) → HasItsType (context_after_run c os) (End n how)
run-keeps c n how [] r h = h
run-keeps c n how (o ∷ os) r h = run-keeps (context_after o c) n how os r.1 (one-keeps c n how o r.0 h)

same-bytes : (n : Name) → bytes_eq n n ≡ true
same-bytes n = (bytes_eq-Decides n n).1 refl

counted-true : (b : Bool) (o : Option ℕ) → b ≡ true → counted b o ≡ Some 0
counted-true true o e = refl
counted-true false o e = absurd (cc)

first-is : (l : Level) (ls : List Level) (n : Name) → l.element ≡ n → inside_of_first (λ k. bytes_eq n k.element) (l ∷ ls) ≡ Some 0
first-is l ls n e =
    counted-true (bytes_eq n l.element) (inside_of_first (λ k. bytes_eq n k.element) ls) ((bytes_eq-Decides n l.element).1 (sym e))

short-ends : (ls : List Level) (n : Name) → first_type ls ≡ Some n → inside_of_first (λ k. bytes_eq n k.element) ls ≡ Some 0
short-ends [] n e = absurd (cc)
short-ends (l ∷ ls) n e = first-is l ls n (let f : l.element ≡ n = cc in f)

of-first : (b : Bool) (o : Option ℕ) (n k : Name) (rest : Option Name) → counted b o ≡ Some 0 → cond b (Some k) rest ≡ Some n → k ≡ n
of-first true o n k rest c e = (let f : k ≡ n = cc in f)
of-first false None n k rest c e = absurd (cc)
of-first false (Some m) n k rest c e = absurd (let f : suc m ≡ 0 = some-same c in cc)
  where
    some-same : Some (suc m) ≡ Some 0 → suc m ≡ 0
    some-same g = cc

net-ends : (ls : List Level) (n : Name) → inside_of_first (λ k. k.slash) ls ≡ Some 0 → first_enabling ls ≡ Some n → inside_of_first (λ k. bytes_eq n k.element) ls ≡ Some 0
net-ends [] n i e = absurd (cc)
net-ends (l ∷ ls) n i e =
    first-is l ls n (of-first l.slash (inside_of_first (λ k. k.slash) ls) n l.element (first_enabling ls) i e)

-- it is the innermost one
pub ends-innermost : (c : Context) (n : Name) (how : How) → HasItsType c (End n how) → inside_of_ended c (End n how) ≡ Some 0 → inside_of n c ≡ Some 0
unfolding inside_of inside_of_ended net_type empty_end_type
ends-innermost c n Short h i = short-ends c.levels n h
ends-innermost c n Net h i = net-ends c.levels n i h
ends-innermost c n Tag h i = i
ends-innermost c n Slash h i = i
ends-innermost c n Omitted h i = i
