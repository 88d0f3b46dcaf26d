-- An element that must come next can come.
use Rattle.std.specs.Prelude.{◌≡◌, ℕ, Bool, true, false, cond, bytes_eq, Option, Some, None, is_some, option_map, List}
use Rattle.std.specs.Option.{option_or}
use Rattle.std.proofs.Common.{refl, ap, ◌∙◌}
use Rattle.std.proofs.lemmas.Slice.Eq.{bytes_eq-Decides}
use Rattle.std.proofs.lemmas.Bool.{cond-true}
use Rattle.sgml_theory_worked.specs.model.Term.{Term, empty, name, pcdata, seq, or, and, opt, plus, rep, member, round, Terms, none, more, done, required, first_required, sole_required, unless_done}
use Rattle.sgml_theory_worked.specs.model.Choice.{begun, keeping, left_by, left_in_order, left_of_some, choice}

some-map : {A B : Type 0} (f : A → B) (o : Option A) → is_some (option_map f o) ≡ is_some o
some-map f None = refl
some-map f (Some x) = refl

some-first : {A : Type 0} (o p : Option A) → is_some o ≡ true → is_some (option_or o p) ≡ true
some-first None p e = absurd (cc)
some-first (Some x) p e = refl

some-second : {A : Type 0} (o p : Option A) → is_some p ≡ true → is_some (option_or o p) ≡ true
some-second None p e = e
some-second (Some x) p e = refl

-- where the first member may be left, what comes next comes after it
by_done : (b : Bool) (o rest : Option (List ℕ)) (n : List ℕ) (P : Type 0) → (o ≡ Some n → P) → (b ≡ true → rest ≡ Some n → P) → unless_done b o rest ≡ Some n → P
by_done true o rest n P f g e = g refl e
by_done false o rest n P f g e = f e

mutual
  pub needed : (r : Term) (n : List ℕ) → required r ≡ Some n → is_some (left_by r (Some n)) ≡ true
  needed empty n e = absurd (cc)
  needed (name k m) n e =
      let f : m ≡ n = cc in
      ap is_some (cond-true (bytes_eq m n) (Some empty) None ((bytes_eq-Decides m n).1 f))
  needed (pcdata k) n e = absurd (cc)
  needed (seq ms) n e = needed_first ms n e
  needed (or ms) n e = needed_some ms n e
  needed (and ms) n e = some-map begun (choice ms (Some n)) ∙ needed_choice ms n e
  needed (opt m) n e = absurd (cc)
  needed (plus m) n e = some-map (λ m'. round m' m) (left_by m (Some n)) ∙ needed m n e
  needed (rep m) n e = absurd (cc)
  needed (member r ms) n e =
      by_done (done r) (required r) None n (is_some (left_by (member r ms) (Some n)) ≡ true)
      (λ f. some-first (option_map (λ m'. member m' ms) (left_by r (Some n))) (cond (done r) (option_map begun (choice ms (Some n))) None)
      (some-map (λ m'. member m' ms) (left_by r (Some n)) ∙ needed r n f))
      (λ d f. absurd (cc)) e
  needed (round r m) n e =
      some-first (option_map (λ m'. round m' m) (left_by r (Some n))) (cond (done r) (option_map (λ m'. round m' m) (left_by m (Some n))) None)
      (some-map (λ m'. round m' m) (left_by r (Some n)) ∙ needed r n e)

  needed_first : (ms : Terms) (n : List ℕ) → first_required ms ≡ Some n → is_some (left_in_order ms (Some n)) ≡ true
  needed_first none n e = absurd (cc)
  needed_first (more m ms) n e =
      by_done (done m) (required m) (first_required ms) n (is_some (left_in_order (more m ms) (Some n)) ≡ true)
      (λ f. some-first (option_map (λ m'. seq (more m' ms)) (left_by m (Some n))) (cond (done m) (left_in_order ms (Some n)) None)
      (some-map (λ m'. seq (more m' ms)) (left_by m (Some n)) ∙ needed m n f))
      (λ d f. some-second (option_map (λ m'. seq (more m' ms)) (left_by m (Some n))) (cond (done m) (left_in_order ms (Some n)) None)
      (ap is_some (cond-true (done m) (left_in_order ms (Some n)) None d) ∙ needed_first ms n f)) e

  needed_some : (ms : Terms) (n : List ℕ) → sole_required ms ≡ Some n → is_some (left_of_some ms (Some n)) ≡ true
  needed_some none n e = absurd (cc)
  needed_some (more m none) n e = some-first (left_by m (Some n)) None (needed m n e)
  needed_some (more m (more m' ms)) n e = absurd (cc)

  needed_choice : (ms : Terms) (n : List ℕ) → sole_required ms ≡ Some n → is_some (choice ms (Some n)) ≡ true
  needed_choice none n e = absurd (cc)
  needed_choice (more m none) n e =
      some-first (option_map (λ m'. (m', none)) (left_by m (Some n))) (option_map (keeping m) None)
      (some-map (λ m'. (m', none)) (left_by m (Some n)) ∙ needed m n e)
  needed_choice (more m (more m' ms)) n e = absurd (cc)
