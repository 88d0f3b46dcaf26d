-- A model that may end after #PCDATA may end without it: #PCDATA stands for no character too (11.2.4).
use Rattle.std.proofs.Common.{◌≡◌, Bool, true, false, ◌&&◌, ◌||◌, Option, Some, None, unwrap_or, refl, ◌∙◌, ap, if◌then◌else◌}
use Rattle.std.specs.Prelude.{option_map}
use Rattle.std.specs.Option.{option_or}
use Rattle.sgml_theory_values.specs.model.Term.{Term, empty, name, pcdata, seq, or, and, opt, plus, rep, member, round, Terms, none, more, done, all_done, some_done}
use Rattle.sgml_theory_values.specs.model.Choice.{left_by, left_in_order, left_of_some, choice, begun, keeping}
use Rattle.sgml_theory_values.specs.theory_reading.Context.{token_left}
use Rattle.sgml_theory_full.proofs.Plain.{both, and-true, or-right}

some-same : (a b : Term) → Some a ≡ Some b → a ≡ b
some-same a b h = cc

none-some : {A : Type 0} (b : Term) → None ≡ Some b → A
none-some b h = absurd (never h)
  where
    never : None ≡ Some b → ⊥
    never h = cc

-- what is left of a part, in a whole
abbrev Ends : Term → Type 0
Ends r = (r' : Term) → left_by r None ≡ Some r' → done r' ≡ true → done r ≡ true

mapped-done : (g : Term → Term) (o : Option Term) (r' : Term) (t : Bool) → option_map g o ≡ Some r' → ((m' : Term) → o ≡ Some m' → g m' ≡ r' → t ≡ true) → t ≡ true
mapped-done g None r' t h k = none-some r' h
mapped-done g (Some m') r' t h k = k m' refl (some-same (g m') r' h)

or-cases : (a b : Option Term) (r' : Term) (t : Bool) → option_or a b ≡ Some r' → (a ≡ Some r' → t ≡ true) → (b ≡ Some r' → t ≡ true) → t ≡ true
or-cases (Some x) b r' t h k l = k h
or-cases None b r' t h k l = l h

if-cases : (c : Bool) (o : Option Term) (r' : Term) (t : Bool) → (if c then o else None) ≡ Some r' → (c ≡ true → o ≡ Some r' → t ≡ true) → t ≡ true
if-cases true o r' t h k = k refl h
if-cases false o r' t h k = none-some r' h

or-left : (a b : Bool) → a ≡ true → (a || b) ≡ true
or-left a b h = ap (λ t. t || b) h

is-done : (a b : Term) → a ≡ b → done b ≡ true → done a ≡ true
is-done a b e h = ap done e ∙ h

abbrev EndsInOrder : Terms → Type 0
EndsInOrder ms = (r' : Term) → left_in_order ms None ≡ Some r' → done r' ≡ true → all_done ms ≡ true

abbrev SomeEnds : Terms → Type 0
SomeEnds ms = (r' : Term) → left_of_some ms None ≡ Some r' → done r' ≡ true → some_done ms ≡ true

abbrev ChoiceEnds : Terms → Type 0
ChoiceEnds ms = (p : Term × Terms) → choice ms None ≡ Some p → done p.0 ≡ true → all_done p.1 ≡ true → all_done ms ≡ true

in-order : (m : Term) (ms : Terms) → Ends m → EndsInOrder ms → EndsInOrder (more m ms)
in-order m ms f g r' h k =
    or-cases (option_map (λ m'. seq (more m' ms)) (left_by m None)) (if done m then left_in_order ms None else None) r' (done m && all_done ms) h
    (λ e. mapped-done (λ m'. seq (more m' ms)) (left_by m None) r' (done m && all_done ms) e
    (λ m' is same. let q = both (done m') (all_done ms) (is-done (seq (more m' ms)) r' same k) in and-true (done m) (all_done ms) (f m' is q.0) q.1))
    (λ e. if-cases (done m) (left_in_order ms None) r' (done m && all_done ms) e (λ c is. and-true (done m) (all_done ms) c (g r' is k)))

of-some : (m : Term) (ms : Terms) → Ends m → SomeEnds ms → SomeEnds (more m ms)
of-some m ms f g r' h k =
    or-cases (left_by m None) (left_of_some ms None) r' (done m || some_done ms) h (λ e. or-left (done m) (some_done ms) (f r' e k)) (λ e. or-right (done m) (some_done ms) (g r' e k))

pair-same : (a b : Term × Terms) → Some a ≡ Some b → a ≡ b
pair-same a b h = cc

pair-none : {A : Type 0} (b : Term × Terms) → None ≡ Some b → A
pair-none b h = absurd (never h)
  where
    never : None ≡ Some b → ⊥
    never h = cc

choice-first : (m : Term) (ms : Terms) (o : Option Term) (q : Option (Term × Terms)) → left_by m None ≡ o → choice ms None ≡ q → Ends m → ChoiceEnds ms
    → (p : Term × Terms) → option_or (option_map (λ m'. (m', ms)) o) (option_map (keeping m) q) ≡ Some p → done p.0 ≡ true → all_done p.1 ≡ true → (done m && all_done ms) ≡ true
choice-first m ms (Some m') q e d f g p h k l =
    let same = pair-same (m', ms) p h in
    and-true (done m) (all_done ms) (f m' e (ap (λ (x : Term × Terms). done x.0) same ∙ k)) (ap (λ (x : Term × Terms). all_done x.1) same ∙ l)
choice-first m ms None None e d f g p h k l = pair-none p h
choice-first m ms None (Some q) e d f g p h k l =
    let same = pair-same (keeping m q) p h in
    let b = both (done m) (all_done q.1) (ap (λ (x : Term × Terms). all_done x.1) same ∙ l) in
    and-true (done m) (all_done ms) b.0 (g q d (ap (λ (x : Term × Terms). done x.0) same ∙ k) b.1)

of-choice : (m : Term) (ms : Terms) → Ends m → ChoiceEnds ms → ChoiceEnds (more m ms)
of-choice m ms f g p h k l = choice-first m ms (left_by m None) (choice ms None) refl refl f g p h k l

begun-done : (ms : Terms) (q : Option (Term × Terms)) → choice ms None ≡ q → ChoiceEnds ms → (r' : Term) → option_map begun q ≡ Some r' → done r' ≡ true → all_done ms ≡ true
begun-done ms None e g r' h k = none-some r' h
begun-done ms (Some p) e g r' h k =
    let b = both (done p.0) (all_done p.1) (is-done (begun p) r' (some-same (begun p) r' h) k) in
    g p e b.0 b.1

of-member : (r : Term) (left : Terms) → Ends r → ChoiceEnds left → Ends (member r left)
of-member r left f g r' h k =
    or-cases (option_map (λ m'. member m' left) (left_by r None)) (if done r then option_map begun (choice left None) else None) r' (done r && all_done left) h
    (λ e. mapped-done (λ m'. member m' left) (left_by r None) r' (done r && all_done left) e
    (λ m' is same. let q = both (done m') (all_done left) (is-done (member m' left) r' same k) in and-true (done r) (all_done left) (f m' is q.0) q.1))
    (λ e. if-cases (done r) (option_map begun (choice left None)) r' (done r && all_done left) e (λ c is. and-true (done r) (all_done left) c (begun-done left (choice left None) refl g r' is k)))

of-round : (r m : Term) → Ends r → Ends (round r m)
of-round r m f r' h k =
    or-cases (option_map (λ m'. round m' m) (left_by r None)) (if done r then option_map (λ m'. round m' m) (left_by m None) else None) r' (done r) h
    (λ e. mapped-done (λ m'. round m' m) (left_by r None) r' (done r) e (λ m' is same. f m' is (is-done (round m' m) r' same k)))
    (λ e. if-cases (done r) (option_map (λ m'. round m' m) (left_by m None)) r' (done r) e (λ c is. c))

of-plus : (m : Term) → Ends m → Ends (plus m)
of-plus m f r' h k = mapped-done (λ m'. round m' m) (left_by m None) r' (done m) h (λ m' is same. f m' is (is-done (round m' m) r' same k))

mutual
  left-done : (r : Term) → Ends r
  left-done empty = λ r' h k. refl
  left-done (name n l) = λ r' h k. none-some r' h
  left-done (pcdata n) = λ r' h k. refl
  left-done (seq ms) = order-done ms
  left-done (or ms) = some-done ms
  left-done (and ms) = λ r' h k. begun-done ms (choice ms None) refl (choice-done ms) r' h k
  left-done (opt m) = λ r' h k. refl
  left-done (plus m) = of-plus m (left-done m)
  left-done (rep m) = λ r' h k. refl
  left-done (member r left) = of-member r left (left-done r) (choice-done left)
  left-done (round r m) = of-round r m (left-done r)

  order-done : (ms : Terms) → EndsInOrder ms
  order-done none = λ r' h k. refl
  order-done (more m ms) = in-order m ms (left-done m) (order-done ms)

  some-done : (ms : Terms) → SomeEnds ms
  some-done none = λ r' h k. none-some r' h
  some-done (more m ms) = of-some m ms (left-done m) (some-done ms)

  choice-done : (ms : Terms) → ChoiceEnds ms
  choice-done none = λ p h k l. refl
  choice-done (more m ms) = of-choice m ms (left-done m) (choice-done ms)

-- THE SAME of what is left
pub text-done : (r : Term) → done (token_left r None) ≡ true → done r ≡ true
text-done r = by (left_by r None) refl
  where
    by : (o : Option Term) → left_by r None ≡ o → done (unwrap_or o r) ≡ true → done r ≡ true
    by None e h = h
    by (Some r') e h = left-done r r' e h
