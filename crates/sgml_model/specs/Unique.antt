-- A term is a model, and numbered in order, in at most one way.
use Rattle.std.proofs.Common.{◌≡◌, ℕ, suc, sym, ◌∙◌, ap, subst}
use Rattle.std.specs.Coded.{×_prop, Unit-prop, Coded-set, coded_ℕ}
use mathlib.Core.HLevel.{⊥_prop, Σ_prop_path}
use Rattle.sgml_model.specs.Term.{Term, empty, name, pcdata, seq, or, and, opt, plus, rep, member, round, Terms, none, more}
use Rattle.sgml_model.specs.Group.{IsModel, AreModels, Numbered, AllNumbered, IsNumbered}

three_prop : {A B C : Type 0} → IsProp A → IsProp B → IsProp C → IsProp (A × B × C)
three_prop h k l u v = λ i. (h u.0 v.0 i, k u.1 v.1 i, l u.2 v.2 i)

mutual
  pub IsModel-prop : (x : Term) → IsProp (IsModel x)
  IsModel-prop empty = ⊥_prop
  IsModel-prop (name k n) = Unit-prop
  IsModel-prop (pcdata k) = Unit-prop
  IsModel-prop (seq none) = ⊥_prop
  IsModel-prop (seq (more m ms)) = ×_prop (IsModel-prop m) (AreModels-prop ms)
  IsModel-prop (or none) = ⊥_prop
  IsModel-prop (or (more m ms)) = ×_prop (IsModel-prop m) (AreModels-prop ms)
  IsModel-prop (and none) = ⊥_prop
  IsModel-prop (and (more m none)) = ⊥_prop
  IsModel-prop (and (more m (more n ms))) = three_prop (IsModel-prop m) (IsModel-prop n) (AreModels-prop ms)
  IsModel-prop (opt m) = IsModel-prop m
  IsModel-prop (plus m) = IsModel-prop m
  IsModel-prop (rep m) = IsModel-prop m
  IsModel-prop (member r left) = ⊥_prop
  IsModel-prop (round r m) = ⊥_prop

  AreModels-prop : (ms : Terms) → IsProp (AreModels ms)
  AreModels-prop none = Unit-prop
  AreModels-prop (more m ms) = ×_prop (IsModel-prop m) (AreModels-prop ms)

-- the numbers end at one place
mutual
  numbered_end : (x : Term) (a y z : ℕ) → Numbered x a y → Numbered x a z → y ≡ z
  numbered_end empty a y z h k = absurd h
  numbered_end (name j n) a y z h k = h.1 ∙ sym k.1
  numbered_end (pcdata j) a y z h k = h.1 ∙ sym k.1
  numbered_end (seq ms) a y z h k = all_end ms a y z h k
  numbered_end (or ms) a y z h k = all_end ms a y z h k
  numbered_end (and ms) a y z h k = all_end ms a y z h k
  numbered_end (opt m) a y z h k = numbered_end m a y z h k
  numbered_end (plus m) a y z h k = numbered_end m a y z h k
  numbered_end (rep m) a y z h k = numbered_end m a y z h k
  numbered_end (member r left) a y z h k = absurd h
  numbered_end (round r m) a y z h k = absurd h

  all_end : (ms : Terms) (a y z : ℕ) → AllNumbered ms a y → AllNumbered ms a z → y ≡ z
  all_end none a y z h k = sym h ∙ k
  all_end (more m ms) a y z h k =
      all_end ms k.0 y z (subst (λ c. AllNumbered ms c y) (numbered_end m a h.0 k.0 h.1 k.1) h.2) k.2

abbrev same_number : (a b : ℕ) → IsProp (a ≡ b)
same_number a b = Coded-set coded_ℕ a b

pair_end : {A B : ℕ → Type 0} → ((c : ℕ) → IsProp (A c)) → ((c : ℕ) → IsProp (B c)) → ((c d : ℕ) → A c → A d → c ≡ d) →
    IsProp ((c : ℕ) × A c × B c)
pair_end {A = A} {B = B} f g e u v =
    let nested : ◌≡◌ {A = (c : ℕ) × (A c × B c)} (u.0, (u.1, u.2)) (v.0, (v.1, v.2)) =
    Σ_prop_path (λ c. ×_prop (f c) (g c)) (e u.0 v.0 u.1 v.1) in
    ap (λ (w : (c : ℕ) × (A c × B c)). (w.0, w.1.0, w.1.1)) nested

mutual
  Numbered-prop : (x : Term) (a z : ℕ) → IsProp (Numbered x a z)
  Numbered-prop empty a z = ⊥_prop
  Numbered-prop (name k n) a z = ×_prop (same_number k a) (same_number z (suc a))
  Numbered-prop (pcdata k) a z = ×_prop (same_number k a) (same_number z (suc a))
  Numbered-prop (seq ms) a z = AllNumbered-prop ms a z
  Numbered-prop (or ms) a z = AllNumbered-prop ms a z
  Numbered-prop (and ms) a z = AllNumbered-prop ms a z
  Numbered-prop (opt m) a z = Numbered-prop m a z
  Numbered-prop (plus m) a z = Numbered-prop m a z
  Numbered-prop (rep m) a z = Numbered-prop m a z
  Numbered-prop (member r left) a z = ⊥_prop
  Numbered-prop (round r m) a z = ⊥_prop

  AllNumbered-prop : (ms : Terms) (a z : ℕ) → IsProp (AllNumbered ms a z)
  AllNumbered-prop none a z = same_number a z
  AllNumbered-prop (more m ms) a z =
      pair_end (λ c. Numbered-prop m a c) (λ c. AllNumbered-prop ms c z) (λ c d h k. numbered_end m a c d h k)

pub IsNumbered-prop : (x : Term) → IsProp (IsNumbered x)
IsNumbered-prop x u v = Σ_prop_path (λ z. Numbered-prop x 0 z) (numbered_end x 0 u.0 v.0 u.1 v.1)
