-- Without AND groups a token changes no bits.
use Rattle.std.specs.Prelude.{is_some}
use Rattle.std.proofs.Common.{◌≡◌, ℕ, ◌+◌, Bool, true, false, cond, Option, Some, None, List, refl, arith}
use Rattle.sgml_model.specs.Term.{Term, empty, name, pcdata, seq, or, and, opt, plus, rep, member, round, Terms, none, more}
use Rattle.sgml_automaton.specs.Position.{room, rooms, at, bits_of, next_by, has}
use Rattle.sgml_automaton.specs.Moves.{enter_l, enter_in_l, go_l, go_order_l, go_some_l}
use Rattle.sgml_automaton.specs.Moved.{moved_l}

cond_same : (h : Bool) (x y b : List Bool) → x ≡ b → y ≡ b → cond h x y ≡ b
cond_same true x y b e f = e
cond_same false x y b e f = f

mutual
  enter_still : (x : Term) (o k : ℕ) (b : List Bool) → room x ≡ 0 → enter_l x o k b ≡ b
  enter_still empty o k b h = refl
  enter_still (name j n) o k b h = refl
  enter_still (pcdata j) o k b h = refl
  enter_still (seq ms) o k b h = enter_in_still ms o k b h
  enter_still (or ms) o k b h = enter_in_still ms o k b h
  enter_still (and none) o k b h = refl
  enter_still (and (more m ms)) o k b h = absurd (omega (arith, h))
  enter_still (opt m) o k b h = enter_still m o k b h
  enter_still (plus m) o k b h = enter_still m o k b h
  enter_still (rep m) o k b h = enter_still m o k b h
  enter_still (member r left) o k b h = refl
  enter_still (round r m) o k b h = refl

  enter_in_still : (ms : Terms) (o k : ℕ) (b : List Bool) → rooms ms ≡ 0 → enter_in_l ms o k b ≡ b
  enter_in_still none o k b h = refl
  enter_in_still (more m ms) o k b h = cond_same (has m k) (enter_l m o k b) (enter_in_l ms (o + room m) k b) b
      (enter_still m o k b (omega (arith, h))) (enter_in_still ms (o + room m) k b (omega (arith, h)))

mutual
  go_still : (x : Term) (o k j : ℕ) (l : Option (List ℕ)) (b : List Bool) → room x ≡ 0 → go_l x o k j l b ≡ b
  go_still empty o k j l b h = refl
  go_still (name i n) o k j l b h = refl
  go_still (pcdata i) o k j l b h = refl
  go_still (seq ms) o k j l b h = go_order_still ms o k j l b h
  go_still (or ms) o k j l b h = go_some_still ms o k j l b h
  go_still (and none) o k j l b h = refl
  go_still (and (more m ms)) o k j l b h = absurd (omega (arith, h))
  go_still (opt m) o k j l b h = go_still m o k j l b h
  go_still (plus m) o k j l b h = cond_same (is_some (next_by (at m o k (bits_of b)) l)) (go_l m o k j l b) (enter_l m o j b) b (go_still m o k j l b h) (enter_still m o j b h)
  go_still (rep m) o k j l b h = cond_same (is_some (next_by (at m o k (bits_of b)) l)) (go_l m o k j l b) (enter_l m o j b) b (go_still m o k j l b h) (enter_still m o j b h)
  go_still (member r left) o k j l b h = refl
  go_still (round r m) o k j l b h = refl

  go_order_still : (ms : Terms) (o k j : ℕ) (l : Option (List ℕ)) (b : List Bool) → rooms ms ≡ 0 → go_order_l ms o k j l b ≡ b
  go_order_still none o k j l b h = refl
  go_order_still (more m ms) o k j l b h =
      cond_same (has m k) (cond (has m j) (go_l m o k j l b) (enter_in_l ms (o + room m) j b)) (go_order_l ms (o + room m) k j l b) b
      (cond_same (has m j) (go_l m o k j l b) (enter_in_l ms (o + room m) j b) b (go_still m o k j l b (omega (arith, h))) (enter_in_still ms (o + room m) j b (omega (arith, h))))
      (go_order_still ms (o + room m) k j l b (omega (arith, h)))

  go_some_still : (ms : Terms) (o k j : ℕ) (l : Option (List ℕ)) (b : List Bool) → rooms ms ≡ 0 → go_some_l ms o k j l b ≡ b
  go_some_still none o k j l b h = refl
  go_some_still (more m ms) o k j l b h =
      cond_same (has m k) (go_l m o k j l b) (go_some_l ms (o + room m) k j l b) b (go_still m o k j l b (omega (arith, h))) (go_some_still ms (o + room m) k j l b (omega (arith, h)))

pub moved_still : (x : Term) (last : Option ℕ) (j : ℕ) (l : Option (List ℕ)) (b : List Bool) → room x ≡ 0 → moved_l x last j l b ≡ b
moved_still x None j l b h = enter_still x 0 j b h
moved_still x (Some k) j l b h = go_still x 0 k j l b h
