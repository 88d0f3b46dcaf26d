-- How what was put, held and taken goes on.
use Rattle.std.proofs.Common.{◌≡◌, ℕ, ◌≤◌, ◌<◌, ◌+◌, List, [], ◌∷◌, ◌++◌, Bool, true, false, Option, Some, None, length, take, get_or, refl, sym, ap, ◌∙◌, arith, append_assoc, append-nil, take_all}
use Rattle.std.specs.Prelude.{flat_map}
use Rattle.std.specs.Io.KnownBytes.{Appends}
use Rattle.std.proofs.lemmas.List.{get_or_default, take_more}
use Rattle.std.proofs.lemmas.Grind.{flat_map-append}
use Rattle.sgml_io.specs.Causes.{Rose}
use Rattle.sgml_io.specs.Writes.{AppendsFront, Appends-nothing, Appends-then, Front-first, Front-second}
use Rattle.sgml_esis.specs.Writing.{Wrote, Stands, Puts}

pub puts_nothing : (t : Option (List ℕ)) (f : ℕ) (h : List ℕ × Bool) → Puts t f h t f h []
puts_nothing t f h = record { goes_on = λ start count before s. rw (append-nil before) s }

pub puts_as : (t u : Option (List ℕ)) (f g : ℕ) (h i : List ℕ × Bool) (a b : List ℕ) → a ≡ b → Puts t f h u g i a → Puts t f h u g i b
puts_as t u f g h i a b e p = rw (← e) p

pub puts_then : (t u v : Option (List ℕ)) (f g k : ℕ) (h i j : List ℕ × Bool) (a b : List ℕ) → Puts t f h u g i a → Puts u g i v k j b → Puts t f h v k j (a ++ b)
puts_then t u v f g k h i j a b p q = record {
  goes_on = λ start count before s. rw (← append_assoc before a b) (q.goes_on start count (before ++ a) (p.goes_on start count before s));
}

held_more : (t : Option (List ℕ)) (f : ℕ) (h : List ℕ) (failed : Bool) (more : List ℕ) (start : Option (List ℕ)) (count : ℕ) (before : List ℕ) → Stands start count t f (h, failed) before → Stands start count t f (h ++ more, failed) (before ++ more)
held_more t f h false more start count before s = record {
  wrote = (s.wrote.0, s.wrote.1, sym (append_assoc s.wrote.0 h more) ∙ ap (λ v. v ++ more) s.wrote.2);
  later = s.later;
  failed = s.failed;
}
held_more t f h true more start count before s = record {
  wrote = Front-first start t before more s.wrote;
  later = s.later;
  failed = s.failed;
}

-- held bytes grow
pub puts_held : (t : Option (List ℕ)) (f : ℕ) (h : List ℕ × Bool) (more : List ℕ) → Puts t f h t f (h.0 ++ more, h.1) more
puts_held t f h more = record { goes_on = λ start count before s. held_more t f h.0 h.1 more start count before s }

lost_more : (t : Option (List ℕ)) (f : ℕ) (h : List ℕ) (failed : Bool) (k more : List ℕ) → failed ≡ true → (start : Option (List ℕ)) (count : ℕ) (before : List ℕ) → Stands start count t f (h, failed) before → Stands start count t f (k, failed) (before ++ more)
lost_more t f h false k more e start count before s = absurd (cc)
lost_more t f h true k more e start count before s = record {
  wrote = Front-first start t before more s.wrote;
  later = s.later;
  failed = s.failed;
}

unseen_more : (f : ℕ) (h : List ℕ) (failed : Bool) (more : List ℕ) (start : Option (List ℕ)) (count : ℕ) (before : List ℕ) → Stands start count None f (h, failed) before → Stands start count None f ([], failed) (before ++ more)
unseen_more f h false more None count before s = record { wrote = (before ++ more, tt, append-nil _); later = s.later; failed = s.failed }
unseen_more f h false more (Some xs) count before s = absurd s.wrote.1
unseen_more f h true more start count before s = record { wrote = Front-first start None before more s.wrote; later = s.later; failed = s.failed }

-- what nobody sees is put
pub puts_unseen : (t : Option (List ℕ)) (f : ℕ) (h k : List ℕ × Bool) (more : List ℕ) → t ≡ None → k ≡ ([], h.1) → Puts t f h t f k more
puts_unseen t f h k more e is = rw e (rw is (record { goes_on = λ start count before s. unseen_more f h.0 h.1 more start count before s }))

-- after a fault nothing counts
pub puts_lost : (t : Option (List ℕ)) (f : ℕ) (h k : List ℕ × Bool) (more : List ℕ) → h.1 ≡ true → k ≡ ([], h.1) → Puts t f h t f k more
puts_lost t f h k more e is = rw is (record { goes_on = λ start count before s. lost_more t f h.0 h.1 [] more e start count before s })

given_more : (t u : Option (List ℕ)) (f g : ℕ) (h : List ℕ) (failed : Bool) (more : List ℕ) → failed ≡ false → Appends t u (h ++ more) → f ≤ g → (start : Option (List ℕ)) (count : ℕ) (before : List ℕ) → Stands start count t f (h, failed) before → Stands start count u g ([], failed) (before ++ more)
given_more t u f g h true more e a l start count before s = absurd (cc)
given_more t u f g h false more e a l start count before s = record {
  wrote = (s.wrote.0 ++ (h ++ more), Appends-then start t u s.wrote.0 (h ++ more) s.wrote.1 a, append-nil _ ∙ sym (append_assoc s.wrote.0 h more) ∙ ap (λ v. v ++ more) s.wrote.2);
  later = omega (arith, l, s.later);
  failed = λ k. absurd (cc);
}

-- the sink took what was held, and more
pub puts_given : (t u : Option (List ℕ)) (f g : ℕ) (h k : List ℕ × Bool) (bytes more : List ℕ) → h.1 ≡ false → bytes ≡ h.0 ++ more → Appends t u bytes → f ≤ g → k ≡ ([], h.1) → Puts t f h u g k more
puts_given t u f g h k bytes more e is a l to =
    let b : Appends t u (h.0 ++ more) = rw (← is) a in
    rw to (record { goes_on = λ start count before s. given_more t u f g h.0 h.1 more e b l start count before s })

failed_more : (t u : Option (List ℕ)) (f g : ℕ) (h : List ℕ) (failed : Bool) (more : List ℕ) → failed ≡ false → AppendsFront t u (h ++ more) → f ≤ g → Rose f g → (start : Option (List ℕ)) (count : ℕ) (before : List ℕ) → Stands start count t f (h, failed) before → Stands start count u g ([], true) (before ++ more)
failed_more t u f g h true more e a l r start count before s = absurd (cc)
failed_more t u f g h false more e a l r start count before s =
    let whole : s.wrote.0 ++ (h ++ more) ≡ before ++ more = sym (append_assoc s.wrote.0 h more) ∙ ap (λ v. v ++ more) s.wrote.2 in
    record {
      wrote = rw (← whole) (Front-second start t u s.wrote.0 (h ++ more) s.wrote.1 a);
      later = omega (arith, l, s.later);
      failed = λ k. omega (arith, l, s.later, r);
    }

-- the sink failed
pub puts_failed : (t u : Option (List ℕ)) (f g : ℕ) (h k : List ℕ × Bool) (bytes more : List ℕ) → h.1 ≡ false → bytes ≡ h.0 ++ more → AppendsFront t u bytes → f ≤ g → Rose f g → k ≡ ([], true) → Puts t f h u g k more
puts_failed t u f g h k bytes more e is a l r to =
    let b : AppendsFront t u (h.0 ++ more) = rw (← is) a in
    rw to (record { goes_on = λ start count before s. failed_more t u f g h.0 h.1 more e b l r start count before s })

-- more is held
pub puts_more : (t u : Option (List ℕ)) (f g : ℕ) (h j k : List ℕ × Bool) (more : List ℕ) → Puts t f h u g j [] → k ≡ (j.0 ++ more, j.1) → Puts t f h u g k more
puts_more t u f g h j k more p is = rw is (puts_then t u u f g g h j (j.0 ++ more, j.1) [] more p (puts_held u g j more))

pub puts_two : (t u v : Option (List ℕ)) (f g k : ℕ) (h i j : List ℕ × Bool) (a b c d : List ℕ) → a ≡ c → b ≡ d → Puts t f h u g i a → Puts u g i v k j b → Puts t f h v k j (c ++ d)
puts_two t u v f g k h i j a b c d x y p q = puts_then t u v f g k h i j c d (puts_as t u f g h i a c x p) (puts_as u v g k i j b d y q)

-- one more item of a list
pub puts_item : {X : Type 0} (f : X → List ℕ) (xs : List X) (i : ℕ) (x : X) (t u v : Option (List ℕ)) (m n o : ℕ) (h j k : List ℕ × Bool) → i < length xs → x ≡ get_or xs i x → Puts t m h u n j (flat_map f (take i xs)) → Puts u n j v o k (f x) → Puts t m h v o k (flat_map f (take (i + 1) xs))
puts_item {X} f xs i x t u v m n o h j k lt is p q =
    let parts : flat_map f (take (i + 1) xs) ≡ flat_map f (take i xs) ++ f x = ap (flat_map f) (take_more xs i x lt ∙ ap (λ y. take i xs ++ y ∷ []) (sym is)) ∙ flat_map-append f (take i xs) (x ∷ []) ∙ ap (λ y. flat_map f (take i xs) ++ y) (append-nil (f x)) in
    rw parts (puts_then t u v m n o h j k _ _ p q)

pub puts_at : {X : Type 0} (f : X → List ℕ) (xs : List X) (i : ℕ) (d : X) (t u v : Option (List ℕ)) (m n o : ℕ) (h j k : List ℕ × Bool) → i < length xs → Puts t m h u n j (flat_map f (take i xs)) → Puts u n j v o k (f (get_or xs i d)) → Puts t m h v o k (flat_map f (take (i + 1) xs))
puts_at f xs i d t u v m n o h j k lt p q = puts_item f xs i (get_or xs i d) t u v m n o h j k lt (get_or_default xs i d (get_or xs i d) lt) p q

-- nothing was put yet
pub begins : (t : Option (List ℕ)) (f : ℕ) → Stands t f t f ([], false) []
begins t f = record { wrote = ([], Appends-nothing t, refl); later = omega arith; failed = λ k. absurd (cc) }

-- all was put, and nothing is held
wrote_all : (t u : Option (List ℕ)) (h bytes : List ℕ) → h ≡ [] → Wrote false t u h bytes → Appends t u bytes
wrote_all t u h bytes none w = rw (← (sym (ap (λ v. w.0 ++ v) none ∙ append-nil w.0) ∙ w.2)) w.1

pub done : (t u : Option (List ℕ)) (f g : ℕ) (h : List ℕ × Bool) (bytes : List ℕ) → h.0 ≡ [] → h.1 ≡ false → Stands t f u g h bytes → Appends t u bytes
done t u f g h bytes none e s =
    let w : Wrote false t u h.0 bytes = rw e at s.wrote in
    wrote_all t u h.0 bytes none w

pub stopped : (t u : Option (List ℕ)) (f g : ℕ) (h : List ℕ × Bool) (bytes : List ℕ) → h.1 ≡ true → Stands t f u g h bytes → AppendsFront t u bytes
stopped t u f g h bytes e s =
    let w : Wrote true t u h.0 bytes = rw e at s.wrote in
    w

-- all items of a list were put, and what was held was given
pub all_put : {X : Type 0} (f : X → List ℕ) (xs : List X) (n : ℕ) (t u v : Option (List ℕ)) (a b c : ℕ) (j k : List ℕ × Bool) → length xs ≤ n → Puts t a ([], false) u b j (flat_map f (take n xs)) → Puts u b j v c k [] → Stands t a v c k (flat_map f xs)
all_put f xs n t u v a b c j k long p q =
    let s : Stands t a v c k (flat_map f (take n xs) ++ []) = (puts_then t u v a b c ([], false) j k (flat_map f (take n xs)) [] p q).goes_on t a [] (begins t a) in
    rw (← (append-nil (flat_map f (take n xs)) ∙ ap (flat_map f) (take_all n xs long))) s
