-- The member of a group that has a token, in a group of any kind.
use Rattle.std.specs.Prelude.{◌&&◌, not, if◌then◌else◌}
use Rattle.std.proofs.Common.{◌≡◌, ℕ, suc, ◌+◌, ◌<◌, Bool, true, false, cond, Option, None, List, map, length, drop, get_or, refl, sym, ap, ◌∙◌, subst, arith}
use Rattle.std.proofs.lemmas.List.{length-drop}
use Rattle.sgml_model.specs.Term.{Terms, none, more}
use Rattle.sgml_model.specs.declared.term.Term.{Term as Rust}
use Rattle.sgml_model.specs.View.{view, terms}
use Rattle.sgml_model.proofs.Rows.{from_here}
use Rattle.sgml_automaton.specs.Position.{Bits, room, rooms, and_rooms, has}
use Rattle.sgml_automaton.specs.Alike.{no_terms, shape, shape_some, shape_last, shape_member}
use Rattle.sgml_automaton.specs.Grouped.{own_bits, must_be_last, group_rooms, group_shape}
use Rattle.sgml_automaton.specs.declared.same.Grouping.{Grouping}
use Rattle.sgml_automaton.specs.declared.same.Grouping.TheVariants.{Sequence, Choice, And}
use Rattle.sgml_automaton.proofs.OneTerm.{some_rest}

-- the bits of members that have so many each before its own
abbrev pub rooms_among : ℕ → Terms → ℕ
rooms_among w none = 0
rooms_among w (more m ms) = w + (room m + rooms_among w ms)

-- the shape of the member that has the token; none where it must be the last and another stands behind it
abbrev pub shape_among : ℕ → Bool → Terms → ℕ → ℕ → Bits → Option (List Bool)
shape_among w l none o k b = None
shape_among w l (more m ms) o k b =
    if has m k then (if l && not (no_terms ms) then None else shape m (w + o) k b) else shape_among w l ms (w + (o + room m)) k b

-- THE KINDS OF GROUPS

zero_plus : (n : ℕ) → 0 + n ≡ n
zero_plus n = omega arith

one_plus : (n : ℕ) → 1 + n ≡ suc n
one_plus n = omega arith

rooms_are : (ms : Terms) → rooms_among 0 ms ≡ rooms ms
rooms_are none = refl
rooms_are (more m ms) = zero_plus (room m + rooms_among 0 ms) ∙ ap (λ n. room m + n) (rooms_are ms)

and_rooms_are : (ms : Terms) → rooms_among 1 ms ≡ and_rooms ms
and_rooms_are none = refl
and_rooms_are (more m ms) = one_plus (room m + rooms_among 1 ms) ∙ ap (λ n. suc (room m + n)) (and_rooms_are ms)

some_is : (ms : Terms) (o k : ℕ) (b : Bits) → shape_among 0 false ms o k b ≡ shape_some ms o k b
some_is none o k b = refl
some_is (more m ms) o k b =
    ap (λ n. cond (has m k) (shape m n k b) (shape_among 0 false ms (0 + (o + room m)) k b)) (zero_plus o)
    ∙ ap (λ n. cond (has m k) (shape m o k b) (shape_among 0 false ms n k b)) (zero_plus (o + room m))
    ∙ ap (λ v. cond (has m k) (shape m o k b) v) (some_is ms (o + room m) k b)

member_is : (ms : Terms) (o k : ℕ) (b : Bits) → shape_among 1 false ms o k b ≡ shape_member ms o k b
member_is none o k b = refl
member_is (more m ms) o k b =
    ap (λ n. cond (has m k) (shape m n k b) (shape_among 1 false ms (1 + (o + room m)) k b)) (one_plus o)
    ∙ ap (λ n. cond (has m k) (shape m (suc o) k b) (shape_among 1 false ms n k b)) (one_plus (o + room m))
    ∙ ap (λ v. cond (has m k) (shape m (suc o) k b) v) (member_is ms (suc (o + room m)) k b)

turned : (t : Bool) (s : Option (List Bool)) → cond (not t) None s ≡ cond t s None
turned true s = refl
turned false s = refl

last_is : (ms : Terms) (o k : ℕ) (b : Bits) → shape_among 0 true ms o k b ≡ shape_last ms o k b
last_is none o k b = refl
last_is (more m ms) o k b =
    ap (λ n. cond (has m k) (cond {A = Option (List Bool)} (not (no_terms ms)) None (shape m n k b)) (shape_among 0 true ms (0 + (o + room m)) k b)) (zero_plus o)
    ∙ ap (λ n. cond (has m k) (cond {A = Option (List Bool)} (not (no_terms ms)) None (shape m o k b)) (shape_among 0 true ms n k b)) (zero_plus (o + room m))
    ∙ ap (λ v. cond (has m k) v (shape_among 0 true ms (o + room m) k b)) (turned (no_terms ms) (shape m o k b))
    ∙ ap (λ v. cond (has m k) (cond (no_terms ms) (shape m o k b) None) v) (last_is ms (o + room m) k b)

-- a walk of its own bits and end is that of the group
pub group_is : (g : Grouping) (ms : Terms) (o k : ℕ) (b : Bits) → group_shape g ms o k b ≡ shape_among (own_bits g) (must_be_last g) ms o k b
group_is Sequence ms o k b = sym (last_is ms o k b)
group_is Choice ms o k b = sym (some_is ms o k b)
group_is And ms o k b = sym (member_is ms o k b)

pub group_rooms_are : (g : Grouping) (ms : Terms) → group_rooms g ms ≡ rooms_among (own_bits g) ms
group_rooms_are Sequence ms = sym (rooms_are ms)
group_rooms_are Choice ms = sym (rooms_are ms)
group_rooms_are And ms = sym (and_rooms_are ms)

-- others stand behind a member that must be the last
pub found_too_early : (w : ℕ) (l : Bool) (ms : List Rust) (i : ℕ) (m : Rust) (o k : ℕ) (b : Bits) → i < length ms → m ≡ get_or ms i m → has (view m) k ≡ true → l ≡ true →
    i + 1 < length ms → shape_among w l (terms (map view (drop i ms))) o k b ≡ None
found_too_early w l ms i m o k b below is h e more_left =
    let behind = drop (i + 1) ms in let rest = terms (map view behind) in
    let long : 0 < length behind = subst (λ n. 0 < n) (sym (length-drop (i + 1) ms)) (omega (arith, more_left)) in
    ap (λ t. shape_among w l t o k b) (from_here ms i m below is)
    ∙ ap (λ x. cond x (cond {A = Option (List Bool)} (l && not (no_terms rest)) None (shape (view m) (w + o) k b)) (shape_among w l rest (w + (o + room (view m))) k b)) h
    ∙ ap (λ x. cond {A = Option (List Bool)} x None (shape (view m) (w + o) k b)) (ap (λ v. v && not (no_terms rest)) e ∙ ap not (some_rest behind long))
