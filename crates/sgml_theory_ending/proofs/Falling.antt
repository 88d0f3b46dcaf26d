-- With each move less is left to read.
use Rattle.std.proofs.Common.{◌≡◌, ℕ, Bool, true, false, ◌⊎◌, inl, inr, ◌+◌, ◌-◌, ◌*◌, ◌<◌, ◌≤◌, List, [], ◌∷◌, Result, Ok, Err, length, length-drop, refl, sym, ap, ◌∙◌, subst, arith}
use Rattle.std.specs.Option.{option_or}
use Rattle.sgml_io.specs.text.declared.reason.Reason.{Reason}
use Rattle.sgml_theory_spelling.specs.dtd.Doctypes.{Doctype}
use Rattle.sgml_theory_spelling.specs.theory_reading.Names.{Name}
use Rattle.sgml_theory_spelling.specs.theory_reading.Pieces.{Piece, Kind, History, Start, EntityEnd, Finish, SubsetEnd, ShortRef, Re}
use Rattle.sgml_theory_spelling.specs.theory_reading.Facets.{Turn, OpensText, EndsText, StaysInText, turn, is_finish, declares, subset_named}
use Rattle.sgml_theory_spelling.specs.theory_reading.Nest.{types}
use Rattle.sgml_theory_spelling.specs.theory_reading.Context.{Context, context}
use Rattle.sgml_theory_spelling.specs.theory_reading.Omission.{omitted_end, omitted_start, MayStand}
use Rattle.sgml_theory_spelling.specs.theory_reading.Runs.{LongestRun, after_run}
use Rattle.sgml_theory_spelling.specs.theory_reading.Unread.{Outside, Input, Sources, Rest, sources, external_subset, text_of, rests, rest_moved, rest_turned, spent, opened_length, standing}
use Rattle.sgml_theory_spelling.specs.theory_reading.State.{State, state, sources_in}
use Rattle.sgml_theory_spelling.specs.theory_reading.Characters.{kind_noted, piece_noted}
use Rattle.sgml_theory_spelling.specs.theory_reading.Reads.{Move, Moves, MovesTo, Reads, judged, answer_noted, unless_undecided, moved_on, ends_in_finish, length_of_first}
use Rattle.sgml_theory_spelling.proofs.theory_reading.Cutting.{run-stays}
use Rattle.sgml_theory_spelling.specs.Stacked.{stacked}
use Rattle.sgml_theory_spelling.specs.Spelled.{forms, spelled}
use Rattle.sgml_theory_spelling.specs.Taken.{is_text_end}
use Rattle.sgml_theory_spelling.proofs.Taken.{takes-its-bytes}
use Rattle.sgml_theory_ending.specs.Left.{length_left, left_to_read}
use Rattle.sgml_theory_ending.specs.Laws.{LessIsLeft}
use Rattle.sgml_theory_ending.proofs.Says.{sources_with, spelled-says}
use Rattle.sgml_theory_ending.proofs.Steps.{Affords, steps}

-- TAGS THAT ARE LEFT OUT leave what entities are, and what was opened

pub record Same (I : Input) (new old : History) : Type 0 where
  pub types_are : types new ≡ types old
  pub subset_is : external_subset new ≡ external_subset old
  pub spent_is : spent I.outside new ≡ spent I.outside old

add-none : (n : ℕ) → n + (0 + 0) ≡ n
add-none n = omega arith

end-same : (I : Input) (n : Name) (h : History) → Same I (omitted_end n ∷ h) h
unfolding types external_subset spent turn declares subset_named
end-same I n h = record { types_are = refl; subset_is = refl; spent_is = add-none (spent I.outside h) }

start-same : (I : Input) (n : Name) (h : History) → Same I (omitted_start n ∷ h) h
unfolding types external_subset spent turn declares subset_named
start-same I n h = record { types_are = refl; subset_is = refl; spent_is = add-none (spent I.outside h) }

one-same : (I : Input) (c : Context) (o : Piece) (x : Kind) (h : History) → MayStand c o x → Same I (o ∷ h) h
one-same I c o x h (inl m) = subst (λ (p : Piece). Same I (p ∷ h) h) (sym m.1) (end-same I m.0 h)
one-same I c o x h (inr m) = subst (λ (p : Piece). Same I (p ∷ h) h) (sym m.1) (start-same I m.0 h)

pub run-same : (I : Input) (h : History) (x : Kind) (os : List Piece) → LongestRun h x os → Same I (after_run h os) h
run-same I h x [] r = record { types_are = refl; subset_is = refl; spent_is = refl }
run-same I h x (o ∷ os) r =
    let rest = run-same I (o ∷ h) x os r.1 in
    let one = one-same I (context h) o x h r.0 in
    record { types_are = rest.types_are ∙ one.types_are; subset_is = rest.subset_is ∙ one.subset_is; spent_is = rest.spent_is ∙ one.spent_is }

-- WHAT IS LEFT, by numbers

moved-left : (n : ℕ) (rs : List Rest) → n ≤ length_of_first rs → length_left (rest_moved n rs) + 2 * n ≡ length_left rs
moved-left n [] l = omega (arith, l)
moved-left n (r ∷ rs) l = let e = length-drop n r.bytes in omega (arith, l, e)

moved-some : (n : ℕ) (rs : List Rest) → 0 < length rs → 0 < length (rest_moved n rs)
moved-some n [] l = l
moved-some n (r ∷ rs) l = omega arith

left-falls : (outside : Outside) (k : Sources) (t : Turn) (rs : List Rest) (n before spent inside : ℕ)
    → length_left rs + 2 * n ≡ before → 0 < length rs → (0 < n) ⊎ (t ≡ EndsText) → Affords outside k spent inside t
    → length_left (rest_turned (text_of outside k) t rs) + 2 * (outside.expand - (spent + (inside + opened_length (text_of outside k) t))) < before + 2 * (outside.expand - spent)
left-falls outside k (OpensText e) rs n before spent inside a some (inl l) f = omega (arith, a, l, f)
left-falls outside k (OpensText e) rs n before spent inside a some (inr x) f = absurd (cc)
left-falls outside k EndsText [] n before spent inside a some x f = absurd (omega (arith, some))
left-falls outside k EndsText (r ∷ rs) n before spent inside a some x f = omega (arith, a)
left-falls outside k StaysInText rs n before spent inside a some (inl l) f = omega (arith, a, l)
left-falls outside k StaysInText rs n before spent inside a some (inr x) f = absurd (cc)

-- WHAT A KIND DOES to the texts
abbrev Goes : Kind → ℕ → Type 0
Goes k n = (is_finish k ≡ true) ⊎ ((0 < n) ⊎ (turn k ≡ EndsText))

goes : (k : Kind) (n : ℕ) → (is_text_end k ≡ false → 0 < n) → Goes k n
unfolding is_finish turn
goes EntityEnd n f = inr (inr refl)
goes Finish n f = inl refl
goes _ n f = inr (inl (f refl))

-- what is noted of it where it stands leaves that
pub record Alike (j k : Kind) : Type 0 where
  pub turn_is : turn j ≡ turn k
  pub finish_is : is_finish j ≡ is_finish k
  pub declares_are : (d : Doctype) → declares j d ≡ declares k d
  pub subset_is : subset_named j ≡ subset_named k

itself : (k : Kind) → Alike k k
itself k = record { turn_is = refl; finish_is = refl; declares_are = λ d. refl; subset_is = refl }

judged-alike : (c : Context) (k : Kind) → Alike (judged c k) k
unfolding turn is_finish declares subset_named
judged-alike c (Start n specifications how proper at_once) = record { turn_is = refl; finish_is = refl; declares_are = λ d. refl; subset_is = refl }
judged-alike c k = itself k

noted-end : (s : State) (k : Kind) → is_text_end (kind_noted s k) ≡ is_text_end k
unfolding kind_noted
noted-end s (Re live) = refl
noted-end s (ShortRef string meaning) = refl
noted-end s (SubsetEnd reads_external) = refl
noted-end s k = refl

-- what was spelled where a move reads
pub record Spelled (I : Input) (h : History) (m : Move) : Type 0 where
  pub piece : Piece
  pub is_spelled : spelled I.outside (state h) (standing I h) ≡ Ok piece
  pub moves : Moves forms h (piece_noted (state h) piece) m

answered : (I : Input) (h : History) (m : Move) (b : Bool) (x : Result Piece Reason) → spelled I.outside (state h) (standing I h) ≡ x
    → MovesTo forms h (unless_undecided b (answer_noted (state h) x)) m → Spelled I h m
answered I h m true x e a = absurd a
answered I h m false (Ok q) e a = record { piece = q; is_spelled = e; moves = a }
answered I h m false (Err r) e a = absurd a

pub move-spelled : (I : Input) (h : History) (m : Move) → Reads forms I h m → Spelled I h m
move-spelled I h m r = answered I h m _ (spelled I.outside (state h) (standing I h)) refl r.moves

-- after the visible piece, by what stood before the ones that are left out
abbrev left_after : Outside → Sources → Turn → ℕ → ℕ → ℕ → List Rest → ℕ
left_after outside k t n before inside rs =
    length_left (rest_turned (text_of outside k) t (rest_moved n rs)) + 2 * (outside.expand - (before + (inside + opened_length (text_of outside k) t)))

left-is : (I : Input) (p : Piece) (h : History) → left_to_read I (p ∷ h) ≡ left_after I.outside (sources (p ∷ h)) (turn p.kind) p.size (spent I.outside h) p.spent (rests I h)
unfolding rests spent types external_subset
left-is I p h = refl

pub sources-state : (h : History) → sources_in (state h) ≡ sources h
unfolding state context
sources-state h = refl

pub record Visible (I : Input) (h : History) (m : Move) (q : Piece) : Type 0 where
  pub alike : Alike m.visible.kind (kind_noted (state h) q.kind)
  pub size_is : m.visible.size ≡ q.size
  pub spent_is : m.visible.spent ≡ q.spent

pub visible : (I : Input) (h : History) (m : Move) (q : Piece) → Moves forms h (piece_noted (state h) q) m → Visible I h m q
visible I h m q a =
    let k = kind_noted (state h) q.kind in
    let c = context (after_run h m.omitted) in record {
      alike = subst (λ (j : Kind). Alike j k) (sym (ap (λ (p : Piece). p.kind) a.visible)) (judged-alike c k);
      size_is = ap (λ (p : Piece). p.size) a.visible;
      spent_is = ap (λ (p : Piece). p.spent) a.visible;
    }

-- what entities are after it
pub sources-after : (I : Input) (h : History) (m : Move) (q : Piece) → Moves forms h (piece_noted (state h) q) m
    → sources (moved_on h m) ≡ sources_with (sources_in (state h)) (kind_noted (state h) q.kind)
unfolding types external_subset
sources-after I h m q a =
    let k = kind_noted (state h) q.kind in
    let v = visible I h m q a in
    let x = run-same I h k m.omitted a.longest in
    let old = after_run h m.omitted in
    let d : declares m.visible.kind (types old) ≡ declares k (types h) = v.alike.declares_are (types old) ∙ ap (declares k) x.types_are in
    let e : sources (m.visible ∷ old) ≡ sources_with (sources h) k = λ i. record { doctype = d i; subset = option_or (v.alike.subset_is i) (x.subset_is i) } in
    e ∙ ap (λ z. sources_with z k) (sym (sources-state h))

after-is : (I : Input) (h : History) (m : Move) (q : Piece) → Moves forms h (piece_noted (state h) q) m
    → left_to_read I (moved_on h m)
    ≡ left_after I.outside (sources_with (sources_in (state h)) (kind_noted (state h) q.kind)) (turn (kind_noted (state h) q.kind)) q.size (spent I.outside h) q.spent (rests I h)
after-is I h m q a =
    let k = kind_noted (state h) q.kind in
    let v = visible I h m q a in
    let x = run-same I h k m.omitted a.longest in
    let y = run-stays I h k m.omitted a.longest in
    let f = sources-after I h m q a in
    left-is I m.visible (after_run h m.omitted)
    ∙ (λ i. left_after I.outside (f i) (v.alike.turn_is i) (v.size_is i) (x.spent_is i) (v.spent_is i) (y i))

by-goes : (I : Input) (h : History) (m : Move) (q : Piece) → spelled I.outside (state h) (standing I h) ≡ Ok q → Moves forms h (piece_noted (state h) q) m
    → Goes (kind_noted (state h) q.kind) q.size → (ends_in_finish (moved_on h m) ≡ true) ⊎ (left_to_read I (moved_on h m) < left_to_read I h)
by-goes I h m q e a (inl f) = inl ((visible I h m q a).alike.finish_is ∙ f)
by-goes I h m q e a (inr x) =
    let takes = takes-its-bytes I.outside (state h) (standing I h) q e in
    let says = spelled-says I.outside (state h) (standing I h) q e in
    let step = steps I.outside (state h) (stacked (standing I h)) q.spent q.kind says.0 in
    let k = kind_noted (state h) q.kind in
    let falls = left-falls I.outside (sources_with (sources_in (state h)) k) (turn k) (rest_moved q.size (rests I h)) q.size (length_left (rests I h)) (spent I.outside h) q.spent
    (moved-left q.size (rests I h) takes.within) (moved-some q.size (rests I h) says.1) x step.affords in
    inr (subst (λ n. n < left_to_read I h) (sym (after-is I h m q a)) falls)

pub less-is-left : LessIsLeft
less-is-left I h m r =
    let x = move-spelled I h m r in
    let takes = takes-its-bytes I.outside (state h) (standing I h) x.piece x.is_spelled in
    by-goes I h m x.piece x.is_spelled x.moves
    (goes (kind_noted (state h) x.piece.kind) x.piece.size (λ e. takes.has_byte (sym (noted-end (state h) x.piece.kind) ∙ e)))
