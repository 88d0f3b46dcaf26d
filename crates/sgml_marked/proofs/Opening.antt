-- Which section ends, and equal sections.
use Rattle.std.proofs.Common.{arith, ◌∙◌, ap, sym, refl, subst, ◌≡◌, ◌<◌, ◌≤◌, ◌==◌, ◌||◌, ◌&&◌, ℕ, suc, zero, Bool, true, false, if◌then◌else◌, List, [], ◌∷◌, length, drop, get_or}
use Rattle.std.specs.List.{remove}
use Rattle.std.specs.Bool.{Decides}
use Rattle.std.specs.Cmp.Lexicographic.{pointwise, pointwise_decides}
use Rattle.sgml_marked.specs.declared.status.Status.{Status}
use Rattle.sgml_marked.specs.declared.status.Status.TheVariants.{Ignore, Cdata, Rcdata, Include}
use Rattle.sgml_marked.specs.declared.sections.Section.{Section}
use Rattle.sgml_marked.specs.Opened.{is_at, is_open_at, without_last, IsLastEnded, rank, same_section}

false-true : {b : Bool} → b ≡ false → b ≡ true → ⊥
false-true p q = cc

left-true : (a b : Bool) → a ≡ true → (a || b) ≡ true
left-true true b e = refl
left-true false b e = absurd (false-true refl e)

pub or-false : (a b : Bool) → a ≡ false → b ≡ false → (a || b) ≡ false
or-false true b e f = absurd (false-true e refl)
or-false false b e f = f

right-true : (a b : Bool) → b ≡ true → (a || b) ≡ true
right-true true b e = refl
right-true false b e = e

right-false : (a b : Bool) → (a || b) ≡ false → b ≡ false
right-false true b e = absurd (false-true e refl)
right-false false b e = e

left-false : (a b : Bool) → (a || b) ≡ false → a ≡ false
left-false true b e = absurd (false-true e refl)
left-false false b e = refl

at-level : (level : ℕ) (s : Section) → is_at level s ≡ true → s.level ≡ level
at-level level s e = grind arith

-- what is left, by whether a later one is of the level and whether this one is
without-later : (level : ℕ) (s : Section) (ss : List Section) → is_open_at level ss ≡ true
    → without_last level (s ∷ ss) ≡ s ∷ without_last level ss
without-later level s ss e =
    ap (λ t. if t then s ∷ without_last level ss else if is_at level s then ss else s ∷ without_last level ss) e

without-this : (level : ℕ) (s : Section) (ss : List Section) → is_open_at level ss ≡ false → is_at level s ≡ true
    → without_last level (s ∷ ss) ≡ ss
without-this level s ss e f =
    ap (λ t. if t then s ∷ without_last level ss else if is_at level s then ss else s ∷ without_last level ss) e
    ∙ ap (λ t. if t then ss else s ∷ without_last level ss) f

without-neither : (level : ℕ) (s : Section) (ss : List Section) → is_open_at level ss ≡ false → is_at level s ≡ false
    → without_last level (s ∷ ss) ≡ s ∷ without_last level ss
without-neither level s ss e f =
    ap (λ t. if t then s ∷ without_last level ss else if is_at level s then ss else s ∷ without_last level ss) e
    ∙ ap (λ t. if t then ss else s ∷ without_last level ss) f

later-ended : (level : ℕ) (s : Section) (ss left : List Section) → IsLastEnded level ss left → IsLastEnded level (s ∷ ss) (s ∷ left)
later-ended level s ss left h = record {
  before = s ∷ h.before;
  ended = h.ended;
  after = h.after;
  were = ap (λ xs. s ∷ xs) h.were;
  of_level = h.of_level;
  last = h.last;
  stay = ap (λ xs. s ∷ xs) h.stay;
}

last-step : (level : ℕ) (s : Section) (ss : List Section) (later this : Bool) → is_open_at level ss ≡ later → is_at level s ≡ this
    → (is_open_at level ss ≡ true → IsLastEnded level ss (without_last level ss))
    → is_open_at level (s ∷ ss) ≡ true → IsLastEnded level (s ∷ ss) (without_last level (s ∷ ss))
last-step level s ss true this e f more h =
    subst (IsLastEnded level (s ∷ ss)) (sym (without-later level s ss e)) (later-ended level s ss (without_last level ss) (more e))
last-step level s ss false true e f more h =
    subst (IsLastEnded level (s ∷ ss)) (sym (without-this level s ss e f))
    (record { before = []; ended = s; after = ss; were = refl; of_level = at-level level s f; last = e; stay = refl })
last-step level s ss false false e f more h = absurd (false-true (or-false (is_at level s) (is_open_at level ss) f e) h)

pub last-ended : (level : ℕ) (opened : List Section) → is_open_at level opened ≡ true → IsLastEnded level opened (without_last level opened)
last-ended level [] e = absurd (false-true refl e)
last-ended level (s ∷ ss) e =
    last-step level s ss (is_open_at level ss) (is_at level s) refl refl (λ h. last-ended level ss h) e

pub none-ended : (level : ℕ) (opened : List Section) → is_open_at level opened ≡ false → without_last level opened ≡ opened
none-ended level [] e = refl
none-ended level (s ∷ ss) e =
    let later = right-false (is_at level s) (is_open_at level ss) e in
    without-neither level s ss later (left-false (is_at level s) (is_open_at level ss) e)
    ∙ ap (λ xs. s ∷ xs) (none-ended level ss later)

-- one of the level at a place
pub open-at-place : (level : ℕ) (ss : List Section) (n : ℕ) (d : Section) → n < length ss → is_at level (get_or ss n d) ≡ true
    → is_open_at level ss ≡ true
open-at-place level [] n d l e = absurd (omega arith)
open-at-place level (s ∷ ss) zero d l e = left-true (is_at level s) (is_open_at level ss) e
open-at-place level (s ∷ ss) (suc n) d l e =
    right-true (is_at level s) (is_open_at level ss) (open-at-place level ss n d (omega arith) e)

-- the last of the level is taken out at its place
pub removed-last : (level : ℕ) (ss : List Section) (n : ℕ) (d : Section) → n < length ss → is_at level (get_or ss n d) ≡ true
    → is_open_at level (drop (suc n) ss) ≡ false → remove ss n ≡ without_last level ss
removed-last level [] n d l e f = absurd (omega arith)
removed-last level (s ∷ ss) zero d l e f = sym (without-this level s ss f e)
removed-last level (s ∷ ss) (suc n) d l e f =
    ap (λ xs. s ∷ xs) (removed-last level ss n d (omega arith) e f)
    ∙ sym (without-later level s ss (open-at-place level ss n d (omega arith) e))

-- one section more, which isn't of the level
pub none-from : (level : ℕ) (ss : List Section) (n : ℕ) (d : Section) → n < length ss → is_at level (get_or ss n d) ≡ false
    → is_open_at level (drop (suc n) ss) ≡ false → is_open_at level (drop n ss) ≡ false
none-from level [] n d l e f = absurd (omega arith)
none-from level (s ∷ ss) zero d l e f = or-false (is_at level s) (is_open_at level ss) e f
none-from level (s ∷ ss) (suc n) d l e f = none-from level ss n d (omega arith) e f

-- sections
same-status : (a b : Status) → rank a ≡ rank b → a ≡ b
same-status Ignore Ignore e = refl
same-status Cdata Cdata e = refl
same-status Rcdata Rcdata e = refl
same-status Include Include e = refl
same-status Ignore Cdata e = absurd (omega arith)
same-status Ignore Rcdata e = absurd (omega arith)
same-status Ignore Include e = absurd (omega arith)
same-status Cdata Ignore e = absurd (omega arith)
same-status Cdata Rcdata e = absurd (omega arith)
same-status Cdata Include e = absurd (omega arith)
same-status Rcdata Ignore e = absurd (omega arith)
same-status Rcdata Cdata e = absurd (omega arith)
same-status Rcdata Include e = absurd (omega arith)
same-status Include Ignore e = absurd (omega arith)
same-status Include Cdata e = absurd (omega arith)
same-status Include Rcdata e = absurd (omega arith)

and-parts : (a b : Bool) → (a && b) ≡ true → (a ≡ true) × (b ≡ true)
and-parts true b e = (refl, e)
and-parts false b e = absurd (false-true refl e)

equal-numbers : (a b : ℕ) → (a == b) ≡ true → a ≡ b
equal-numbers a b e = grind arith

itself : (a : ℕ) → (a == a) ≡ true
itself a = grind arith

abbrev made : Status → ℕ → Section
made status level = record { status = status; level = level }

two-same : (a b : Section) → a.status ≡ b.status → a.level ≡ b.level → a ≡ b
two-same a b e f = ap (λ t. made t a.level) e ∙ ap (λ t. made b.status t) f

same-decides : (a b : Section) → Decides (same_section a b) (a ≡ b)
same-decides a b = (
  λ e.
      let same = and-parts (rank a.status == rank b.status) (a.level == b.level) e in
      two-same a b (same-status a.status b.status (equal-numbers (rank a.status) (rank b.status) same.0)) (equal-numbers a.level b.level same.1),
  λ e. subst (λ t. same_section a t ≡ true) e (self a),
)
  where
    self : (s : Section) → same_section s s ≡ true
    self s = ap (λ t. t && (s.level == s.level)) (itself (rank s.status)) ∙ itself s.level

pub sections-decide : (first second : List Section) → Decides (pointwise same_section first second) (first ≡ second)
sections-decide first second = pointwise_decides same-decides first second

pub level-at : (level : ℕ) (s : Section) → s.level ≡ level → is_at level s ≡ true
level-at level s e = grind arith

-- the same with the place after it
pub removed-before : (level : ℕ) (ss : List Section) (m n : ℕ) (d : Section) → n ≡ suc m → n ≤ length ss → (get_or ss m d).level ≡ level
    → is_open_at level (drop n ss) ≡ false → remove ss m ≡ without_last level ss
removed-before level ss m n d is l e f =
    removed-last level ss m d (omega arith) (level-at level (get_or ss m d) e)
    (subst (λ k. is_open_at level (drop k ss) ≡ false) is f)
