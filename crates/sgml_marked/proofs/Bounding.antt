-- The numbers beside the open sections, which no level up to them passes.
use Rattle.std.proofs.Common.{arith, ◌≡◌, ◌<◌, ◌≤◌, ◌==◌, ◌||◌, ◌++◌, ℕ, suc, zero, Bool, true, false, List, [], ◌∷◌, length, drop, get_or, refl}
use Rattle.std.specs.List.{remove}
use Rattle.std.proofs.lemmas.Bool.Decides.{nat_tests}
use Rattle.sgml_marked.specs.declared.sections.Section.{Section}
use Rattle.sgml_marked.specs.Opened.{is_at, is_open_at, last_or, Bounds}
use Rattle.sgml_marked.proofs.Opening.{or-false}

pub same-length : (low : ℕ) (ss : List Section) (hs : List ℕ) → Bounds low ss hs → length hs ≡ length ss
same-length low [] [] b = refl
same-length low [] (h ∷ hs) b = absurd b
same-length low (s ∷ ss) [] b = absurd b
same-length low (s ∷ ss) (h ∷ hs) b = let e = same-length h ss hs b.2 in omega (arith, e)

weaker : (low most : ℕ) (ss : List Section) (hs : List ℕ) → low ≤ most → Bounds most ss hs → Bounds low ss hs
weaker low most [] [] l b = tt
weaker low most [] (h ∷ hs) l b = absurd b
weaker low most (s ∷ ss) [] l b = absurd b
weaker low most (s ∷ ss) (h ∷ hs) l b = let m : most ≤ h = b.0 in (omega (arith, l, m), b.1, b.2)

-- each number is as great as what stands before it
at-least : (low : ℕ) (ss : List Section) (hs : List ℕ) → Bounds low ss hs → low ≤ last_or low hs
at-least low [] [] b = omega arith
at-least low [] (h ∷ hs) b = absurd b
at-least low (s ∷ ss) [] b = absurd b
at-least low (s ∷ ss) (h ∷ hs) b =
    let m : h ≤ last_or h hs = at-least h ss hs b.2 in
    let l : low ≤ h = b.0 in
    omega (arith, l, m)

pub one-more : (low : ℕ) (ss : List Section) (hs : List ℕ) (s : Section) (h : ℕ) → Bounds low ss hs → last_or low hs ≤ h → s.level ≤ h
    → Bounds low (ss ++ s ∷ []) (hs ++ h ∷ [])
one-more low [] [] s h b m e = (m, e, tt)
one-more low [] (g ∷ gs) s h b m e = absurd b
one-more low (t ∷ ts) [] s h b m e = absurd b
one-more low (t ∷ ts) (g ∷ gs) s h b m e = (b.0, b.1, one-more g ts gs s h b.2 m e)

pub last-at : (low : ℕ) (hs : List ℕ) (n : ℕ) → suc n ≡ length hs → get_or hs n 0 ≡ last_or low hs
last-at low [] n e = absurd (omega (arith, e))
last-at low (h ∷ []) zero e = refl
last-at low (h ∷ []) (suc n) e = absurd (omega (arith, e))
last-at low (h ∷ g ∷ hs) zero e = absurd (omega (arith, e))
last-at low (h ∷ g ∷ hs) (suc n) e = last-at h (g ∷ hs) n (omega (arith, e))

pub one-less : (low : ℕ) (ss : List Section) (hs : List ℕ) (n : ℕ) → Bounds low ss hs → n < length ss → Bounds low (remove ss n) (remove hs n)
one-less low [] hs n b l = absurd (omega (arith, l))
one-less low (s ∷ ss) [] n b l = absurd b
one-less low (s ∷ ss) (h ∷ hs) zero b l = weaker low h ss hs b.0 b.2
one-less low (s ∷ ss) (h ∷ hs) (suc n) b l = (b.0, b.1, one-less h ss hs n b.2 (omega (arith, l)))

above : (low : ℕ) (ss : List Section) (hs : List ℕ) (n : ℕ) → Bounds low ss hs → n < length ss → low ≤ get_or hs n 0
above low [] hs n b l = absurd (omega (arith, l))
above low (s ∷ ss) [] n b l = absurd b
above low (s ∷ ss) (h ∷ hs) zero b l = b.0
above low (s ∷ ss) (h ∷ hs) (suc n) b l =
    let m : h ≤ get_or hs n 0 = above h ss hs n b.2 (omega (arith, l)) in
    let k : low ≤ h = b.0 in
    omega (arith, k, m)

under : (level h : ℕ) (s : Section) → s.level ≤ h → h < level → is_at level s ≡ false
under level h s l m = grind (arith, nat_tests)

-- where the number is below a level, no section up to it is of the level
pub none-up-to : (low level : ℕ) (ss : List Section) (hs : List ℕ) (n : ℕ) → Bounds low ss hs → n < length ss → get_or hs n 0 < level
    → is_open_at level (drop (suc n) ss) ≡ false → is_open_at level ss ≡ false
none-up-to low level [] hs n b l m f = absurd (omega (arith, l))
none-up-to low level (s ∷ ss) [] n b l m f = absurd b
none-up-to low level (s ∷ ss) (h ∷ hs) zero b l m f = or-false (is_at level s) (is_open_at level ss) (under level h s b.1 m) f
none-up-to low level (s ∷ ss) (h ∷ hs) (suc n) b l m f =
    let k : h ≤ get_or hs n 0 = above h ss hs n b.2 (omega (arith, l)) in
    or-false (is_at level s) (is_open_at level ss) (under level h s b.1 (omega (arith, k, m)))
    (none-up-to h level ss hs n b.2 (omega (arith, l)) m f)
