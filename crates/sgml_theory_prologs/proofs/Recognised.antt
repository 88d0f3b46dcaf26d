-- Where the front of a text doesn't decide which delimiter it begins with.
use Rattle.std.proofs.Common.{◌≡◌, ℕ, ◌+◌, ◌≤◌, ◌⊎◌, inl, inr, Bool, true, false, List, [], ◌∷◌, length, drop, refl, sym, ap, ◌∙◌, if◌then◌else◌, ◌==◌, ◌&&◌, ◌||◌, arith, eqb-true}
use Rattle.std.proofs.lemmas.List.{length-drop}
use Rattle.sgml_theory_standing.specs.syntax.declared.syntax.Syntax.{Syntax}
use Rattle.sgml_theory_standing.specs.delim.declared.delim.Delim.{Delim}
use Rattle.sgml_theory_standing.specs.delim.declared.delim.Delim.TheVariants as d
use Rattle.sgml_theory_standing.specs.delim.declared.delim.Mode.{Mode}
use Rattle.sgml_theory_standing.specs.delim.declared.delim.Mode.TheVariants as m
use Rattle.sgml_theory_standing.specs.delim.declared.delim.Need.{Need}
use Rattle.sgml_theory_standing.specs.delim.declared.delim.Need.TheVariants.{Nothing, NameStart, AfterMdo, Mdc, Dso}
use Rattle.sgml_theory_standing.specs.delim.declared.delim.Verdict.{Verdict}
use Rattle.sgml_theory_standing.specs.delim.declared.delim.Verdict.TheVariants.{Holds, Fails, Undecided}
use Rattle.sgml_theory_standing.specs.delim.declared.delim.Recognised.{Recognised}
use Rattle.sgml_theory_standing.specs.delim.declared.delim.Recognised.TheVariants as r
use Rattle.sgml_theory_standing.specs.delim.Tables.{string, need, allowed, follows, in_force, is_nothing, is_after_mdo}
use Rattle.sgml_theory_standing.specs.delim.Verdicts.{prefix_verdict, follow_verdict, after_prefix, verdict, by_verdict, recognised}

abbrev pub wants : Recognised → Bool
wants r.NeedMore = true
wants _ = false

abbrev is_undecided : Verdict → Bool
is_undecided Undecided = true
is_undecided _ = false

pub never : {A : Type 0} (t : Bool) → t ≡ true → t ≡ false → A
never t p q = absurd (not-both t p q)
  where
    not-both : (t : Bool) → t ≡ true → t ≡ false → ⊥
    not-both t p q = cc

-- A VERDICT THAT IS DECIDED

if-decided : (t : Bool) (v : Verdict) → is_undecided v ≡ false → is_undecided (if t then v else Fails) ≡ false
if-decided true v e = e
if-decided false v e = refl

after-decided : (v w : Verdict) → is_undecided v ≡ false → is_undecided w ≡ false → is_undecided (after_prefix v w) ≡ false
after-decided Holds w e f = f
after-decided Fails w e f = refl
after-decided Undecided w e f = never true refl e

prefix-long : (string bytes : List ℕ) → length string ≤ length bytes → is_undecided (prefix_verdict string bytes) ≡ false
prefix-long [] bytes l = refl
prefix-long (c ∷ string) [] l = absurd (omega (arith, l))
prefix-long (c ∷ string) (b ∷ bytes) l = if-decided (c == b) (prefix_verdict string bytes) (prefix-long string bytes (omega (arith, l)))

follow-nothing : (s : Syntax) (bytes : List ℕ) → is_undecided (follow_verdict s Nothing bytes) ≡ false
follow-nothing s [] = refl
follow-nothing s (b ∷ []) = refl
follow-nothing s (b ∷ c ∷ bytes) = refl

choose : (t : Bool) (v w : Verdict) → is_undecided v ≡ false → is_undecided w ≡ false → is_undecided (if t then v else w) ≡ false
choose true v w e f = e
choose false v w e f = f

-- one byte tells, but after MDO
follow-one : (s : Syntax) (n : Need) (b : ℕ) (bytes : List ℕ) → is_after_mdo n ≡ false → is_undecided (follow_verdict s n (b ∷ bytes)) ≡ false
follow-one s n b [] e =
    choose (is_nothing n || allowed s n b) Holds (if is_after_mdo n && (b == 45) then Undecided else Fails) refl
    (ap (λ t. is_undecided (if t && (b == 45) then Undecided else Fails)) e)
follow-one s n b (c ∷ bytes) e = choose (follows s n (b ∷ c ∷ bytes)) Holds Fails refl refl

-- after MDO a single `-` doesn't
follow-other : (s : Syntax) (b : ℕ) → (b == 45) ≡ false → is_undecided (follow_verdict s AfterMdo (b ∷ [])) ≡ false
follow-other s b e =
    choose (is_nothing AfterMdo || allowed s AfterMdo b) Holds (if is_after_mdo AfterMdo && (b == 45) then Undecided else Fails) refl
    (ap (λ t. is_undecided (if is_after_mdo AfterMdo && t then Undecided else Fails)) e)

follow-long : (s : Syntax) (n : Need) (bytes : List ℕ) → 2 ≤ length bytes → is_undecided (follow_verdict s n bytes) ≡ false
follow-long s n [] l = absurd (omega (arith, l))
follow-long s n (b ∷ []) l = absurd (omega (arith, l))
follow-long s n (b ∷ c ∷ bytes) l = choose (follows s n (b ∷ c ∷ bytes)) Holds Fails refl refl

verdict-by : (s : Syntax) (k : Mode) (net : Bool) (x : Delim) (bytes : List ℕ) → length (string x) ≤ length bytes
    → is_undecided (follow_verdict s (need k x) (drop (length (string x)) bytes)) ≡ false → is_undecided (verdict s k net x bytes) ≡ false
verdict-by s k net x bytes l e =
    if-decided (in_force s k net x) (after_prefix (prefix_verdict (string x) bytes) (follow_verdict s (need k x) (drop (length (string x)) bytes)))
    (after-decided (prefix_verdict (string x) bytes) (follow_verdict s (need k x) (drop (length (string x)) bytes)) (prefix-long (string x) bytes l) e)

verdict-long : (s : Syntax) (k : Mode) (net : Bool) (x : Delim) (bytes : List ℕ) → length (string x) + 2 ≤ length bytes → is_undecided (verdict s k net x bytes) ≡ false
verdict-long s k net x bytes l =
    let rest = length-drop (length (string x)) bytes in
    verdict-by s k net x bytes (omega (arith, l)) (follow-long s (need k x) (drop (length (string x)) bytes) (omega (arith, l, rest)))

verdict-fails : (s : Syntax) (k : Mode) (net : Bool) (x : Delim) (bytes : List ℕ) → prefix_verdict (string x) bytes ≡ Fails → is_undecided (verdict s k net x bytes) ≡ false
verdict-fails s k net x bytes e =
    if-decided (in_force s k net x) (after_prefix (prefix_verdict (string x) bytes) (follow_verdict s (need k x) (drop (length (string x)) bytes)))
    (ap (λ v. is_undecided (after_prefix v (follow_verdict s (need k x) (drop (length (string x)) bytes)))) e)

-- A DELIMITER, OR NONE, is told where each verdict is

settled : (x : Delim) (others : Recognised) (v : Verdict) → is_undecided v ≡ false → wants others ≡ false → wants (by_verdict x others v) ≡ false
settled x others Holds e f = refl
settled x others Fails e f = f
settled x others Undecided e f = never true refl e

ds-settled : (s : Syntax) (net : Bool) (bytes : List ℕ) → is_undecided (verdict s m.Ds net d.Mdo bytes) ≡ false → is_undecided (verdict s m.Ds net d.Pio bytes) ≡ false
    → is_undecided (verdict s m.Ds net d.Msc bytes) ≡ false → is_undecided (verdict s m.Ds net d.Pero bytes) ≡ false → is_undecided (verdict s m.Ds net d.Dsc bytes) ≡ false
    → wants (recognised s m.Ds net bytes) ≡ false
unfolding recognised
ds-settled s net bytes mdo pio msc pero dsc =
    settled d.Mdo _ (verdict s m.Ds net d.Mdo bytes) mdo
    (settled d.Pio _ (verdict s m.Ds net d.Pio bytes) pio
    (settled d.Msc _ (verdict s m.Ds net d.Msc bytes) msc
    (settled d.Pero _ (verdict s m.Ds net d.Pero bytes) pero
    (settled d.Dsc _ (verdict s m.Ds net d.Dsc bytes) dsc refl))))

ign-settled : (s : Syntax) (net : Bool) (bytes : List ℕ) → is_undecided (verdict s m.Ign net d.Mdo bytes) ≡ false → is_undecided (verdict s m.Ign net d.Msc bytes) ≡ false
    → wants (recognised s m.Ign net bytes) ≡ false
unfolding recognised
ign-settled s net bytes mdo msc =
    settled d.Mdo _ (verdict s m.Ign net d.Mdo bytes) mdo (settled d.Msc _ (verdict s m.Ign net d.Msc bytes) msc refl)

-- in an ignored section three bytes tell
pub ign-told : (s : Syntax) (net : Bool) (b c e : ℕ) (bytes : List ℕ) → wants (recognised s m.Ign net (b ∷ c ∷ e ∷ bytes)) ≡ false
ign-told s net b c e bytes =
    ign-settled s net (b ∷ c ∷ e ∷ bytes)
    (verdict-by s m.Ign net d.Mdo (b ∷ c ∷ e ∷ bytes) (omega arith) (follow-one s Dso e bytes refl))
    (verdict-by s m.Ign net d.Msc (b ∷ c ∷ e ∷ bytes) (omega arith) (follow-one s Mdc e bytes refl))

-- in a document type four do
pub ds-told : (s : Syntax) (net : Bool) (bytes : List ℕ) → 4 ≤ length bytes → wants (recognised s m.Ds net bytes) ≡ false
ds-told s net bytes l =
    ds-settled s net bytes (verdict-long s m.Ds net d.Mdo bytes l) (verdict-long s m.Ds net d.Pio bytes l)
    (verdict-long s m.Ds net d.Msc bytes l) (verdict-long s m.Ds net d.Pero bytes (omega (arith, l))) (verdict-long s m.Ds net d.Dsc bytes (omega (arith, l)))

-- and so do fewer, but these

pio-told : (s : Syntax) (net : Bool) (b c : ℕ) (bytes : List ℕ) → is_undecided (verdict s m.Ds net d.Pio (b ∷ c ∷ bytes)) ≡ false
pio-told s net b c bytes = verdict-by s m.Ds net d.Pio (b ∷ c ∷ bytes) (omega arith) (follow-nothing s bytes)

dsc-told : (s : Syntax) (net : Bool) (b : ℕ) (bytes : List ℕ) → is_undecided (verdict s m.Ds net d.Dsc (b ∷ bytes)) ≡ false
dsc-told s net b bytes = verdict-by s m.Ds net d.Dsc (b ∷ bytes) (omega arith) (follow-nothing s bytes)

pero-told : (s : Syntax) (net : Bool) (b c : ℕ) (bytes : List ℕ) → is_undecided (verdict s m.Ds net d.Pero (b ∷ c ∷ bytes)) ≡ false
pero-told s net b c bytes = verdict-by s m.Ds net d.Pero (b ∷ c ∷ bytes) (omega arith) (follow-one s NameStart c bytes refl)

head-fails : (x : ℕ) (xs : List ℕ) (b : ℕ) (bytes : List ℕ) → (x == b) ≡ false → prefix_verdict (x ∷ xs) (b ∷ bytes) ≡ Fails
head-fails x xs b bytes e = ap (λ t. if t then prefix_verdict xs bytes else Fails) e

pub one-wants : (s : Syntax) (net : Bool) (b : ℕ) → wants (recognised s m.Ds net (b ∷ [])) ≡ true → (b ≡ 60) ⊎ (b ≡ 93) ⊎ (b ≡ 37)
one-wants s net b h = by (60 == b) (93 == b) (37 == b) refl refl refl
  where
    by : (t u v : Bool) → (60 == b) ≡ t → (93 == b) ≡ u → (37 == b) ≡ v → (b ≡ 60) ⊎ (b ≡ 93) ⊎ (b ≡ 37)
    by true u v e f g = inl (sym (eqb-true 60 b e))
    by false true v e f g = inr (inl (sym (eqb-true 93 b f)))
    by false false true e f g = inr (inr (sym (eqb-true 37 b g)))
    by false false false e f g =
        never (wants (recognised s m.Ds net (b ∷ []))) h
        (ds-settled s net (b ∷ []) (verdict-fails s m.Ds net d.Mdo (b ∷ []) (head-fails 60 (33 ∷ []) b [] e))
        (verdict-fails s m.Ds net d.Pio (b ∷ []) (head-fails 60 (63 ∷ []) b [] e))
        (verdict-fails s m.Ds net d.Msc (b ∷ []) (head-fails 93 (93 ∷ []) b [] f))
        (verdict-fails s m.Ds net d.Pero (b ∷ []) (head-fails 37 [] b [] g)) (dsc-told s net b []))

abbrev Pair : ℕ → ℕ → ℕ → ℕ → List ℕ → Type 0
Pair x y b c bytes = ((b ≡ x) × (c ≡ y)) ⊎ (prefix_verdict (x ∷ y ∷ []) (b ∷ c ∷ bytes) ≡ Fails)

pair : (x y b c : ℕ) (bytes : List ℕ) → Pair x y b c bytes
pair x y b c bytes = by (x == b) (y == c) refl refl
  where
    by : (t u : Bool) → (x == b) ≡ t → (y == c) ≡ u → Pair x y b c bytes
    by true true e f = inl (sym (eqb-true x b e), sym (eqb-true y c f))
    by true false e f = inr (ap (λ t. if t then prefix_verdict (y ∷ []) (c ∷ bytes) else Fails) e ∙ head-fails y [] c bytes f)
    by false u e f = inr (head-fails x (y ∷ []) b (c ∷ bytes) e)

pub two-want : (s : Syntax) (net : Bool) (b c : ℕ) → wants (recognised s m.Ds net (b ∷ c ∷ [])) ≡ true → ((b ≡ 60) × (c ≡ 33)) ⊎ ((b ≡ 93) × (c ≡ 93))
two-want s net b c h = by (pair 60 33 b c []) (pair 93 93 b c [])
  where
    by : Pair 60 33 b c [] → Pair 93 93 b c [] → ((b ≡ 60) × (c ≡ 33)) ⊎ ((b ≡ 93) × (c ≡ 93))
    by (inl e) q = inl e
    by (inr f) (inl e) = inr e
    by (inr f) (inr g) =
        never (wants (recognised s m.Ds net (b ∷ c ∷ []))) h
        (ds-settled s net (b ∷ c ∷ []) (verdict-fails s m.Ds net d.Mdo (b ∷ c ∷ []) f) (pio-told s net b c [])
        (verdict-fails s m.Ds net d.Msc (b ∷ c ∷ []) g) (pero-told s net b c []) (dsc-told s net b (c ∷ [])))

pub three-want : (s : Syntax) (net : Bool) (b c e : ℕ) → wants (recognised s m.Ds net (b ∷ c ∷ e ∷ [])) ≡ true → (b ≡ 60) × (c ≡ 33) × (e ≡ 45)
three-want s net b c e h = by (pair 60 33 b c (e ∷ [])) (e == 45) refl
  where
    told : is_undecided (verdict s m.Ds net d.Mdo (b ∷ c ∷ e ∷ [])) ≡ false → (b ≡ 60) × (c ≡ 33) × (e ≡ 45)
    told mdo =
        never (wants (recognised s m.Ds net (b ∷ c ∷ e ∷ []))) h
        (ds-settled s net (b ∷ c ∷ e ∷ []) mdo (pio-told s net b c (e ∷ []))
        (verdict-by s m.Ds net d.Msc (b ∷ c ∷ e ∷ []) (omega arith) (follow-one s Mdc e [] refl))
        (pero-told s net b c (e ∷ [])) (dsc-told s net b (c ∷ e ∷ [])))

    by : Pair 60 33 b c (e ∷ []) → (t : Bool) → (e == 45) ≡ t → (b ≡ 60) × (c ≡ 33) × (e ≡ 45)
    by (inl q) true f = (q.0, q.1, eqb-true e 45 f)
    by (inl q) false f = told (verdict-by s m.Ds net d.Mdo (b ∷ c ∷ e ∷ []) (omega arith) (follow-other s e f))
    by (inr g) t f = told (verdict-fails s m.Ds net d.Mdo (b ∷ c ∷ e ∷ []) g)
