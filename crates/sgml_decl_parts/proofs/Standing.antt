-- A sign begins nothing else: it is no separator and no name character.
use Rattle.std.proofs.Common.{◌≡◌, ℕ, Bool, true, false, List, [], ◌∷◌, Option, None, Some, Ok, refl, sym, ◌∙◌, ap, subst, if◌then◌else◌, ◌==◌, eqb-true}
use Rattle.sgml_text.specs.declared.name_set.NameSet.{NameSet}
use Rattle.sgml_text.specs.NameCharacters.{is_marked}
use Rattle.sgml_text.specs.Characters.{is_separator, is_letter, is_digit, is_quote}
use Rattle.sgml_delim.specs.declared.delim.Delim.{Delim}
use Rattle.sgml_delim.specs.declared.delim.Delim.TheVariants as d
use Rattle.sgml_decl_parts.specs.declared.part.Part.TheVariants.{Sign, Quote}
use Rattle.sgml_decl_parts.specs.Parts.{mark_of, group_sign, outer_sign, or_syntax, common_at, inner_at, closing_at, minus_at, outer_at}

-- whatever sign it is
abbrev IsSign : NameSet → ℕ → List ℕ → Type 0
IsSign names b bytes = ((b == 45) ≡ false) × ((s : Option Delim) → common_at names s b bytes ≡ or_syntax s)

unmarked : (marks : List Bool) (b : ℕ) → (b == 45) ≡ false → (b == 46) ≡ false → (b == 95) ≡ false → (b == 58) ≡ false → is_marked marks b ≡ false
unmarked [] b e f g h = refl
unmarked (m ∷ []) b e f g h = refl
unmarked (m ∷ s ∷ []) b e f g h = refl
unmarked (m ∷ s ∷ l ∷ []) b e f g h = refl
unmarked (m ∷ s ∷ l ∷ c ∷ []) b e f g h = rw (e, f, g, h) refl
unmarked (m ∷ s ∷ l ∷ c ∷ x ∷ xs) b e f g h = refl

sign-at : (names : NameSet) (b : ℕ) (bytes : List ℕ) → is_separator b ≡ false → is_letter b ≡ false → is_digit b ≡ false
    → (b == 45) ≡ false → (b == 46) ≡ false → (b == 95) ≡ false → (b == 58) ≡ false → (b == 35) ≡ false → (b == 37) ≡ false → IsSign names b bytes
sign-at names b bytes separator letter digit minus stop low_line colon hash percent = (
  minus,
  λ s.
      rw (separator, letter, digit, unmarked names.start b minus stop low_line colon, unmarked names.more b minus stop low_line colon, hash, percent) refl,
)

one-of : (names : NameSet) (b n : ℕ) (bytes : List ℕ) (e s : Delim) (rest : Option Delim) → IsSign names n bytes → (rest ≡ Some s → IsSign names b bytes)
    → (if b == n then Some e else rest) ≡ Some s → IsSign names b bytes
one-of names b n bytes e s rest at more is = by (b == n) refl is
  where
    by : (t : Bool) → (b == n) ≡ t → (if t then Some e else rest) ≡ Some s → IsSign names b bytes
    by true same is = subst (λ (m : ℕ). IsSign names m bytes) (sym (eqb-true b n same)) at
    by false other is = more is

mark-sign : (names : NameSet) (b : ℕ) (bytes : List ℕ) (s : Delim) → mark_of b ≡ Some s → IsSign names b bytes
mark-sign names b bytes s =
    one-of names b 63 bytes d.Opt s (if b == 42 then Some d.Rep else None) (sign-at names 63 bytes refl refl refl refl refl refl refl refl refl)
    (one-of names b 42 bytes d.Rep s None (sign-at names 42 bytes refl refl refl refl refl refl refl refl refl) (λ e. cc e))

group-sign : (names : NameSet) (b : ℕ) (bytes : List ℕ) (s : Delim) → group_sign b ≡ Some s → IsSign names b bytes
group-sign names b bytes s =
    one-of names b 40 bytes d.Grpo s _ (sign-at names 40 bytes refl refl refl refl refl refl refl refl refl)
    (one-of names b 41 bytes d.Grpc s _ (sign-at names 41 bytes refl refl refl refl refl refl refl refl refl)
    (one-of names b 44 bytes d.Seq s _ (sign-at names 44 bytes refl refl refl refl refl refl refl refl refl)
    (one-of names b 124 bytes d.Or s _ (sign-at names 124 bytes refl refl refl refl refl refl refl refl refl)
    (one-of names b 38 bytes d.And s _ (sign-at names 38 bytes refl refl refl refl refl refl refl refl refl)
    (one-of names b 43 bytes d.Plus s (mark_of b) (sign-at names 43 bytes refl refl refl refl refl refl refl refl refl)
    (mark-sign names b bytes s))))))

if-mark : (after_group : Bool) (names : NameSet) (b : ℕ) (bytes : List ℕ) (s : Delim) → (if after_group then mark_of b else None) ≡ Some s → IsSign names b bytes
if-mark true names b bytes s is = mark-sign names b bytes s is
if-mark false names b bytes s is = cc is

-- all but `-`, which may begin a comment
outer-sign : (after_group : Bool) (names : NameSet) (b : ℕ) (bytes : List ℕ) (s : Delim) → (b == 45) ≡ false → outer_sign after_group b ≡ Some s → IsSign names b bytes
outer-sign after_group names b bytes s other =
    one-of names b 40 bytes d.Grpo s _ (sign-at names 40 bytes refl refl refl refl refl refl refl refl refl)
    (one-of names b 91 bytes d.Dso s _ (sign-at names 91 bytes refl refl refl refl refl refl refl refl refl)
    (λ is. one-of names b 43 bytes d.Plus s (if after_group then mark_of b else None) (sign-at names 43 bytes refl refl refl refl refl refl refl refl refl)
    (if-mark after_group names b bytes s) (rw other at is)))

pub inner_sign : (names : NameSet) (b : ℕ) (bytes : List ℕ) (s : Delim) → group_sign b ≡ Some s → Ok (Sign s) ≡ inner_at names b bytes
inner_sign names b bytes s is =
    let sign = group-sign names b bytes s is in
    let minus : (b == 45) ≡ false = sign.0 in
    let at = sign.1 (group_sign b) ∙ ap or_syntax is in
    rw minus (sym at)

differs : (b n : ℕ) → (b ≡ n → ⊥) → (b == n) ≡ false
differs b n other = by (b == n) refl
  where
    by : (t : Bool) → (b == n) ≡ t → t ≡ false
    by true same = absurd (other (eqb-true b n same))
    by false is = refl

none-of : {A : Type 0} (p q r : Bool) (v w x o : A) → p ≡ false → q ≡ false → r ≡ false → (if p then v else if q then w else if r then x else o) ≡ o
none-of p q r v w x o e f g = rw (e, f, g) refl

pub sign_outside : (names : NameSet) (base after_group : Bool) (b : ℕ) (bytes : List ℕ) (s : Delim) → (b ≡ 45 → ⊥) → is_quote b ≡ false → (b ≡ 62 → ⊥)
    → outer_sign after_group b ≡ Some s → Ok (Sign s) ≡ outer_at names base after_group b bytes
sign_outside names base after_group b bytes s no_minus quote no_mdc is =
    let minus = differs b 45 no_minus in
    let mdc = differs b 62 no_mdc in
    let sign = outer-sign after_group names b bytes s minus is in
    let at = sign.1 (outer_sign after_group b) ∙ ap or_syntax is in
    sym (none-of (b == 45) (is_quote b) (b == 62) (minus_at bytes) (Ok (Quote b)) (closing_at base bytes) (common_at names (outer_sign after_group b) b bytes) minus quote mdc ∙ at)
