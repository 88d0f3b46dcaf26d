-- The number of a selfcheck is that of a book.
use Rattle.std.proofs.Common.{◌≡◌, ℕ, ◌≤◌, ◌⊎◌, inl, inr, List, refl, sym, ap, ◌∙◌, arith, cond, Bool, true, false, ◌&&◌, Option, None, Some}
use Rattle.std.proofs.lemmas.Bool.Decides.{nat_tests}
use Rattle.std.specs.Prelude.{codes, bytes_eq, option_map, option_and_then, unwrap_or}
use Rattle.std.specs.Str.Parse.{digits_value}
use Rattle.sgml_words.specs.Words.{Text, Use, value_in}
use Rattle.sgml_words.specs.Numbers.{is_decimal, is_within, number_in, begins_with_zero, selfcheck_number}
use Rattle.sgml_words.specs.Told.{◌>>=◌, file_told, mode_named, mode_told, catalog_told, limits_told, told}
use Rattle.sgml_words.specs.Uses.{given, command_of}
use Rattle.sgml_words.specs.declared.mode.Mode.{Mode}
use Rattle.sgml_words.specs.declared.mode.Mode.TheVariants as modes
use Rattle.sgml_words.specs.declared.command.Command.{Command}

-- what a chain of options took
bound : {A B : Type 0} (o : Option A) (f : A → Option B) (y : B) → (o >>= f) ≡ Some y → (x : A) × (o ≡ Some x) × (f x ≡ Some y)
bound None f y h = absurd (cc)
bound (Some x) f y h = (x, refl, h)

chosen : {A : Type 0} (t : Bool) (x y : A) → ((t ≡ true) × (cond t x y ≡ x)) ⊎ ((t ≡ false) × (cond t x y ≡ y))
chosen true x y = inl (refl, refl)
chosen false x y = inr (refl, refl)

within : (n : ℕ) → is_within 1 100000 n ≡ true → (1 ≤ n) × (n ≤ 100000)
within n h = (grind (arith, nat_tests), grind (arith, nat_tests))

both : (a b : Bool) → (a && b) ≡ true → b ≡ true
both true b h = h
both false b h = absurd (cc)

number_within : (text : List ℕ) (n : ℕ) → number_in 1 100000 text ≡ Some n → (1 ≤ n) × (n ≤ 100000)
number_within text n h =
    let v : ℕ = digits_value 10 text in
    let t : Bool = is_decimal text && is_within 1 100000 v in
    elim (chosen t (Some v) None) [
      | inl p ↦
          let same : v ≡ n = (let e : Some v ≡ Some n = sym p.1 ∙ h in cc) in
          within n (ap (is_within 1 100000) (sym same) ∙ both (is_decimal text) (is_within 1 100000 v) p.0)
      | inr p ↦ absurd (let e : None ≡ Some n = sym p.1 ∙ h in cc)
    ]

selfcheck_within : (text : List ℕ) (n : ℕ) → selfcheck_number text ≡ Some n → (1 ≤ n) × (n ≤ 100000)
selfcheck_within text n h =
    elim (chosen (begins_with_zero text) None (number_in 1 100000 text)) [
      | inl p ↦ absurd (let e : None ≡ Some n = sym p.1 ∙ h in cc)
      | inr p ↦ number_within text n (sym p.1 ∙ h)
    ]

mapped : (o : Option ℕ) (n : ℕ) → option_map (λ k. modes.Selfcheck k) o ≡ Some (modes.Selfcheck n) → o ≡ Some n
mapped None n h = absurd (cc)
mapped (Some k) n h = let e : k ≡ n = cc in ap Some e

mode_within : (name file : List ℕ) (n : ℕ) → mode_named name file ≡ Some (modes.Selfcheck n) → (1 ≤ n) × (n ≤ 100000)
mode_within name file n h =
    let d : Option Mode = cond (bytes_eq name (codes "selfcheck")) (option_map (λ k. modes.Selfcheck k) (selfcheck_number file)) None in
    let c : Option Mode = cond (bytes_eq name (codes "lines")) (Some modes.Lines) d in
    let b : Option Mode = cond (bytes_eq name (codes "check")) (Some modes.Check) c in
    let a : Option Mode = cond (bytes_eq name (codes "full")) (Some modes.Full) b in
    elim (chosen (bytes_eq name (codes "esis")) (Some modes.Esis) a) [
      | inl p ↦ absurd (let e : Some modes.Esis ≡ Some (modes.Selfcheck n) = sym p.1 ∙ h in cc)
      | inr p ↦ elim (chosen (bytes_eq name (codes "full")) (Some modes.Full) b) [
        | inl o ↦ absurd (let e : Some modes.Full ≡ Some (modes.Selfcheck n) = sym o.1 ∙ sym p.1 ∙ h in cc)
        | inr o ↦ elim (chosen (bytes_eq name (codes "check")) (Some modes.Check) c) [
          | inl q ↦ absurd (let e : Some modes.Check ≡ Some (modes.Selfcheck n) = sym q.1 ∙ sym o.1 ∙ sym p.1 ∙ h in cc)
          | inr q ↦ elim (chosen (bytes_eq name (codes "lines")) (Some modes.Lines) d) [
            | inl r ↦ absurd (let e : Some modes.Lines ≡ Some (modes.Selfcheck n) = sym r.1 ∙ sym q.1 ∙ sym o.1 ∙ sym p.1 ∙ h in cc)
            | inr r ↦ elim (chosen (bytes_eq name (codes "selfcheck")) (option_map (λ k. modes.Selfcheck k) (selfcheck_number file)) None) [
              | inl s ↦ selfcheck_within file n (mapped (selfcheck_number file) n (sym s.1 ∙ sym r.1 ∙ sym q.1 ∙ sym o.1 ∙ sym p.1 ∙ h))
              | inr s ↦ absurd (let e : None ≡ Some (modes.Selfcheck n) = sym s.1 ∙ sym r.1 ∙ sym q.1 ∙ sym o.1 ∙ sym p.1 ∙ h in cc)
            ]
          ]
        ]
      ]
    ]

-- the mode of a command was told for its FILE
mode_of : (value : Text → Option Text) (c : Command) → told value ≡ Some c → (file : Text) × (mode_told file value ≡ Some c.mode)
unfolding told
mode_of value c h =
    let f = bound (file_told value) (λ file. mode_told file value >>= λ mode. catalog_told value >>= λ catalog. limits_told value >>= λ limits. Some (record { mode = mode; catalog = catalog; limits = limits; file = file })) c h in
    let m = bound (mode_told f.0 value) (λ mode. catalog_told value >>= λ catalog. limits_told value >>= λ limits. Some (record { mode = mode; catalog = catalog; limits = limits; file = f.0 })) c f.2 in
    let k = bound (catalog_told value) (λ catalog. limits_told value >>= λ limits. Some (record { mode = m.0; catalog = catalog; limits = limits; file = f.0 })) c m.2 in
    let l = bound (limits_told value) (λ limits. Some (record { mode = m.0; catalog = k.0; limits = limits; file = f.0 })) c k.2 in
    let made : Command = record { mode = m.0; catalog = k.0; limits = l.0; file = f.0 } in
    let same : made ≡ c = (let e : Some made ≡ Some c = l.2 in cc) in
    (f.0, m.1 ∙ ap (λ (v : Command). Some v.mode) same)

taken : (o : Option (List Use)) (f : List Use → Option Command) (c : Command) → option_and_then f o ≡ Some c → (us : List Use) × (f us ≡ Some c)
taken None f c h = absurd (cc)
taken (Some us) f c h = (us, h)

-- THE NUMBER of a selfcheck that words ask for is that of a book
pub selfcheck_is_of_a_book : (words : List Text) (c : Command) (n : ℕ) → command_of words ≡ Some c → c.mode ≡ modes.Selfcheck n → (1 ≤ n) × (n ≤ 100000)
selfcheck_is_of_a_book words c n h m =
    let t = taken (given words) (λ uses. told (value_in uses)) c h in
    let f = mode_of (value_in t.0) c t.1 in
    mode_within (unwrap_or ((value_in t.0) (codes "mode")) (codes "esis")) f.0 n (f.1 ∙ ap Some m)
