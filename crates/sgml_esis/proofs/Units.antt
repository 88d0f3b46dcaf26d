-- Text with escapes: its grammar, its spelling and its reading agree.
use Rattle.std.proofs.Common.{◌≡◌, ◌≢◌, ℕ, ◌+◌, ◌-◌, ◌*◌, ◌/◌, ◌%◌, ◌<◌, ◌≤◌, ◌⊎◌, inl, inr, List, [], ◌∷◌, ◌++◌, refl, sym, ap, ◌∙◌, arith, append_assoc, append-nil, cond, Bool, true, false, ◌==◌, nat_lt, not, ◌&&◌, Option, None, Some}
use Rattle.std.proofs.lemmas.Bool.{eqb-true, eqb-false, ltb-false}
use Rattle.std.proofs.lemmas.Bool.Decides.{nat_tests}
use Rattle.std.specs.List.{list_all}
use Rattle.std.proofs.lemmas.List.Folds.{list_all-append}
use Rattle.sgml_esis.specs.declared.line.EscUnit.{EscUnit}
use Rattle.sgml_esis.specs.declared.line.EscUnit.TheVariants as units
use Rattle.sgml_esis.specs.declared.escapes.Mode.{Mode}
use Rattle.sgml_esis.specs.declared.escapes.Mode.TheVariants as modes
use Rattle.sgml_esis.specs.Grammar.{IsPlain, IsBackslash, IsRecordEnd, IsOctal, IsUnit, AreUnits, is_paired, IsText, is_none}
use Rattle.sgml_esis.specs.Spelling.{spell_byte, spell_unit, spell_escaped}
use Rattle.sgml_esis.specs.Reading.{on_some, is_inner, unit_in, mode_in, ended, units_on, paired_only, text_of}

pub guard : {A : Type 0} (t : Bool) (x : A) (r : Option A) → cond t None r ≡ Some x → (t ≡ false) × (r ≡ Some x)
guard true x r h = absurd (cc)
guard false x r h = (refl, h)

pub pick : {A : Type 0} (t : Bool) (x y : A) (z : A) → cond t x y ≡ z → ((t ≡ true) × (x ≡ z)) ⊎ ((t ≡ false) × (y ≡ z))
pick true x y z h = inl (refl, h)
pick false x y z h = inr (refl, h)

pub chosen : {A : Type 0} (t : Bool) (x y : A) → cond t (Some x) None ≡ Some y → (t ≡ true) × (x ≡ y)
chosen true x y h = (refl, cc)
chosen false x y h = absurd (cc)

pub some_is : {A : Type 0} (x y : A) → Some x ≡ Some y → x ≡ y
some_is x y h = cc

plain_spelled : (b : ℕ) → 32 ≤ b → b ≢ 92 → spell_byte b ≡ b ∷ []
plain_spelled b h ne = grind (arith, nat_tests)

octal_spelled : (b middle low : ℕ) → b < 32 → b ≢ 13 → low < 8 → b ≡ 8 * middle + low → spell_byte b ≡ 92 ∷ 48 ∷ (48 + middle) ∷ (48 + low) ∷ []
octal_spelled b middle low small ne l is =
    let digits : spell_byte b ≡ 92 ∷ 48 ∷ (48 + b / 8) ∷ (48 + b % 8) ∷ [] = grind (arith, nat_tests) in
    let m : b / 8 ≡ middle = omega arith in
    let r : b % 8 ≡ low = omega arith in
    digits ∙ ap (λ v. 92 ∷ 48 ∷ (48 + v) ∷ (48 + b % 8) ∷ []) m ∙ ap (λ v. 92 ∷ 48 ∷ (48 + middle) ∷ (48 + v) ∷ []) r

byte_spelled : (b : ℕ) (bytes : List ℕ) → IsPlain b bytes ⊎ (IsBackslash b bytes ⊎ (IsRecordEnd b bytes ⊎ IsOctal b bytes)) → bytes ≡ spell_byte b
byte_spelled b bytes (inl p) = p.2 ∙ sym (plain_spelled b p.0 p.1)
byte_spelled b bytes (inr (inl p)) = p.1 ∙ sym (ap spell_byte p.0)
byte_spelled b bytes (inr (inr (inl p))) = p.1 ∙ sym (ap spell_byte p.0)
byte_spelled b bytes (inr (inr (inr p))) = p.6 ∙ sym (octal_spelled b p.2 p.3 p.0 p.1 p.4 p.5)

unit_spelled : (u : EscUnit) (bytes : List ℕ) → IsUnit u bytes → bytes ≡ spell_unit u
unit_spelled (units.Byte b) bytes h = byte_spelled b bytes h
unit_spelled units.Bar bytes h = h

pub units_spelled : (us : List EscUnit) (bytes : List ℕ) → AreUnits us bytes → bytes ≡ spell_escaped us
units_spelled [] bytes h = h
units_spelled (u ∷ us) bytes (front, rest, is, unit, more) =
    is ∙ ap (λ v. v ++ rest) (unit_spelled u front unit) ∙ ap (λ v. spell_unit u ++ v) (units_spelled us rest more)

byte_is : (b : ℕ) → IsUnit (units.Byte b) (spell_byte b)
byte_is b =
    let P : Bool → Type 0 = λ t. (b == 92) ≡ t → IsUnit (units.Byte b) (spell_byte b) in
    let yes : P true = λ h. let e : b ≡ 92 = eqb-true b 92 h in inr (inl (e, ap spell_byte e)) in
    let Q : Bool → Type 0 = λ t. (b == 13) ≡ t → (b == 92) ≡ false → IsUnit (units.Byte b) (spell_byte b) in
    let re : Q true = λ h k. let e : b ≡ 13 = eqb-true b 13 h in inr (inr (inl (e, ap spell_byte e))) in
    let R : Bool → Type 0 = λ t. nat_lt b 32 ≡ t → (b == 13) ≡ false → (b == 92) ≡ false → IsUnit (units.Byte b) (spell_byte b) in
    let octal : R true = λ h k j.
    let small : b < 32 = grind (arith, nat_tests) in
    let ne : b ≢ 13 = grind (arith, nat_tests) in
    let low : b % 8 < 8 = omega arith in
    let is : b ≡ 8 * (b / 8) + b % 8 = omega arith in
    inr (inr (inr (small, ne, b / 8, b % 8, low, is, octal_spelled b (b / 8) (b % 8) small ne low is))) in
    let plain : R false = λ h k j.
    let large : 32 ≤ b = grind (arith, nat_tests) in
    let ne : b ≢ 92 = grind (arith, nat_tests) in
    inl (large, ne, plain_spelled b large ne) in
    let other : Q false = λ h k. (elim (nat_lt b 32) as R [ true ↦ octal | false ↦ plain ]) refl h k in
    let isnt : P false = λ h. (elim (b == 13) as Q [ true ↦ re | false ↦ other ]) refl h in
    (elim (b == 92) as P [ true ↦ yes | false ↦ isnt ]) refl

unit_is : (u : EscUnit) → IsUnit u (spell_unit u)
unit_is (units.Byte b) = byte_is b
unit_is units.Bar = refl

pub units_are : (us : List EscUnit) → AreUnits us (spell_escaped us)
units_are [] = refl
units_are (u ∷ us) = (spell_unit u, spell_escaped us, refl, unit_is u, units_are us)

-- Reading gives the units of a spelling.
after_unit : (done : List EscUnit) (mode : Mode) (b : ℕ) (rest : List ℕ) (u : EscUnit) → unit_in mode b ≡ Some u → units_on done mode (b ∷ rest) ≡ units_on (done ++ u ∷ []) modes.Plain rest
after_unit done mode b rest u h =
    ap (λ v. on_some v (λ w. units_on (done ++ w ∷ []) modes.Plain rest) (on_some (mode_in mode b) (λ next. units_on done next rest) None)) h

after_mode : (done : List EscUnit) (mode : Mode) (b : ℕ) (rest : List ℕ) (next : Mode) → unit_in mode b ≡ None → mode_in mode b ≡ Some next → units_on done mode (b ∷ rest) ≡ units_on done next rest
after_mode done mode b rest next h k =
    ap (λ v. on_some v (λ w. units_on (done ++ w ∷ []) modes.Plain rest) (on_some (mode_in mode b) (λ m. units_on done m rest) None)) h ∙ ap (λ v. on_some v (λ m. units_on done m rest) None) k

octal_read : (done : List EscUnit) (middle low : ℕ) (rest : List ℕ) → middle < 4 → low < 8 → 8 * middle + low ≢ 13 → units_on done modes.Octal ((48 + middle) ∷ (48 + low) ∷ rest) ≡ units_on (done ++ units.Byte (8 * middle + low) ∷ []) modes.Plain rest
octal_read done middle low rest m l ne =
    let back : 48 + middle - 48 ≡ middle = omega arith in
    let first : mode_in modes.Octal (48 + middle) ≡ Some (modes.Low (48 + middle - 48)) = grind (arith, nat_tests) in
    let value : 8 * (middle % 4) + (48 + low - 48) ≡ 8 * middle + low = omega arith in
    let second : unit_in (modes.Low middle) (48 + low) ≡ Some (units.Byte (8 * (middle % 4) + (48 + low - 48))) = grind (arith, nat_tests, value) in
    after_mode done modes.Octal (48 + middle) ((48 + low) ∷ rest) (modes.Low middle) refl (first ∙ ap (λ v. Some (modes.Low v)) back)
    ∙ after_unit done (modes.Low middle) (48 + low) rest (units.Byte (8 * middle + low)) (second ∙ ap (λ v. Some (units.Byte v)) value)

-- a byte as its grammar has it is read
unit_read : (done : List EscUnit) (u : EscUnit) (bytes rest : List ℕ) → IsUnit u bytes → units_on done modes.Plain (bytes ++ rest) ≡ units_on (done ++ u ∷ []) modes.Plain rest
unit_read done (units.Byte b) bytes rest (inl p) =
    let h : 32 ≤ b = p.0 in
    let ne : b ≢ 92 = p.1 in
    let e : unit_in modes.Plain b ≡ Some (units.Byte b) = grind (arith, nat_tests) in
    ap (λ v. units_on done modes.Plain (v ++ rest)) p.2 ∙ after_unit done modes.Plain b rest (units.Byte b) e
unit_read done (units.Byte b) bytes rest (inr (inl p)) =
    ap (λ v. units_on done modes.Plain (v ++ rest)) p.1 ∙ ap (λ v. units_on (done ++ units.Byte v ∷ []) modes.Plain rest) (sym p.0)
unit_read done (units.Byte b) bytes rest (inr (inr (inl p))) =
    ap (λ v. units_on done modes.Plain (v ++ rest)) p.1 ∙ ap (λ v. units_on (done ++ units.Byte v ∷ []) modes.Plain rest) (sym p.0)
unit_read done (units.Byte b) bytes rest (inr (inr (inr p))) =
    let small : b < 32 = p.0 in
    let is : b ≡ 8 * p.2 + p.3 = p.5 in
    let m : p.2 < 4 = omega arith in
    let ne : 8 * p.2 + p.3 ≢ 13 = λ e. p.1 (is ∙ e) in
    ap (λ v. units_on done modes.Plain (v ++ rest)) p.6 ∙ octal_read done p.2 p.3 rest m p.4 ne ∙ ap (λ v. units_on (done ++ units.Byte v ∷ []) modes.Plain rest) (sym is)
unit_read done units.Bar bytes rest h = ap (λ v. units_on done modes.Plain (v ++ rest)) h

units_read : (us done : List EscUnit) (bytes : List ℕ) → AreUnits us bytes → units_on done modes.Plain bytes ≡ Some (done ++ us)
units_read [] done bytes h = ap (units_on done modes.Plain) h ∙ ap Some (sym (append-nil done))
units_read (u ∷ us) done bytes (front, rest, is, unit, more) =
    ap (units_on done modes.Plain) is ∙ unit_read done u front rest unit ∙ units_read us (done ++ u ∷ []) rest more ∙ ap Some (append_assoc done (u ∷ []) us)

pub text_read : (text : List EscUnit) (bytes : List ℕ) → IsText text bytes → text_of bytes ≡ Some text
text_read text bytes h =
    ap (λ v. on_some v paired_only None) (units_read text [] bytes h.units) ∙ ap (λ t. cond t (Some text) None) h.paired

-- What was read is spelled so: the bytes of an escape that has begun.
lead : Mode → List ℕ
lead modes.Plain = []
lead modes.Escape = 92 ∷ []
lead modes.Octal = 92 ∷ 48 ∷ []
lead (modes.Low middle) = 92 ∷ 48 ∷ (48 + middle % 4) ∷ []

escape_ends : (b : ℕ) (u : EscUnit) → unit_in modes.Escape b ≡ Some u → spell_unit u ≡ 92 ∷ b ∷ []
escape_ends b u h =
    let third : cond (b == 124) (Some units.Bar) None ≡ Some u → spell_unit u ≡ 92 ∷ b ∷ [] = λ k. elim (pick (b == 124) (Some units.Bar) None (Some u) k) [ inl p ↦ ap spell_unit (sym (some_is units.Bar u p.1)) ∙ ap (λ v. 92 ∷ v ∷ []) (sym (eqb-true b 124 p.0)) | inr p ↦ absurd (let e : None ≡ Some u = p.1 in cc) ] in
    let second : cond (b == 110) (Some (units.Byte 13)) (cond (b == 124) (Some units.Bar) None) ≡ Some u → spell_unit u ≡ 92 ∷ b ∷ [] = λ k. elim (pick (b == 110) (Some (units.Byte 13)) (cond (b == 124) (Some units.Bar) None) (Some u) k) [ inl p ↦ ap spell_unit (sym (some_is (units.Byte 13) u p.1)) ∙ ap (λ v. 92 ∷ v ∷ []) (sym (eqb-true b 110 p.0)) | inr p ↦ third p.1 ] in
    elim (pick (b == 92) (Some (units.Byte 92)) (cond (b == 110) (Some (units.Byte 13)) (cond (b == 124) (Some units.Bar) None)) (Some u) h) [ inl p ↦ ap spell_unit (sym (some_is (units.Byte 92) u p.1)) ∙ ap (λ v. 92 ∷ v ∷ []) (sym (eqb-true b 92 p.0)) | inr p ↦ second p.1 ]

unit_ends : (mode : Mode) (b : ℕ) (u : EscUnit) → unit_in mode b ≡ Some u → spell_unit u ≡ lead mode ++ b ∷ []
unfolding lead
unit_ends modes.Plain b u h =
    let p = guard (b == 92) (u) (cond (nat_lt b 32) None (Some (units.Byte b))) h in
    let q = guard (nat_lt b 32) u (Some (units.Byte b)) p.1 in
    let ne : b ≢ 92 = eqb-false b 92 p.0 in
    ap spell_unit (sym (some_is (units.Byte b) u q.1)) ∙ plain_spelled b (ltb-false b 32 q.0) ne
unit_ends modes.Escape b u h = escape_ends b u h
unit_ends modes.Octal b u h = absurd (cc)
unit_ends (modes.Low middle) b u h =
    let v : ℕ = 8 * (middle % 4) + (b - 48) in
    let p = guard (nat_lt b 48) u (cond (nat_lt 55 b) None (cond (v == 13) None (Some (units.Byte v)))) h in
    let q = guard (nat_lt 55 b) u (cond (v == 13) None (Some (units.Byte v))) p.1 in
    let r = guard (v == 13) u (Some (units.Byte v)) q.1 in
    let low : 48 ≤ b = ltb-false b 48 p.0 in
    let high : b ≤ 55 = ltb-false 55 b q.0 in
    let ne : v ≢ 13 = eqb-false v 13 r.0 in
    let small : v < 32 = omega arith in
    let digit : b - 48 < 8 = omega arith in
    let back : 48 + (b - 48) ≡ b = omega arith in
    ap spell_unit (sym (some_is (units.Byte v) u r.1)) ∙ octal_spelled v (middle % 4) (b - 48) small ne digit refl ∙ ap (λ w. 92 ∷ 48 ∷ (48 + middle % 4) ∷ w ∷ []) back

mode_goes : (mode : Mode) (b : ℕ) (next : Mode) → mode_in mode b ≡ Some next → lead next ≡ lead mode ++ b ∷ []
unfolding lead
mode_goes modes.Plain b next h =
    elim (pick (b == 92) (Some modes.Escape) None (Some next) h) [ inl p ↦ ap lead (sym (some_is modes.Escape next p.1)) ∙ ap (λ v. v ∷ []) (sym (eqb-true b 92 p.0)) | inr p ↦ absurd (let e : None ≡ Some next = p.1 in cc) ]
mode_goes modes.Escape b next h =
    elim (pick (b == 48) (Some modes.Octal) None (Some next) h) [ inl p ↦ ap lead (sym (some_is modes.Octal next p.1)) ∙ ap (λ v. 92 ∷ v ∷ []) (sym (eqb-true b 48 p.0)) | inr p ↦ absurd (let e : None ≡ Some next = p.1 in cc) ]
mode_goes modes.Octal b next h =
    let p = guard (nat_lt b 48) next (cond (nat_lt 51 b) None (Some (modes.Low (b - 48)))) h in
    let q = guard (nat_lt 51 b) next (Some (modes.Low (b - 48))) p.1 in
    let low : 48 ≤ b = ltb-false b 48 p.0 in
    let high : b ≤ 51 = ltb-false 51 b q.0 in
    let back : 48 + (b - 48) % 4 ≡ b = omega arith in
    ap lead (sym (some_is (modes.Low (b - 48)) next q.1)) ∙ ap (λ v. 92 ∷ 48 ∷ v ∷ []) back
mode_goes (modes.Low middle) b next h = absurd (cc)

-- what is read of a text, and how it is spelled
abbrev Spelled : List EscUnit → Mode → List ℕ → List EscUnit → Type 0
Spelled done mode bytes us = (more : List EscUnit) × (us ≡ done ++ more) × (lead mode ++ bytes ≡ spell_escaped more)

ended_spelled : (done : List EscUnit) (mode : Mode) (us : List EscUnit) → ended done mode ≡ Some us → Spelled done mode [] us
unfolding lead
ended_spelled done modes.Plain us h = ([], sym (some_is done us h) ∙ sym (append-nil done), refl)
ended_spelled done modes.Escape us h = absurd (cc)
ended_spelled done modes.Octal us h = absurd (cc)
ended_spelled done (modes.Low middle) us h = absurd (cc)

lead_plain : lead modes.Plain ≡ []
unfolding lead
lead_plain = refl

spelled_on : (bytes : List ℕ) (done : List EscUnit) (mode : Mode) (us : List EscUnit) → units_on done mode bytes ≡ Some us → Spelled done mode bytes us
spelled_on [] done mode us h = ended_spelled done mode us h
spelled_on (b ∷ bs) done mode us h =
    let F : EscUnit → Option (List EscUnit) = λ u. units_on (done ++ u ∷ []) modes.Plain bs in
    let G : Mode → Option (List EscUnit) = λ next. units_on done next bs in
    let R : Type 0 = Spelled done mode (b ∷ bs) us in
    let grown : (front : List ℕ) → front ++ b ∷ bs ≡ (front ++ b ∷ []) ++ bs = λ front. sym (append_assoc front (b ∷ []) bs) in
    let Q : Option Mode → Type 0 = λ o. mode_in mode b ≡ o → on_some o G None ≡ Some us → R in
    let goes : (next : Mode) → Q (Some next) = λ next e k.
    let s = spelled_on bs done next us k in
    (s.0, s.1, grown (lead mode) ∙ ap (λ v. v ++ bs) (sym (mode_goes mode b next e)) ∙ s.2) in
    let P : Option EscUnit → Type 0 = λ o. unit_in mode b ≡ o → on_some o F (on_some (mode_in mode b) G None) ≡ Some us → R in
    let ends : (u : EscUnit) → P (Some u) = λ u e k.
    let s = spelled_on bs (done ++ u ∷ []) modes.Plain us k in
    (u ∷ s.0, s.1 ∙ append_assoc done (u ∷ []) s.0, grown (lead mode) ∙ ap (λ v. v ++ bs) (sym (unit_ends mode b u e)) ∙ ap (λ v. spell_unit u ++ v) (ap (λ v. v ++ bs) (sym lead_plain) ∙ s.2)) in
    let stops : Q None = λ e k. absurd (cc) in
    let other : P None = λ e k. (elim (mode_in mode b) as Q [ None ↦ stops | Some next ↦ goes next ]) refl k in
    (elim (unit_in mode b) as P [ None ↦ other | Some u ↦ ends u ]) refl h

pub text_spelled : (bytes : List ℕ) (text : List EscUnit) → text_of bytes ≡ Some text → IsText text bytes
text_spelled bytes text h =
    let P : Option (List EscUnit) → Type 0 = λ o. units_on [] modes.Plain bytes ≡ o → on_some o paired_only None ≡ Some text → IsText text bytes in
    let none : P None = λ e k. absurd (cc) in
    let some : (us : List EscUnit) → P (Some us) = λ us e k.
    let p = chosen (is_paired us) us text k in
    let s = spelled_on bytes [] modes.Plain us e in
    let is : bytes ≡ spell_escaped us = ap (λ v. v ++ bytes) (sym lead_plain) ∙ s.2 ∙ ap spell_escaped (sym s.1) in
    let a : AreUnits us bytes = rw is (units_are us) in
    let t : IsText us bytes = record { units = a; paired = p.0 } in
    rw (← p.1) t in
    (elim (units_on [] modes.Plain bytes) as P [ None ↦ none | Some us ↦ some us ]) refl h

-- a unit has a byte
pub unit_some : (u : EscUnit) (front rest : List ℕ) → IsUnit u front → is_none (front ++ rest) ≡ false
unit_some (units.Byte b) front rest (inl p) = ap (λ v. is_none (v ++ rest)) p.2
unit_some (units.Byte b) front rest (inr (inl p)) = ap (λ v. is_none (v ++ rest)) p.1
unit_some (units.Byte b) front rest (inr (inr (inl p))) = ap (λ v. is_none (v ++ rest)) p.1
unit_some (units.Byte b) front rest (inr (inr (inr p))) = ap (λ v. is_none (v ++ rest)) p.6
unit_some units.Bar front rest h = ap (λ v. is_none (v ++ rest)) h

-- no byte of a text is an LF
pub inner_from : (b : ℕ) → 11 ≤ b → is_inner b ≡ true
inner_from b h =
    let P : Bool → Type 0 = λ t. (b == 10) ≡ t → not t ≡ true in
    let yes : P true = λ e. let i : b ≡ 10 = eqb-true b 10 e in absurd (omega (arith, i, h)) in
    let isnt : P false = λ e. refl in
    (elim (b == 10) as P [ true ↦ yes | false ↦ isnt ]) refl

pub inner_both : (xs ys : List ℕ) → list_all is_inner xs ≡ true → list_all is_inner ys ≡ true → list_all is_inner (xs ++ ys) ≡ true
inner_both xs ys h k = list_all-append is_inner xs ys ∙ ap (λ t. t && list_all is_inner ys) h ∙ k

octal_inner : (middle low : ℕ) → list_all is_inner (92 ∷ 48 ∷ (48 + middle) ∷ (48 + low) ∷ []) ≡ true
octal_inner middle low =
    let m : 11 ≤ 48 + middle = omega arith in
    let l : 11 ≤ 48 + low = omega arith in
    ap (λ t. t && (is_inner (48 + low) && true)) (inner_from (48 + middle) m) ∙ ap (λ t. t && true) (inner_from (48 + low) l)

unit_inner : (u : EscUnit) (front : List ℕ) → IsUnit u front → list_all is_inner front ≡ true
unit_inner (units.Byte b) front (inl p) = let h : 32 ≤ b = p.0 in let k : 11 ≤ b = omega arith in ap (list_all is_inner) p.2 ∙ ap (λ t. t && true) (inner_from b k)
unit_inner (units.Byte b) front (inr (inl p)) = ap (list_all is_inner) p.1
unit_inner (units.Byte b) front (inr (inr (inl p))) = ap (list_all is_inner) p.1
unit_inner (units.Byte b) front (inr (inr (inr p))) = ap (list_all is_inner) p.6 ∙ octal_inner p.2 p.3
unit_inner units.Bar front h = ap (list_all is_inner) h

pub units_inner : (us : List EscUnit) (bytes : List ℕ) → AreUnits us bytes → list_all is_inner bytes ≡ true
units_inner [] bytes h = ap (list_all is_inner) h
units_inner (u ∷ us) bytes (front, rest, is, unit, more) = ap (list_all is_inner) is ∙ inner_both front rest (unit_inner u front unit) (units_inner us rest more)
