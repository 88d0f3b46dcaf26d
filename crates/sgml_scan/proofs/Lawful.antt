-- What holds of tokens by their definition: where they lie, that they are one, and that they stay.
use Rattle.std.proofs.Common.{◌≡◌, ℕ, zero, suc, Bool, true, false, List, [], ◌∷◌, ◌+◌, ◌-◌, ◌<◌, ◌≤◌, Option, None, Some, Result, Ok, Err, length, drop, take, refl, sym, ◌∙◌, ap, subst, if◌then◌else◌, ◌==◌, arith}
use Rattle.std.specs.List.{list_all}
use Rattle.std.proofs.lemmas.List.{length-drop, append-nil}
use Rattle.sgml_text.specs.declared.reason.Reason.{Reason}
use Rattle.sgml_text.specs.declared.reason.Reason.TheVariants as reason
use Rattle.sgml_syntax.specs.declared.syntax.Syntax.{Syntax}
use Rattle.sgml_delim.specs.declared.delim.Delim.{Delim}
use Rattle.sgml_delim.specs.declared.delim.Delim.TheVariants as d
use Rattle.sgml_delim.specs.declared.delim.Mode.{Mode}
use Rattle.sgml_delim.specs.declared.delim.Mode.TheVariants as m
use Rattle.sgml_delim.specs.declared.delim.Recognised.{Recognised}
use Rattle.sgml_delim.specs.declared.delim.Recognised.TheVariants as r
use Rattle.sgml_delim.specs.Tables.{string, need, stands, is_nothing}
use Rattle.sgml_delim.specs.Answers as delimiters
use Rattle.sgml_shortref.specs.declared.matching.Matched.{Matched}
use Rattle.sgml_shortref.specs.declared.matching.Matched.TheVariants as matched
use Rattle.sgml_shortref.specs.declared.matching.Next.{Next}
use Rattle.sgml_shortref.specs.declared.matching.Next.TheVariants as next
use Rattle.sgml_shortref.specs.Strings.{is_blank}
use Rattle.sgml_shortref.specs.Matches as strings
use Rattle.sgml_markup.specs.declared.kinds.Form.{Form}
use Rattle.sgml_markup.specs.declared.kinds.Form.TheVariants as form
use Rattle.sgml_markup.specs.declared.kinds.TokenKind.{TokenKind}
use Rattle.sgml_text.specs.Characters.{is_sgml_character}
use Rattle.sgml_markup.specs.Ends.{end_of}
use Rattle.sgml_markup.specs.Forms.{before, judged}
use Rattle.sgml_delim.proofs.Deciding.{true-false, found-length}
use Rattle.sgml_delim.proofs.Found.{found-stands, stands-after}
use Rattle.sgml_markup.proofs.Ending.{Within, end-within}
use Rattle.sgml_scan.specs.declared.classes.Run.{Run}
use Rattle.sgml_scan.specs.declared.classes.Class.{Class}
use Rattle.sgml_scan.specs.declared.classes.Class.TheVariants as class
use Rattle.sgml_scan.specs.declared.state.ScanState.{ScanState}
use Rattle.sgml_scan.specs.declared.state.Scanned.{Scanned}
use Rattle.sgml_scan.specs.declared.state.Scanned.TheVariants.{BadToken}
use Rattle.sgml_scan.specs.declared.state.Opening.{Opening}
use Rattle.sgml_scan.specs.declared.state.Opening.TheVariants.{Markup, Whole}
use Rattle.sgml_scan.specs.Classes.{is_scanned, class_of, run_of}
use Rattle.sgml_scan.specs.Openings.{opening, declared_opening, matches_strings, NoDelimiter, NoString}
use Rattle.sgml_scan.specs.Tokens.{IsOne, IsStretch, IsOfClass, IsPlainToken, IsMatchedToken, IsUndelimited, open_ended, of_judged, closed, opened, HasRoom, IsToken, IsScanned, IsWithin}
use Rattle.sgml_scan.proofs.Standing.{opening-room, one-length}

-- where tokens lie

-- a whole token lies in the text, and the delimiter of markup does
abbrev Lies : List ℕ → Opening → Type 0
Lies bytes (Whole k n) = (0 < n) × (n ≤ length bytes)
Lies bytes (Markup f) = before f ≤ length bytes

section-need : (mode : Mode) → is_scanned mode ≡ true → is_nothing (need mode d.Msc) ≡ false
section-need m.Con c = refl
section-need m.Rcd c = refl
section-need m.Cdt c = refl
section-need m.Rcs c = refl
section-need m.Cds c = refl
section-need m.Ign c = refl
section-need m.Ds c = refl
section-need _ c = absurd (true-false c)

three-there : (s : Syntax) (mode : Mode) (net : Bool) (x : Delim) (bytes : List ℕ) → length (string x) ≡ 2
    → is_nothing (need mode x) ≡ false → stands s mode net x bytes ≡ true → 3 ≤ length bytes
three-there s mode net x bytes two n h =
    let after = stands-after s mode net x bytes n h in
    let len = length-drop (length (string x)) bytes in
    omega (arith, after, len, two)

mdo-lies : (s : Syntax) (mode : Mode) (net : Bool) (bytes xs : List ℕ) → stands s mode net d.Mdo bytes ≡ true
    → HasRoom bytes (declared_opening mode xs) → Lies bytes (declared_opening mode xs)
mdo-lies s m.Ign net bytes xs h room =
    let three = three-there s m.Ign net d.Mdo bytes refl refl h in
    (omega arith, three)
mdo-lies s _ net bytes xs h room = room

opening-lies : (s : Syntax) (mode : Mode) (net : Bool) (x : Delim) (bytes : List ℕ) → is_scanned mode ≡ true
    → stands s mode net x bytes ≡ true → length (string x) ≤ length bytes
    → Lies bytes (opening mode x (drop (length (string x)) bytes))
opening-lies s mode net d.Mdo bytes c h l = mdo-lies s mode net bytes (drop 2 bytes) h (opening-room mode d.Mdo bytes l)
opening-lies s mode net d.Msc bytes c h l =
    let three = three-there s mode net d.Msc bytes refl (section-need mode c) h in
    (omega arith, three)
opening-lies s mode net d.Net bytes c h l = (omega arith, l)
opening-lies s mode net d.Stago bytes c h l = l
opening-lies s mode net d.Etago bytes c h l = l
opening-lies s mode net d.Ero bytes c h l = l
opening-lies s mode net d.Cro bytes c h l = l
opening-lies s mode net d.Pero bytes c h l = l
opening-lies s mode net d.Pio bytes c h l = l
opening-lies s mode net d.Dsc bytes c h l = l
opening-lies s mode net d.Com bytes c h l = (omega arith, omega (arith, l))
opening-lies s mode net _ bytes c h l = (omega arith, l)

before-some : (f : Form) → 0 < before f
before-some form.StartTag = omega arith
before-some form.EndTag = omega arith
before-some form.EntityReference = omega arith
before-some form.ParameterReference = omega arith
before-some form.CharacterReference = omega arith
before-some form.Instruction = omega arith
before-some form.CommentDeclaration = omega arith
before-some form.SectionStart = omega arith
before-some form.Declaration = omega arith
before-some form.SubsetEnd = omega arith

judged-within : (size n : ℕ) (j : Result TokenKind Reason) → 0 < n → n ≤ size → IsWithin size (of_judged n j)
judged-within size n (Ok k) g h = (g, h)
judged-within size n (Err e) g h = tt

open-within : (size : ℕ) (ended : Bool) (bytes : List ℕ) → IsWithin size (open_ended ended bytes)
open-within size false bytes = tt
open-within size true bytes = by_sgml (list_all is_sgml_character bytes)
  where
    by_sgml : (t : Bool) → IsWithin size (if t then BadToken reason.Unclosed else BadToken reason.NonSgml)
    by_sgml true = tt
    by_sgml false = tt

closed-within : (s : Syntax) (ended : Bool) (bytes : List ℕ) (f : Form) (o : Option ℕ) → before f ≤ length bytes
    → Within o (length (drop (before f) bytes)) → IsWithin (length bytes) (closed s ended bytes f o)
closed-within s ended bytes f None room h = open-within (length bytes) ended bytes
closed-within s ended bytes f (Some n) room h =
    let low = h n refl in
    let len = length-drop (before f) bytes in
    let some = before-some f in
    judged-within (length bytes) (before f + n) (judged s f (take (before f + n) bytes)) (omega (arith, some)) (omega (arith, low, len, room))

opened-within : (s : Syntax) (ended : Bool) (bytes : List ℕ) (o : Opening) → Lies bytes o → IsWithin (length bytes) (opened s ended bytes o)
opened-within s ended bytes (Whole k n) h = h
opened-within s ended bytes (Markup f) h =
    closed-within s ended bytes f (end_of s f ended (drop (before f) bytes)) h (end-within s f ended (drop (before f) bytes))

-- strings
blanks-within : (bytes : List ℕ) → strings.blanks bytes ≤ length bytes
blanks-within [] = omega arith
blanks-within (b ∷ bytes) = by_blank (is_blank b) (blanks-within bytes)
  where
    by_blank : (t : Bool) → strings.blanks bytes ≤ length bytes → (if t then 1 + strings.blanks bytes else 0) ≤ suc (length bytes)
    by_blank true h = omega (arith, h)
    by_blank false h = omega arith

end-after-blanks : (bytes : List ℕ) → strings.is_record_end (strings.next_after bytes) ≡ true → strings.blanks bytes < length bytes
end-after-blanks [] e = absurd (true-false e)
end-after-blanks (b ∷ bytes) e = by_blank (is_blank b) (λ f. end-after-blanks bytes f) e
  where
    by_blank : (t : Bool) → (strings.is_record_end (strings.next_after bytes) ≡ true → strings.blanks bytes < length bytes)
        → strings.is_record_end (if t then strings.next_after bytes else if b == 13 then next.RecordEnd else next.Other) ≡ true
        → (if t then 1 + strings.blanks bytes else 0) < suc (length bytes)
    by_blank true h f = let low = h f in omega (arith, low)
    by_blank false h f = omega arith

-- so long a string at the head of a text
abbrev Fits : List ℕ → ℕ × ℕ → Type 0
Fits bytes p = (0 < p.1) × (p.1 ≤ length bytes)

start-fits : (bytes : List ℕ) (b k : ℕ) (n : Next) → k ≤ length bytes → (strings.is_record_end n ≡ true → k < length bytes)
    → Fits (b ∷ bytes) (strings.after_start k n)
start-fits bytes b k next.RecordEnd low end = by_none (k == 0)
  where
    by_none : (t : Bool) → Fits (b ∷ bytes) (if t then (4, 2) else (5, k + 2))
    by_none true = let e = end refl in (omega arith, omega (arith, e))
    by_none false = let e = end refl in (omega arith, omega (arith, e))
start-fits bytes b k _ low end = by_none (k == 0)
  where
    by_none : (t : Bool) → Fits (b ∷ bytes) (if t then (2, 1) else (3, k + 1))
    by_none true = (omega arith, omega arith)
    by_none false = (omega arith, omega (arith, low))

blank-fits : (bytes : List ℕ) (b k : ℕ) (n : Next) → k ≤ length bytes → (strings.is_record_end n ≡ true → k < length bytes)
    → Fits (b ∷ bytes) (strings.from_blank b k n)
blank-fits bytes b k next.RecordEnd low end = let e = end refl in (omega arith, omega (arith, e))
blank-fits bytes b k _ low end = by_none (k == 0) (b == 9)
  where
    by_none : (t u : Bool) → Fits (b ∷ bytes) (if t then (if u then (0, 1) else (7, 1)) else (8, k + 1))
    by_none true true = (omega arith, omega arith)
    by_none true false = (omega arith, omega arith)
    by_none false u = (omega arith, omega (arith, low))

hyphens-fit : (bytes : List ℕ) (b : ℕ) → Fits (b ∷ bytes) (strings.hyphens bytes)
hyphens-fit [] b = (omega arith, omega arith)
hyphens-fit (c ∷ bytes) b = by_hyphen (c == 45)
  where
    by_hyphen : (t : Bool) → Fits (b ∷ c ∷ bytes) (if t then (19, 2) else (18, 1))
    by_hyphen true = (omega arith, omega arith)
    by_hyphen false = (omega arith, omega arith)

some-pair : (p q : ℕ × ℕ) → Some p ≡ Some q → p ≡ q
some-pair p q e = ap (λ o. or_zero o) e
  where
    or_zero : Option (ℕ × ℕ) → ℕ × ℕ
    or_zero None = (0, 0)
    or_zero (Some x) = x

no-pair : {A : Type 0} (q : ℕ × ℕ) → None ≡ Some q → A
no-pair q e = absurd (none-is-not-some q e)
  where
    none-is-not-some : (x : ℕ × ℕ) → None ≡ Some x → ⊥
    none-is-not-some x e = cc

sign-fits : (bytes : List ℕ) (b : ℕ) (table : List (ℕ × ℕ)) (p : ℕ × ℕ) → strings.sign_in table b ≡ Some p → Fits (b ∷ bytes) p
sign-fits bytes b [] p e = no-pair p e
sign-fits bytes b (sign ∷ more) p e = by_sign (sign.0 == b) (λ f. sign-fits bytes b more p f) e
  where
    by_sign : (t : Bool) → (strings.sign_in more b ≡ Some p → Fits (b ∷ bytes) p)
        → (if t then Some (sign.1, 1) else strings.sign_in more b) ≡ Some p → Fits (b ∷ bytes) p
    by_sign true h f = subst (λ x. Fits (b ∷ bytes) x) (some-pair (sign.1, 1) p f) (omega arith, omega arith)
    by_sign false h f = h f

string-fits : (bytes : List ℕ) (p : ℕ × ℕ) → strings.answer bytes ≡ Some p → Fits bytes p
string-fits [] p e = no-pair p e
string-fits (b ∷ bytes) p e = by_byte (b == 10) (is_blank b) (b == 45) e
  where
    by_byte : (t u v : Bool) → strings.answer_from t u v b bytes ≡ Some p → Fits (b ∷ bytes) p
    by_byte true u v f =
        subst (λ x. Fits (b ∷ bytes) x) (some-pair (strings.after_start (strings.blanks bytes) (strings.next_after bytes)) p f)
        (start-fits bytes b (strings.blanks bytes) (strings.next_after bytes) (blanks-within bytes) (λ g. end-after-blanks bytes g))
    by_byte false true v f =
        subst (λ x. Fits (b ∷ bytes) x) (some-pair (strings.from_blank b (strings.blanks bytes) (strings.next_after bytes)) p f)
        (blank-fits bytes b (strings.blanks bytes) (strings.next_after bytes) (blanks-within bytes) (λ g. end-after-blanks bytes g))
    by_byte false false true f =
        subst (λ x. Fits (b ∷ bytes) x) (some-pair (strings.hyphens bytes) p f) (hyphens-fit bytes b)
    by_byte false false false f = sign-fits bytes b strings.signs p f

-- stretches
run-there : (s : Syntax) (st : ScanState) (ended : Bool) (run : Run) (bytes : List ℕ) (n : ℕ) → IsOne s st ended run bytes
    → IsStretch s st ended run bytes n → 0 < n
run-there s st ended run bytes zero one h = absurd (h.longest one)
run-there s st ended run bytes (suc n) one h = omega arith

stretch-within : (s : Syntax) (st : ScanState) (ended : Bool) (run : Run) (bytes : List ℕ) (n : ℕ) → 0 < n
    → IsStretch s st ended run bytes n → n ≤ length bytes
stretch-within s st ended run bytes n some h =
    let i = n - 1 in
    let below : i < n = omega (arith, some) in
    let there = one-length s st ended run (drop i bytes) (h.each i below) in
    let len = length-drop i bytes in
    omega (arith, there, len, some)

class-within : (s : Syntax) (st : ScanState) (ended : Bool) (b : ℕ) (bytes : List ℕ) (scanned : Scanned) (k : Class)
    → class_of st.mode b ≡ k → NoDelimiter s st ended (b ∷ bytes) → NoString (matches_strings st) ended (b ∷ bytes)
    → IsOfClass s st ended (b ∷ bytes) scanned k → IsWithin (length (b ∷ bytes)) scanned
class-within s st ended b bytes scanned (class.Stretch run) e dels strs h =
    let one : IsOne s st ended run (b ∷ bytes) = record { byte = ap run_of e; delimiter = dels; string = strs } in
    let some = run-there s st ended run (b ∷ bytes) h.0 one h.2 in
    subst (λ x. IsWithin (length (b ∷ bytes)) x) (sym h.1) (some, stretch-within s st ended run (b ∷ bytes) h.0 some h.2)
class-within s st ended b bytes scanned (class.Single k) e dels strs h =
    subst (λ x. IsWithin (length (b ∷ bytes)) x) (sym h) (omega arith, omega arith)
class-within s st ended b bytes scanned class.NonSgml e dels strs h =
    subst (λ x. IsWithin (length (b ∷ bytes)) x) (sym h) tt

plain-within : (s : Syntax) (st : ScanState) (ended : Bool) (bytes : List ℕ) (scanned : Scanned) → NoDelimiter s st ended bytes
    → NoString (matches_strings st) ended bytes → IsPlainToken s st ended bytes scanned → IsWithin (length bytes) scanned
plain-within s st ended [] scanned dels strs h = absurd h
plain-within s st ended (b ∷ bytes) scanned dels strs h =
    class-within s st ended b bytes scanned (class_of st.mode b) refl dels strs h

matched-within : (s : Syntax) (st : ScanState) (ended : Bool) (bytes : List ℕ) (x : Matched) (scanned : Scanned) → NoDelimiter s st ended bytes
    → matches_strings st ≡ true → strings.Answers ended strings.answer bytes x → IsMatchedToken s st ended bytes x scanned
    → IsWithin (length bytes) scanned
matched-within s st ended bytes matched.NeedMore scanned dels on a h = subst (λ x. IsWithin (length bytes) x) (sym h) tt
matched-within s st ended bytes (matched.String i n) scanned dels on a h =
    subst (λ x. IsWithin (length bytes) x) (sym h)
    (string-fits bytes (i, n) (ap strings.answer (sym (append-nil bytes)) ∙ a [] (λ t. refl)))
matched-within s st ended bytes matched.Plain scanned dels on a h =
    plain-within s st ended bytes scanned dels (subst (λ t. NoString t ended bytes) (sym on) a) h

undelimited-within : (s : Syntax) (st : ScanState) (ended : Bool) (bytes : List ℕ) (scanned : Scanned) (t : Bool) → matches_strings st ≡ t
    → NoDelimiter s st ended bytes → IsUndelimited t s st ended bytes scanned → IsWithin (length bytes) scanned
undelimited-within s st ended bytes scanned true e dels h = matched-within s st ended bytes h.matched scanned dels e h.answers h.token
undelimited-within s st ended bytes scanned false e dels h =
    plain-within s st ended bytes scanned dels (subst (λ t. NoString t ended bytes) (sym e) tt) h

by-recognised-within : (s : Syntax) (st : ScanState) (ended : Bool) (bytes : List ℕ) (x : Recognised) (scanned : Scanned)
    → is_scanned st.mode ≡ true → delimiters.Answers ended (delimiters.answer s st.mode st.net) bytes x
    → IsToken s st ended bytes x scanned → IsWithin (length bytes) scanned
by-recognised-within s st ended bytes r.NeedMore scanned c a h = subst (λ x. IsWithin (length bytes) x) (sym h) tt
by-recognised-within s st ended bytes (r.Found x n) scanned c a h =
    subst (λ y. IsWithin (length bytes) y) (sym h)
    (opened-within s ended bytes (opening st.mode x (drop (length (string x)) bytes))
    (opening-lies s st.mode st.net x bytes c (found-stands s st.mode st.net ended bytes x n a)
    (found-length s st.mode st.net ended bytes x n a)))
by-recognised-within s st ended bytes r.Plain scanned c a h =
    undelimited-within s st ended bytes scanned (matches_strings st) refl a h

pub scanned-within : (s : Syntax) (st : ScanState) (ended : Bool) (bytes : List ℕ) (scanned : Scanned) → is_scanned st.mode ≡ true
    → IsScanned s st ended bytes scanned → IsWithin (length bytes) scanned
scanned-within s st ended bytes scanned c h = by-recognised-within s st ended bytes h.recognised scanned c h.answers h.token
