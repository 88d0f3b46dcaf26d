-- In the instance a `]` begins a token in each state: it ends a section or is a character.
use Rattle.std.proofs.Common.{◌≡◌, ℕ, Bool, true, false, ◌==◌, List, [], ◌∷◌, ◌++◌, length, drop, refl, subst, eqb-true}
use Rattle.std.specs.List.{list_all}
use Rattle.sgml_text.specs.declared.reason.Reason.{Reason}
use Rattle.sgml_syntax.specs.declared.syntax.Syntax.{Syntax}
use Rattle.sgml_delim.specs.declared.delim.Delim.{Delim}
use Rattle.sgml_delim.specs.declared.delim.Delim.TheVariants as d
use Rattle.sgml_delim.specs.declared.delim.Mode.{Mode}
use Rattle.sgml_delim.specs.declared.delim.Mode.TheVariants as m
use Rattle.sgml_delim.specs.declared.delim.Recognised.{Recognised}
use Rattle.sgml_delim.specs.declared.delim.Recognised.TheVariants as r
use Rattle.sgml_delim.specs.Tables.{string, begins, stands, delims}
use Rattle.sgml_delim.specs.Answers as delimiters
use Rattle.sgml_delim.proofs.Found.{found-stands}
use Rattle.sgml_scan.specs.shortref.declared.matching.Matched.{Matched}
use Rattle.sgml_scan.specs.shortref.declared.matching.Matched.TheVariants as matched
use Rattle.sgml_scan.specs.declared.state.ScanState.{ScanState}
use Rattle.sgml_scan.specs.declared.state.Scanned.{Scanned}
use Rattle.sgml_scan.specs.declared.state.Scanned.TheVariants.{BadToken}
use Rattle.sgml_scan.specs.Classes.{class_of}
use Rattle.sgml_scan.specs.Openings.{opening, matches_strings}
use Rattle.sgml_scan.specs.Tokens.{opened, IsOfClass, IsMatchedToken, IsUndelimited, IsToken, IsScanned}
use Rattle.sgml_theory_starts.specs.theory_spelling.Content.{first_of}
use Rattle.sgml_prolog_steps.proofs.Top.{apart}
use Rattle.sgml_content_steps.specs.Modes.{is_of_instance}
use Rattle.sgml_content_steps.proofs.Whole.{among-all, found-among, stands-begins}

abbrev IsBad : Scanned → Type 0
IsBad (BadToken e) = Unit {0}
IsBad _ = ⊥

-- the end of a document type begins with a `]` too
abbrev is_in_instance : Delim → Bool
is_in_instance d.Dsc = false
is_in_instance _ = true

delims-in : (mode : Mode) → is_of_instance mode ≡ true → list_all is_in_instance (delims mode) ≡ true
delims-in m.Con e = refl
delims-in m.Rcd e = refl
delims-in m.Cdt e = refl
delims-in m.Rcs e = refl
delims-in m.Cds e = refl
delims-in m.Ign e = refl
delims-in _ e = apart false e refl

begun-good : (s : Syntax) (mode : Mode) (ended : Bool) (bytes : List ℕ) (x : Delim) → is_in_instance x ≡ true → begins (string x) (93 ∷ bytes) ≡ true
    → IsBad (opened s ended (93 ∷ bytes) (opening mode x (drop (length (string x)) (93 ∷ bytes)))) → ⊥
begun-good s mode ended bytes d.Msc i b h = h
begun-good s mode ended bytes d.Dsc i b h = apart false i refl
begun-good s mode ended bytes _ i b h = apart false b refl

class-good : (s : Syntax) (st : ScanState) (ended : Bool) (bytes : List ℕ) (x : Scanned) → is_of_instance st.mode ≡ true
    → IsOfClass s st ended (93 ∷ bytes) x (class_of st.mode 93) → IsBad x → ⊥
class-good s st ended bytes x e h bad = by st.mode e h
  where
    by : (mode : Mode) → is_of_instance mode ≡ true → IsOfClass s st ended (93 ∷ bytes) x (class_of mode 93) → ⊥
    by m.Con e h = subst IsBad h.1 bad
    by m.Rcd e h = subst IsBad h.1 bad
    by m.Cdt e h = subst IsBad h.1 bad
    by m.Rcs e h = subst IsBad h.1 bad
    by m.Cds e h = subst IsBad h.1 bad
    by m.Ign e h = subst IsBad h.1 bad
    by _ e h = apart false e refl

matched-good : (s : Syntax) (st : ScanState) (ended : Bool) (bytes : List ℕ) (y : Matched) (x : Scanned) → is_of_instance st.mode ≡ true
    → IsMatchedToken s st ended (93 ∷ bytes) y x → IsBad x → ⊥
matched-good s st ended bytes matched.NeedMore x e h bad = subst IsBad h bad
matched-good s st ended bytes (matched.String i n) x e h bad = subst IsBad h bad
matched-good s st ended bytes matched.Plain x e h bad = class-good s st ended bytes x e h bad

undelimited-good : (s : Syntax) (st : ScanState) (ended : Bool) (bytes : List ℕ) (maps : Bool) (x : Scanned) → is_of_instance st.mode ≡ true
    → IsUndelimited maps s st ended (93 ∷ bytes) x → IsBad x → ⊥
undelimited-good s st ended bytes true x e h bad = matched-good s st ended bytes h.matched x e h.token bad
undelimited-good s st ended bytes false x e h bad = class-good s st ended bytes x e h bad

scanned-good : (s : Syntax) (st : ScanState) (ended : Bool) (bytes : List ℕ) (x : Scanned) → is_of_instance st.mode ≡ true
    → IsScanned s st ended (93 ∷ bytes) x → IsBad x → ⊥
scanned-good s st ended bytes x e h bad = by h.recognised h.answers h.token
  where
    by : (o : Recognised) → delimiters.Answers ended (delimiters.answer s st.mode st.net) (93 ∷ bytes) o → IsToken s st ended (93 ∷ bytes) o x → ⊥
    by r.NeedMore a t = subst IsBad t bad
    by (r.Found y size) a t =
        begun-good s st.mode ended bytes y
        (among-all is_in_instance (delims st.mode) y (delims-in st.mode e) (found-among (λ z. stands s st.mode st.net z ((93 ∷ bytes) ++ [])) (delims st.mode) y (a.1 [] (λ u. refl))))
        (stands-begins s st.mode st.net y (93 ∷ bytes) (found-stands s st.mode st.net ended (93 ∷ bytes) y size a))
        (subst IsBad t bad)
    by r.Plain a t = undelimited-good s st ended bytes (matches_strings st) x e t bad

-- so what is refused begins with another byte
pub refused-other : (s : Syntax) (st : ScanState) (ended : Bool) (bytes : List ℕ) (e : Reason) → is_of_instance st.mode ≡ true
    → IsScanned s st ended bytes (BadToken e) → (first_of bytes == 93) ≡ false
refused-other s st ended [] e i h = refl
refused-other s st ended (b ∷ bytes) e i h = by (b == 93) refl
  where
    by : (t : Bool) → (b == 93) ≡ t → (b == 93) ≡ false
    by false p = p
    by true p = absurd (scanned-good s st ended bytes (BadToken e) i (subst (λ c. IsScanned s st ended (c ∷ bytes) (BadToken e)) (eqb-true b 93 p) h) tt)
