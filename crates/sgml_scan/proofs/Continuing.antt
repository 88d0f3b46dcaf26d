-- What is decided stays, whatever follows.
use Rattle.std.proofs.Common.{◌≡◌, ℕ, Bool, true, false, List, [], ◌∷◌, ◌++◌, ◌+◌, ◌<◌, ◌≤◌, Option, None, Some, length, drop, refl, sym, ◌∙◌, ap, subst, arith}
use Rattle.std.proofs.lemmas.List.{append_assoc, drop-append-le, take-append-le, length-drop}
use Rattle.sgml_syntax.specs.declared.syntax.Syntax.{Syntax}
use Rattle.sgml_delim.specs.declared.delim.Delim.{Delim}
use Rattle.sgml_delim.specs.declared.delim.Delim.TheVariants as d
use Rattle.sgml_delim.specs.declared.delim.Mode.{Mode}
use Rattle.sgml_delim.specs.declared.delim.Mode.TheVariants as m
use Rattle.sgml_delim.specs.declared.delim.Recognised.{Recognised}
use Rattle.sgml_delim.specs.declared.delim.Recognised.TheVariants as r
use Rattle.sgml_delim.specs.Tables.{string, need, stands, is_nothing}
use Rattle.sgml_delim.specs.Answers as delimiters
use Rattle.sgml_shortref.specs.declared.matching.Matched.{Matched}
use Rattle.sgml_shortref.specs.declared.matching.Matched.TheVariants as matched
use Rattle.sgml_shortref.specs.Matches as strings
use Rattle.sgml_markup.specs.declared.kinds.Form.{Form}
use Rattle.sgml_markup.specs.Ends.{end_of}
use Rattle.sgml_markup.specs.Forms.{before, judged}
use Rattle.sgml_delim.proofs.Deciding.{true-false, found-length}
use Rattle.sgml_delim.proofs.Found.{found-stands, stands-after, found-goes-on, plain-goes-on}
use Rattle.sgml_markup.proofs.Ending.{Within, end-kept, end-within}
use Rattle.sgml_delim.proofs.Ending.{Kept}
use Rattle.sgml_scan.specs.declared.classes.Run.{Run}
use Rattle.sgml_scan.specs.declared.classes.Class.{Class}
use Rattle.sgml_scan.specs.declared.classes.Class.TheVariants as class
use Rattle.sgml_scan.specs.declared.state.ScanState.{ScanState}
use Rattle.sgml_scan.specs.declared.state.Scanned.{Scanned}
use Rattle.sgml_scan.specs.declared.state.Scanned.TheVariants.{NeedMore}
use Rattle.sgml_scan.specs.declared.state.Opening.{Opening}
use Rattle.sgml_scan.specs.declared.state.Opening.TheVariants.{Markup, Whole}
use Rattle.sgml_scan.specs.Classes.{is_scanned, class_of, run_kind}
use Rattle.sgml_scan.specs.Openings.{opening, declared_opening, matches_strings, NoString}
use Rattle.sgml_scan.specs.Tokens.{token, IsOne, IsStretch, IsOfClass, IsPlainToken, IsMatchedToken, IsMatched, IsUndelimited, of_judged, closed, opened, HasRoom, IsToken, IsScanned}
use Rattle.sgml_scan.proofs.Standing.{opening-room, one-length}

-- markup that ends in the text
closed-stays : (s : Syntax) (ended : Bool) (bytes rest : List ℕ) (f : Form) (o p : Option ℕ) → before f ≤ length bytes
    → Kept o p → Within o (length (drop (before f) bytes)) → (closed s false bytes f o ≡ NeedMore → ⊥)
    → closed s ended (bytes ++ rest) f p ≡ closed s false bytes f o
closed-stays s ended bytes rest f None p room kept within decided = absurd (decided refl)
closed-stays s ended bytes rest f (Some n) p room kept within decided =
    let bound = within n refl in
    let len = length-drop (before f) bytes in
    ap (closed s ended (bytes ++ rest) f) (kept n refl)
    ∙ ap (λ xs. of_judged (before f + n) (judged s f xs)) (take-append-le (before f + n) bytes rest (omega (arith, bound, len, room)))

opened-stays : (s : Syntax) (ended : Bool) (bytes rest : List ℕ) (o : Opening) → HasRoom bytes o
    → (opened s false bytes o ≡ NeedMore → ⊥) → opened s ended (bytes ++ rest) o ≡ opened s false bytes o
opened-stays s ended bytes rest (Whole k n) room decided = refl
opened-stays s ended bytes rest (Markup f) room decided =
    ap (λ xs. closed s ended (bytes ++ rest) f (end_of s f ended xs)) (drop-append-le (before f) bytes rest room)
    ∙ closed-stays s ended bytes rest f (end_of s f false (drop (before f) bytes)) (end_of s f ended (drop (before f) bytes ++ rest)) room
    (end-kept s f ended (drop (before f) bytes) rest) (end-within s f false (drop (before f) bytes)) decided

declared-need : (mode : Mode) → is_scanned mode ≡ true → is_nothing (need mode d.Mdo) ≡ false
declared-need m.Con c = refl
declared-need m.Rcd c = refl
declared-need m.Cdt c = refl
declared-need m.Rcs c = refl
declared-need m.Cds c = refl
declared-need m.Ign c = refl
declared-need m.Ds c = refl
declared-need _ c = absurd (true-false c)

-- what a delimiter begins, once the text goes on after it
declared-stays : (mode : Mode) (xs ys : List ℕ) → 0 < length xs → declared_opening mode (xs ++ ys) ≡ declared_opening mode xs
declared-stays m.Ign xs ys l = refl
declared-stays _ [] ys l = absurd (omega (arith, l))
declared-stays _ (b ∷ xs) ys l = refl

pub opening-stays : (s : Syntax) (mode : Mode) (net : Bool) (x : Delim) (bytes rest : List ℕ) → is_scanned mode ≡ true
    → stands s mode net x bytes ≡ true → length (string x) ≤ length bytes
    → opening mode x (drop (length (string x)) (bytes ++ rest)) ≡ opening mode x (drop (length (string x)) bytes)
opening-stays s mode net d.Mdo bytes rest c h l =
    ap (declared_opening mode) (drop-append-le 2 bytes rest l)
    ∙ declared-stays mode (drop 2 bytes) rest (stands-after s mode net d.Mdo bytes (declared-need mode c) h)
opening-stays s mode net d.Msc bytes rest c h l = refl
opening-stays s mode net d.Net bytes rest c h l = refl
opening-stays s mode net d.Stago bytes rest c h l = refl
opening-stays s mode net d.Etago bytes rest c h l = refl
opening-stays s mode net d.Ero bytes rest c h l = refl
opening-stays s mode net d.Cro bytes rest c h l = refl
opening-stays s mode net d.Pero bytes rest c h l = refl
opening-stays s mode net d.Pio bytes rest c h l = refl
opening-stays s mode net d.Dsc bytes rest c h l = refl
opening-stays s mode net _ bytes rest c h l = refl

-- a byte of a stretch stays one
none-run : {A : Type 0} (run : Run) → None ≡ Some run → A
none-run run e = absurd (none-is-not-some e)
  where
    none-is-not-some : None ≡ Some run → ⊥
    none-is-not-some e = cc

string-goes-on : (t ended : Bool) (bytes rest : List ℕ) → NoString t false bytes → NoString t ended (bytes ++ rest)
string-goes-on false ended bytes rest h = tt
string-goes-on true ended bytes rest h =
    λ more f. ap strings.answer (append_assoc bytes rest more) ∙ h (rest ++ more) (λ t. absurd (true-false t))

one-goes-on : (s : Syntax) (st : ScanState) (ended : Bool) (run : Run) (bytes rest : List ℕ)
    → IsOne s st false run bytes → IsOne s st ended run (bytes ++ rest)
one-goes-on s st ended run [] rest h = none-run run h.byte
one-goes-on s st ended run (b ∷ bytes) rest h = record {
  byte = h.byte;
  delimiter = plain-goes-on ended (delimiters.answer s st.mode st.net) (b ∷ bytes) rest h.delimiter;
  string = string-goes-on (matches_strings st) ended (b ∷ bytes) rest h.string;
}

pub ones-stay : (s : Syntax) (st : ScanState) (ended : Bool) (run : Run) (bytes rest : List ℕ) (n : ℕ)
    → IsStretch s st false run bytes n → (i : ℕ) → i < n → IsOne s st ended run (drop i (bytes ++ rest))
ones-stay s st ended run bytes rest n h i l =
    let some = one-length s st false run (drop i bytes) (h.each i l) in
    let len = length-drop i bytes in
    subst (λ xs. IsOne s st ended run xs) (sym (drop-append-le i bytes rest (omega (arith, some, len))))
    (one-goes-on s st ended run (drop i bytes) rest (h.each i l))

-- tokens stay
class-stays : (s : Syntax) (st : ScanState) (ended : Bool) (bytes rest : List ℕ) (scanned : Scanned) (k : Class)
    → ((run : Run) (n : ℕ) → scanned ≡ token (run_kind run) n → ⊥) → IsOfClass s st false bytes scanned k
    → IsOfClass s st ended (bytes ++ rest) scanned k
class-stays s st ended bytes rest scanned (class.Stretch run) other h = absurd (other run h.0 h.1)
class-stays s st ended bytes rest scanned (class.Single k) other h = h
class-stays s st ended bytes rest scanned class.NonSgml other h = h

plain-stays : (s : Syntax) (st : ScanState) (ended : Bool) (bytes rest : List ℕ) (scanned : Scanned)
    → ((run : Run) (n : ℕ) → scanned ≡ token (run_kind run) n → ⊥) → IsPlainToken s st false bytes scanned
    → IsPlainToken s st ended (bytes ++ rest) scanned
plain-stays s st ended [] rest scanned other h = absurd h
plain-stays s st ended (b ∷ bytes) rest scanned other h = class-stays s st ended (b ∷ bytes) rest scanned (class_of st.mode b) other h

pub matched-goes-on : (ended : Bool) (bytes rest : List ℕ) (x : Matched) → (x ≡ matched.NeedMore → ⊥) → strings.Answers false strings.answer bytes x
    → strings.Answers ended strings.answer (bytes ++ rest) x
matched-goes-on ended bytes rest matched.NeedMore n a = absurd (n refl)
matched-goes-on ended bytes rest (matched.String i k) n a =
    λ more f. ap strings.answer (append_assoc bytes rest more) ∙ a (rest ++ more) (λ t. absurd (true-false t))
matched-goes-on ended bytes rest matched.Plain n a =
    λ more f. ap strings.answer (append_assoc bytes rest more) ∙ a (rest ++ more) (λ t. absurd (true-false t))

string-need : (i n : ℕ) → matched.String i n ≡ matched.NeedMore → ⊥
string-need i n e = cc

plain-need : matched.Plain ≡ matched.NeedMore → ⊥
plain-need e = cc

by-matched-stays : (s : Syntax) (st : ScanState) (ended : Bool) (bytes rest : List ℕ) (x : Matched) (scanned : Scanned)
    → (scanned ≡ NeedMore → ⊥) → ((run : Run) (n : ℕ) → scanned ≡ token (run_kind run) n → ⊥)
    → strings.Answers false strings.answer bytes x → IsMatchedToken s st false bytes x scanned → IsMatched s st ended (bytes ++ rest) scanned
by-matched-stays s st ended bytes rest matched.NeedMore scanned decided other a h = absurd (decided h)
by-matched-stays s st ended bytes rest (matched.String i n) scanned decided other a h = record {
  matched = matched.String i n;
  answers = matched-goes-on ended bytes rest (matched.String i n) (string-need i n) a;
  token = h;
}
by-matched-stays s st ended bytes rest matched.Plain scanned decided other a h = record {
  matched = matched.Plain;
  answers = matched-goes-on ended bytes rest matched.Plain plain-need a;
  token = plain-stays s st ended bytes rest scanned other h;
}

undelimited-stays : (s : Syntax) (st : ScanState) (ended : Bool) (bytes rest : List ℕ) (scanned : Scanned) (t : Bool)
    → (scanned ≡ NeedMore → ⊥) → ((run : Run) (n : ℕ) → scanned ≡ token (run_kind run) n → ⊥)
    → IsUndelimited t s st false bytes scanned → IsUndelimited t s st ended (bytes ++ rest) scanned
undelimited-stays s st ended bytes rest scanned true decided other h =
    by-matched-stays s st ended bytes rest h.matched scanned decided other h.answers h.token
undelimited-stays s st ended bytes rest scanned false decided other h = plain-stays s st ended bytes rest scanned other h

by-recognised-stays : (s : Syntax) (st : ScanState) (ended : Bool) (bytes rest : List ℕ) (x : Recognised) (scanned : Scanned)
    → is_scanned st.mode ≡ true → (scanned ≡ NeedMore → ⊥) → ((run : Run) (n : ℕ) → scanned ≡ token (run_kind run) n → ⊥)
    → delimiters.Answers false (delimiters.answer s st.mode st.net) bytes x → IsToken s st false bytes x scanned
    → IsScanned s st ended (bytes ++ rest) scanned
by-recognised-stays s st ended bytes rest r.NeedMore scanned c decided other a h = absurd (decided h)
by-recognised-stays s st ended bytes rest (r.Found x n) scanned c decided other a h =
    let low = found-length s st.mode st.net false bytes x n a in
    let o = opening st.mode x (drop (length (string x)) bytes) in
    record {
      recognised = r.Found x n;
      answers = found-goes-on ended (delimiters.answer s st.mode st.net) bytes rest x n a;
      token =
          h
          ∙ sym (opened-stays s ended bytes rest o (opening-room st.mode x bytes low) (λ e. decided (h ∙ e)))
          ∙ ap (opened s ended (bytes ++ rest))
          (sym (opening-stays s st.mode st.net x bytes rest c (found-stands s st.mode st.net false bytes x n a) low));
    }
by-recognised-stays s st ended bytes rest r.Plain scanned c decided other a h = record {
  recognised = r.Plain;
  answers = plain-goes-on ended (delimiters.answer s st.mode st.net) bytes rest a;
  token = undelimited-stays s st ended bytes rest scanned (matches_strings st) decided other h;
}

pub scanned-stays : (s : Syntax) (st : ScanState) (ended : Bool) (bytes rest : List ℕ) (scanned : Scanned) → is_scanned st.mode ≡ true
    → IsScanned s st false bytes scanned → (scanned ≡ NeedMore → ⊥) → ((run : Run) (n : ℕ) → scanned ≡ token (run_kind run) n → ⊥)
    → IsScanned s st ended (bytes ++ rest) scanned
scanned-stays s st ended bytes rest scanned c h decided other =
    by-recognised-stays s st ended bytes rest h.recognised scanned c decided other h.answers h.token
