-- What stands in stretches.
use Rattle.std.proofs.Common.{◌≡◌, ℕ, Bool, true, false, List, [], ◌∷◌, ◌++◌, ◌+◌, ◌<◌, ◌≤◌, Option, None, Some, length, drop, refl, sym, ◌∙◌, ap, subst, if◌then◌else◌, ◌&&◌, ◌||◌, ◌==◌, arith, eq-eqb, slice_index_or, not, drop-drop, ◌-◌, below_more, ◌⊎◌, inl, inr}
use Rattle.std.proofs.lemmas.List.{length-drop}
use Rattle.std.proofs.lemmas.Bool.{eqb-true, cases_lt}
use Rattle.sgml_syntax.specs.declared.syntax.Syntax.{Syntax}
use Rattle.sgml_delim.specs.declared.delim.Delim.{Delim}
use Rattle.sgml_delim.specs.declared.delim.Delim.TheVariants as d
use Rattle.sgml_delim.specs.declared.delim.Recognised.TheVariants.{Found, Plain, NeedMore}
use Rattle.sgml_delim.specs.declared.delim.Mode.{Mode}
use Rattle.sgml_delim.specs.declared.delim.Mode.TheVariants as m
use Rattle.sgml_delim.specs.Tables.{stands, string, begins, in_force, delims}
use Rattle.sgml_delim.specs.Answers.{Answers, answer, MayFollow}
use Rattle.sgml_delim.proofs.Deciding.{true-false, and-left, and-right, NoneStand, none-stand, begins-other, stands-unforced, stands-unlike}
use Rattle.sgml_markup.proofs.EndLemmas.{drop-at}
use Rattle.sgml_scan.specs.declared.classes.Run.{Run}
use Rattle.sgml_scan.specs.declared.classes.Run.TheVariants as run
use Rattle.sgml_scan.specs.declared.classes.Class.TheVariants.{Stretch, Single, NonSgml}
use Rattle.sgml_markup.specs.declared.kinds.TokenKind.TheVariants as kind
use Rattle.sgml_markup.specs.declared.kinds.Form.TheVariants as form
use Rattle.sgml_markup.specs.Forms.{before}
use Rattle.sgml_shortref.specs.declared.matching.Matched.TheVariants as matched
use Rattle.sgml_shortref.specs.Matches as strings
use Rattle.sgml_scan.specs.declared.state.ScanState.{ScanState}
use Rattle.sgml_scan.specs.Classes.{is_scanned, is_data, class_of, class_in_content, run_of}
use Rattle.sgml_shortref.proofs.Beginning.{none-begins}
use Rattle.sgml_scan.specs.Openings.{matches_strings, is_con, NoString, opening, declared_opening, declared_form}
use Rattle.sgml_scan.specs.Sure.{is_quiet, is_text, is_word, is_content, is_ds, Sure}
use Rattle.sgml_scan.specs.Tokens.{IsOne, HasRoom}

some-none : {x : Delim} (o : Option Delim) → o ≡ Some x → o ≡ None → ⊥
some-none o p q = cc

pub found-not-one : (s : Syntax) (st : ScanState) (ended : Bool) (run : Run) (bytes : List ℕ) (x : Delim) (n : ℕ)
    → Answers ended (answer s st.mode st.net) bytes (Found x n) → IsOne s st ended run bytes → ⊥
found-not-one s st ended run bytes x n a h =
    some-none (answer s st.mode st.net (bytes ++ [])) (a.1 [] (λ t. refl)) (h.delimiter [] (λ t. refl))

pub need-more-not-one : (s : Syntax) (st : ScanState) (ended : Bool) (run : Run) (bytes : List ℕ)
    → Answers ended (answer s st.mode st.net) bytes NeedMore → IsOne s st ended run bytes → ⊥
need-more-not-one s st ended run bytes a h =
    let free : (rest : List ℕ) → MayFollow ended rest = λ rest t. absurd (true-false (sym a.goes_on ∙ t)) in
    a.differ (h.delimiter a.one (free a.one) ∙ sym (h.delimiter a.other (free a.other)))

-- no text is known to begin with no delimiter before its first byte is there
nothing-plain : (s : Syntax) (mode : Mode) (net : Bool) → is_scanned mode ≡ true
    → Answers false (answer s mode net) [] Plain → ⊥
unfolding stands
nothing-plain s m.Con net c a = some-none (answer s m.Con net (60 ∷ 47 ∷ 97 ∷ [])) refl (a (60 ∷ 47 ∷ 97 ∷ []) (λ t. absurd (true-false t)))
nothing-plain s m.Rcd net c a = some-none (answer s m.Rcd net (60 ∷ 47 ∷ 97 ∷ [])) refl (a (60 ∷ 47 ∷ 97 ∷ []) (λ t. absurd (true-false t)))
nothing-plain s m.Cdt net c a = some-none (answer s m.Cdt net (60 ∷ 47 ∷ 97 ∷ [])) refl (a (60 ∷ 47 ∷ 97 ∷ []) (λ t. absurd (true-false t)))
nothing-plain s m.Rcs net c a = some-none (answer s m.Rcs net (38 ∷ 35 ∷ 97 ∷ [])) refl (a (38 ∷ 35 ∷ 97 ∷ []) (λ t. absurd (true-false t)))
nothing-plain s m.Cds net c a = some-none (answer s m.Cds net (93 ∷ 93 ∷ 62 ∷ [])) refl (a (93 ∷ 93 ∷ 62 ∷ []) (λ t. absurd (true-false t)))
nothing-plain s m.Ign net c a = some-none (answer s m.Ign net (60 ∷ 33 ∷ 91 ∷ [])) refl (a (60 ∷ 33 ∷ 91 ∷ []) (λ t. absurd (true-false t)))
nothing-plain s m.Ds net c a = some-none (answer s m.Ds net (60 ∷ 63 ∷ [])) refl (a (60 ∷ 63 ∷ []) (λ t. absurd (true-false t)))
nothing-plain s _ net c a = absurd (true-false c)

pub some-there : (s : Syntax) (mode : Mode) (net ended : Bool) (bytes : List ℕ) → is_scanned mode ≡ true
    → (ended ≡ true → 0 < length bytes) → Answers ended (answer s mode net) bytes Plain → 0 < length bytes
some-there s mode net ended (b ∷ bytes) c some a = omega arith
some-there s mode net true [] c some a = some refl
some-there s mode net false [] c some a = absurd (nothing-plain s mode net c a)

flip-false : (b c : ℕ) → (b == c) ≡ false → (c == b) ≡ false
flip-false b c e = from (c == b) refl
  where
    from : (t : Bool) → (c == b) ≡ t → (c == b) ≡ false
    from false p = p
    from true p = absurd (true-false (sym e ∙ eq-eqb b c (sym (eqb-true c b p))))

pub not-false : (t : Bool) → not t ≡ true → t ≡ false
not-false false e = refl
not-false true e = absurd (true-false e)

-- what a quiet byte isn't
record Quiet (st : ScanState) (b : ℕ) : Type 0 where
  no_lt : (60 == b) ≡ false
  no_amp : (38 == b) ≡ false
  no_bracket : (93 == b) ≡ false
  no_net : (st.net && (b == 47)) ≡ false
  no_pero : (is_ds st.mode && (b == 37)) ≡ false

quiet-is : (st : ScanState) (b : ℕ) → is_quiet st b ≡ true → Quiet st b
quiet-is st b e =
    let q = not (b == 60) in
    let r = not (b == 38) in
    let t = not (b == 93) in
    let u = not (st.net && (b == 47)) in
    let v = not (is_ds st.mode && (b == 37)) in
    let e4 = and-left (q && r && t && u) v e in
    let e3 = and-left (q && r && t) u e4 in
    let e2 = and-left (q && r) t e3 in
    record {
      no_lt = flip-false b 60 (not-false (b == 60) (and-left q r e2));
      no_amp = flip-false b 38 (not-false (b == 38) (and-right q r e2));
      no_bracket = flip-false b 93 (not-false (b == 93) (and-right (q && r) t e3));
      no_net = not-false (st.net && (b == 47)) (and-right (q && r && t) u e4);
      no_pero = not-false (is_ds st.mode && (b == 37)) (and-right (q && r && t && u) v e);
    }

unlike : (s : Syntax) (mode : Mode) (net : Bool) (x : Delim) (c : ℕ) (cs : List ℕ) (b : ℕ) (bytes : List ℕ)
    → string x ≡ c ∷ cs → (c == b) ≡ false → stands s mode net x (b ∷ bytes) ≡ false
unlike s mode net x c cs b bytes is e =
    stands-unlike s mode net x (b ∷ bytes) (ap (λ t. begins t (b ∷ bytes)) is ∙ begins-other c b cs bytes e)

-- no delimiter begins with a quiet byte
quiet-answer : (s : Syntax) (st : ScanState) (b : ℕ) (bytes : List ℕ) → is_scanned st.mode ≡ true → Quiet st b
    → answer s st.mode st.net (b ∷ bytes) ≡ None
quiet-answer s st b bytes c h = by_mode st.mode c h.no_pero
  where
    lt : (k : Mode) (x : Delim) (cs : List ℕ) → string x ≡ 60 ∷ cs → stands s k st.net x (b ∷ bytes) ≡ false
    lt k x cs is = unlike s k st.net x 60 cs b bytes is h.no_lt

    amp : (k : Mode) (x : Delim) (cs : List ℕ) → string x ≡ 38 ∷ cs → stands s k st.net x (b ∷ bytes) ≡ false
    amp k x cs is = unlike s k st.net x 38 cs b bytes is h.no_amp

    bracket : (k : Mode) (x : Delim) (cs : List ℕ) → string x ≡ 93 ∷ cs → stands s k st.net x (b ∷ bytes) ≡ false
    bracket k x cs is = unlike s k st.net x 93 cs b bytes is h.no_bracket

    slash : (k : Mode) (n : Bool) → (n && (b == 47)) ≡ false → in_force s k n d.Net ≡ n → stands s k n d.Net (b ∷ bytes) ≡ false
    slash k true e f = unlike s k true d.Net 47 [] b bytes refl (flip-false b 47 e)
    slash k false e f = stands-unforced s k false d.Net (b ∷ bytes) f

    pero : (b == 37) ≡ false → stands s m.Ds st.net d.Pero (b ∷ bytes) ≡ false
    pero e = unlike s m.Ds st.net d.Pero 37 [] b bytes refl (flip-false b 37 e)

    none : (k : Mode) → NoneStand s k st.net (b ∷ bytes) (delims k) → answer s k st.net (b ∷ bytes) ≡ None
    none k g = none-stand s k st.net (b ∷ bytes) (delims k) g

    by_mode : (k : Mode) → is_scanned k ≡ true → (is_ds k && (b == 37)) ≡ false → answer s k st.net (b ∷ bytes) ≡ None
    by_mode m.Con e f = none m.Con (
      lt m.Con d.Etago (47 ∷ []) refl,
      (
        amp m.Con d.Cro (35 ∷ []) refl,
        (
          lt m.Con d.Mdo (33 ∷ []) refl,
          (
            bracket m.Con d.Msc (93 ∷ []) refl,
            (
              lt m.Con d.Pio (63 ∷ []) refl,
              (
                lt m.Con d.Stago [] refl,
                (
                  amp m.Con d.Ero [] refl,
                  (slash m.Con st.net h.no_net refl, tt),
                ),
              ),
            ),
          ),
        ),
      ),
    )
    by_mode m.Rcd e f = none m.Rcd (
      lt m.Rcd d.Etago (47 ∷ []) refl,
      (
        amp m.Rcd d.Cro (35 ∷ []) refl,
        (
          amp m.Rcd d.Ero [] refl,
          (slash m.Rcd st.net h.no_net refl, tt),
        ),
      ),
    )
    by_mode m.Cdt e f = none m.Cdt (lt m.Cdt d.Etago (47 ∷ []) refl, (slash m.Cdt st.net h.no_net refl, tt))
    by_mode m.Rcs e f = none m.Rcs (
      amp m.Rcs d.Cro (35 ∷ []) refl,
      (bracket m.Rcs d.Msc (93 ∷ []) refl, (amp m.Rcs d.Ero [] refl, tt)),
    )
    by_mode m.Cds e f = none m.Cds (bracket m.Cds d.Msc (93 ∷ []) refl, tt)
    by_mode m.Ign e f = none m.Ign (lt m.Ign d.Mdo (33 ∷ []) refl, (bracket m.Ign d.Msc (93 ∷ []) refl, tt))
    by_mode m.Ds e f = none m.Ds (
      lt m.Ds d.Mdo (33 ∷ []) refl,
      (
        lt m.Ds d.Pio (63 ∷ []) refl,
        (
          bracket m.Ds d.Msc (93 ∷ []) refl,
          (pero f, (bracket m.Ds d.Dsc [] refl, tt)),
        ),
      ),
    )
    by_mode _ e f = absurd (true-false e)

-- a text whose first byte is quiet
pub quiet-at : (s : Syntax) (st : ScanState) (ended : Bool) (text : List ℕ) → is_scanned st.mode ≡ true → 1 ≤ length text
    → is_quiet st (slice_index_or text 0 0) ≡ true → Answers ended (answer s st.mode st.net) text Plain
quiet-at s st ended [] c l h = absurd (omega arith)
quiet-at s st ended (b ∷ bytes) c l h = λ rest f. quiet-answer s st b (bytes ++ rest) c (quiet-is st b h)

no-string : (t ended : Bool) (b : ℕ) (bytes : List ℕ) → (t && strings.begins_string b) ≡ false → NoString t ended (b ∷ bytes)
no-string false ended b bytes e = tt
no-string true ended b bytes e = λ rest f. none-begins b (bytes ++ rest) e

sure-first : (s : Syntax) (st : ScanState) (ended : Bool) (run : Run) (b : ℕ) (bytes : List ℕ) → is_scanned st.mode ≡ true
    → Sure st run b → IsOne s st ended run (b ∷ bytes)
sure-first s st ended run b bytes c h = record {
  byte = h.class;
  delimiter = λ rest f. quiet-answer s st b (bytes ++ rest) c (quiet-is st b h.quiet);
  string = no-string (matches_strings st) ended b bytes h.unmatched;
}

content-class : (b : ℕ) → is_data b ≡ true → run_of (class_in_content b) ≡ Some run.Chars
content-class b e = ap (λ t. run_of (if t then Stretch run.Chars else if b == 13 then Single kind.Re else if b == 10 then Single kind.Rs else NonSgml)) e

-- a sure byte at a place of a text
pub sure-at : (s : Syntax) (st : ScanState) (ended : Bool) (run : Run) (text : List ℕ) (i : ℕ) → is_scanned st.mode ≡ true → i < length text
    → Sure st run (slice_index_or text i 0) → IsOne s st ended run (drop i text)
sure-at s st ended run text i c l h =
    subst (λ xs. IsOne s st ended run xs) (sym (drop-at i text l))
    (sure-first s st ended run (slice_index_or text i 0) (drop (i + 1) text) c h)

below-or-not : (k n : ℕ) → (k < n) ⊎ (n ≤ k)
below-or-not k n = cases_lt k n

-- bytes of a stretch up to a place, and sure ones after it
pub ones-more : (s : Syntax) (st : ScanState) (ended : Bool) (run : Run) (text : List ℕ) (n more : ℕ) → is_scanned st.mode ≡ true
    → n ≤ length text → more ≤ length (drop n text)
    → ((i : ℕ) → i < n → IsOne s st ended run (drop i text))
    → ((i : ℕ) → i < more → Sure st run (slice_index_or (drop n text) i 0))
    → (i : ℕ) → i < n + more → IsOne s st ended run (drop i text)
ones-more s st ended run text n more c l m before after i h =
    elim (below-or-not i n) [ inl e ↦ before i e | inr low ↦ after-at low ]
  where
    after-at : n ≤ i → IsOne s st ended run (drop i text)
    after-at low =
        let j = i - n in
        let is : j + n ≡ i = omega arith in
        subst (λ k. IsOne s st ended run (drop k text)) is
        (subst (λ xs. IsOne s st ended run xs) (drop-drop j n text ∙ ap (λ k. drop k text) (omega arith))
        (sure-at s st ended run (drop n text) j c (omega arith) (after j (omega arith))))

pub ones-step : (s : Syntax) (st : ScanState) (ended : Bool) (run : Run) (text : List ℕ) (n : ℕ)
    → ((i : ℕ) → i < n → IsOne s st ended run (drop i text)) → IsOne s st ended run (drop n text)
    → (i : ℕ) → i < n + 1 → IsOne s st ended run (drop i text)
ones-step s st ended run text n before here = below_more (λ i. IsOne s st ended run (drop i text)) n before here

none-some : (r : Run) → None ≡ Some r → ⊥
none-some r e = cc

pub one-length : (s : Syntax) (st : ScanState) (ended : Bool) (run : Run) (bytes : List ℕ) → IsOne s st ended run bytes → 0 < length bytes
one-length s st ended run [] h = absurd (none-some run h.byte)
one-length s st ended run (b ∷ bytes) h = omega arith

pub one-within : (s : Syntax) (st : ScanState) (ended : Bool) (run : Run) (text : List ℕ) (n : ℕ) → n ≤ length text
    → IsOne s st ended run (drop n text) → n + 1 ≤ length text
one-within s st ended run text n l h =
    let some = one-length s st ended run (drop n text) h in
    let len = length-drop n text in
    omega (arith, some, len)

-- text of content is sure
pub text-class : (mode : Mode) (b : ℕ) → is_content mode ≡ true → is_data b ≡ true → run_of (class_of mode b) ≡ Some run.Chars
text-class m.Con b c e = content-class b e
text-class m.Rcd b c e = content-class b e
text-class m.Cdt b c e = content-class b e
text-class m.Rcs b c e = content-class b e
text-class m.Cds b c e = content-class b e
text-class _ b c e = absurd (true-false c)

pub no-subset : (mode : Mode) → is_content mode ≡ true → is_ds mode ≡ false
no-subset m.Con c = refl
no-subset m.Rcd c = refl
no-subset m.Cdt c = refl
no-subset m.Rcs c = refl
no-subset m.Cds c = refl
no-subset _ c = absurd (true-false c)

and-holds : (a b : Bool) → a ≡ true → b ≡ true → (a && b) ≡ true
and-holds true b e f = f
and-holds false b e f = absurd (true-false e)

sure-by : (st : ScanState) (b : ℕ) → (matches_strings st && strings.begins_string b) ≡ false → is_content st.mode ≡ true
    → is_text st.net b ≡ true → Sure st run.Chars b
sure-by st b f c e =
    let a = is_data b in
    let q = not (b == 60) in
    let r = not (b == 38) in
    let t = not (b == 93) in
    let u = not (st.net && (b == 47)) in
    let e3 = and-left (a && q && r && t) u e in
    let e2 = and-left (a && q && r) t e3 in
    let e1 = and-left (a && q) r e2 in
    record {
      class = text-class st.mode b c (and-left a q e1);
      quiet =
          and-holds (q && r && t && u) (not (is_ds st.mode && (b == 37)))
          (and-holds (q && r && t) u
          (and-holds (q && r) t (and-holds q r (and-right a q e1) (and-right (a && q) r e2)) (and-right (a && q && r) t e3))
          (and-right (a && q && r && t) u e))
          (ap (λ k. not (k && (b == 37))) (no-subset st.mode c));
      unmatched = f;
    }

pub text-sure : (st : ScanState) (b : ℕ) → matches_strings st ≡ false → is_content st.mode ≡ true → is_text st.net b ≡ true
    → Sure st run.Chars b
text-sure st b f c e = sure-by st b (ap (λ t. t && strings.begins_string b) f) c e

-- strings are matched in content alone
con-content : (mode : Mode) → is_con mode ≡ true → is_content mode ≡ true
con-content m.Con c = refl
con-content _ c = absurd (true-false c)

pub matched-content : (st : ScanState) → matches_strings st ≡ true → is_content st.mode ≡ true
matched-content st m = con-content st.mode (and-right st.maps (is_con st.mode) m)

-- so is text with which no string begins
none-both : (a b : Bool) → b ≡ false → (a && b) ≡ false
none-both true b e = e
none-both false b e = refl

pub word-sure : (st : ScanState) (b : ℕ) → matches_strings st ≡ true → is_word st.net b ≡ true → Sure st run.Chars b
word-sure st b m e =
    let none = not-false (strings.begins_string b) (and-right (is_text st.net b) (not (strings.begins_string b)) e) in
    sure-by st b (none-both (matches_strings st) (strings.begins_string b) none) (matched-content st m)
    (and-left (is_text st.net b) (not (strings.begins_string b)) e)

-- a string that stands there, or may, isn't none
string-and-none : {A : Type 0} (i n : ℕ) (o : Option (ℕ × ℕ)) → o ≡ Some (i, n) → o ≡ None → A
string-and-none i n o e f = absurd (not-some-and-none e f)
  where
    not-some-and-none : o ≡ Some (i, n) → o ≡ None → ⊥
    not-some-and-none e f = cc

pub string-not-none : (ended : Bool) (bytes : List ℕ) (i n : ℕ) → strings.Answers ended strings.answer bytes (matched.String i n)
    → NoString true ended bytes → ⊥
string-not-none ended bytes i n a h = string-and-none i n (strings.answer (bytes ++ [])) (a [] (λ t. refl)) (h [] (λ t. refl))

pub undecided-not-none : (ended : Bool) (bytes : List ℕ) → strings.Answers ended strings.answer bytes matched.NeedMore
    → NoString true ended bytes → ⊥
undecided-not-none ended bytes a h =
    let free : (rest : List ℕ) → MayFollow ended rest = λ rest t. absurd (true-false (sym a.goes_on ∙ t)) in
    a.differ (h a.one (free a.one) ∙ sym (h a.other (free a.other)))

-- the delimiter of markup lies in the text
declared-room : (bytes xs : List ℕ) → 2 ≤ length bytes → length xs ≡ length bytes - 2 → before (declared_form xs) ≤ length bytes
declared-room bytes [] l e = l
declared-room bytes (b ∷ xs) l e = by_byte (b == 91) ((b == 45) || (b == 62))
  where
    three : 3 ≤ length bytes
    three = omega (arith, l, e)

    by_byte : (t u : Bool) → before (if t then form.SectionStart else if u then form.CommentDeclaration else form.Declaration) ≤ length bytes
    by_byte true u = three
    by_byte false true = l
    by_byte false false = l

mdo-room : (mode : Mode) (bytes xs : List ℕ) → 2 ≤ length bytes → length xs ≡ length bytes - 2 → HasRoom bytes (declared_opening mode xs)
mdo-room m.Ign bytes xs l e = tt
mdo-room _ bytes xs l e = declared-room bytes xs l e

pub opening-room : (mode : Mode) (x : Delim) (bytes : List ℕ) → length (string x) ≤ length bytes
    → HasRoom bytes (opening mode x (drop (length (string x)) bytes))
opening-room mode d.Mdo bytes l = mdo-room mode bytes (drop 2 bytes) l (length-drop 2 bytes)
opening-room mode d.Msc bytes l = tt
opening-room mode d.Net bytes l = tt
opening-room mode d.Stago bytes l = l
opening-room mode d.Etago bytes l = l
opening-room mode d.Ero bytes l = l
opening-room mode d.Cro bytes l = l
opening-room mode d.Pero bytes l = l
opening-room mode d.Pio bytes l = l
opening-room mode d.Dsc bytes l = l
opening-room mode _ bytes l = tt
