-- A token of a declaration, or of the start of a section, is one up to its end, in each mode in which a text is
-- scanned.
use Rattle.std.proofs.Common.{◌≡◌, ℕ, Bool, true, false, ◌&&◌, ◌||◌, ◌==◌, List, [], ◌∷◌, ◌++◌, ◌+◌, ◌-◌, Option, None, Some, Result, Ok, Err, length, drop, take, refl, sym, ◌∙◌, ap, subst, inl, inr, if◌then◌else◌, nat_lt, eqb-true, eq-eqb}
use Rattle.std.specs.List.{list_all}
use Rattle.sgml_text.specs.declared.reason.Reason.{Reason}
use Rattle.sgml_text.specs.declared.reason.Reason.TheVariants as reason
use Rattle.sgml_text.specs.Characters.{is_sgml_character, is_separator, all_sgml}
use Rattle.sgml_syntax.specs.declared.syntax.Syntax.{Syntax}
use Rattle.sgml_delim.specs.declared.delim.Delim.{Delim}
use Rattle.sgml_delim.specs.declared.delim.Delim.TheVariants as d
use Rattle.sgml_delim.specs.declared.delim.Mode.{Mode}
use Rattle.sgml_delim.specs.declared.delim.Mode.TheVariants as m
use Rattle.sgml_delim.specs.declared.delim.Recognised.{Recognised}
use Rattle.sgml_delim.specs.declared.delim.Recognised.TheVariants as r
use Rattle.sgml_delim.specs.Tables.{string, begins, in_force, stands, delims, first_that}
use Rattle.sgml_delim.specs.Answers as delimiters
use Rattle.sgml_delim.specs.Answers.{Among}
use Rattle.sgml_delim.proofs.Deciding.{and-left, and-right, some-is}
use Rattle.sgml_delim.proofs.Found.{found-stands}
use Rattle.sgml_scan.specs.markup.declared.kinds.Form.{Form}
use Rattle.sgml_scan.specs.markup.declared.kinds.Form.TheVariants as form
use Rattle.sgml_scan.specs.markup.declared.kinds.TokenKind.{TokenKind}
use Rattle.sgml_scan.specs.markup.declared.kinds.TokenKind.TheVariants as kind
use Rattle.sgml_scan.specs.markup.Ends.{end_of}
use Rattle.sgml_delim.specs.declared.ends.Inside.TheVariants.{Between}
use Rattle.sgml_scan.specs.markup.Forms.{before, judged, judged_form, if_tag, if_short, begins_tagc, judged_tag, judged_end_tag, last_byte, is_comments}
use Rattle.sgml_scan.specs.markup.References.{by_number, by_function, begins_digit, too_long}
use Rattle.sgml_scan.specs.declared.classes.Class.{Class}
use Rattle.sgml_scan.specs.declared.classes.Class.TheVariants as class
use Rattle.sgml_scan.specs.declared.state.ScanState.{ScanState}
use Rattle.sgml_scan.specs.declared.state.Scanned.{Scanned}
use Rattle.sgml_scan.specs.declared.state.Scanned.TheVariants.{Token, NeedMore, BadToken}
use Rattle.sgml_scan.specs.Classes.{class_of, run_kind, is_scanned, is_data}
use Rattle.sgml_scan.specs.declared.classes.Run.{Run}
use Rattle.sgml_scan.specs.declared.classes.Run.TheVariants as run
use Rattle.sgml_scan.specs.Openings.{opening, declared_form, matches_strings}
use Rattle.sgml_scan.specs.shortref.declared.matching.Matched.{Matched}
use Rattle.sgml_scan.specs.shortref.declared.matching.Matched.TheVariants as matched
use Rattle.sgml_scan.specs.Tokens.{token, open_ended, of_judged, closed, of_form, opened, IsOfClass, IsPlainToken, IsMatchedToken, IsUndelimited, IsToken, IsScanned}
use Rattle.sgml_prolog_steps.specs.decl_lexemes.Declares.{begins_section, begins_subset_end}
use Rattle.sgml_prolog_steps.proofs.Top.{apart}
use Rattle.sgml_prolog_steps.proofs.Whole.{IsMarkup, IsWholeIn}

-- WHICH KINDS a form has

-- none of the three kinds that are read further
abbrev Other : TokenKind → Type 0
Other kind.Declaration = ⊥
Other kind.SectionStart = ⊥
Other kind.SubsetEnd = ⊥
Other _ = Unit {0}

abbrev IsKindOf : Form → TokenKind → Type 0
IsKindOf form.Declaration k = k ≡ kind.Declaration
IsKindOf form.SectionStart k = k ≡ kind.SectionStart
IsKindOf form.SubsetEnd k = k ≡ kind.SubsetEnd
IsKindOf _ k = Other k

abbrev KindIn : Form → Result TokenKind Reason → Type 0
KindIn f (Ok k) = IsKindOf f k
KindIn f (Err e) = Unit {0}

short-kind : (s : Syntax) (n : ℕ) (f : Form) (k : TokenKind) → IsKindOf f k → KindIn f (if_short s n k)
short-kind s n f k h = by (too_long s n)
  where
    by : (t : Bool) → KindIn f (if t then Err reason.NameLength else Ok k)
    by true = tt
    by false = h

tag-kind : (good number size : Bool) (f : Form) (k : TokenKind) → IsKindOf f k → KindIn f (if_tag good number size k)
tag-kind true true size f k h = tt
tag-kind true false true f k h = tt
tag-kind true false false f k h = h
tag-kind false number size f k h = tt

if-kind : (t : Bool) (f : Form) (x y : Result TokenKind Reason) → KindIn f x → KindIn f y → KindIn f (if t then x else y)
if-kind true f x y g h = g
if-kind false f x y g h = h

function-kind : (o : Option ℕ) → KindIn form.CharacterReference (by_function o)
function-kind None = tt
function-kind (Some b) = tt

number-kind : (n : ℕ) → KindIn form.CharacterReference (by_number n)
number-kind n = by (nat_lt 255 n)
  where
    by : (t : Bool) → KindIn form.CharacterReference (if t then Err reason.CharNumber else Ok (kind.CharRef n))
    by true = tt
    by false = tt

form-kind : (s : Syntax) (f : Form) (own : List ℕ) → KindIn f (judged_form s f own)
form-kind s form.StartTag own =
    if-kind (begins_tagc (drop 1 own)) form.StartTag (Ok kind.EmptyStart) (judged_tag s false 1 kind.StartTag own) tt
    (tag-kind _ _ _ form.StartTag kind.StartTag tt)
form-kind s form.EndTag own =
    if-kind (begins_tagc (drop 2 own)) form.EndTag (Ok kind.EmptyEnd) (judged_end_tag s own) tt
    (if-kind (last_byte own == 47) form.EndTag (Err reason.TagSyntax) (judged_tag s true 2 kind.EndTag own) tt
    (tag-kind _ _ _ form.EndTag kind.EndTag tt))
form-kind s form.EntityReference own = short-kind s _ form.EntityReference kind.EntityRef tt
form-kind s form.ParameterReference own = short-kind s _ form.ParameterReference kind.ParameterRef tt
form-kind s form.CharacterReference own = if-kind (begins_digit (drop 2 own)) form.CharacterReference _ _ (number-kind _) (function-kind _)
form-kind s form.Instruction own = if-kind (nat_lt s.quantities.pilen (length own - 3)) form.Instruction (Err reason.PiLength) (Ok kind.Pi) tt tt
form-kind s form.CommentDeclaration own = if-kind (is_comments Between (take (length (drop 2 own) - 1) (drop 2 own))) form.CommentDeclaration (Ok kind.Comment) (Err reason.DeclarationSyntax) tt tt
form-kind s form.SectionStart own = refl
form-kind s form.Declaration own = refl
form-kind s form.SubsetEnd own = refl

-- the kind and length of a token, where it is one
abbrev IsTokenOf : Scanned → TokenKind → ℕ → Type 0
IsTokenOf (Token x) k n = (x.kind ≡ k) × (x.length ≡ n)
IsTokenOf NeedMore k n = ⊥
IsTokenOf (BadToken r) k n = ⊥

token-of : (x : Scanned) (k : TokenKind) (n : ℕ) → x ≡ token k n → IsTokenOf x k n
token-of x k n e = subst (λ y. IsTokenOf y k n) (sym e) (refl, refl)

open-none : (ended : Bool) (bytes : List ℕ) (k : TokenKind) (n : ℕ) → IsTokenOf (open_ended ended bytes) k n → ⊥
open-none false bytes k n h = h
open-none true bytes k n h = by (list_all is_sgml_character bytes) h
  where
    by : (t : Bool) → IsTokenOf (if t then BadToken reason.Unclosed else BadToken reason.NonSgml) k n → ⊥
    by true h = h
    by false h = h

-- the kind of markup is one of its form, and its bytes are SGML characters
record IsJudged (s : Syntax) (f : Form) (k : TokenKind) (own : List ℕ) : Type 0 where
  is_kind : IsKindOf f k
  sgml : all_sgml own ≡ true

judged-of : (s : Syntax) (f : Form) (own : List ℕ) (size : ℕ) (k : TokenKind) (n : ℕ) → IsTokenOf (of_judged size (judged s f own)) k n
    → (size ≡ n) × IsJudged s f k own
judged-of s f own size k n h = by (list_all is_sgml_character own) refl h
  where
    by-form : (x : Result TokenKind Reason) → KindIn f x → list_all is_sgml_character own ≡ true → IsTokenOf (of_judged size x) k n → (size ≡ n) × IsJudged s f k own
    by-form (Ok q) is e h = (h.1, record { is_kind = subst (IsKindOf f) h.0 is; sgml = e })
    by-form (Err e) is g h = absurd h

    by : (t : Bool) → list_all is_sgml_character own ≡ t → IsTokenOf (of_judged size (if t then judged_form s f own else Err reason.NonSgml)) k n → (size ≡ n) × IsJudged s f k own
    by true e h = by-form (judged_form s f own) (form-kind s f own) e h
    by false e h = absurd h

record IsMarkupOf (s : Syntax) (f : Form) (ended : Bool) (bytes : List ℕ) (k : TokenKind) (n : ℕ) : Type 0 where
  markup : IsMarkup s f ended bytes n
  is_kind : IsKindOf f k

form-of : (s : Syntax) (f : Form) (ended : Bool) (bytes : List ℕ) (k : TokenKind) (n : ℕ) → IsTokenOf (of_form s ended bytes f) k n → IsMarkupOf s f ended bytes k n
form-of s f ended bytes k n h = by (end_of s f ended (drop (before f) bytes)) refl h
  where
    by : (o : Option ℕ) → end_of s f ended (drop (before f) bytes) ≡ o → IsTokenOf (closed s ended bytes f o) k n → IsMarkupOf s f ended bytes k n
    by None e h = absurd (open-none ended bytes k n h)
    by (Some count) e h =
        let j = judged-of s f (take (before f + count) bytes) (before f + count) k n h in
        record {
          markup = record { count = count; ends = e; size = sym j.0; sgml = subst (λ i. all_sgml (take i bytes) ≡ true) j.0 j.1.sgml };
          is_kind = j.1.is_kind;
        }

-- BY THE DELIMITER

other-whole : (k : TokenKind) (mode : Mode) (s : Syntax) (ended : Bool) (bytes : List ℕ) (n : ℕ) → Other k → IsWholeIn k mode s ended bytes n
other-whole kind.Declaration mode s ended bytes n o = absurd o
other-whole kind.SectionStart mode s ended bytes n o = absurd o
other-whole kind.SubsetEnd mode s ended bytes n o = absurd o
other-whole _ mode s ended bytes n o = tt

-- a kind that a token surely has
kind-whole : (k q : TokenKind) (mode : Mode) (s : Syntax) (ended : Bool) (bytes : List ℕ) (n : ℕ) → q ≡ k → Other q → IsWholeIn k mode s ended bytes n
kind-whole k q mode s ended bytes n e o = other-whole k mode s ended bytes n (subst Other e o)

-- after `<!`, by the next byte
mdo-bytes : (bytes : List ℕ) → begins (60 ∷ 33 ∷ []) bytes ≡ true → (rest : List ℕ) × (bytes ≡ 60 ∷ 33 ∷ rest)
mdo-bytes [] e = absurd (never e)
  where
    never : false ≡ true → ⊥
    never e = cc
mdo-bytes (a ∷ []) e = absurd (never (60 == a) e)
  where
    never : (t : Bool) → (t && false) ≡ true → ⊥
    never true e = cc
    never false e = cc
mdo-bytes (a ∷ b ∷ rest) e = (rest, by (60 == a) (33 == b) refl refl e)
  where
    by : (t u : Bool) → (60 == a) ≡ t → (33 == b) ≡ u → (t && (u && true)) ≡ true → a ∷ b ∷ rest ≡ 60 ∷ 33 ∷ rest
    by true true p q e = ap (λ x. x ∷ b ∷ rest) (sym (eqb-true 60 a p)) ∙ ap (λ x. 60 ∷ x ∷ rest) (sym (eqb-true 33 b q))
    by true false p q e = absurd (never e)
      where
        never : false ≡ true → ⊥
        never e = cc
    by false u p q e = absurd (never e)
      where
        never : false ≡ true → ⊥
        never e = cc

-- of the form that the next byte tells
section-byte : (rest : List ℕ) → declared_form rest ≡ form.SectionStart → begins_section (60 ∷ 33 ∷ rest) ≡ true
section-byte [] e = absurd (never e)
  where
    never : form.Declaration ≡ form.SectionStart → ⊥
    never e = cc
section-byte (b ∷ rest) e = by (b == 91) ((b == 45) || (b == 62)) refl e
  where
    by : (t u : Bool) → (b == 91) ≡ t → (if t then form.SectionStart else if u then form.CommentDeclaration else form.Declaration) ≡ form.SectionStart → (b == 91) ≡ true
    by true u p e = p
    by false true p e = absurd (never e)
      where
        never : form.CommentDeclaration ≡ form.SectionStart → ⊥
        never e = cc
    by false false p e = absurd (never e)
      where
        never : form.Declaration ≡ form.SectionStart → ⊥
        never e = cc

no-subset-end : (rest : List ℕ) → declared_form rest ≡ form.SubsetEnd → ⊥
no-subset-end [] e = cc
no-subset-end (b ∷ rest) e = by (b == 91) ((b == 45) || (b == 62)) e
  where
    by : (t u : Bool) → (if t then form.SectionStart else if u then form.CommentDeclaration else form.Declaration) ≡ form.SubsetEnd → ⊥
    by true u e = cc
    by false true e = cc
    by false false e = cc

-- outside an ignored section
abbrev IsOutside : Mode → Type 0
IsOutside m.Ign = ⊥
IsOutside _ = Unit {0}

section-whole : (mode : Mode) (s : Syntax) (ended : Bool) (bytes : List ℕ) (n : ℕ) → IsOutside mode → begins_section bytes ≡ true → IsMarkup s form.SectionStart ended bytes n
    → IsWholeIn kind.SectionStart mode s ended bytes n
section-whole m.Ign s ended bytes n o b h = absurd o
section-whole _ s ended bytes n o b h = (b, h)

by-form : (mode : Mode) (s : Syntax) (ended : Bool) (rest : List ℕ) (k : TokenKind) (n : ℕ) (f : Form) → IsOutside mode → declared_form rest ≡ f
    → IsMarkupOf s f ended (60 ∷ 33 ∷ rest) k n → IsWholeIn k mode s ended (60 ∷ 33 ∷ rest) n
by-form mode s ended rest k n form.Declaration o e h = subst (λ q. IsWholeIn q mode s ended (60 ∷ 33 ∷ rest) n) (sym h.is_kind) (refl, h.markup)
by-form mode s ended rest k n form.SectionStart o e h =
    subst (λ q. IsWholeIn q mode s ended (60 ∷ 33 ∷ rest) n) (sym h.is_kind) (section-whole mode s ended (60 ∷ 33 ∷ rest) n o (section-byte rest e) h.markup)
by-form mode s ended rest k n form.SubsetEnd o e h = absurd (no-subset-end rest e)
by-form mode s ended rest k n _ o e h = other-whole k mode s ended (60 ∷ 33 ∷ rest) n h.is_kind

mdo-whole : (mode : Mode) (s : Syntax) (ended : Bool) (bytes : List ℕ) (k : TokenKind) (n : ℕ) → IsOutside mode → begins (60 ∷ 33 ∷ []) bytes ≡ true
    → IsTokenOf (of_form s ended bytes (declared_form (drop 2 bytes))) k n → IsWholeIn k mode s ended bytes n
mdo-whole mode s ended bytes k n o b h =
    let there = mdo-bytes bytes b in
    by there.0 there.1 h
  where
    by : (rest : List ℕ) → bytes ≡ 60 ∷ 33 ∷ rest → IsTokenOf (of_form s ended bytes (declared_form (drop 2 bytes))) k n → IsWholeIn k mode s ended bytes n
    by rest e h =
        subst (λ xs. IsWholeIn k mode s ended xs n) (sym e)
        (by-form mode s ended rest k n (declared_form rest) o refl
        (form-of s (declared_form rest) ended (60 ∷ 33 ∷ rest) k n (subst (λ xs. IsTokenOf (of_form s ended xs (declared_form (drop 2 xs))) k n) e h)))

end-bytes : (bytes : List ℕ) → begins (93 ∷ []) bytes ≡ true → begins_subset_end bytes ≡ true
end-bytes [] e = absurd (never e)
  where
    never : false ≡ true → ⊥
    never e = cc
end-bytes (a ∷ rest) e = by (93 == a) refl e
  where
    by : (t : Bool) → (93 == a) ≡ t → (t && true) ≡ true → (a == 93) ≡ true
    by true p e = eq-eqb a 93 (sym (eqb-true 93 a p))
    by false p e = absurd (never e)
      where
        never : false ≡ true → ⊥
        never e = cc

dsc-whole : (mode : Mode) (s : Syntax) (ended : Bool) (bytes : List ℕ) (k : TokenKind) (n : ℕ) → begins (93 ∷ []) bytes ≡ true
    → IsTokenOf (of_form s ended bytes form.SubsetEnd) k n → IsWholeIn k mode s ended bytes n
dsc-whole mode s ended bytes k n b h =
    let j = form-of s form.SubsetEnd ended bytes k n h in
    subst (λ q. IsWholeIn q mode s ended bytes n) (sym j.is_kind) (end-bytes bytes b, j.markup)

form-whole : (f : Form) (mode : Mode) (s : Syntax) (ended : Bool) (bytes : List ℕ) (k : TokenKind) (n : ℕ) → (IsKindOf f k → Other k)
    → IsTokenOf (of_form s ended bytes f) k n → IsWholeIn k mode s ended bytes n
form-whole f mode s ended bytes k n o h = other-whole k mode s ended bytes n (o (form-of s f ended bytes k n h).is_kind)

-- a delimiter that stands there has its string there
pub stands-begins : (s : Syntax) (mode : Mode) (net : Bool) (x : Delim) (bytes : List ℕ) → stands s mode net x bytes ≡ true → begins (string x) bytes ≡ true
unfolding stands
stands-begins s mode net x bytes e = and-right (in_force s mode net x) _ (and-left (in_force s mode net x && begins (string x) bytes) _ e)

among-by : (t : Bool) (y : Delim) (xs : List Delim) (x : Delim) (rest : Option Delim) → (rest ≡ Some x → Among xs x) → (if t then Some y else rest) ≡ Some x → Among (y ∷ xs) x
among-by true y xs x rest f e = inl (some-is x y e)
among-by false y xs x rest f e = inr (f e)

pub found-among : (test : Delim → Bool) (xs : List Delim) (x : Delim) → first_that test xs ≡ Some x → Among xs x
found-among test [] x e = absurd (never e)
  where
    never : None ≡ Some x → ⊥
    never e = cc
found-among test (y ∷ xs) x e = among-by (test y) y xs x (first_that test xs) (found-among test xs x) e

-- the delimiters of the modes in which a text is scanned
abbrev is_scanned_for : Delim → Bool
is_scanned_for d.Etago = true
is_scanned_for d.Cro = true
is_scanned_for d.Mdo = true
is_scanned_for d.Msc = true
is_scanned_for d.Pio = true
is_scanned_for d.Stago = true
is_scanned_for d.Ero = true
is_scanned_for d.Pero = true
is_scanned_for d.Dsc = true
is_scanned_for d.Net = true
is_scanned_for _ = false

pub among-all : (test : Delim → Bool) (xs : List Delim) (x : Delim) → list_all test xs ≡ true → Among xs x → test x ≡ true
among-all test [] x h a = absurd a
among-all test (y ∷ xs) x h (inl e) = subst (λ z. test z ≡ true) e (and-left (test y) (list_all test xs) h)
among-all test (y ∷ xs) x h (inr a) = among-all test xs x (and-right (test y) (list_all test xs) h) a

delims-scanned : (mode : Mode) → is_scanned mode ≡ true → list_all is_scanned_for (delims mode) ≡ true
delims-scanned m.Con e = refl
delims-scanned m.Rcd e = refl
delims-scanned m.Cdt e = refl
delims-scanned m.Rcs e = refl
delims-scanned m.Cds e = refl
delims-scanned m.Ign e = refl
delims-scanned m.Ds e = refl
delims-scanned _ e = apart false e refl

declared-whole : (mode : Mode) (s : Syntax) (ended : Bool) (bytes : List ℕ) (k : TokenKind) (n : ℕ) → begins (60 ∷ 33 ∷ []) bytes ≡ true
    → IsTokenOf (opened s ended bytes (opening mode d.Mdo (drop 2 bytes))) k n → IsWholeIn k mode s ended bytes n
declared-whole m.Ign s ended bytes k n b h = subst (λ q. IsWholeIn q m.Ign s ended bytes n) h.0 (sym h.1)
declared-whole _ s ended bytes k n b h = mdo-whole _ s ended bytes k n tt b h

begun-whole : (s : Syntax) (mode : Mode) (ended : Bool) (bytes : List ℕ) (x : Delim) (k : TokenKind) (n : ℕ) → is_scanned_for x ≡ true
    → begins (string x) bytes ≡ true → IsTokenOf (opened s ended bytes (opening mode x (drop (length (string x)) bytes))) k n → IsWholeIn k mode s ended bytes n
begun-whole s mode ended bytes d.Mdo k n t b h = declared-whole mode s ended bytes k n b h
begun-whole s mode ended bytes d.Msc k n t b h = kind-whole k kind.SectionEnd mode s ended bytes n h.0 tt
begun-whole s mode ended bytes d.Net k n t b h = kind-whole k kind.Net mode s ended bytes n h.0 tt
begun-whole s mode ended bytes d.Stago k n t b h = form-whole form.StartTag mode s ended bytes k n (λ o. o) h
begun-whole s mode ended bytes d.Etago k n t b h = form-whole form.EndTag mode s ended bytes k n (λ o. o) h
begun-whole s mode ended bytes d.Ero k n t b h = form-whole form.EntityReference mode s ended bytes k n (λ o. o) h
begun-whole s mode ended bytes d.Cro k n t b h = form-whole form.CharacterReference mode s ended bytes k n (λ o. o) h
begun-whole s mode ended bytes d.Pero k n t b h = form-whole form.ParameterReference mode s ended bytes k n (λ o. o) h
begun-whole s mode ended bytes d.Pio k n t b h = form-whole form.Instruction mode s ended bytes k n (λ o. o) h
begun-whole s mode ended bytes d.Dsc k n t b h = dsc-whole mode s ended bytes k n b h
begun-whole s mode ended bytes _ k n t b h = apart false t refl

-- BY THE FIRST BYTE, where no delimiter begins: none of the three kinds
run-other : (q : Run) → Other (run_kind q)
run-other run.Chars = tt
run-other run.Separators = tt

abbrev SingleIsOther : Class → Type 0
SingleIsOther (class.Single k) = Other k
SingleIsOther _ = Unit {0}

class-other : (mode : Mode) (b : ℕ) → SingleIsOther (class_of mode b)
class-other m.Ign b = by (is_sgml_character b)
  where
    by : (t : Bool) → SingleIsOther (if t then class.Stretch run.Chars else class.NonSgml)
    by true = tt
    by false = tt
class-other m.Ds b = by (is_separator b) (is_sgml_character b)
  where
    by : (t u : Bool) → SingleIsOther (if t then class.Stretch run.Separators else if u then class.Stretch run.Chars else class.NonSgml)
    by true u = tt
    by false true = tt
    by false false = tt
class-other _ b = by (is_data b) (b == 13) (b == 10)
  where
    by : (t u v : Bool) → SingleIsOther (if t then class.Stretch run.Chars else if u then class.Single kind.Re else if v then class.Single kind.Rs else class.NonSgml)
    by true u v = tt
    by false true v = tt
    by false false true = tt
    by false false false = tt

plain-whole : (mode : Mode) (s : Syntax) (st : ScanState) (ended : Bool) (bytes : List ℕ) (x : Scanned) (k : TokenKind) (n : ℕ) (c : Class) → SingleIsOther c
    → IsOfClass s st ended bytes x c → IsTokenOf x k n → IsWholeIn k mode s ended bytes n
plain-whole mode s st ended bytes x k n (class.Stretch q) o h t =
    let u = subst (λ y. IsTokenOf y k n) h.1 t in
    kind-whole k (run_kind q) mode s ended bytes n u.0 (run-other q)
plain-whole mode s st ended bytes x k n (class.Single q) o h t =
    let u = subst (λ y. IsTokenOf y k n) h t in
    kind-whole k q mode s ended bytes n u.0 o
plain-whole mode s st ended bytes x k n class.NonSgml o h t = absurd (subst (λ y. IsTokenOf y k n) h t)

first-whole : (s : Syntax) (st : ScanState) (ended : Bool) (bytes : List ℕ) (x : Scanned) (k : TokenKind) (n : ℕ) → IsPlainToken s st ended bytes x → IsTokenOf x k n
    → IsWholeIn k st.mode s ended bytes n
first-whole s st ended [] x k n h t = absurd h
first-whole s st ended (b ∷ bytes) x k n h t = plain-whole st.mode s st ended (b ∷ bytes) x k n (class_of st.mode b) (class-other st.mode b) h t

matched-whole : (s : Syntax) (st : ScanState) (ended : Bool) (bytes : List ℕ) (y : Matched) (x : Scanned) (k : TokenKind) (n : ℕ) → IsMatchedToken s st ended bytes y x → IsTokenOf x k n
    → IsWholeIn k st.mode s ended bytes n
matched-whole s st ended bytes matched.NeedMore x k n h t = absurd (subst (λ z. IsTokenOf z k n) h t)
matched-whole s st ended bytes (matched.String i size) x k n h t =
    kind-whole k (kind.ShortRef i) st.mode s ended bytes n (subst (λ z. IsTokenOf z k n) h t).0 tt
matched-whole s st ended bytes matched.Plain x k n h t = first-whole s st ended bytes x k n h t

undelimited-whole : (s : Syntax) (st : ScanState) (ended : Bool) (bytes : List ℕ) (maps : Bool) (x : Scanned) (k : TokenKind) (n : ℕ) → IsUndelimited maps s st ended bytes x → IsTokenOf x k n
    → IsWholeIn k st.mode s ended bytes n
undelimited-whole s st ended bytes true x k n h t = matched-whole s st ended bytes h.matched x k n h.token t
undelimited-whole s st ended bytes false x k n h t = first-whole s st ended bytes x k n h t

-- A TOKEN that was scanned
pub scanned-whole : (s : Syntax) (st : ScanState) (ended : Bool) (bytes : List ℕ) (k : TokenKind) (n : ℕ) → is_scanned st.mode ≡ true
    → IsScanned s st ended bytes (token k n) → IsWholeIn k st.mode s ended bytes n
scanned-whole s st ended bytes k n m h = by h.recognised h.answers h.token
  where
    by : (o : Recognised) → delimiters.Answers ended (delimiters.answer s st.mode st.net) bytes o → IsToken s st ended bytes o (token k n) → IsWholeIn k st.mode s ended bytes n
    by r.NeedMore a t = absurd (token-of _ k n (sym t))
    by (r.Found x size) a t =
        begun-whole s st.mode ended bytes x k n
        (among-all is_scanned_for (delims st.mode) x (delims-scanned st.mode m) (found-among (λ y. stands s st.mode st.net y (bytes ++ [])) (delims st.mode) x (a.1 [] (λ e. refl))))
        (stands-begins s st.mode st.net x bytes (found-stands s st.mode st.net ended bytes x size a))
        (subst (λ y. IsTokenOf y k n) t (refl, refl))
    by r.Plain a t = undelimited-whole s st ended bytes (matches_strings st) (token k n) k n t (refl, refl)
