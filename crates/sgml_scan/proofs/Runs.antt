-- A stretch that is scanned is one, since nothing else is told as one.
use Rattle.std.proofs.Common.{◌≡◌, ℕ, Bool, true, false, not, List, [], ◌∷◌, Option, None, Some, Result, Ok, Err, length, drop, take, refl, sym, ◌∙◌, ap, subst, if◌then◌else◌, ◌-◌, ◌==◌, nat_lt}
use Rattle.std.specs.List.{list_all, list_any}
use Rattle.sgml_text.specs.declared.reason.Reason.{Reason}
use Rattle.sgml_text.specs.declared.reason.Reason.TheVariants as reason
use Rattle.sgml_syntax.specs.declared.syntax.Syntax.{Syntax}
use Rattle.sgml_delim.specs.declared.delim.Delim.{Delim}
use Rattle.sgml_delim.specs.declared.delim.Delim.TheVariants as d
use Rattle.sgml_delim.specs.declared.delim.Mode.{Mode}
use Rattle.sgml_delim.specs.declared.delim.Mode.TheVariants as m
use Rattle.sgml_delim.specs.declared.delim.Recognised.{Recognised}
use Rattle.sgml_delim.specs.declared.delim.Recognised.TheVariants as r
use Rattle.sgml_delim.specs.Tables.{string}
use Rattle.sgml_shortref.specs.declared.matching.Matched.{Matched}
use Rattle.sgml_shortref.specs.declared.matching.Matched.TheVariants as matched
use Rattle.sgml_markup.specs.declared.kinds.Form.{Form}
use Rattle.sgml_markup.specs.declared.kinds.Form.TheVariants as form
use Rattle.sgml_markup.specs.declared.kinds.TokenKind.{TokenKind}
use Rattle.sgml_markup.specs.declared.kinds.TokenKind.TheVariants as kind
use Rattle.sgml_text.specs.Characters.{is_sgml_character, is_digit, is_separator}
use Rattle.sgml_markup.specs.Ends.{end_of}
use Rattle.sgml_markup.specs.Forms.{before, judged, judged_form, judged_tag, judged_end_tag, if_tag, begins_tagc, last_byte, unclosed, parts_of}
use Rattle.sgml_scan.specs.declared.classes.Run.{Run}
use Rattle.sgml_scan.specs.declared.classes.Run.TheVariants as run
use Rattle.sgml_scan.specs.declared.classes.Class.{Class}
use Rattle.sgml_scan.specs.declared.classes.Class.TheVariants as class
use Rattle.sgml_scan.specs.declared.state.ScanState.{ScanState}
use Rattle.sgml_scan.specs.declared.state.Scanned.{Scanned}
use Rattle.sgml_scan.specs.declared.state.Scanned.TheVariants.{Token, NeedMore, BadToken}
use Rattle.sgml_scan.specs.declared.state.Opening.TheVariants.{Markup}
use Rattle.sgml_scan.specs.Classes.{class_of, run_kind, is_data, class_in_content}
use Rattle.sgml_scan.specs.Openings.{opening, declared_opening, declared_form, matches_strings}
use Rattle.sgml_scan.specs.Tokens.{token, IsStretch, IsOfClass, IsPlainToken, IsMatchedToken, IsUndelimited, of_judged, closed, opened, IsToken, IsScanned}
use Rattle.sgml_text.specs.NameCharacters.{is_name_character}
use Rattle.sgml_markup.specs.declared.kinds.TagState.TheVariants.{ElementName}
use Rattle.sgml_markup.specs.References.{by_number, by_function, begins_digit, number_of, run_of, function_named, name_length, too_long}
use Rattle.sgml_markup.specs.Tags.{is_tag, wrong_number_in, wrong_length_in}

pub apart : {A : Type 0} (t : Bool) → t ≡ true → t ≡ false → A
apart t p q = absurd (never t p q)
  where
    never : (t : Bool) → t ≡ true → t ≡ false → ⊥
    never t p q = cc

-- WHAT MARKUP THAT ENDS IS: no stretch, and not unclosed

abbrev pub is_run : TokenKind → Bool
is_run kind.Chars = true
is_run kind.Separators = true
is_run _ = false

abbrev pub is_unclosed_reason : Reason → Bool
is_unclosed_reason reason.Unclosed = true
is_unclosed_reason _ = false

abbrev pub is_told_kind : Result TokenKind Reason → Bool
is_told_kind (Ok k) = not (is_run k)
is_told_kind (Err e) = not (is_unclosed_reason e)

told-if : (t : Bool) (x y : Result TokenKind Reason) → is_told_kind x ≡ true → is_told_kind y ≡ true → is_told_kind (if t then x else y) ≡ true
told-if true x y p q = p
told-if false x y p q = q

tag-told : (good bad_number bad_length : Bool) (k : TokenKind) → is_run k ≡ false → is_told_kind (if_tag good bad_number bad_length k) ≡ true
tag-told good bad_number bad_length k e =
    told-if good _ (Err reason.TagSyntax)
    (told-if bad_number (Err reason.CharNumber) _ refl (told-if bad_length (Err reason.NameLength) (Ok k) refl (ap not e))) refl

function-told : (o : Option ℕ) → is_told_kind (by_function o) ≡ true
function-told None = refl
function-told (Some b) = refl

number-told : (n : ℕ) → is_told_kind (by_number n) ≡ true
number-told n = told-if (nat_lt 255 n) (Err reason.CharNumber) (Ok (kind.CharRef n)) refl refl

form-told : (s : Syntax) (f : Form) (markup : List ℕ) → is_told_kind (judged_form s f markup) ≡ true
form-told s form.StartTag markup =
    told-if (begins_tagc (drop 1 markup)) (Ok kind.EmptyStart) (judged_tag s false 1 kind.StartTag markup) refl
    (tag-told (is_tag s false 1 (ElementName 1) (drop 1 (unclosed markup))) (list_any (wrong_number_in s markup) (parts_of s false 1 markup)) (list_any (wrong_length_in s markup) (parts_of s false 1 markup)) kind.StartTag refl)
form-told s form.EndTag markup =
    told-if (begins_tagc (drop 2 markup)) (Ok kind.EmptyEnd) (judged_end_tag s markup) refl
    (told-if (last_byte markup == 47) (Err reason.TagSyntax) (judged_tag s true 2 kind.EndTag markup) refl
    (tag-told (is_tag s true 2 (ElementName 2) (drop 2 (unclosed markup))) (list_any (wrong_number_in s markup) (parts_of s true 2 markup)) (list_any (wrong_length_in s markup) (parts_of s true 2 markup)) kind.EndTag refl))
form-told s form.EntityReference markup = told-if (too_long s (name_length s (drop 1 markup))) (Err reason.NameLength) (Ok kind.EntityRef) refl refl
form-told s form.ParameterReference markup = told-if (too_long s (name_length s (drop 1 markup))) (Err reason.NameLength) (Ok kind.ParameterRef) refl refl
form-told s form.CharacterReference markup =
    told-if (begins_digit (drop 2 markup)) (by_number (number_of (run_of is_digit (drop 2 markup)))) (by_function (function_named s.general_fold (run_of (is_name_character s.names) (drop 2 markup))))
    (number-told (number_of (run_of is_digit (drop 2 markup))))
    (function-told (function_named s.general_fold (run_of (is_name_character s.names) (drop 2 markup))))
form-told s form.Instruction markup = told-if (nat_lt s.quantities.pilen (length markup - 3)) (Err reason.PiLength) (Ok kind.Pi) refl refl
form-told s form.CommentDeclaration markup = told-if _ (Ok kind.Comment) (Err reason.DeclarationSyntax) refl refl
form-told s form.SectionStart markup = refl
form-told s form.Declaration markup = refl
form-told s form.SubsetEnd markup = refl

pub judged-told : (s : Syntax) (f : Form) (markup : List ℕ) → is_told_kind (judged s f markup) ≡ true
judged-told s f markup = told-if (list_all is_sgml_character markup) (judged_form s f markup) (Err reason.NonSgml) (form-told s f markup) refl

pub run-is-run : (q : Run) → is_run (run_kind q) ≡ true
run-is-run run.Chars = refl
run-is-run run.Separators = refl

-- WHERE NOTHING ELSE BEGINS

abbrev pub is_no_run : Class → Bool
is_no_run (class.Stretch q) = true
is_no_run (class.Single k) = not (is_run k)
is_no_run class.NonSgml = true

no-run-if : (t : Bool) (x y : Class) → is_no_run x ≡ true → is_no_run y ≡ true → is_no_run (if t then x else y) ≡ true
no-run-if true x y p q = p
no-run-if false x y p q = q

content-no-run : (b : ℕ) → is_no_run (class_in_content b) ≡ true
content-no-run b =
    no-run-if (is_data b) (class.Stretch run.Chars) _ refl
    (no-run-if (b == 13) (class.Single kind.Re) _ refl (no-run-if (b == 10) (class.Single kind.Rs) class.NonSgml refl refl))

pub class-no-run : (mode : Mode) (b : ℕ) → is_no_run (class_of mode b) ≡ true
class-no-run m.Ign b = no-run-if (is_sgml_character b) (class.Stretch run.Chars) class.NonSgml refl refl
class-no-run m.Ds b = no-run-if (is_separator b) (class.Stretch run.Separators) _ refl (no-run-if (is_sgml_character b) (class.Stretch run.Chars) class.NonSgml refl refl)
class-no-run _ b = content-no-run b

-- A STRETCH is no other token

abbrev no_run : Scanned → Bool
no_run (Token t) = not (is_run t.kind)
no_run _ = true

judged-no-run : (n : ℕ) (x : Result TokenKind Reason) → is_told_kind x ≡ true → no_run (of_judged n x) ≡ true
judged-no-run n (Ok k) e = e
judged-no-run n (Err e) f = refl

ended-no-run : (t u : Bool) → no_run (if t then (if u then BadToken reason.Unclosed else BadToken reason.NonSgml) else NeedMore) ≡ true
ended-no-run true true = refl
ended-no-run true false = refl
ended-no-run false u = refl

closed-no-run : (s : Syntax) (ended : Bool) (bytes : List ℕ) (f : Form) (o : Option ℕ) → no_run (closed s ended bytes f o) ≡ true
closed-no-run s ended bytes f None = ended-no-run ended (list_all is_sgml_character bytes)
closed-no-run s ended bytes f (Some n) = judged-no-run _ (judged s f (take _ bytes)) (judged-told s f (take _ bytes))

markup-no-run : (s : Syntax) (ended : Bool) (bytes : List ℕ) (f : Form) → no_run (opened s ended bytes (Markup f)) ≡ true
markup-no-run s ended bytes f = closed-no-run s ended bytes f (end_of s f ended (drop (before f) bytes))

declared-no-run : (s : Syntax) (ended : Bool) (mode : Mode) (bytes after : List ℕ) → no_run (opened s ended bytes (declared_opening mode after)) ≡ true
declared-no-run s ended m.Ign bytes after = refl
declared-no-run s ended _ bytes after = markup-no-run s ended bytes (declared_form after)

opened-no-run : (s : Syntax) (ended : Bool) (mode : Mode) (x : Delim) (bytes after : List ℕ) → no_run (opened s ended bytes (opening mode x after)) ≡ true
opened-no-run s ended mode d.Mdo bytes after = declared-no-run s ended mode bytes after
opened-no-run s ended mode d.Msc bytes after = refl
opened-no-run s ended mode d.Net bytes after = refl
opened-no-run s ended mode d.Stago bytes after = markup-no-run s ended bytes form.StartTag
opened-no-run s ended mode d.Etago bytes after = markup-no-run s ended bytes form.EndTag
opened-no-run s ended mode d.Ero bytes after = markup-no-run s ended bytes form.EntityReference
opened-no-run s ended mode d.Cro bytes after = markup-no-run s ended bytes form.CharacterReference
opened-no-run s ended mode d.Pero bytes after = markup-no-run s ended bytes form.ParameterReference
opened-no-run s ended mode d.Pio bytes after = markup-no-run s ended bytes form.Instruction
opened-no-run s ended mode d.Dsc bytes after = markup-no-run s ended bytes form.SubsetEnd
opened-no-run s ended mode _ bytes after = refl

run-token : (q : Run) (n : ℕ) → no_run (token (run_kind q) n) ≡ false
run-token q n = ap not (run-is-run q)

same-kind : (p q : Run) → run_kind p ≡ run_kind q → p ≡ q
same-kind run.Chars run.Chars e = refl
same-kind run.Chars run.Separators e = absurd (cc)
same-kind run.Separators run.Chars e = absurd (cc)
same-kind run.Separators run.Separators e = refl

kind-in : Scanned → TokenKind
kind-in (Token t) = t.kind
kind-in _ = kind.Re

length-in : Scanned → ℕ
length-in (Token t) = t.length
length-in _ = 0

stretch-same : (s : Syntax) (st : ScanState) (ended : Bool) (bytes : List ℕ) (p q : Run) (n k : ℕ) → token (run_kind p) n ≡ token (run_kind q) k → IsStretch s st ended q bytes k → IsStretch s st ended p bytes n
unfolding kind-in length-in
stretch-same s st ended bytes p q n k e h =
    subst (λ z. IsStretch s st ended p bytes z) (sym (ap length-in e)) (subst (λ z. IsStretch s st ended z bytes k) (sym (same-kind p q (ap kind-in e))) h)

class-stretch : (s : Syntax) (st : ScanState) (ended : Bool) (bytes : List ℕ) (q : Run) (n : ℕ) (k : Class) → is_no_run k ≡ true → IsOfClass s st ended bytes (token (run_kind q) n) k → IsStretch s st ended q bytes n
class-stretch s st ended bytes q n (class.Stretch p) g h = stretch-same s st ended bytes q p n h.0 h.1 h.2
class-stretch s st ended bytes q n (class.Single k) g h = apart (is_no_run (class.Single k)) g (sym (ap no_run h) ∙ run-token q n)
class-stretch s st ended bytes q n class.NonSgml g h = apart (no_run (token (run_kind q) n)) (ap no_run h) (run-token q n)

plain-stretch : (s : Syntax) (st : ScanState) (ended : Bool) (bytes : List ℕ) (q : Run) (n : ℕ) → IsPlainToken s st ended bytes (token (run_kind q) n) → IsStretch s st ended q bytes n
plain-stretch s st ended [] q n h = absurd h
plain-stretch s st ended (b ∷ bytes) q n h = class-stretch s st ended (b ∷ bytes) q n (class_of st.mode b) (class-no-run st.mode b) h

matched-stretch : (s : Syntax) (st : ScanState) (ended : Bool) (bytes : List ℕ) (q : Run) (n : ℕ) (x : Matched) → IsMatchedToken s st ended bytes x (token (run_kind q) n) → IsStretch s st ended q bytes n
matched-stretch s st ended bytes q n matched.NeedMore h = apart (no_run (token (run_kind q) n)) (ap no_run h) (run-token q n)
matched-stretch s st ended bytes q n (matched.String i k) h = apart (no_run (token (run_kind q) n)) (ap no_run h) (run-token q n)
matched-stretch s st ended bytes q n matched.Plain h = plain-stretch s st ended bytes q n h

undelimited-stretch : (s : Syntax) (st : ScanState) (ended : Bool) (bytes : List ℕ) (q : Run) (n : ℕ) (t : Bool) → IsUndelimited t s st ended bytes (token (run_kind q) n) → IsStretch s st ended q bytes n
undelimited-stretch s st ended bytes q n true h = matched-stretch s st ended bytes q n h.matched h.token
undelimited-stretch s st ended bytes q n false h = plain-stretch s st ended bytes q n h

recognised-stretch : (s : Syntax) (st : ScanState) (ended : Bool) (bytes : List ℕ) (q : Run) (n : ℕ) (x : Recognised) → IsToken s st ended bytes x (token (run_kind q) n) → IsStretch s st ended q bytes n
recognised-stretch s st ended bytes q n r.NeedMore h = apart (no_run (token (run_kind q) n)) (ap no_run h) (run-token q n)
recognised-stretch s st ended bytes q n (r.Found x k) h =
    apart (no_run (token (run_kind q) n)) (ap no_run h ∙ opened-no-run s ended st.mode x bytes (drop (length (string x)) bytes)) (run-token q n)
recognised-stretch s st ended bytes q n r.Plain h = undelimited-stretch s st ended bytes q n (matches_strings st) h

pub scanned-stretch : (s : Syntax) (st : ScanState) (ended : Bool) (bytes : List ℕ) (q : Run) (n : ℕ) → IsScanned s st ended bytes (token (run_kind q) n) → IsStretch s st ended q bytes n
scanned-stretch s st ended bytes q n h = recognised-stretch s st ended bytes q n h.recognised h.token
