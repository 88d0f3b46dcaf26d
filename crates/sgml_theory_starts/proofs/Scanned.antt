-- A token that is a start-tag was judged as one.
use Rattle.std.proofs.Common.{◌≡◌, ◌+◌, ◌-◌, ◌∷◌, ◌==◌, ℕ, Bool, true, false, [], Option, Some, None, Result, Ok, Err, refl, sym, ap, ◌∙◌, length, drop, take, nat_lt, if◌then◌else◌}
use Rattle.std.specs.List.{list_all, list_any}
use Rattle.sgml_starts.specs.text.declared.reason.Reason.{Reason}
use Rattle.sgml_starts.specs.text.declared.reason.Reason.TheVariants as reason
use Rattle.sgml_starts.specs.text.Characters.{is_sgml_character, is_separator, is_digit}
use Rattle.sgml_starts.specs.text.NameCharacters.{is_name_character}
use Rattle.sgml_starts.specs.syntax.declared.syntax.Syntax.{Syntax}
use Rattle.sgml_starts.specs.delim.declared.delim.Mode.{Mode}
use Rattle.sgml_starts.specs.delim.declared.delim.Mode.TheVariants as m
use Rattle.sgml_starts.specs.delim.declared.delim.Delim.{Delim}
use Rattle.sgml_starts.specs.delim.declared.delim.Delim.TheVariants as d
use Rattle.sgml_starts.specs.delim.declared.delim.Recognised.{Recognised}
use Rattle.sgml_starts.specs.delim.declared.delim.Recognised.TheVariants as r
use Rattle.sgml_starts.specs.delim.Tables.{string}
use Rattle.sgml_starts.specs.shortref.declared.matching.Matched.{Matched}
use Rattle.sgml_starts.specs.shortref.declared.matching.Matched.TheVariants as matched
use Rattle.sgml_starts.specs.markup.declared.kinds.Form.{Form}
use Rattle.sgml_starts.specs.markup.declared.kinds.Form.TheVariants as form
use Rattle.sgml_starts.specs.markup.declared.kinds.TagState.TheVariants.{ElementName}
use Rattle.sgml_starts.specs.markup.declared.kinds.TokenKind.{TokenKind}
use Rattle.sgml_starts.specs.markup.declared.kinds.TokenKind.TheVariants as kind
use Rattle.sgml_starts.specs.markup.Ends.{end_of}
use Rattle.sgml_starts.specs.markup.References.{begins_digit, by_function, function_named, number_of, run_of, too_long, name_length}
use Rattle.sgml_starts.specs.markup.Tags.{is_tag, wrong_number_in, wrong_length_in}
use Rattle.sgml_starts.specs.markup.Forms.{before, judged, judged_form, judged_tag, is_comments, begins_tagc, last_byte, unclosed, parts_of}
use Rattle.sgml_starts.specs.delim.declared.ends.Inside.TheVariants.{Between}
use Rattle.sgml_declared.specs.scan.declared.classes.Class.{Class}
use Rattle.sgml_declared.specs.scan.declared.classes.Class.TheVariants as class
use Rattle.sgml_declared.specs.scan.declared.classes.Run.{Run}
use Rattle.sgml_declared.specs.scan.declared.classes.Run.TheVariants as run
use Rattle.sgml_declared.specs.scan.declared.state.Opening.{Opening}
use Rattle.sgml_declared.specs.scan.declared.state.Opening.TheVariants.{Markup, Whole}
use Rattle.sgml_declared.specs.scan.declared.state.ScanState.{ScanState}
use Rattle.sgml_declared.specs.scan.declared.state.Scanned.{Scanned}
use Rattle.sgml_declared.specs.scan.declared.state.Scanned.TheVariants.{Token, NeedMore, BadToken}
use Rattle.sgml_declared.specs.scan.Classes.{is_data, class_in_content, class_in_ignored, class_in_subset, class_of, run_kind}
use Rattle.sgml_declared.specs.scan.Openings.{matches_strings, declared_opening, opening}
use Rattle.sgml_declared.specs.scan.Tokens.{token, opened, closed, of_judged, open_ended, IsPlainToken, IsOfClass, IsMatchedToken, IsUndelimited, IsToken}
use Rattle.sgml_declared.specs.theory_reading.Names.{Text}
use Rattle.sgml_theory_starts.specs.Scanned.{ScannedTagsAreTags}

-- WHAT A TOKEN IS
kind_in : Scanned → TokenKind
kind_in (Token x) = x.kind
kind_in NeedMore = kind.Pi
kind_in (BadToken e) = kind.Pi

length_in : Scanned → ℕ
length_in (Token x) = x.length
length_in NeedMore = 0
length_in (BadToken e) = 0

abbrev tag : ℕ → Scanned
tag n = token kind.StartTag n

-- no other kind
no-more : {A : Type 0} (n : ℕ) → tag n ≡ NeedMore → A
no-more n e = absurd (cc e)

no-bad : {A : Type 0} (n : ℕ) (why : Reason) → tag n ≡ BadToken why → A
no-bad n why e = absurd (cc e)

kind-is : (n m : ℕ) (k : TokenKind) → tag n ≡ token k m → kind.StartTag ≡ k
unfolding kind_in
kind-is n m k e = ap kind_in e

length-is : (n m : ℕ) (k : TokenKind) → tag n ≡ token k m → n ≡ m
unfolding length_in
length-is n m k e = ap length_in e

-- MARKUP by its form
abbrev IsOther : Result TokenKind Reason → Type 0
IsOther x = x ≡ Ok kind.StartTag → ⊥

other-if : (t : Bool) (x y : Result TokenKind Reason) → IsOther x → IsOther y → IsOther (if t then x else y)
other-if true x y a b = a
other-if false x y a b = b

other-err : (why : Reason) → IsOther (Err why)
other-err why e = cc e

other-tag : (s : Syntax) (markup : Text) → IsOther (judged_tag s true 2 kind.EndTag markup)
other-tag s markup =
    other-if (is_tag s true 2 (ElementName 2) (drop 2 (unclosed markup))) _ _
    (other-if (list_any (wrong_number_in s markup) (parts_of s true 2 markup)) _ _ (other-err reason.CharNumber)
    (other-if (list_any (wrong_length_in s markup) (parts_of s true 2 markup)) _ _ (other-err reason.NameLength) (λ e. cc e)))
    (other-err reason.TagSyntax)

other-function : (o : Option ℕ) → IsOther (by_function o)
other-function None e = cc e
other-function (Some b) e = cc e

other-form : (s : Syntax) (f : Form) (markup : Text) → judged_form s f markup ≡ Ok kind.StartTag → f ≡ form.StartTag
other-form s form.StartTag markup e = refl
other-form s form.EndTag markup e =
    absurd (other-if (begins_tagc (drop 2 markup)) (Ok kind.EmptyEnd) _ (λ h. cc h)
    (other-if (last_byte markup == 47) (Err reason.TagSyntax) _ (other-err reason.TagSyntax) (other-tag s markup)) e)
other-form s form.EntityReference markup e =
    absurd (other-if (too_long s (name_length s (drop 1 markup))) (Err reason.NameLength) (Ok kind.EntityRef) (other-err reason.NameLength) (λ h. cc h) e)
other-form s form.ParameterReference markup e =
    absurd (other-if (too_long s (name_length s (drop 1 markup))) (Err reason.NameLength) (Ok kind.ParameterRef) (other-err reason.NameLength) (λ h. cc h) e)
other-form s form.CharacterReference markup e =
    let n = number_of (run_of is_digit (drop 2 markup)) in
    absurd (other-if (begins_digit (drop 2 markup)) _ _
    (other-if (nat_lt 255 n) (Err reason.CharNumber) (Ok (kind.CharRef n)) (other-err reason.CharNumber) (λ h. cc h))
    (other-function (function_named s.general_fold (run_of (is_name_character s.names) (drop 2 markup)))) e)
other-form s form.Instruction markup e =
    absurd (other-if (nat_lt s.quantities.pilen (length markup - 3)) (Err reason.PiLength) (Ok kind.Pi) (other-err reason.PiLength) (λ h. cc h) e)
other-form s form.CommentDeclaration markup e =
    let bytes = drop 2 markup in
    absurd (other-if (is_comments Between (take (length bytes - 1) bytes)) (Ok kind.Comment) (Err reason.DeclarationSyntax) (λ h. cc h) (other-err reason.DeclarationSyntax) e)
other-form s form.SectionStart markup e = absurd (cc e)
other-form s form.Declaration markup e = absurd (cc e)
other-form s form.SubsetEnd markup e = absurd (cc e)

form-is : (s : Syntax) (f : Form) (markup : Text) → judged s f markup ≡ Ok kind.StartTag → f ≡ form.StartTag
form-is s f markup e = by (list_all is_sgml_character markup) e
  where
    by : (t : Bool) → (if t then judged_form s f markup else Err reason.NonSgml) ≡ Ok kind.StartTag → f ≡ form.StartTag
    by true h = other-form s f markup h
    by false h = absurd (cc h)

module _ (s : Syntax) (bytes : Text) (n : ℕ) where
  abbrev IsTag : Type 0
  IsTag = judged s form.StartTag (take n bytes) ≡ Ok kind.StartTag

  open-is : (ended : Bool) → tag n ≡ open_ended ended bytes → IsTag
  open-is true e = by (list_all is_sgml_character bytes) e
    where
      by : (t : Bool) → tag n ≡ (if t then BadToken reason.Unclosed else BadToken reason.NonSgml) → IsTag
      by true h = no-bad n reason.Unclosed h
      by false h = no-bad n reason.NonSgml h
  open-is false e = no-more n e

  judged-is : (f : Form) (size : ℕ) (x : Result TokenKind Reason) → judged s f (take size bytes) ≡ x → tag n ≡ of_judged size x → IsTag
  judged-is f size (Ok k) is e =
      let tagged : judged s f (take size bytes) ≡ Ok kind.StartTag = is ∙ ap (λ (w : TokenKind). Ok w) (sym (kind-is n size k e)) in
      let formed : f ≡ form.StartTag = form-is s f (take size bytes) tagged in
      ap (λ w. judged s form.StartTag (take w bytes)) (length-is n size k e) ∙ (ap (λ g. judged s g (take size bytes)) (sym formed) ∙ tagged)
  judged-is f size (Err why) is e = no-bad n why e

  closed-is : (ended : Bool) (f : Form) (o : Option ℕ) → tag n ≡ closed s ended bytes f o → IsTag
  closed-is ended f None e = open-is ended e
  closed-is ended f (Some size) e = judged-is f (before f + size) (judged s f (take (before f + size) bytes)) refl e

  -- BY WHAT BEGINS IT
  abbrev IsOtherOpening : Opening → Type 0
  IsOtherOpening (Whole k size) = kind.StartTag ≡ k → ⊥
  IsOtherOpening (Markup f) = Unit {0}

  other-declared : (mode : Mode) (rest : Text) → IsOtherOpening (declared_opening mode rest)
  other-declared m.Ign rest = λ e. cc e
  other-declared _ rest = tt

  other-opening : (mode : Mode) (x : Delim) (rest : Text) → IsOtherOpening (opening mode x rest)
  other-opening mode d.Mdo rest = other-declared mode rest
  other-opening mode d.Msc rest = λ e. cc e
  other-opening mode d.Net rest = λ e. cc e
  other-opening mode d.Stago rest = tt
  other-opening mode d.Etago rest = tt
  other-opening mode d.Ero rest = tt
  other-opening mode d.Cro rest = tt
  other-opening mode d.Pero rest = tt
  other-opening mode d.Pio rest = tt
  other-opening mode d.Dsc rest = tt
  other-opening mode _ rest = λ e. cc e

  opened-is : (ended : Bool) (o : Opening) → IsOtherOpening o → tag n ≡ opened s ended bytes o → IsTag
  opened-is ended (Whole k size) other e = absurd (other (kind-is n size k e))
  opened-is ended (Markup f) other e = closed-is ended f (end_of s f ended (drop (before f) bytes)) e

  -- where nothing begins
  abbrev IsOtherClass : Class → Type 0
  IsOtherClass (class.Single k) = kind.StartTag ≡ k → ⊥
  IsOtherClass _ = Unit {0}

  class-if : (t : Bool) (x y : Class) → IsOtherClass x → IsOtherClass y → IsOtherClass (if t then x else y)
  class-if true x y a b = a
  class-if false x y a b = b

  other-content : (b : ℕ) → IsOtherClass (class_in_content b)
  other-content b =
      class-if (is_data b) (class.Stretch run.Chars) _ tt
      (class-if (b == 13) (class.Single kind.Re) _ (λ e. cc e) (class-if (b == 10) (class.Single kind.Rs) class.NonSgml (λ e. cc e) tt))

  other-ignored : (b : ℕ) → IsOtherClass (class_in_ignored b)
  other-ignored b = class-if (is_sgml_character b) (class.Stretch run.Chars) class.NonSgml tt tt

  other-subset : (b : ℕ) → IsOtherClass (class_in_subset b)
  other-subset b =
      class-if (is_separator b) (class.Stretch run.Separators) _ tt (class-if (is_sgml_character b) (class.Stretch run.Chars) class.NonSgml tt tt)

  other-class : (mode : Mode) (b : ℕ) → IsOtherClass (class_of mode b)
  other-class m.Ign b = other-ignored b
  other-class m.Ds b = other-subset b
  other-class _ b = other-content b

  no-run : (x : Run) → kind.StartTag ≡ run_kind x → ⊥
  no-run run.Chars e = cc e
  no-run run.Separators e = cc e

  class-is : (st : ScanState) (ended : Bool) (x : Class) → IsOtherClass x → IsOfClass s st ended bytes (tag n) x → IsTag
  class-is st ended (class.Stretch x) other h = absurd (no-run x (kind-is n h.0 (run_kind x) h.1))
  class-is st ended (class.Single k) other h = absurd (other (kind-is n 1 k h))
  class-is st ended class.NonSgml other h = no-bad n reason.NonSgml h

plain-is : (s : Syntax) (st : ScanState) (ended : Bool) (bytes : Text) (n : ℕ) → IsPlainToken s st ended bytes (tag n) → IsTag s bytes n
plain-is s st ended [] n h = absurd h
plain-is s st ended (b ∷ bytes) n h = class-is s (b ∷ bytes) n st ended (class_of st.mode b) (other-class s (b ∷ bytes) n st.mode b) h

matched-is : (s : Syntax) (st : ScanState) (ended : Bool) (bytes : Text) (n : ℕ) (x : Matched) → IsMatchedToken s st ended bytes x (tag n) → IsTag s bytes n
matched-is s st ended bytes n matched.NeedMore h = no-more n h
matched-is s st ended bytes n (matched.String i size) h = absurd (never (kind-is n size (kind.ShortRef i) h))
  where
    never : kind.StartTag ≡ kind.ShortRef i → ⊥
    never e = cc e
matched-is s st ended bytes n matched.Plain h = plain-is s st ended bytes n h

undelimited-is : (t : Bool) (s : Syntax) (st : ScanState) (ended : Bool) (bytes : Text) (n : ℕ) → IsUndelimited t s st ended bytes (tag n) → IsTag s bytes n
undelimited-is true s st ended bytes n h = matched-is s st ended bytes n h.matched h.token
undelimited-is false s st ended bytes n h = plain-is s st ended bytes n h

token-is : (s : Syntax) (st : ScanState) (ended : Bool) (bytes : Text) (n : ℕ) (x : Recognised) → IsToken s st ended bytes x (tag n) → IsTag s bytes n
token-is s st ended bytes n r.NeedMore h = no-more n h
token-is s st ended bytes n (r.Found x size) h =
    opened-is s bytes n ended (opening st.mode x (drop (length (string x)) bytes)) (other-opening s bytes n st.mode x (drop (length (string x)) bytes)) h
token-is s st ended bytes n r.Plain h = undelimited-is (matches_strings st) s st ended bytes n h

pub scanned-tags-are-tags : ScannedTagsAreTags
scanned-tags-are-tags s st ended bytes n h = token-is s st ended bytes n h.recognised h.token
