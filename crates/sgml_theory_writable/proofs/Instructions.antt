-- The text of an instruction that is scanned has SGML characters alone, without `>`, and at most PILEN of them (8).
use Rattle.std.proofs.Common.{◌≡◌, ℕ, zero, suc, Bool, true, false, not, ◌==◌, ◌≤◌, ◌+◌, ◌-◌, nat_lt, List, [], ◌∷◌, length, take, drop, Option, None, Some, Result, Ok, Err, refl, sym, ap, subst, if◌then◌else◌, arith}
use Rattle.std.specs.List.{list_all, list_any}
use Rattle.std.proofs.lemmas.Bool.Decides.{nat_tests}
use Rattle.std.proofs.lemmas.List.{drop-take}
use Rattle.sgml_theory_again.specs.text.Characters.{is_sgml_character, is_separator, is_digit}
use Rattle.sgml_theory_again.specs.text.NameCharacters.{is_name_character}
use Rattle.sgml_theory_again.specs.text.declared.reason.Reason.{Reason}
use Rattle.sgml_theory_again.specs.text.declared.reason.Reason.TheVariants as reason
use Rattle.sgml_theory_again.specs.syntax.declared.syntax.Syntax.{Syntax}
use Rattle.sgml_theory_again.specs.delim.declared.delim.Mode.{Mode}
use Rattle.sgml_theory_again.specs.delim.declared.delim.Mode.TheVariants as mode
use Rattle.sgml_theory_again.specs.delim.declared.delim.Delim.{Delim}
use Rattle.sgml_theory_again.specs.delim.declared.delim.Delim.TheVariants as delim
use Rattle.sgml_theory_again.specs.delim.declared.ends.Inside.TheVariants.{Between}
use Rattle.sgml_theory_again.specs.delim.Tables.{string}
use Rattle.sgml_theory_again.specs.delim.Answers.{answer}
use Rattle.sgml_theory_again.specs.delim.Ends.{later}
use Rattle.sgml_theory_again.specs.markup.declared.kinds.TokenKind.{TokenKind}
use Rattle.sgml_theory_again.specs.markup.declared.kinds.TokenKind.TheVariants as kind
use Rattle.sgml_theory_again.specs.markup.declared.kinds.Form.{Form}
use Rattle.sgml_theory_again.specs.markup.declared.kinds.Form.TheVariants as form
use Rattle.sgml_theory_again.specs.markup.declared.kinds.TagState.TheVariants.{ElementName}
use Rattle.sgml_theory_again.specs.markup.Ends.{end_of, pi_end}
use Rattle.sgml_theory_again.specs.markup.References.{character_of, by_number, by_function, function_named, number_of, run_of, begins_digit, too_long, name_length}
use Rattle.sgml_theory_again.specs.markup.Forms.{before, begins_tagc, last_byte, unclosed, parts_of, if_tag, judged_tag, judged_end_tag, is_comments, judged_form, judged}
use Rattle.sgml_theory_again.specs.markup.Tags.{is_tag, wrong_number_in, wrong_length_in}
use Rattle.sgml_theory_again.specs.scan.declared.state.ScanState.{ScanState}
use Rattle.sgml_theory_again.specs.scan.declared.state.Scanned.{Scanned}
use Rattle.sgml_theory_again.specs.scan.declared.state.Scanned.TheVariants.{Token, NeedMore, BadToken}
use Rattle.sgml_theory_again.specs.scan.declared.classes.Run.TheVariants as run
use Rattle.sgml_theory_again.specs.scan.declared.classes.Class.{Class}
use Rattle.sgml_theory_again.specs.scan.declared.classes.Class.TheVariants as class
use Rattle.sgml_theory_again.specs.scan.Classes.{class_of, class_in_content, is_data}
use Rattle.sgml_theory_again.specs.scan.Openings.{opening, matches_strings, declared_form, declared_opening}
use Rattle.sgml_theory_again.specs.scan.Tokens.{of_judged, closed, of_form, opened}
use Rattle.sgml_theory_again.specs.theory_reading.Names.{Text}
use Rattle.sgml_theory_again.specs.theory_spelling.Tokens.{character_token, first_character, string_at, by_string, by_delimiter, token_at}
use Rattle.sgml_theory_again.specs.theory_spelling.Content.{instruction}
use Rattle.sgml_theory_writable.specs.Spelled.{IsInstructionText}
use Rattle.sgml_theory_writable.proofs.Basics.{none-some, both, and, chosen, either}

-- IT ENDS with its first `>`
abbrev goes_on : ℕ → Bool
goes_on b = not (b == 62)

one-number : (n m : ℕ) → Some n ≡ Some m → n ≡ m
one-number n m e = cc

past-one : (o : Option ℕ) (n : ℕ) → later 1 o ≡ Some n → (k : ℕ) × (o ≡ Some k) × (n ≡ 1 + k)
past-one None n e = none-some n e
past-one (Some k) n e = (k, refl, sym (one-number (1 + k) n e))

some-bytes : (ys : List ℕ) (n : ℕ) → pi_end ys ≡ Some n → 1 ≤ n
some-bytes [] n e = none-some n e
some-bytes (b ∷ ys) n e = by (b == 62) e
  where
    by : (t : Bool) → (if t then Some 1 else later 1 (pi_end ys)) ≡ Some n → 1 ≤ n
    by true e = let z : 1 ≡ n = one-number 1 n e in omega (arith, z)
    by false e = let r = past-one (pi_end ys) n e in let z : n ≡ 1 + r.0 = r.2 in omega (arith, z)

unended-front : (ys : List ℕ) (n : ℕ) → pi_end ys ≡ Some n → (m : ℕ) → 1 + m ≤ n → list_all goes_on (take m ys) ≡ true
unended-front [] n e m l = none-some n e
unended-front (b ∷ ys) n e zero l = refl
unended-front (b ∷ ys) n e (suc m) l = by (b == 62) refl (λ k f g. unended-front ys k f m g) e
  where
    never : 1 ≡ n → 1 + suc m ≤ n → ⊥
    never z l = omega (arith, z, l)

    by : (t : Bool) → (b == 62) ≡ t → ((k : ℕ) → pi_end ys ≡ Some k → 1 + m ≤ k → list_all goes_on (take m ys) ≡ true)
        → (if t then Some 1 else later 1 (pi_end ys)) ≡ Some n → list_all goes_on (take (suc m) (b ∷ ys)) ≡ true
    by true is more e = absurd (never (one-number 1 n e) l)
    by false is more e =
        let r = past-one (pi_end ys) n e in
        let z : n ≡ 1 + r.0 = r.2 in
        let k : 1 + m ≤ r.0 = omega (arith, z, l) in
        and (goes_on b) (list_all goes_on (take m ys)) (ap not is) (more r.0 r.1 k)

-- a part of a list
fewer : (p : ℕ → Bool) (m n : ℕ) (xs : List ℕ) → list_all p (take m xs) ≡ true → list_all p (take m (take n xs)) ≡ true
fewer p zero n xs h = refl
fewer p (suc m) zero xs h = refl
fewer p (suc m) (suc n) [] h = refl
fewer p (suc m) (suc n) (x ∷ xs) h =
    let q = both (p x) (list_all p (take m xs)) h in
    and (p x) (list_all p (take m (take n xs))) q.0 (fewer p m n xs q.1)

all-take : (p : ℕ → Bool) (m : ℕ) (xs : List ℕ) → list_all p xs ≡ true → list_all p (take m xs) ≡ true
all-take p zero xs h = refl
all-take p (suc m) [] h = refl
all-take p (suc m) (x ∷ xs) h = let q = both (p x) (list_all p xs) h in and (p x) (list_all p (take m xs)) q.0 (all-take p m xs q.1)

all-drop : (p : ℕ → Bool) (m : ℕ) (xs : List ℕ) → list_all p xs ≡ true → list_all p (drop m xs) ≡ true
all-drop p zero xs h = h
all-drop p (suc m) [] h = refl
all-drop p (suc m) (x ∷ xs) h = all-drop p m xs (both (p x) (list_all p xs) h).1

at-most : (m : ℕ) (xs : List ℕ) → length (take m xs) ≤ m
at-most zero xs = omega arith
at-most (suc m) [] = omega arith
at-most (suc m) (x ∷ xs) = let k : length (take m xs) ≤ m = at-most m xs in omega (arith, k)

-- THE TEXT between `<?` and `>`
text-unended : (bytes : List ℕ) (n : ℕ) → pi_end (drop 2 bytes) ≡ Some n → list_all goes_on (instruction (take (2 + n) bytes)) ≡ true
text-unended bytes n e =
    let own = take (2 + n) bytes in
    let some : 1 ≤ n = some-bytes (drop 2 bytes) n e in
    let size : length own ≤ 2 + n = at-most (2 + n) bytes in
    let less : 1 + (length own - 3) ≤ n = within (length own) n some size in
    subst (λ zs. list_all goes_on (take (length own - 3) zs) ≡ true) (sym (drop-take 2 n bytes))
    (fewer goes_on (length own - 3) n (drop 2 bytes) (unended-front (drop 2 bytes) n e (length own - 3) less))
  where
    within : (k n : ℕ) → 1 ≤ n → k ≤ 2 + n → 1 + (k - 3) ≤ n
    within k n a b = omega (arith, a, b)

not-longer : (q k n : ℕ) → n ≤ k → nat_lt q k ≡ false → not (nat_lt q n) ≡ true
not-longer q k n l h = grind (arith, nat_tests)

-- BY THE KIND of the token, its own bytes
abbrev pub OwnIs : Syntax → TokenKind → Text → Type 0
OwnIs s kind.Pi own = IsInstructionText s (instruction own)
OwnIs s k own = Unit {0}

abbrev pub ScannedIs : Syntax → List ℕ → Scanned → Type 0
ScannedIs s bytes (Token x) = OwnIs s x.kind (take x.length bytes)
ScannedIs s bytes NeedMore = Unit {0}
ScannedIs s bytes (BadToken r) = Unit {0}

abbrev KindIs : Syntax → Text → Result TokenKind Reason → Type 0
KindIs s own (Ok k) = OwnIs s k own
KindIs s own (Err r) = Unit {0}

abbrev FormIs : Form → Text → Type 0
FormIs form.Instruction own = (list_all goes_on (instruction own) ≡ true) × (list_all is_sgml_character own ≡ true)
FormIs f own = Unit {0}

module _ (s : Syntax) where
  number-is : (own : Text) (n : ℕ) → KindIs s own (by_number n)
  number-is own n = either (KindIs s own) (nat_lt 255 n) (Err reason.CharNumber) (Ok (kind.CharRef n)) tt tt

  function-is : (own : Text) (o : Option ℕ) → KindIs s own (by_function o)
  function-is own None = tt
  function-is own (Some b) = tt

  character-is : (own bytes : List ℕ) → KindIs s own (character_of s bytes)
  character-is own bytes =
      let function = function_named s.general_fold (run_of (is_name_character s.names) bytes) in
      let number = number_of (run_of is_digit bytes) in
      either (KindIs s own) (begins_digit bytes) (by_number number) (by_function function) (number-is own number) (function-is own function)

  tag-is : (own : Text) (good number length : Bool) (k : TokenKind) → OwnIs s k own → KindIs s own (if_tag good number length k)
  tag-is own good number length k e = either (KindIs s own) good _ _ (either (KindIs s own) number _ _ tt (either (KindIs s own) length _ _ tt e)) tt

  judged-tag-is : (own : Text) (closing : Bool) (start : ℕ) (k : TokenKind) (markup : List ℕ) → OwnIs s k own → KindIs s own (judged_tag s closing start k markup)
  judged-tag-is own closing start k markup e =
      tag-is own (is_tag s closing start (ElementName start) (drop start (unclosed markup))) (list_any (wrong_number_in s markup) (parts_of s closing start markup))
      (list_any (wrong_length_in s markup) (parts_of s closing start markup)) k e

  form-is : (f : Form) (own : Text) → FormIs f own → KindIs s own (judged_form s f own)
  form-is form.StartTag own e =
      either (KindIs s own) (begins_tagc (drop 1 own)) (Ok kind.EmptyStart) (judged_tag s false 1 kind.StartTag own) tt
      (judged-tag-is own false 1 kind.StartTag own tt)
  form-is form.EndTag own e =
      either (KindIs s own) (begins_tagc (drop 2 own)) (Ok kind.EmptyEnd) (judged_end_tag s own) tt
      (either (KindIs s own) (last_byte own == 47) (Err reason.TagSyntax) (judged_tag s true 2 kind.EndTag own) tt (judged-tag-is own true 2 kind.EndTag own tt))
  form-is form.EntityReference own e =
      either (KindIs s own) (too_long s (name_length s (drop 1 own))) (Err reason.NameLength) (Ok kind.EntityRef) tt tt
  form-is form.ParameterReference own e =
      either (KindIs s own) (too_long s (name_length s (drop 1 own))) (Err reason.NameLength) (Ok kind.ParameterRef) tt tt
  form-is form.CharacterReference own e = character-is own (drop 2 own)
  form-is form.Instruction own e =
      chosen (KindIs s own) (nat_lt s.quantities.pilen (length own - 3)) (Err reason.PiLength) (Ok kind.Pi) (λ h. tt)
      (λ h. record {
        unended = e.0;
        sgml = all-take is_sgml_character (length own - 3) (drop 2 own) (all-drop is_sgml_character 2 own e.1);
        short = not-longer s.quantities.pilen (length own - 3) (length (instruction own)) (at-most (length own - 3) (drop 2 own)) h;
      })
  form-is form.CommentDeclaration own e =
      either (KindIs s own) (is_comments Between (take (length (drop 2 own) - 1) (drop 2 own))) (Ok kind.Comment) (Err reason.DeclarationSyntax) tt tt
  form-is form.SectionStart own e = tt
  form-is form.Declaration own e = tt
  form-is form.SubsetEnd own e = tt

  judged-is : (f : Form) (own : Text) → (list_all is_sgml_character own ≡ true → FormIs f own) → KindIs s own (judged s f own)
  judged-is f own g =
      chosen (KindIs s own) (list_all is_sgml_character own) (judged_form s f own) (Err reason.NonSgml) (λ e. form-is f own (g e)) (λ e. tt)

  -- markup that ends there
  ends-there : (f : Form) (bytes : Text) (n : ℕ) → end_of s f true (drop (before f) bytes) ≡ Some n
      → list_all is_sgml_character (take (before f + n) bytes) ≡ true → FormIs f (take (before f + n) bytes)
  ends-there form.Instruction bytes n e g = (text-unended bytes n e, g)
  ends-there _ bytes n e g = tt

  of-judged-is : (bytes : Text) (n : ℕ) (x : Result TokenKind Reason) → KindIs s (take n bytes) x → ScannedIs s bytes (of_judged n x)
  of-judged-is bytes n (Ok k) e = e
  of-judged-is bytes n (Err r) e = tt

  closed-is : (bytes : Text) (f : Form) (o : Option ℕ) → end_of s f true (drop (before f) bytes) ≡ o → ScannedIs s bytes (closed s true bytes f o)
  closed-is bytes f None e = either (ScannedIs s bytes) (list_all is_sgml_character bytes) (BadToken reason.Unclosed) (BadToken reason.NonSgml) tt tt
  closed-is bytes f (Some n) e =
      let own = take (before f + n) bytes in
      of-judged-is bytes (before f + n) (judged s f own) (judged-is f own (ends-there f bytes n e))

  form-here : (bytes : Text) (f : Form) → ScannedIs s bytes (of_form s true bytes f)
  form-here bytes f = closed-is bytes f (end_of s f true (drop (before f) bytes)) refl

  declared-is : (m : Mode) (bytes more : Text) → ScannedIs s bytes (opened s true bytes (declared_opening m more))
  declared-is mode.Ign bytes more = tt
  declared-is _ bytes more = form-here bytes (declared_form more)

  opening-is : (m : Mode) (x : Delim) (bytes more : Text) → ScannedIs s bytes (opened s true bytes (opening m x more))
  opening-is m delim.Mdo bytes more = declared-is m bytes more
  opening-is m delim.Msc bytes more = tt
  opening-is m delim.Net bytes more = tt
  opening-is m delim.Stago bytes more = form-here bytes form.StartTag
  opening-is m delim.Etago bytes more = form-here bytes form.EndTag
  opening-is m delim.Ero bytes more = form-here bytes form.EntityReference
  opening-is m delim.Cro bytes more = form-here bytes form.CharacterReference
  opening-is m delim.Pero bytes more = form-here bytes form.ParameterReference
  opening-is m delim.Pio bytes more = form-here bytes form.Instruction
  opening-is m delim.Dsc bytes more = form-here bytes form.SubsetEnd
  opening-is m _ bytes more = tt

  -- where no delimiter begins
  abbrev ClassIs : Class → Type 0
  ClassIs (class.Single k) = (own : Text) → OwnIs s k own
  ClassIs _ = Unit {0}

  content-class : (b : ℕ) → ClassIs (class_in_content b)
  content-class b =
      either ClassIs (is_data b) (class.Stretch run.Chars) (if b == 13 then class.Single kind.Re else (if b == 10 then class.Single kind.Rs else class.NonSgml)) tt
      (either ClassIs (b == 13) (class.Single kind.Re) (if b == 10 then class.Single kind.Rs else class.NonSgml) (λ own. tt)
      (either ClassIs (b == 10) (class.Single kind.Rs) class.NonSgml (λ own. tt) tt))

  class-is : (m : Mode) (b : ℕ) → ClassIs (class_of m b)
  class-is mode.Ign b = either ClassIs (is_sgml_character b) _ _ tt tt
  class-is mode.Ds b = either ClassIs (is_separator b) _ _ tt (either ClassIs (is_sgml_character b) _ _ tt tt)
  class-is _ b = content-class b

  character-token-is : (bytes : Text) (c : Class) → ClassIs c → ScannedIs s bytes (character_token c)
  character-token-is bytes (class.Stretch run.Chars) e = tt
  character-token-is bytes (class.Stretch run.Separators) e = tt
  character-token-is bytes (class.Single k) e = e (take 1 bytes)
  character-token-is bytes class.NonSgml e = tt

  first-is : (m : Mode) (bytes : Text) → ScannedIs s bytes (first_character m bytes)
  first-is m [] = tt
  first-is m (b ∷ bytes) = character-token-is (b ∷ bytes) (class_of m b) (class-is m b)

  string-is : (m : Mode) (bytes : Text) (o : Option (ℕ × ℕ)) → ScannedIs s bytes (by_string m bytes o)
  string-is m bytes (Some x) = tt
  string-is m bytes None = first-is m bytes

  delimiter-is : (st : ScanState) (bytes : Text) (o : Option Delim) → ScannedIs s bytes (by_delimiter s st bytes o)
  delimiter-is st bytes (Some x) = opening-is st.mode x bytes (drop (length (string x)) bytes)
  delimiter-is st bytes None = string-is st.mode bytes (string_at (matches_strings st) bytes)

pub token-is : (s : Syntax) (st : ScanState) (bytes : Text) → ScannedIs s bytes (token_at s st bytes)
unfolding token_at
token-is s st bytes = delimiter-is s st bytes (answer s st.mode st.net bytes)
