-- A token that lies in the front of a text is decided there.
use Rattle.std.proofs.Common.{◌≡◌, ℕ, ◌+◌, ◌≤◌, ◌<◌, ◌⊎◌, inl, inr, Bool, true, false, List, [], ◌∷◌, ◌++◌, Option, None, Some, is_some, Result, Ok, Err, length, take, drop, nat_lt, refl, sym, ◌∙◌, ap, subst, if◌then◌else◌, ◌==◌, ◌&&◌, ◌||◌, arith}
use Rattle.std.specs.List.{prefix_len, list_all}
use Rattle.std.proofs.lemmas.List.{drop-append-le, length-drop}
use Rattle.sgml_io.specs.text.declared.name_set.NameSet.{NameSet}
use Rattle.sgml_io.specs.text.NameCharacters.{is_name_start, is_name_character, is_marked}
use Rattle.sgml_io.specs.text.Characters.{is_letter, is_digit, is_sgml_character}
use Rattle.sgml_io.specs.text.declared.reason.Reason.{Reason}
use Rattle.sgml_io.specs.text.declared.reason.Reason.TheVariants as reason
use Rattle.sgml_theory_standing.specs.syntax.declared.syntax.Syntax.{Syntax}
use Rattle.sgml_theory_standing.specs.delim.declared.delim.Delim.{Delim}
use Rattle.sgml_theory_standing.specs.delim.declared.delim.Delim.TheVariants as d
use Rattle.sgml_theory_standing.specs.delim.declared.delim.Mode.TheVariants as m
use Rattle.sgml_theory_standing.specs.delim.declared.delim.Need.TheVariants.{NameStart}
use Rattle.sgml_theory_standing.specs.delim.declared.delim.Recognised.{Recognised}
use Rattle.sgml_theory_standing.specs.delim.declared.delim.Recognised.TheVariants as r
use Rattle.sgml_theory_standing.specs.delim.declared.ends.Inside.TheVariants.{Between}
use Rattle.sgml_theory_standing.specs.delim.declared.ends.Ender.TheVariants.{Mdc}
use Rattle.sgml_theory_standing.specs.delim.Tables.{string, begins, follows, in_force, stands, delims}
use Rattle.sgml_theory_standing.specs.delim.Answers as delimiters
use Rattle.sgml_theory_standing.specs.delim.Answers.{Among, Says}
use Rattle.sgml_theory_standing.specs.delim.Ends.{later, inside_after, end_after, ender_of}
use Rattle.sgml_theory_standing.specs.delim.Verdicts.{recognised}
use Rattle.sgml_theory_standing.proofs.delim.Deciding.{true-false, and-right, stands-unlike, stands-length, found-length}
use Rattle.sgml_theory_standing.proofs.delim.Ending.{end-within as after-within}
use Rattle.sgml_theory_standing.proofs.delim.Found.{found-stands, stands-after}
use Rattle.sgml_theory_standing.proofs.delim.Longest.{answer-longest}
use Rattle.sgml_theory_standing.proofs.delim.Verdicts.{recognised-answers}
use Rattle.sgml_theory_standing.specs.markup.declared.kinds.Form.{Form}
use Rattle.sgml_theory_standing.specs.markup.declared.kinds.Form.TheVariants as form
use Rattle.sgml_theory_standing.specs.markup.declared.kinds.TokenKind.{TokenKind}
use Rattle.sgml_theory_standing.specs.markup.declared.kinds.TokenKind.TheVariants as kind
use Rattle.sgml_theory_standing.specs.markup.Ends.{end_of}
use Rattle.sgml_theory_standing.specs.markup.Forms.{before, judged, judged_form}
use Rattle.sgml_theory_standing.specs.markup.References.{name_length, too_long}
use Rattle.sgml_theory_standing.proofs.markup.Bytes.{name-named}
use Rattle.sgml_theory_standing.proofs.markup.Ending.{end-within}
use Rattle.sgml_theory_standing.specs.scan.declared.state.ScanState.{ScanState}
use Rattle.sgml_theory_standing.specs.scan.declared.state.Opening.TheVariants.{Markup}
use Rattle.sgml_theory_standing.specs.scan.declared.state.Scanned.{Scanned}
use Rattle.sgml_theory_standing.specs.scan.declared.state.Scanned.TheVariants.{Token, BadToken}
use Rattle.sgml_theory_standing.specs.scan.declared.classes.Run.TheVariants as run
use Rattle.sgml_theory_standing.specs.scan.declared.classes.Class.{Class}
use Rattle.sgml_theory_standing.specs.scan.declared.classes.Class.TheVariants as class
use Rattle.sgml_theory_standing.specs.scan.Classes.{class_of, run_kind}
use Rattle.sgml_theory_standing.specs.scan.Openings.{opening, declared_form}
use Rattle.sgml_theory_standing.specs.scan.Tokens.{token, of_judged, closed, opened, HasRoom}
use Rattle.sgml_theory_standing.specs.scan.Decided.{has_match, reaches_opening, reaches, token_decided}
use Rattle.sgml_theory_standing.proofs.scan.Continuing.{opening-stays}
use Rattle.sgml_theory_standing.proofs.scan.Standing.{opening-room}
use Rattle.sgml_theory_standing.specs.theory_spelling.Tokens.{character_token, string_at, by_string, by_delimiter, token_at}
use Rattle.sgml_theory_prologs.proofs.Recognised.{never, wants, one-wants, two-want, three-want, ds-told, ign-told}
use Rattle.sgml_theory_prologs.proofs.Ends.{end-back, declaration-back, named-step, name-ends, is_ended, form-back, form-some, reference-back, reference-some, later-some}

pub and-false : (t : Bool) → (t && false) ≡ false
and-false true = refl
and-false false = refl

or-left : (t : Bool) → (t || false) ≡ true → t ≡ true
or-left true e = refl
or-left false e = e

not-so : (t : Bool) → (t ≡ true → ⊥) → t ≡ false
not-so true h = absurd (h refl)
not-so false h = refl

-- in the prolog and in a document type, and in an ignored section
abbrev pub ds : Bool → Bool → ScanState
ds net maps = record { mode = m.Ds; net = net; maps = maps }

abbrev pub ign : Bool → Bool → ScanState
ign net maps = record { mode = m.Ign; net = net; maps = maps }

-- THE TOKEN'S KIND AND LENGTH

kind_in : Scanned → TokenKind
kind_in (Token x) = x.kind
kind_in _ = kind.Chars

length_in : Scanned → ℕ
length_in (Token x) = x.length
length_in _ = 0

pub kind-same : (k l : TokenKind) (n i : ℕ) → token k n ≡ token l i → k ≡ l
unfolding kind_in
kind-same k l n i e = ap kind_in e

pub length-same : (k l : TokenKind) (n i : ℕ) → token k n ≡ token l i → n ≡ i
unfolding length_in
length-same k l n i e = ap length_in e

-- MARKUP, by its end

abbrev pub Sized : Syntax → List ℕ → Form → TokenKind → ℕ → Type 0
Sized s bytes f k n = (e : ℕ) × (end_of s f true (drop (before f) bytes) ≡ Some e) × (before f + e ≡ n) × (judged s f (take (before f + e) bytes) ≡ Ok k)

unopened : (t : Bool) (k : TokenKind) (n : ℕ) {A : Type 0} → (if t then BadToken reason.Unclosed else BadToken reason.NonSgml) ≡ token k n → A
unopened true k n e = absurd (cc)
unopened false k n e = absurd (cc)

judged-size : (size : ℕ) (x : Result TokenKind Reason) (k : TokenKind) (n : ℕ) → of_judged size x ≡ token k n → (x ≡ Ok k) × (size ≡ n)
judged-size size (Ok y) k n e = (ap Ok (kind-same y k size n e), length-same y k size n e)
judged-size size (Err r) k n e = absurd (cc)

closed-size : (s : Syntax) (bytes : List ℕ) (f : Form) (k : TokenKind) (n : ℕ) (o : Option ℕ) → end_of s f true (drop (before f) bytes) ≡ o → closed s true bytes f o ≡ token k n → Sized s bytes f k n
closed-size s bytes f k n None h e = unopened (list_all is_sgml_character bytes) k n e
closed-size s bytes f k n (Some z) h e =
    let j = judged-size (before f + z) (judged s f (take (before f + z) bytes)) k n e in
    (z, h, j.1, j.0)

pub markup-size : (s : Syntax) (bytes : List ℕ) (f : Form) (k : TokenKind) (n : ℕ) → opened s true bytes (Markup f) ≡ token k n → Sized s bytes f k n
markup-size s bytes f k n e = closed-size s bytes f k n (end_of s f true (drop (before f) bytes)) refl e

markup-within : (s : Syntax) (bytes : List ℕ) (f : Form) (k : TokenKind) (n : ℕ) → opened s true bytes (Markup f) ≡ token k n → before f ≤ length bytes → n ≤ length bytes
markup-within s bytes f k n e room =
    let z = markup-size s bytes f k n e in
    let low = end-within s f true (drop (before f) bytes) z.0 z.1 in
    let rest = length-drop (before f) bytes in
    omega (arith, z.2, low, rest, room)

pub declared-ended : (bytes : List ℕ) → is_ended (declared_form bytes) ≡ true
declared-ended [] = refl
declared-ended (b ∷ bytes) = by (b == 91) ((b == 45) || (b == 62))
  where
    by : (t u : Bool) → is_ended (if t then form.SectionStart else if u then form.CommentDeclaration else form.Declaration) ≡ true
    by true u = refl
    by false true = refl
    by false false = refl

declared-before : (bytes : List ℕ) → 2 ≤ before (declared_form bytes)
declared-before [] = omega arith
declared-before (b ∷ bytes) = by (b == 91) ((b == 45) || (b == 62))
  where
    by : (t u : Bool) → 2 ≤ before (if t then form.SectionStart else if u then form.CommentDeclaration else form.Declaration)
    by true u = omega arith
    by false true = omega arith
    by false false = omega arith

-- HOW LONG it is at least

ended-long : (s : Syntax) (bytes : List ℕ) (f : Form) (k : TokenKind) (n : ℕ) → is_ended f ≡ true → opened s true bytes (Markup f) ≡ token k n → before f < n
ended-long s bytes f k n h e =
    let z = markup-size s bytes f k n e in
    let some = form-some s f (drop (before f) bytes) z.0 h z.1 in
    omega (arith, z.2, some)

mdo-long : (s : Syntax) (bytes : List ℕ) (k : TokenKind) (n : ℕ) → opened s true bytes (Markup (declared_form (drop 2 bytes))) ≡ token k n → 3 ≤ n
mdo-long s bytes k n e =
    let long = ended-long s bytes (declared_form (drop 2 bytes)) k n (declared-ended (drop 2 bytes)) e in
    let two = declared-before (drop 2 bytes) in
    omega (arith, long, two)

start-parts : (l x s y : Bool) → (l || s) ≡ true → (l || x || s || y) ≡ true
start-parts true x s y e = refl
start-parts false true s y e = refl
start-parts false false true y e = refl
start-parts false false false y e = never false e refl

start-goes-on : (names : NameSet) (b : ℕ) → is_name_start names b ≡ true → is_name_character names b ≡ true
start-goes-on names b e = start-parts (is_letter b) (is_digit b) (is_marked names.start b) (is_marked names.more b) e

pero-long : (s : Syntax) (net : Bool) (b : ℕ) (bytes : List ℕ) (k : TokenKind) (n : ℕ) → stands s m.Ds net d.Pero (b ∷ bytes) ≡ true
    → opened s true (b ∷ bytes) (Markup form.ParameterReference) ≡ token k n → 2 ≤ n
unfolding stands
pero-long s net b [] k n t e = absurd (true-false (and-right (in_force s m.Ds net d.Pero && begins (string d.Pero) (b ∷ [])) (follows s NameStart []) t))
pero-long s net b (c ∷ bytes) k n t e =
    let after : follows s NameStart (c ∷ bytes) ≡ true = and-right (in_force s m.Ds net d.Pero && begins (string d.Pero) (b ∷ c ∷ bytes)) (follows s NameStart (c ∷ bytes)) t in
    let named = start-goes-on s.names c (or-left (is_name_start s.names c) after) in
    let z = markup-size s (b ∷ c ∷ bytes) form.ParameterReference k n e in
    let some = reference-some (is_name_character s.names) c bytes z.0 named z.1 in
    omega (arith, z.2, some)

-- an end behind a byte that is none
after-byte : (s : Syntax) (b : ℕ) (bytes : List ℕ) (n : ℕ) → (b == 62) ≡ false → end_after s.names Mdc Between (b ∷ bytes) ≡ Some n → 2 ≤ n
after-byte s b bytes n e h =
    let is : later 1 (end_after s.names Mdc (inside_after s.names Between b) bytes) ≡ Some n =
    ap (λ t. if t then Some 1 else later 1 (end_after s.names Mdc (inside_after s.names Between b) bytes)) (sym e) ∙ h in
    let z = later-some (end_after s.names Mdc (inside_after s.names Between b) bytes) n is in
    let some = (after-within s.names Mdc (inside_after s.names Between b) bytes z.0 z.1).some in
    omega (arith, z.2, some)

-- BY THE DELIMITER that the text begins with, or none

abbrev pub ByDelimiter : Syntax → Bool → List ℕ → TokenKind → ℕ → Type 0 → Delim → Type 0
ByDelimiter s net bytes k n P x = stands s m.Ds net x bytes ≡ true → opened s true bytes (opening m.Ds x (drop (length (string x)) bytes)) ≡ token k n → P

pub record Cases (s : Syntax) (net : Bool) (b : ℕ) (bytes : List ℕ) (k : TokenKind) (n : ℕ) (P : Type 0) : Type 0 where
  pub mdo : ByDelimiter s net (b ∷ bytes) k n P d.Mdo
  pub pio : ByDelimiter s net (b ∷ bytes) k n P d.Pio
  pub msc : ByDelimiter s net (b ∷ bytes) k n P d.Msc
  pub pero : ByDelimiter s net (b ∷ bytes) k n P d.Pero
  pub dsc : ByDelimiter s net (b ∷ bytes) k n P d.Dsc
  pub none : character_token (class_of m.Ds b) ≡ token k n → P

by-among : (s : Syntax) (net : Bool) (b : ℕ) (bytes : List ℕ) (k : TokenKind) (n : ℕ) (P : Type 0) → Cases s net b bytes k n P
    → (x : Delim) → Among (delims m.Ds) x → ByDelimiter s net (b ∷ bytes) k n P x
by-among s net b bytes k n P c x (inl e) = subst (ByDelimiter s net (b ∷ bytes) k n P) e c.mdo
by-among s net b bytes k n P c x (inr (inl e)) = subst (ByDelimiter s net (b ∷ bytes) k n P) e c.pio
by-among s net b bytes k n P c x (inr (inr (inl e))) = subst (ByDelimiter s net (b ∷ bytes) k n P) e c.msc
by-among s net b bytes k n P c x (inr (inr (inr (inl e)))) = subst (ByDelimiter s net (b ∷ bytes) k n P) e c.pero
by-among s net b bytes k n P c x (inr (inr (inr (inr (inl e))))) = subst (ByDelimiter s net (b ∷ bytes) k n P) e c.dsc
by-among s net b bytes k n P c x (inr (inr (inr (inr (inr a))))) = absurd a

by-answer : (s : Syntax) (net maps : Bool) (b : ℕ) (bytes : List ℕ) (k : TokenKind) (n : ℕ) (P : Type 0) → Cases s net b bytes k n P
    → (o : Option Delim) → Says (λ x. stands s m.Ds net x (b ∷ bytes)) (delims m.Ds) o → by_delimiter s (ds net maps) (b ∷ bytes) o ≡ token k n → P
by-answer s net maps b bytes k n P c (Some x) says e = by-among s net b bytes k n P c x says.0 says.1 e
by-answer s net maps b bytes k n P c None says e = c.none (ap (λ t. by_string m.Ds (b ∷ bytes) (string_at t (b ∷ bytes))) (sym (and-false maps)) ∙ e)

pub by-cases : (s : Syntax) (net maps : Bool) (b : ℕ) (bytes : List ℕ) (k : TokenKind) (n : ℕ) (P : Type 0) → Cases s net b bytes k n P
    → token_at s (ds net maps) (b ∷ bytes) ≡ token k n → P
unfolding token_at
by-cases s net maps b bytes k n P c e =
    by-answer s net maps b bytes k n P c (delimiters.answer s m.Ds net (b ∷ bytes)) (answer-longest s m.Ds net (b ∷ bytes)) e

one-character : (c : Class) (k : TokenKind) (n : ℕ) → character_token c ≡ token k n → 1 ≡ n
one-character (class.Stretch q) k n e = length-same (run_kind q) k 1 n e
one-character (class.Single y) k n e = length-same y k 1 n e
one-character class.NonSgml k n e = absurd (cc)

-- it lies in the text
pub ds-within : (s : Syntax) (net maps : Bool) (b : ℕ) (bytes : List ℕ) (k : TokenKind) (n : ℕ) → token_at s (ds net maps) (b ∷ bytes) ≡ token k n → n ≤ length (b ∷ bytes)
ds-within s net maps b bytes k n =
    by-cases s net maps b bytes k n (n ≤ length (b ∷ bytes))
    (record {
      mdo = λ t e. markup-within s (b ∷ bytes) (declared_form (drop 2 (b ∷ bytes))) k n e (opening-room m.Ds d.Mdo (b ∷ bytes) (stands-length s m.Ds net d.Mdo (b ∷ bytes) t));
      pio = λ t e. markup-within s (b ∷ bytes) form.Instruction k n e (stands-length s m.Ds net d.Pio (b ∷ bytes) t);
      msc = λ t e. let is : 3 ≡ n = length-same kind.SectionEnd k 3 n e in
          let after = stands-after s m.Ds net d.Msc (b ∷ bytes) refl t in
          let rest = length-drop 2 (b ∷ bytes) in
          omega (arith, is, after, rest);
      pero = λ t e. markup-within s (b ∷ bytes) form.ParameterReference k n e (omega arith);
      dsc = λ t e. markup-within s (b ∷ bytes) form.SubsetEnd k n e (omega arith);
      none = λ e. let is : 1 ≡ n = one-character (class_of m.Ds b) k n e in omega (arith, is);
    })

-- WHICH TOKENS MAY END WITH THE FRONT: none that is read one by one, and no name without what ends it

abbrev pub Fits : TokenKind → ℕ → ℕ → Type 0
Fits kind.Chars n front = ⊥
Fits kind.ParameterRef n front = n < front
Fits _ n front = n ≤ front

fits-within : (k : TokenKind) (n front : ℕ) → Fits k n front → n ≤ front
fits-within kind.Chars n front f = absurd f
fits-within kind.ParameterRef n front f = omega (arith, f)
fits-within _ n front f = f

no-characters : (k : TokenKind) (n front : ℕ) {A : Type 0} → kind.Chars ≡ k → Fits k n front → A
no-characters k n front e f = absurd (subst (λ x. Fits x n front) (sym e) f)

named-within : (k : TokenKind) (n front : ℕ) → k ≡ kind.ParameterRef → Fits k n front → n < front
named-within k n front e f = subst (λ x. Fits x n front) e f

-- WHERE THE DELIMITER ISN'T TOLD by the front the token is longer

abbrev Short : Syntax → Bool → ℕ → List ℕ → TokenKind → ℕ → Type 0
Short s net b bytes k n = Cases s net b bytes k n ⊥

chars-here : (b : ℕ) (k : TokenKind) (n front : ℕ) → class_of m.Ds b ≡ class.Stretch run.Chars → Fits k n front → character_token (class_of m.Ds b) ≡ token k n → ⊥
chars-here b k n front c f e = no-characters k n front (kind-same kind.Chars k 1 n (sym (ap character_token c) ∙ e)) f

pero-not : (s : Syntax) (net : Bool) (b : ℕ) (bytes : List ℕ) → (37 == b) ≡ false → stands s m.Ds net d.Pero (b ∷ bytes) ≡ true → ⊥
pero-not s net b bytes e t = true-false (sym (stands-unlike s m.Ds net d.Pero (b ∷ bytes) (ap (λ t. t && begins [] bytes) e)) ∙ t)

dsc-not : (s : Syntax) (net : Bool) (b : ℕ) (bytes : List ℕ) → (93 == b) ≡ false → stands s m.Ds net d.Dsc (b ∷ bytes) ≡ true → ⊥
dsc-not s net b bytes e t = true-false (sym (stands-unlike s m.Ds net d.Dsc (b ∷ bytes) (ap (λ t. t && begins [] bytes) e)) ∙ t)

one-short : (s : Syntax) (net : Bool) (b : ℕ) (bytes : List ℕ) (k : TokenKind) (n : ℕ) → class_of m.Ds b ≡ class.Stretch run.Chars → Fits k n 1 → Short s net b bytes k n
one-short s net b bytes k n c f =
    let low = fits-within k n 1 f in
    record {
      mdo = λ t e. let long = mdo-long s (b ∷ bytes) k n e in absurd (omega (arith, long, low));
      pio = λ t e. let long = ended-long s (b ∷ bytes) form.Instruction k n refl e in absurd (omega (arith, long, low));
      msc = λ t e. let is : 3 ≡ n = length-same kind.SectionEnd k 3 n e in absurd (omega (arith, is, low));
      pero = λ t e. let long = pero-long s net b bytes k n t e in absurd (omega (arith, long, low));
      dsc = λ t e. let long = ended-long s (b ∷ bytes) form.SubsetEnd k n refl e in absurd (omega (arith, long, low));
      none = λ e. chars-here b k n 1 c f e;
    }

mdo-short : (s : Syntax) (net : Bool) (bytes : List ℕ) (k : TokenKind) (n : ℕ) → Fits k n 2 → Short s net 60 (33 ∷ bytes) k n
mdo-short s net bytes k n f =
    let low = fits-within k n 2 f in
    record {
      mdo = λ t e. let long = mdo-long s (60 ∷ 33 ∷ bytes) k n e in absurd (omega (arith, long, low));
      pio = λ t e. let long = ended-long s (60 ∷ 33 ∷ bytes) form.Instruction k n refl e in absurd (omega (arith, long, low));
      msc = λ t e. let is : 3 ≡ n = length-same kind.SectionEnd k 3 n e in absurd (omega (arith, is, low));
      pero = λ t e. pero-not s net 60 (33 ∷ bytes) refl t;
      dsc = λ t e. dsc-not s net 60 (33 ∷ bytes) refl t;
      none = λ e. chars-here 60 k n 2 refl f e;
    }

dsc-long : (s : Syntax) (bytes : List ℕ) (k : TokenKind) (n : ℕ) → opened s true (93 ∷ 93 ∷ bytes) (Markup form.SubsetEnd) ≡ token k n → 3 ≤ n
dsc-long s bytes k n e =
    let z = markup-size s (93 ∷ 93 ∷ bytes) form.SubsetEnd k n e in
    let two = after-byte s 93 bytes z.0 refl z.1 in
    omega (arith, z.2, two)

msc-short : (s : Syntax) (net : Bool) (bytes : List ℕ) (k : TokenKind) (n : ℕ) → Fits k n 2 → Short s net 93 (93 ∷ bytes) k n
msc-short s net bytes k n f =
    let low = fits-within k n 2 f in
    record {
      mdo = λ t e. let long = mdo-long s (93 ∷ 93 ∷ bytes) k n e in absurd (omega (arith, long, low));
      pio = λ t e. let long = ended-long s (93 ∷ 93 ∷ bytes) form.Instruction k n refl e in absurd (omega (arith, long, low));
      msc = λ t e. let is : 3 ≡ n = length-same kind.SectionEnd k 3 n e in absurd (omega (arith, is, low));
      pero = λ t e. pero-not s net 93 (93 ∷ bytes) refl t;
      dsc = λ t e. let long = dsc-long s bytes k n e in absurd (omega (arith, long, low));
      none = λ e. chars-here 93 k n 2 refl f e;
    }

comment-long : (s : Syntax) (bytes : List ℕ) (k : TokenKind) (n : ℕ) → opened s true (60 ∷ 33 ∷ 45 ∷ bytes) (Markup form.CommentDeclaration) ≡ token k n → 4 ≤ n
comment-long s bytes k n e =
    let z = markup-size s (60 ∷ 33 ∷ 45 ∷ bytes) form.CommentDeclaration k n e in
    let two = after-byte s 45 bytes z.0 refl z.1 in
    omega (arith, z.2, two)

pio-not : (s : Syntax) (net : Bool) (bytes : List ℕ) → stands s m.Ds net d.Pio (60 ∷ 33 ∷ bytes) ≡ true → ⊥
pio-not s net bytes t = true-false (sym (stands-unlike s m.Ds net d.Pio (60 ∷ 33 ∷ bytes) refl) ∙ t)

msc-not : (s : Syntax) (net : Bool) (bytes : List ℕ) → stands s m.Ds net d.Msc (60 ∷ 33 ∷ bytes) ≡ true → ⊥
msc-not s net bytes t = true-false (sym (stands-unlike s m.Ds net d.Msc (60 ∷ 33 ∷ bytes) refl) ∙ t)

comment-short : (s : Syntax) (net : Bool) (bytes : List ℕ) (k : TokenKind) (n : ℕ) → Fits k n 3 → Short s net 60 (33 ∷ 45 ∷ bytes) k n
comment-short s net bytes k n f =
    let low = fits-within k n 3 f in
    record {
      mdo = λ t e. let long = comment-long s bytes k n e in absurd (omega (arith, long, low));
      pio = λ t e. pio-not s net (45 ∷ bytes) t;
      msc = λ t e. msc-not s net (45 ∷ bytes) t;
      pero = λ t e. pero-not s net 60 (33 ∷ 45 ∷ bytes) refl t;
      dsc = λ t e. dsc-not s net 60 (33 ∷ 45 ∷ bytes) refl t;
      none = λ e. chars-here 60 k n 3 refl f e;
    }

chars-one : (b : ℕ) → (b ≡ 60) ⊎ (b ≡ 93) ⊎ (b ≡ 37) → class_of m.Ds b ≡ class.Stretch run.Chars
chars-one b (inl e) = ap (class_of m.Ds) e
chars-one b (inr (inl e)) = ap (class_of m.Ds) e
chars-one b (inr (inr e)) = ap (class_of m.Ds) e

none-wants : (s : Syntax) (net maps : Bool) (front ys : List ℕ) (k : TokenKind) (n : ℕ) → 0 < length front → wants (recognised s m.Ds net front) ≡ true
    → token_at s (ds net maps) (front ++ ys) ≡ token k n → Fits k n (length front) → ⊥
none-wants s net maps [] ys k n some w e f = absurd (omega (arith, some))
none-wants s net maps (b ∷ []) ys k n some w e f =
    by-cases s net maps b ys k n ⊥ (one-short s net b ys k n (chars-one b (one-wants s net b w)) f) e
none-wants s net maps (b ∷ c ∷ []) ys k n some w e f = by (two-want s net b c w)
  where
    by : ((b ≡ 60) × (c ≡ 33)) ⊎ ((b ≡ 93) × (c ≡ 93)) → ⊥
    by (inl q) = by-cases s net maps 60 (33 ∷ ys) k n ⊥ (mdo-short s net ys k n f) (sym (λ i. token_at s (ds net maps) (q.0 i ∷ q.1 i ∷ ys)) ∙ e)
    by (inr q) = by-cases s net maps 93 (93 ∷ ys) k n ⊥ (msc-short s net ys k n f) (sym (λ i. token_at s (ds net maps) (q.0 i ∷ q.1 i ∷ ys)) ∙ e)
none-wants s net maps (b ∷ c ∷ a ∷ []) ys k n some w e f =
    let q = three-want s net b c a w in
    by-cases s net maps 60 (33 ∷ 45 ∷ ys) k n ⊥ (comment-short s net ys k n f) (sym (λ i. token_at s (ds net maps) (q.0 i ∷ q.1 i ∷ q.2 i ∷ ys)) ∙ e)
none-wants s net maps (b ∷ c ∷ a ∷ o ∷ front) ys k n some w e f =
    never (wants (recognised s m.Ds net (b ∷ c ∷ a ∷ o ∷ front))) w (ds-told s net (b ∷ c ∷ a ∷ o ∷ front) (omega arith))

-- THE END of markup is in the front

some-is : (o : Option ℕ) (n : ℕ) → o ≡ Some n → is_some o ≡ true
some-is o n e = ap is_some e

ended-reached : (s : Syntax) (front ys : List ℕ) (f : Form) (k : TokenKind) (n : ℕ) → is_ended f ≡ true → opened s true (front ++ ys) (Markup f) ≡ token k n → n ≤ length front → before f ≤ length front
    → reaches_opening s front (Markup f) ≡ true
ended-reached s front ys f k n h e l room =
    let z = markup-size s (front ++ ys) f k n e in
    let rest = length-drop (before f) front in
    let there : end_of s f true (drop (before f) front ++ ys) ≡ Some z.0 = ap (end_of s f true) (sym (drop-append-le (before f) front ys room)) ∙ z.1 in
    some-is (end_of s f false (drop (before f) front)) z.0 (form-back s f (drop (before f) front) ys h z.0 there (omega (arith, z.2, rest, l, room)))

abbrev IsParameter : Result TokenKind Reason → Type 0
IsParameter (Ok k) = k ≡ kind.ParameterRef
IsParameter (Err r) = Unit {0}

if-parameter : (t : Bool) (x y : Result TokenKind Reason) → IsParameter x → IsParameter y → IsParameter (if t then x else y)
if-parameter true x y p q = p
if-parameter false x y p q = q

parameter-kind : (s : Syntax) (markup : List ℕ) → IsParameter (judged s form.ParameterReference markup)
parameter-kind s markup =
    if-parameter (list_all is_sgml_character markup) (judged_form s form.ParameterReference markup) (Err reason.NonSgml)
    (if-parameter (too_long s (name_length s (drop 1 markup))) (Err reason.NameLength) (Ok kind.ParameterRef) tt refl) tt

parameter-ok : (x : Result TokenKind Reason) (k : TokenKind) → IsParameter x → x ≡ Ok k → k ≡ kind.ParameterRef
parameter-ok x k p e = subst IsParameter e p

pub parameter-named : (s : Syntax) (bytes : List ℕ) (k : TokenKind) (n : ℕ) → opened s true bytes (Markup form.ParameterReference) ≡ token k n → k ≡ kind.ParameterRef
parameter-named s bytes k n e =
    let z = markup-size s bytes form.ParameterReference k n e in
    parameter-ok (judged s form.ParameterReference (take (1 + z.0) bytes)) k (parameter-kind s (take (1 + z.0) bytes)) z.3

pero-reached : (s : Syntax) (front ys : List ℕ) (k : TokenKind) (n : ℕ) → opened s true (front ++ ys) (Markup form.ParameterReference) ≡ token k n → Fits k n (length front) → 1 ≤ length front
    → reaches_opening s front (Markup form.ParameterReference) ≡ true
pero-reached s front ys k n e f room =
    let z = markup-size s (front ++ ys) form.ParameterReference k n e in
    let is = parameter-named s (front ++ ys) k n e in
    let low = named-within k n (length front) is f in
    let rest = length-drop 1 front in
    let there : end_of s form.ParameterReference true (drop 1 front ++ ys) ≡ Some z.0 = ap (end_of s form.ParameterReference true) (sym (drop-append-le 1 front ys room)) ∙ z.1 in
    some-is (end_of s form.ParameterReference false (drop 1 front)) z.0
    (reference-back (is_name_character s.names) (drop 1 front) ys z.0 there (omega (arith, z.2, rest, low, room)))

abbrev Reached : Syntax → List ℕ → List ℕ → TokenKind → ℕ → Delim → Type 0
Reached s front ys k n x = length (string x) ≤ length front → opened s true (front ++ ys) (opening m.Ds x (drop (length (string x)) front)) ≡ token k n
    → HasRoom front (opening m.Ds x (drop (length (string x)) front)) → reaches_opening s front (opening m.Ds x (drop (length (string x)) front)) ≡ true

among-reached : (s : Syntax) (front ys : List ℕ) (k : TokenKind) (n : ℕ) → Fits k n (length front) → (x : Delim) → Among (delims m.Ds) x → Reached s front ys k n x
among-reached s front ys k n f x (inl e) =
    subst (Reached s front ys k n) e
    (λ l h room. ended-reached s front ys (declared_form (drop 2 front)) k n (declared-ended (drop 2 front)) h (fits-within k n (length front) f) room)
among-reached s front ys k n f x (inr (inl e)) =
    subst (Reached s front ys k n) e (λ l h room. ended-reached s front ys form.Instruction k n refl h (fits-within k n (length front) f) room)
among-reached s front ys k n f x (inr (inr (inl e))) = subst (Reached s front ys k n) e (λ l h room. refl)
among-reached s front ys k n f x (inr (inr (inr (inl e)))) =
    subst (Reached s front ys k n) e (λ l h room. pero-reached s front ys k n h f l)
among-reached s front ys k n f x (inr (inr (inr (inr (inl e))))) =
    subst (Reached s front ys k n) e (λ l h room. ended-reached s front ys form.SubsetEnd k n refl h (fits-within k n (length front) f) room)
among-reached s front ys k n f x (inr (inr (inr (inr (inr a))))) = absurd a

found-reached : (s : Syntax) (net maps : Bool) (front ys : List ℕ) (k : TokenKind) (n : ℕ) (x : Delim) (i : ℕ) → delimiters.Answers false (delimiters.answer s m.Ds net) front (r.Found x i)
    → by_delimiter s (ds net maps) (front ++ ys) (delimiters.answer s m.Ds net (front ++ ys)) ≡ token k n → Fits k n (length front)
    → reaches_opening s front (opening m.Ds x (drop (length (string x)) front)) ≡ true
found-reached s net maps front ys k n x i a e f =
    let there = found-stands s m.Ds net false front x i a in
    let room : length (string x) ≤ length front = found-length s m.Ds net false front x i a in
    let full : delimiters.answer s m.Ds net (front ++ ys) ≡ Some x = a.1 ys (λ t. absurd (true-false t)) in
    let among = subst (Says (λ y. stands s m.Ds net y (front ++ ys)) (delims m.Ds)) full (answer-longest s m.Ds net (front ++ ys)) in
    let same = opening-stays s m.Ds net x front ys refl there room in
    let begun : opened s true (front ++ ys) (opening m.Ds x (drop (length (string x)) (front ++ ys))) ≡ token k n = sym (ap (by_delimiter s (ds net maps) (front ++ ys)) full) ∙ e in
    among-reached s front ys k n f x among.0 room (ap (opened s true (front ++ ys)) (sym same) ∙ begun) (opening-room m.Ds x front room)

recognised-reached : (s : Syntax) (net maps : Bool) (front ys : List ℕ) (k : TokenKind) (n : ℕ) (x : Recognised) → delimiters.Answers false (delimiters.answer s m.Ds net) front x → (wants x ≡ true → ⊥)
    → by_delimiter s (ds net maps) (front ++ ys) (delimiters.answer s m.Ds net (front ++ ys)) ≡ token k n → Fits k n (length front)
    → reaches s (ds net maps) front x ≡ true
recognised-reached s net maps front ys k n r.NeedMore a w e f = absurd (w refl)
recognised-reached s net maps front ys k n (r.Found x i) a w e f = found-reached s net maps front ys k n x i a e f
recognised-reached s net maps front ys k n r.Plain a w e f = ap (λ t. has_match t front) (and-false maps)

pub ds-decided : (s : Syntax) (net maps : Bool) (front ys : List ℕ) (k : TokenKind) (n : ℕ) → 0 < length front → token_at s (ds net maps) (front ++ ys) ≡ token k n → Fits k n (length front)
    → token_decided s (ds net maps) front ≡ true
unfolding token_decided token_at
ds-decided s net maps front ys k n some e f =
    recognised-reached s net maps front ys k n (recognised s m.Ds net front) (recognised-answers s m.Ds net front) (λ w. none-wants s net maps front ys k n some w e f) e f

-- AFTER MDO a name ends in the front

named-mark : (names : NameSet) (c : ℕ) → (c == 91) ≡ true → is_name_character names c ≡ false
named-mark names c e = not-so (is_name_character names c) (λ h. never (c == 91) e (name-named names c h).no_dso)

declared-named : (s : Syntax) (c : ℕ) (front ys : List ℕ) (k : TokenKind) (n : ℕ) (t u : Bool) → (c == 91) ≡ t → n ≤ 2 + length (c ∷ front)
    → opened s true (60 ∷ 33 ∷ ((c ∷ front) ++ ys)) (Markup (if t then form.SectionStart else if u then form.CommentDeclaration else form.Declaration)) ≡ token k n
    → nat_lt (prefix_len (is_name_character s.names) (c ∷ front)) (length (c ∷ front)) ≡ true
declared-named s c front ys k n true u h l e =
    let no = named-mark s.names c h in
    named-step (is_name_character s.names) c front false no (λ t. never false t refl)
declared-named s c front ys k n false true h l e =
    let z = markup-size s (60 ∷ 33 ∷ ((c ∷ front) ++ ys)) form.CommentDeclaration k n e in
    name-ends s.names Mdc Between (c ∷ front) z.0 (end-back s.names Mdc Between (c ∷ front) ys z.0 z.1 (omega (arith, z.2, l)))
declared-named s c front ys k n false false h l e =
    let z = markup-size s (60 ∷ 33 ∷ ((c ∷ front) ++ ys)) form.Declaration k n e in
    name-ends s.names (ender_of s.names (c ∷ front)) Between (c ∷ front) z.0 (declaration-back s.names (c ∷ front) ys z.0 z.1 (omega (arith, z.2, l)))

mdo-named : (s : Syntax) (front ys : List ℕ) (k : TokenKind) (n : ℕ) → n ≤ 2 + length front → opened s true (60 ∷ 33 ∷ (front ++ ys)) (Markup (declared_form (front ++ ys))) ≡ token k n
    → nat_lt (prefix_len (is_name_character s.names) front) (length front) ≡ true
mdo-named s [] ys k n l e = let long = mdo-long s (60 ∷ 33 ∷ ys) k n e in absurd (omega (arith, long, l))
mdo-named s (c ∷ front) ys k n l e = declared-named s c front ys k n (c == 91) ((c == 45) || (c == 62)) refl l e

pub keyword-told : (s : Syntax) (net maps : Bool) (front ys : List ℕ) (k : TokenKind) (n : ℕ) → token_at s (ds net maps) (60 ∷ 33 ∷ (front ++ ys)) ≡ token k n → Fits k n (2 + length front)
    → nat_lt (prefix_len (is_name_character s.names) front) (length front) ≡ true
keyword-told s net maps front ys k n e f =
    by-cases s net maps 60 (33 ∷ (front ++ ys)) k n (nat_lt (prefix_len (is_name_character s.names) front) (length front) ≡ true)
    (record {
      mdo = λ t h. mdo-named s front ys k n (fits-within k n (2 + length front) f) h;
      pio = λ t h. absurd (pio-not s net (front ++ ys) t);
      msc = λ t h. absurd (msc-not s net (front ++ ys) t);
      pero = λ t h. absurd (pero-not s net 60 (33 ∷ (front ++ ys)) refl t);
      dsc = λ t h. absurd (dsc-not s net 60 (33 ∷ (front ++ ys)) refl t);
      none = λ h. absurd (chars-here 60 k n (2 + length front) refl f h);
    })
    e

-- IN AN IGNORED SECTION

among-whole : (s : Syntax) (front : List ℕ) (x : Delim) → Among (delims m.Ign) x → reaches_opening s front (opening m.Ign x (drop (length (string x)) front)) ≡ true
among-whole s front x (inl e) = subst (λ y. reaches_opening s front (opening m.Ign y (drop (length (string y)) front)) ≡ true) e refl
among-whole s front x (inr (inl e)) = subst (λ y. reaches_opening s front (opening m.Ign y (drop (length (string y)) front)) ≡ true) e refl
among-whole s front x (inr (inr a)) = absurd a

ignored-reached : (s : Syntax) (net maps : Bool) (front : List ℕ) (x : Recognised) → delimiters.Answers false (delimiters.answer s m.Ign net) front x → wants x ≡ false
    → reaches s (ign net maps) front x ≡ true
ignored-reached s net maps front r.NeedMore a w = never true refl w
ignored-reached s net maps front (r.Found x i) a w =
    let full : delimiters.answer s m.Ign net (front ++ []) ≡ Some x = a.1 [] (λ t. absurd (true-false t)) in
    let says = subst (Says (λ y. stands s m.Ign net y (front ++ [])) (delims m.Ign)) full (answer-longest s m.Ign net (front ++ [])) in
    among-whole s front x says.0
ignored-reached s net maps front r.Plain a w = ap (λ t. has_match t front) (and-false maps)

pub ign-decided : (s : Syntax) (net maps : Bool) (front : List ℕ) → 3 ≤ length front → token_decided s (ign net maps) front ≡ true
unfolding token_decided
ign-decided s net maps [] l = absurd (omega (arith, l))
ign-decided s net maps (b ∷ []) l = absurd (omega (arith, l))
ign-decided s net maps (b ∷ c ∷ []) l = absurd (omega (arith, l))
ign-decided s net maps (b ∷ c ∷ a ∷ front) l =
    ignored-reached s net maps (b ∷ c ∷ a ∷ front) (recognised s m.Ign net (b ∷ c ∷ a ∷ front)) (recognised-answers s m.Ign net (b ∷ c ∷ a ∷ front)) (ign-told s net b c a front)

-- its tokens have three bytes or are characters
abbrev pub Ignored : List ℕ → TokenKind → ℕ → Type 0
Ignored bytes k n = ((n ≡ 3) × (3 ≤ length bytes)) ⊎ ((k ≡ kind.Chars) × (n ≡ 1))

ignored-delimiter : (s : Syntax) (net : Bool) (bytes : List ℕ) (k : TokenKind) (n : ℕ) (x : Delim) → Among (delims m.Ign) x → stands s m.Ign net x bytes ≡ true
    → opened s true bytes (opening m.Ign x (drop (length (string x)) bytes)) ≡ token k n → Ignored bytes k n
ignored-delimiter s net bytes k n x (inl e) t h =
    let there = subst (λ y. stands s m.Ign net y bytes ≡ true) (sym e) t in
    let same = subst (λ y. opened s true bytes (opening m.Ign y (drop (length (string y)) bytes)) ≡ token k n) (sym e) h in
    let after = stands-after s m.Ign net d.Mdo bytes refl there in
    let rest = length-drop 2 bytes in
    inl (sym (length-same kind.SectionStart k 3 n same), omega (arith, after, rest))
ignored-delimiter s net bytes k n x (inr (inl e)) t h =
    let there = subst (λ y. stands s m.Ign net y bytes ≡ true) (sym e) t in
    let same = subst (λ y. opened s true bytes (opening m.Ign y (drop (length (string y)) bytes)) ≡ token k n) (sym e) h in
    let after = stands-after s m.Ign net d.Msc bytes refl there in
    let rest = length-drop 2 bytes in
    inl (sym (length-same kind.SectionEnd k 3 n same), omega (arith, after, rest))
ignored-delimiter s net bytes k n x (inr (inr a)) t h = absurd a

ignored-character : (t : Bool) (bytes : List ℕ) (k : TokenKind) (n : ℕ) → character_token (if t then class.Stretch run.Chars else class.NonSgml) ≡ token k n → Ignored bytes k n
ignored-character true bytes k n e = inr (sym (kind-same kind.Chars k 1 n e), sym (length-same kind.Chars k 1 n e))
ignored-character false bytes k n e = absurd (cc)

ignored-answer : (s : Syntax) (net maps : Bool) (b : ℕ) (bytes : List ℕ) (k : TokenKind) (n : ℕ) (o : Option Delim) → Says (λ x. stands s m.Ign net x (b ∷ bytes)) (delims m.Ign) o
    → by_delimiter s (ign net maps) (b ∷ bytes) o ≡ token k n → Ignored (b ∷ bytes) k n
ignored-answer s net maps b bytes k n (Some x) says e = ignored-delimiter s net (b ∷ bytes) k n x says.0 says.1 e
ignored-answer s net maps b bytes k n None says e =
    ignored-character (is_sgml_character b) (b ∷ bytes) k n (ap (λ t. by_string m.Ign (b ∷ bytes) (string_at t (b ∷ bytes))) (sym (and-false maps)) ∙ e)

pub ign-token : (s : Syntax) (net maps : Bool) (b : ℕ) (bytes : List ℕ) (k : TokenKind) (n : ℕ) → token_at s (ign net maps) (b ∷ bytes) ≡ token k n → Ignored (b ∷ bytes) k n
unfolding token_at
ign-token s net maps b bytes k n e = ignored-answer s net maps b bytes k n (delimiters.answer s m.Ign net (b ∷ bytes)) (answer-longest s m.Ign net (b ∷ bytes)) e

pub ign-within : (s : Syntax) (net maps : Bool) (b : ℕ) (bytes : List ℕ) (k : TokenKind) (n : ℕ) → token_at s (ign net maps) (b ∷ bytes) ≡ token k n → n ≤ length (b ∷ bytes)
ign-within s net maps b bytes k n e = by (ign-token s net maps b bytes k n e)
  where
    by : Ignored (b ∷ bytes) k n → n ≤ length (b ∷ bytes)
    by (inl x) = omega (arith, x.0, x.1)
    by (inr x) = omega (arith, x.1)
