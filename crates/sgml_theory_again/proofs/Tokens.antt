-- In which modes instructions and references to entities are recognised (9.6.1), and short references.
use Rattle.std.proofs.Common.{◌≡◌, ◌⊎◌, inl, inr, ℕ, Bool, true, false, ◌==◌, ◌&&◌, ◌||◌, ◌+◌, ◌-◌, nat_lt, List, [], ◌∷◌, Option, None, Some, Result, Ok, Err, length, take, drop, refl, sym, ap, ◌∙◌, if◌then◌else◌}
use Rattle.std.specs.List.{list_all, list_any}
use Rattle.sgml_theory_full.specs.text.Characters.{is_sgml_character, is_separator, is_digit}
use Rattle.sgml_theory_full.specs.text.NameCharacters.{is_name_character}
use Rattle.sgml_theory_full.specs.text.declared.reason.Reason.{Reason}
use Rattle.sgml_theory_full.specs.text.declared.reason.Reason.TheVariants as reason
use Rattle.sgml_theory_full.specs.syntax.declared.syntax.Syntax.{Syntax}
use Rattle.sgml_theory_full.specs.delim.declared.delim.Mode.{Mode}
use Rattle.sgml_theory_full.specs.delim.declared.delim.Mode.TheVariants as mode
use Rattle.sgml_theory_full.specs.delim.declared.delim.Delim.{Delim}
use Rattle.sgml_theory_full.specs.delim.declared.delim.Delim.TheVariants as delim
use Rattle.sgml_theory_full.specs.delim.Tables.{string, stands, delims, first_that}
use Rattle.sgml_theory_full.specs.delim.Answers.{answer}
use Rattle.sgml_theory_full.specs.markup.declared.kinds.TokenKind.{TokenKind}
use Rattle.sgml_theory_full.specs.markup.declared.kinds.TokenKind.TheVariants as kind
use Rattle.sgml_theory_full.specs.markup.declared.kinds.Form.{Form}
use Rattle.sgml_theory_full.specs.markup.declared.kinds.Form.TheVariants as form
use Rattle.sgml_theory_full.specs.markup.Ends.{end_of}
use Rattle.sgml_theory_full.specs.markup.References.{character_of, by_number, by_function, function_named, number_of, run_of, begins_digit, too_long, name_length}
use Rattle.sgml_theory_full.specs.markup.Forms.{before, begins_tagc, last_byte, unclosed, parts_of, if_tag, judged_tag, judged_end_tag, is_comments, judged_form, judged}
use Rattle.sgml_theory_full.specs.markup.Tags.{is_tag, wrong_number_in, wrong_length_in}
use Rattle.sgml_theory_full.specs.markup.declared.kinds.TagState.TheVariants.{ElementName}
use Rattle.sgml_theory_full.specs.delim.declared.ends.Inside.TheVariants.{Between}
use Rattle.sgml_theory_full.specs.scan.declared.state.Scanned.{Scanned}
use Rattle.sgml_theory_full.specs.scan.declared.state.Scanned.TheVariants.{Token, NeedMore, BadToken}
use Rattle.sgml_theory_full.specs.scan.declared.state.Opening.{Opening}
use Rattle.sgml_theory_full.specs.scan.declared.state.Opening.TheVariants.{Markup, Whole}
use Rattle.sgml_theory_full.specs.scan.declared.classes.Run.TheVariants as run
use Rattle.sgml_theory_full.specs.scan.declared.classes.Class.{Class}
use Rattle.sgml_theory_full.specs.scan.declared.classes.Class.TheVariants as class
use Rattle.sgml_theory_full.specs.scan.Classes.{class_of, class_in_content, is_data}
use Rattle.sgml_theory_full.specs.scan.Openings.{opening, declared_form, declared_opening, is_con}
use Rattle.sgml_theory_full.specs.scan.Tokens.{token, of_judged, closed, open_ended, opened}
use Rattle.sgml_theory_full.specs.theory_spelling.Tokens.{character_token, first_character, string_at, by_string, by_delimiter, token_at}

-- where instructions are
abbrev pub has_instructions : Mode → Bool
has_instructions mode.Con = true
has_instructions mode.Ds = true
has_instructions _ = false

-- where references to general entities are: in content, in replaceable character data and in literals
abbrev pub has_references : Mode → Bool
has_references mode.Con = true
has_references mode.Rcd = true
has_references mode.Rcs = true
has_references mode.Lit = true
has_references mode.Lita = true
has_references _ = false

-- where start-tags are: in content, and within tags
abbrev pub has_starts : Mode → Bool
has_starts mode.Con = true
has_starts mode.Tag = true
has_starts _ = false

-- a token of this kind is in the mode, and no short reference
abbrev pub token_in : Mode → TokenKind → Bool
token_in m kind.Pi = has_instructions m
token_in m kind.EntityRef = has_references m
token_in m kind.StartTag = has_starts m
token_in m kind.EmptyStart = has_starts m
token_in m (kind.ShortRef i) = false
token_in m _ = true

abbrev form_in : Mode → Form → Bool
form_in m form.Instruction = has_instructions m
form_in m form.EntityReference = has_references m
form_in m form.StartTag = has_starts m
form_in m _ = true

abbrev delim_in : Mode → Delim → Bool
delim_in m delim.Pio = has_instructions m
delim_in m delim.Ero = has_references m
delim_in m delim.Stago = has_starts m
delim_in m _ = true

abbrev pub ScannedIn : Mode → Scanned → Type 0
ScannedIn m (Token x) = token_in m x.kind ≡ true
ScannedIn m NeedMore = Unit {0}
ScannedIn m (BadToken r) = Unit {0}

abbrev KindIn : Mode → Result TokenKind Reason → Type 0
KindIn m (Ok k) = token_in m k ≡ true
KindIn m (Err r) = Unit {0}

if-in : (m : Mode) (t : Bool) (x y : Result TokenKind Reason) → KindIn m x → KindIn m y → KindIn m (if t then x else y)
if-in m true x y p q = p
if-in m false x y p q = q

if-scanned : (m : Mode) (t : Bool) (x y : Scanned) → ScannedIn m x → ScannedIn m y → ScannedIn m (if t then x else y)
if-scanned m true x y p q = p
if-scanned m false x y p q = q

-- THE DELIMITERS of a mode
all-in : (m : Mode) → list_all (delim_in m) (delims m) ≡ true
all-in mode.Con = refl
all-in mode.Rcd = refl
all-in mode.Cdt = refl
all-in mode.Rcs = refl
all-in mode.Cds = refl
all-in mode.Ign = refl
all-in mode.Ds = refl
all-in mode.Grp = refl
all-in mode.Lit = refl
all-in mode.Lita = refl
all-in mode.Plt = refl
all-in mode.Plta = refl
all-in mode.Slt = refl
all-in mode.Slta = refl
all-in mode.Md = refl
all-in mode.Pi = refl
all-in mode.Ref = refl
all-in mode.Tag = refl

both : (a b : Bool) → (a && b) ≡ true → (a ≡ true) × (b ≡ true)
both true b e = (refl, e)
both false b e = absurd (cc)

first-by : (f test : Delim → Bool) (y : Delim) (ys : List Delim) (x : Delim) (t : Bool) → f y ≡ true → (first_that test ys ≡ Some x → f x ≡ true)
    → (if t then Some y else first_that test ys) ≡ Some x → f x ≡ true
first-by f test y ys x true h again e = let z : y ≡ x = cc in ap f (sym z) ∙ h
first-by f test y ys x false h again e = again e

first-is : (f test : Delim → Bool) (xs : List Delim) (x : Delim) → list_all f xs ≡ true → first_that test xs ≡ Some x → f x ≡ true
first-is f test [] x all e = absurd (cc)
first-is f test (y ∷ ys) x all e =
    let q = both (f y) (list_all f ys) all in
    first-by f test y ys x (test y) q.0 (first-is f test ys x q.1) e

-- WHAT A DELIMITER BEGINS
number-in : (m : Mode) (n : ℕ) → KindIn m (by_number n)
number-in m n = if-in m (nat_lt 255 n) (Err reason.CharNumber) (Ok (kind.CharRef n)) tt refl

function-in : (m : Mode) (o : Option ℕ) → KindIn m (by_function o)
function-in m None = tt
function-in m (Some b) = refl

character-in : (m : Mode) (s : Syntax) (bytes : List ℕ) → KindIn m (character_of s bytes)
character-in m s bytes =
    let function = function_named s.general_fold (run_of (is_name_character s.names) bytes) in
    let number = number_of (run_of is_digit bytes) in
    if-in m (begins_digit bytes) (by_number number) (by_function function) (number-in m number) (function-in m function)

tag-in : (m : Mode) (good number length : Bool) (k : TokenKind) → token_in m k ≡ true → KindIn m (if_tag good number length k)
tag-in m good number length k e = if-in m good _ _ (if-in m number _ _ tt (if-in m length _ _ tt e)) tt

judged-tag-in : (m : Mode) (s : Syntax) (closing : Bool) (start : ℕ) (k : TokenKind) (markup : List ℕ) → token_in m k ≡ true → KindIn m (judged_tag s closing start k markup)
judged-tag-in m s closing start k markup e =
    tag-in m (is_tag s closing start (ElementName start) (drop start (unclosed markup))) (list_any (wrong_number_in s markup) (parts_of s closing start markup))
    (list_any (wrong_length_in s markup) (parts_of s closing start markup)) k e

form-in : (m : Mode) (s : Syntax) (f : Form) (markup : List ℕ) → form_in m f ≡ true → KindIn m (judged_form s f markup)
form-in m s form.StartTag markup e =
    if-in m (begins_tagc (drop 1 markup)) (Ok kind.EmptyStart) (judged_tag s false 1 kind.StartTag markup) e
    (judged-tag-in m s false 1 kind.StartTag markup e)
form-in m s form.EndTag markup e =
    if-in m (begins_tagc (drop 2 markup)) (Ok kind.EmptyEnd) (judged_end_tag s markup) refl
    (if-in m (last_byte markup == 47) (Err reason.TagSyntax) (judged_tag s true 2 kind.EndTag markup) tt (judged-tag-in m s true 2 kind.EndTag markup refl))
form-in m s form.EntityReference markup e =
    if-in m (too_long s (name_length s (drop 1 markup))) (Err reason.NameLength) (Ok kind.EntityRef) tt e
form-in m s form.ParameterReference markup e =
    if-in m (too_long s (name_length s (drop 1 markup))) (Err reason.NameLength) (Ok kind.ParameterRef) tt refl
form-in m s form.CharacterReference markup e = character-in m s (drop 2 markup)
form-in m s form.Instruction markup e =
    if-in m (nat_lt s.quantities.pilen (length markup - 3)) (Err reason.PiLength) (Ok kind.Pi) tt e
form-in m s form.CommentDeclaration markup e =
    if-in m (is_comments Between (take (length (drop 2 markup) - 1) (drop 2 markup))) (Ok kind.Comment) (Err reason.DeclarationSyntax) refl tt
form-in m s form.SectionStart markup e = refl
form-in m s form.Declaration markup e = refl
form-in m s form.SubsetEnd markup e = refl

judged-in : (m : Mode) (s : Syntax) (f : Form) (markup : List ℕ) → form_in m f ≡ true → KindIn m (judged s f markup)
judged-in m s f markup e = if-in m (list_all is_sgml_character markup) _ _ (form-in m s f markup e) tt

of-judged-in : (m : Mode) (n : ℕ) (x : Result TokenKind Reason) → KindIn m x → ScannedIn m (of_judged n x)
of-judged-in m n (Ok k) e = e
of-judged-in m n (Err r) e = tt

open-ended-in : (m : Mode) (ended : Bool) (bytes : List ℕ) → ScannedIn m (open_ended ended bytes)
open-ended-in m ended bytes = if-scanned m ended _ _ (if-scanned m (list_all is_sgml_character bytes) _ _ tt tt) tt

closed-in : (m : Mode) (s : Syntax) (ended : Bool) (bytes : List ℕ) (f : Form) (o : Option ℕ) → form_in m f ≡ true → ScannedIn m (closed s ended bytes f o)
closed-in m s ended bytes f None e = open-ended-in m ended bytes
closed-in m s ended bytes f (Some n) e =
    let own = take (before f + n) bytes in
    of-judged-in m (before f + n) (judged s f own) (judged-in m s f own e)

abbrev OpeningIn : Mode → Opening → Type 0
OpeningIn m (Whole k n) = token_in m k ≡ true
OpeningIn m (Markup f) = form_in m f ≡ true

opened-in : (m : Mode) (s : Syntax) (bytes : List ℕ) (o : Opening) → OpeningIn m o → ScannedIn m (opened s true bytes o)
opened-in m s bytes (Whole k n) e = e
opened-in m s bytes (Markup f) e = closed-in m s true bytes f (end_of s f true (drop (before f) bytes)) e

if-form : (m : Mode) (t : Bool) (x y : Form) → form_in m x ≡ true → form_in m y ≡ true → form_in m (if t then x else y) ≡ true
if-form m true x y p q = p
if-form m false x y p q = q

declared-in : (m : Mode) (bytes : List ℕ) → form_in m (declared_form bytes) ≡ true
declared-in m [] = refl
declared-in m (b ∷ bytes) =
    if-form m (b == 91) form.SectionStart (if (b == 45) || (b == 62) then form.CommentDeclaration else form.Declaration) refl
    (if-form m ((b == 45) || (b == 62)) form.CommentDeclaration form.Declaration refl refl)

declared-opening-in : (m k : Mode) (bytes : List ℕ) → OpeningIn m (declared_opening k bytes)
declared-opening-in m mode.Ign bytes = refl
declared-opening-in m _ bytes = declared-in m bytes

opening-in : (m : Mode) (x : Delim) (bytes : List ℕ) → delim_in m x ≡ true → OpeningIn m (opening m x bytes)
opening-in m delim.Mdo bytes e = declared-opening-in m m bytes
opening-in m delim.Msc bytes e = refl
opening-in m delim.Net bytes e = refl
opening-in m delim.Stago bytes e = e
opening-in m delim.Etago bytes e = refl
opening-in m delim.Ero bytes e = e
opening-in m delim.Cro bytes e = refl
opening-in m delim.Pero bytes e = refl
opening-in m delim.Pio bytes e = e
opening-in m delim.Dsc bytes e = refl
opening-in m _ bytes e = refl

-- WHERE NO DELIMITER BEGINS
abbrev ClassIn : Mode → Class → Type 0
ClassIn m (class.Single k) = token_in m k ≡ true
ClassIn m _ = Unit {0}

if-class : (m : Mode) (t : Bool) (x y : Class) → ClassIn m x → ClassIn m y → ClassIn m (if t then x else y)
if-class m true x y p q = p
if-class m false x y p q = q

content-class : (m : Mode) (b : ℕ) → ClassIn m (class_in_content b)
content-class m b =
    if-class m (is_data b) (class.Stretch run.Chars) (if b == 13 then class.Single kind.Re else (if b == 10 then class.Single kind.Rs else class.NonSgml)) tt
    (if-class m (b == 13) (class.Single kind.Re) (if b == 10 then class.Single kind.Rs else class.NonSgml) refl
    (if-class m (b == 10) (class.Single kind.Rs) class.NonSgml refl tt))

class-in : (m k : Mode) (b : ℕ) → ClassIn m (class_of k b)
class-in m mode.Ign b = if-class m (is_sgml_character b) _ _ tt tt
class-in m mode.Ds b = if-class m (is_separator b) _ _ tt (if-class m (is_sgml_character b) _ _ tt tt)
class-in m _ b = content-class m b

character-token-in : (m : Mode) (c : Class) → ClassIn m c → ScannedIn m (character_token c)
character-token-in m (class.Stretch run.Chars) e = refl
character-token-in m (class.Stretch run.Separators) e = refl
character-token-in m (class.Single k) e = e
character-token-in m class.NonSgml e = tt

first-character-in : (m : Mode) (bytes : List ℕ) → ScannedIn m (first_character m bytes)
first-character-in m [] = tt
first-character-in m (b ∷ bytes) = character-token-in m (class_of m b) (class-in m m b)

-- or a short reference string stands there, in content where a map is in force (9.6.1)
pub record StringThere (m : Mode) (maps : Bool) (x : Scanned) : Type 0 where
  pub content : m ≡ mode.Con
  pub in_force : maps ≡ true
  pub number : ℕ
  pub size : ℕ
  pub is : x ≡ token (kind.ShortRef number) size

abbrev pub ScannedThere : Mode → Bool → Scanned → Type 0
ScannedThere m maps x = ScannedIn m x ⊎ StringThere m maps x

found-in : (bytes : List ℕ) (o : Option (ℕ × ℕ)) → ScannedThere mode.Con true (by_string mode.Con bytes o)
found-in bytes None = inl (first-character-in mode.Con bytes)
found-in bytes (Some s) = inr (record { content = refl; in_force = refl; number = s.0; size = s.1; is = refl })

strings-in : (m : Mode) (maps : Bool) (bytes : List ℕ) → ScannedThere m maps (by_string m bytes (string_at (maps && is_con m) bytes))
strings-in m false bytes = inl (first-character-in m bytes)
strings-in mode.Con true bytes = found-in bytes (string_at true bytes)
strings-in m true bytes = inl (first-character-in m bytes)

plain-in : (s : Syntax) (m : Mode) (net maps : Bool) (bytes : List ℕ) (o : Option Delim) → answer s m net bytes ≡ o
    → ScannedThere m maps (by_delimiter s (record { mode = m; net = net; maps = maps }) bytes o)
plain-in s m net maps bytes None e = strings-in m maps bytes
plain-in s m net maps bytes (Some x) e =
    let more = drop (length (string x)) bytes in
    inl (opened-in m s bytes (opening m x more) (opening-in m x more (first-is (delim_in m) (λ x. stands s m net x bytes) (delims m) x (all-in m) e)))

pub token-in : (s : Syntax) (m : Mode) (net maps : Bool) (bytes : List ℕ) → ScannedThere m maps (token_at s (record { mode = m; net = net; maps = maps }) bytes)
unfolding token_at
token-in s m net maps bytes = plain-in s m net maps bytes (answer s m net bytes) refl
