-- References to characters (9.5), and references in literals (7.9.3, 9.4).
use Rattle.std.specs.Prelude.{ℕ, ◌+◌, ◌*◌, ◌-◌, Bool, true, false, List, [], ◌∷◌, ◌==◌, ◌&&◌, ◌||◌, nat_lt, if◌then◌else◌, Option, None, Some, Result, Ok, Err, drop, length, fold, codes}
use Rattle.sgml_text.specs.NameCharacters.{is_name_character}
use Rattle.sgml_text.specs.Characters.{is_digit, upper}
pub use Rattle.sgml_text.specs.Runs.{run_of}
use Rattle.sgml_text.specs.declared.reason.Reason.{Reason}
use Rattle.sgml_text.specs.declared.reason.Reason.TheVariants.{CharNumber}
use Rattle.sgml_syntax.specs.declared.syntax.Syntax.{Syntax}
use Rattle.sgml_delim.specs.declared.delim.Delim.{Delim}
use Rattle.sgml_delim.specs.declared.delim.Delim.TheVariants as d
use Rattle.sgml_delim.specs.declared.delim.Mode.TheVariants as m
use Rattle.sgml_delim.specs.Answers.{answer}
use Rattle.sgml_markup.specs.declared.kinds.TokenKind.{TokenKind}
use Rattle.sgml_markup.specs.declared.kinds.TokenKind.TheVariants.{CharRef, FunctionRef}

-- the number that decimal digits spell
abbrev pub number_of : List ℕ → ℕ
number_of digits = fold (λ n b. 10 * n + (b - 48)) 0 digits

abbrev pub begins_digit : List ℕ → Bool
begins_digit [] = false
begins_digit (b ∷ bytes) = is_digit b

-- a name as it is compared: folded where NAMECASE GENERAL is YES (13.4.5)
abbrev pub cased : Bool → ℕ → ℕ
cased folds b = if folds then upper b else b

abbrev pub spells : Bool → List ℕ → List ℕ → Bool
spells folds [] [] = true
spells folds [] (b ∷ bytes) = false
spells folds (w ∷ word) [] = false
spells folds (w ∷ word) (b ∷ bytes) = (w == cased folds b) && spells folds word bytes

-- the function characters of the reference syntax: RE, RS, SPACE and TAB (13.4.4)
abbrev pub function_named : Bool → List ℕ → Option ℕ
function_named folds name =
    if spells folds (codes "RE") name then Some 13
    else if spells folds (codes "RS") name then Some 10
    else if spells folds (codes "SPACE") name then Some 32
    else if spells folds (codes "TAB") name then Some 9
    else None

abbrev pub by_function : Option ℕ → Result TokenKind Reason
by_function None = Err CharNumber
by_function (Some b) = Ok (FunctionRef b)

abbrev pub by_number : ℕ → Result TokenKind Reason
by_number n = if nat_lt 255 n then Err CharNumber else Ok (CharRef n)

-- What a reference to a character stands for, by the text after CRO: the character of a number up to
-- 255, or a function character (9.5; the limit is of the profile).
abbrev pub character_of : Syntax → List ℕ → Result TokenKind Reason
character_of s bytes =
    if begins_digit bytes then by_number (number_of (run_of is_digit bytes))
    else by_function (function_named s.general_fold (run_of (is_name_character s.names) bytes))

abbrev pub is_err : Result TokenKind Reason → Bool
is_err (Ok x) = false
is_err (Err e) = true

-- how many name characters the text begins with
abbrev pub name_length : Syntax → List ℕ → ℕ
name_length s bytes = length (run_of (is_name_character s.names) bytes)

-- a name that passes NAMELEN
abbrev pub too_long : Syntax → ℕ → Bool
too_long s n = nat_lt s.quantities.namelen n

-- what is wrong with the reference that a literal has at a place, if it has one there
abbrev pub wrong_number : Syntax → Option Delim → List ℕ → Bool
wrong_number s (Some d.Cro) bytes = is_err (character_of s (drop 2 bytes))
wrong_number s _ bytes = false

abbrev pub wrong_length : Syntax → Option Delim → List ℕ → Bool
wrong_length s (Some d.Ero) bytes = too_long s (name_length s (drop 1 bytes))
wrong_length s _ bytes = false

-- whether it holds at some place of the text
abbrev pub somewhere : (List ℕ → Bool) → List ℕ → Bool
somewhere test [] = false
somewhere test (b ∷ bytes) = test (b ∷ bytes) || somewhere test bytes

-- the delimiter that an attribute value literal has at the head of a text: its references are those of
-- mode Lit, and the other quote changes nothing in that
unfoldable pub in_literal : Syntax → List ℕ → Option Delim
in_literal s bytes = answer s m.Lit false bytes

-- Whether an attribute value literal refers to a character that isn't there, or by a name that passes
-- NAMELEN.
abbrev pub has_wrong_number : Syntax → List ℕ → Bool
has_wrong_number s bytes = somewhere (λ rest. wrong_number s (in_literal s rest) rest) bytes

abbrev pub has_wrong_length : Syntax → List ℕ → Bool
has_wrong_length s bytes = somewhere (λ rest. wrong_length s (in_literal s rest) rest) bytes
