-- The modes in which a text is scanned, and what a byte is in them where nothing else begins.
use Rattle.std.specs.Prelude.{ℕ, Bool, true, false, List, [], ◌∷◌, ◌==◌, nat_le, MatchBool, if◌then◌else◌, Option, None, Some}
use Rattle.sgml_delim.specs.declared.delim.Mode.{Mode}
use Rattle.sgml_delim.specs.declared.delim.Mode.TheVariants as m
use Rattle.sgml_markup.specs.declared.kinds.TokenKind.{TokenKind}
use Rattle.sgml_markup.specs.declared.kinds.TokenKind.TheVariants as kind
use Rattle.sgml_text.specs.Characters.{is_sgml_character, is_separator}
use Rattle.sgml_scan.specs.declared.classes.Run.{Run}
use Rattle.sgml_scan.specs.declared.classes.Run.TheVariants as run
use Rattle.sgml_scan.specs.declared.classes.Class.{Class}
use Rattle.sgml_scan.specs.declared.classes.Class.TheVariants.{Stretch, Single, NonSgml}

-- whether something holds, and a proof either way
abbrev pub Tells : Bool → Type 0 → Type 0
Tells test Holds = MatchBool test Holds (Holds → ⊥)

-- content, its sections, and the prolog with the subsets
abbrev pub is_scanned : Mode → Bool
is_scanned m.Con = true
is_scanned m.Rcd = true
is_scanned m.Cdt = true
is_scanned m.Rcs = true
is_scanned m.Cds = true
is_scanned m.Ign = true
is_scanned m.Ds = true
is_scanned _ = false

-- a character of data: an SGML character but RE and RS
abbrev pub is_data : ℕ → Bool
is_data b = if nat_le b 31 then b == 9 else if b == 127 then false else true

-- in content each record end and start is a token by itself (7.6.1)
abbrev pub class_in_content : ℕ → Class
class_in_content b =
    if is_data b then Stretch run.Chars
    else if b == 13 then Single kind.Re else if b == 10 then Single kind.Rs else NonSgml

-- in an ignored section nothing but its delimiters counts (10.4.2)
abbrev pub class_in_ignored : ℕ → Class
class_in_ignored b = if is_sgml_character b then Stretch run.Chars else NonSgml

-- in the prolog separators stand between its parts (7.1, 11.1)
abbrev pub class_in_subset : ℕ → Class
class_in_subset b =
    if is_separator b then Stretch run.Separators else if is_sgml_character b then Stretch run.Chars else NonSgml

abbrev pub class_of : Mode → ℕ → Class
class_of m.Ign b = class_in_ignored b
class_of m.Ds b = class_in_subset b
class_of _ b = class_in_content b

abbrev pub run_of : Class → Option Run
run_of (Stretch k) = Some k
run_of _ = None

-- what the stretch is of that a text begins with, where nothing else begins
abbrev pub stretch_at : Mode → List ℕ → Option Run
stretch_at mode [] = None
stretch_at mode (b ∷ bytes) = run_of (class_of mode b)

-- the kind of the token that a stretch is
abbrev pub run_kind : Run → TokenKind
run_kind run.Chars = kind.Chars
run_kind run.Separators = kind.Separators
