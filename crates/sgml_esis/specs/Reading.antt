-- What reading does, byte by byte. The laws over it say that it reads the grammar.
use Rattle.std.specs.Prelude.{◌≡◌, ℕ, ◌+◌, ◌-◌, ◌*◌, ◌%◌, ◌==◌, ◌&&◌, not, Bool, true, List, [], ◌∷◌, ◌++◌, length, take, drop, nat_lt, codes, if◌then◌else◌, Option, None, Some}
use Rattle.std.specs.Option.{option_map}
use Rattle.std.specs.List.{prefix_len}
use Rattle.sgml_text.specs.declared.data_kind.DataKind.{DataKind}
use Rattle.sgml_text.specs.declared.data_kind.DataKind.TheVariants as kinds
use Rattle.sgml_esis.specs.declared.line.EscUnit.{EscUnit}
use Rattle.sgml_esis.specs.declared.line.EscUnit.TheVariants as units
use Rattle.sgml_esis.specs.declared.line.Line.{Line}
use Rattle.sgml_esis.specs.declared.line.Line.TheVariants as lines
use Rattle.sgml_esis.specs.declared.escapes.Mode.{Mode}
use Rattle.sgml_esis.specs.declared.escapes.Mode.TheVariants as modes
use Rattle.sgml_esis.specs.declared.marks.Mark.{Mark}
use Rattle.sgml_esis.specs.declared.marks.Mark.TheVariants as marks
use Rattle.sgml_esis.specs.declared.marks.NameMark.{NameMark}
use Rattle.sgml_esis.specs.declared.marks.NameMark.TheVariants as names
use Rattle.sgml_esis.specs.declared.marks.TextMark.{TextMark}
use Rattle.sgml_esis.specs.declared.marks.TextMark.TheVariants as texts
use Rattle.sgml_esis.specs.Grammar.{is_word_byte, is_word, is_paired, is_none, is_internal}

abbrev pub on_some : {A B : Type 0} → Option A → (A → B) → B → B
on_some None f d = d
on_some (Some x) f d = f x

-- the unit that one more byte ends
abbrev pub unit_in : Mode → ℕ → Option EscUnit
unit_in modes.Plain b = if b == 92 then None else if nat_lt b 32 then None else Some (units.Byte b)
unit_in modes.Escape b = if b == 92 then Some (units.Byte 92) else if b == 110 then Some (units.Byte 13) else if b == 124 then Some units.Bar else None
unit_in modes.Octal b = None
unit_in (modes.Low middle) b =
    if nat_lt b 48 then None else if nat_lt 55 b then None else if 8 * (middle % 4) + (b - 48) == 13 then None else Some (units.Byte (8 * (middle % 4) + (b - 48)))

-- where it ends none: what the next byte is
abbrev pub mode_in : Mode → ℕ → Option Mode
mode_in modes.Plain b = if b == 92 then Some modes.Escape else None
mode_in modes.Escape b = if b == 48 then Some modes.Octal else None
mode_in modes.Octal b = if nat_lt b 48 then None else if nat_lt 51 b then None else Some (modes.Low (b - 48))
mode_in (modes.Low middle) b = None

-- the end of a text stands in no escape
abbrev pub ended : List EscUnit → Mode → Option (List EscUnit)
ended done modes.Plain = Some done
ended done modes.Escape = None
ended done modes.Octal = None
ended done (modes.Low middle) = None

-- units that were read, and the rest of their text
abbrev pub units_on : List EscUnit → Mode → List ℕ → Option (List EscUnit)
units_on done mode [] = ended done mode
units_on done mode (b ∷ bs) =
    on_some (unit_in mode b) (λ u. units_on (done ++ u ∷ []) modes.Plain bs) (on_some (mode_in mode b) (λ next. units_on done next bs) None)

-- what one more byte makes of units that were read, whatever comes after it
abbrev pub GoesOn : List EscUnit → Mode → ℕ → List EscUnit → Option Mode → Type 0
GoesOn done mode b new None = (rest : List ℕ) → units_on done mode (b ∷ rest) ≡ None
GoesOn done mode b new (Some next) = (rest : List ℕ) → units_on new next rest ≡ units_on done mode (b ∷ rest)

abbrev pub paired_only : List EscUnit → Option (List EscUnit)
paired_only us = if is_paired us then Some us else None

abbrev pub text_of : List ℕ → Option (List EscUnit)
text_of bytes = on_some (units_on [] modes.Plain bytes) paired_only None

abbrev pub word_of : List ℕ → Option (List ℕ)
word_of bytes = if is_word bytes then Some bytes else None

-- a list of words ends with a word
abbrev pub words_ended : List (List ℕ) → List ℕ → Option (List (List ℕ))
words_ended done word = if is_none word then None else Some (done ++ word ∷ [])

-- words that were read, the bytes of the next, and the rest
abbrev pub words_on : List (List ℕ) → List ℕ → List ℕ → Option (List (List ℕ))
words_on done word [] = words_ended done word
words_on done word (b ∷ bs) =
    if is_word_byte b then words_on done (word ++ b ∷ []) bs else if b == 32 && not (is_none word) then words_on (done ++ word ∷ []) [] bs else None

abbrev pub words_of : List ℕ → Option (List (List ℕ))
words_of [] = None
words_of (b ∷ bs) = if b == 32 then words_on [] [] bs else None

-- what follows a word at the front
abbrev pub strip : List ℕ → List ℕ → Option (List ℕ)
strip [] bytes = Some bytes
strip (w ∷ ws) [] = None
strip (w ∷ ws) (b ∷ bs) = if w == b then strip ws bs else None

-- a name at the front, and what follows it
abbrev pub split_of : List ℕ → Option (List ℕ × List ℕ)
split_of bytes =
    if prefix_len is_word_byte bytes == 0 then None else Some (take (prefix_len is_word_byte bytes) bytes, drop (prefix_len is_word_byte bytes) bytes)

-- what follows an attribute's name
abbrev pub implied_of : List ℕ → List ℕ → Option Line
implied_of name rest = if is_none rest then Some (lines.Implied name) else None

abbrev pub cdata_of : List ℕ → List ℕ → Option Line
cdata_of name rest = option_map (λ t. lines.Cdata name t) (text_of rest)

abbrev pub notation_of : List ℕ → List ℕ → Option Line
notation_of name rest = option_map (λ w. lines.Notation name w) (word_of rest)

abbrev pub entity_of : List ℕ → List ℕ → Option Line
entity_of name rest = option_map (λ ws. lines.Entity name ws) (words_of rest)

abbrev pub token_of : List ℕ → List ℕ → Option Line
token_of name rest = option_map (λ ws. lines.Token name ws) (words_of rest)

abbrev pub attribute_of : List ℕ → List ℕ → Option Line
attribute_of name tail =
    on_some (strip (codes " IMPLIED") tail) (λ rest. implied_of name rest)
    (on_some (strip (codes " CDATA ") tail) (λ rest. cdata_of name rest)
    (on_some (strip (codes " NOTATION ") tail) (λ rest. notation_of name rest)
    (on_some (strip (codes " ENTITY") tail) (λ rest. entity_of name rest)
    (on_some (strip (codes " TOKEN") tail) (λ rest. token_of name rest) None))))

-- the kind of a data entity between blanks, and what follows it
abbrev pub kind_at : List ℕ → Option (DataKind × List ℕ)
kind_at tail =
    on_some (strip (codes " CDATA ") tail) (λ rest. Some (kinds.Cdata, rest))
    (on_some (strip (codes " NDATA ") tail) (λ rest. Some (kinds.Ndata, rest))
    (on_some (strip (codes " SDATA ") tail) (λ rest. Some (kinds.Sdata, rest)) None))

abbrev pub external_of : List ℕ → List ℕ → Option Line
external_of name tail =
    on_some (kind_at tail) (λ found. option_map (λ w. lines.DefineExternal name found.0 w) (word_of found.1)) None

abbrev pub internal_of : List ℕ → List ℕ → Option Line
internal_of name tail =
    on_some (kind_at tail) (λ found. if is_internal found.0 then option_map (λ t. lines.DefineInternal name found.0 t) (text_of found.1) else None) None

-- the lines that are a mark and a name
abbrev pub name_line : NameMark → List ℕ → Line
name_line names.Start name = lines.Start name
name_line names.Finish name = lines.Finish name
name_line names.DataRef name = lines.DataRef name
name_line names.DefineNotation name = lines.DefineNotation name

-- the lines that are a mark and a text
abbrev pub text_line : TextMark → List EscUnit → Line
text_line texts.Chars text = lines.Chars text
text_line texts.Pi text = lines.Pi text
text_line texts.Public text = lines.Public text
text_line texts.System text = lines.System text
text_line texts.AppInfo text = lines.AppInfo text

-- data isn't empty, and APPINFO is on the first line
abbrev pub may_stand : Bool → TextMark → List ℕ → Bool
may_stand first texts.Chars bytes = not (is_none bytes)
may_stand first texts.Pi bytes = true
may_stand first texts.Public bytes = true
may_stand first texts.System bytes = true
may_stand first texts.AppInfo bytes = first

-- the line of a mark and a text, where it may stand
abbrev pub texted_of : Bool → TextMark → List ℕ → Option Line
texted_of first kind bytes =
    if may_stand first kind bytes then option_map (λ t. text_line kind t) (text_of bytes) else None

-- what follows a mark
abbrev pub marked_of : Bool → Bool → Mark → List ℕ → Option Line
marked_of first last (marks.Named kind) bytes = option_map (λ w. name_line kind w) (word_of bytes)
marked_of first last (marks.Texted kind) bytes = texted_of first kind bytes
marked_of first last marks.Attribute bytes = on_some (split_of bytes) (λ parts. attribute_of parts.0 parts.1) None
marked_of first last marks.External bytes = on_some (split_of bytes) (λ parts. external_of parts.0 parts.1) None
marked_of first last marks.Internal bytes = on_some (split_of bytes) (λ parts. internal_of parts.0 parts.1) None
marked_of first last marks.Conforming bytes = if last && is_none bytes then Some lines.Conforming else None

-- the byte of a mark
abbrev pub mark_byte : Mark → ℕ
mark_byte (marks.Named names.Start) = 40
mark_byte (marks.Named names.Finish) = 41
mark_byte (marks.Named names.DataRef) = 38
mark_byte (marks.Named names.DefineNotation) = 78
mark_byte (marks.Texted texts.Chars) = 45
mark_byte (marks.Texted texts.Pi) = 63
mark_byte (marks.Texted texts.Public) = 112
mark_byte (marks.Texted texts.System) = 115
mark_byte (marks.Texted texts.AppInfo) = 35
mark_byte marks.Attribute = 65
mark_byte marks.External = 69
mark_byte marks.Internal = 73
mark_byte marks.Conforming = 67

abbrev pub all_marks : List Mark
all_marks =
    marks.Named names.Start ∷ marks.Named names.Finish ∷ marks.Named names.DataRef ∷ marks.Named names.DefineNotation ∷ marks.Texted texts.Chars ∷ marks.Texted texts.Pi ∷ marks.Texted texts.Public ∷ marks.Texted texts.System ∷ marks.Texted texts.AppInfo ∷ marks.Attribute ∷ marks.External ∷ marks.Internal ∷ marks.Conforming ∷ []

abbrev pub find_mark : List Mark → ℕ → Option Mark
find_mark [] b = None
find_mark (m ∷ ms) b = if b == mark_byte m then Some m else find_mark ms b

abbrev pub mark_of : ℕ → Option Mark
mark_of b = find_mark all_marks b

-- the line of this content
abbrev pub line_of : Bool → Bool → List ℕ → Option Line
line_of first last [] = None
line_of first last (b ∷ bytes) = on_some (mark_of b) (λ mark. marked_of first last mark bytes) None

-- the line at the front, and how many bytes it has with its LF
abbrev pub is_inner : ℕ → Bool
is_inner b = not (b == 10)

abbrev pub next_of : Bool → List ℕ → Option (Line × ℕ)
next_of first bytes =
    if nat_lt (prefix_len is_inner bytes) (length bytes) then option_map (λ line. (line, prefix_len is_inner bytes + 1)) (line_of first (prefix_len is_inner bytes + 1 == length bytes) (take (prefix_len is_inner bytes) bytes)) else None
