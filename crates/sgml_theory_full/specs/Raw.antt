-- DATA AS IT STANDS in CDATA content (9.1, 11.2.3), where no reference is recognised.
use Rattle.std.specs.Prelude.{◌≡◌, ℕ, Bool, true, false, ◌==◌, ◌||◌, List, [], ◌∷◌, ◌++◌, Ok}
use Rattle.sgml_theory_values.specs.syntax.declared.syntax.Syntax.{Syntax}
use Rattle.sgml_theory_values.specs.delim.declared.delim.Mode.TheVariants as mode
use Rattle.sgml_theory_values.specs.delim.declared.delim.Delim.TheVariants as delim
use Rattle.sgml_theory_values.specs.delim.Tables.{stands}
use Rattle.sgml_theory_values.specs.scan.Classes.{is_data}
use Rattle.sgml_theory_values.specs.dtd.Doctypes.{Doctype}
use Rattle.sgml_theory_values.specs.theory_reading.Names.{Text}
use Rattle.sgml_theory_values.specs.theory_reading.Pieces.{Char, Re, Rs}
use Rattle.sgml_theory_values.specs.theory_reading.Characters.{has_text, kind_noted}
use Rattle.sgml_theory_values.specs.theory_reading.Events.{Event as Said, Byte}
use Rattle.sgml_theory_values.specs.theory_spelling.Sized.{sized}
use Rattle.sgml_theory_values.specs.theory_spelling.Spelled.{spelled}
use Rattle.sgml_theory_values.specs.full.declared.inside.Inside.{Inside}
use Rattle.sgml_theory_values.specs.full.declared.inside.Inside.TheVariants as inside
use Rattle.sgml_theory_values.specs.full.Full.{after_said}
use Rattle.sgml_theory_full.specs.Spellings.{spelling, text_of, spellings}
use Rattle.sgml_theory_full.specs.Points.{Point, standing_at, doctype_at, IsInContent, IsPieceAt}

-- an end-tag begins there (9.6.2)
abbrev pub begins_end_tag : Syntax → Text → Bool
begins_end_tag s bytes = stands s mode.Cdt false delim.Etago bytes

-- LAW: a character of data is that character, where what follows makes no end-tag of it
abbrev pub RawCharactersAreSpelled : Type 0
RawCharactersAreSpelled =
    (p : Point) (b : ℕ) (rest : Text) → IsInContent p mode.Cdt → has_text p.state ≡ true → is_data b ≡ true
    → begins_end_tag (doctype_at p).syntax (b ∷ rest) ≡ false
    → spelled p.outside p.state (standing_at p (b ∷ rest)) ≡ Ok (sized 1 (kind_noted p.state (Char b)))

-- LAW: so are a record end and the start of a record, whatever follows
abbrev pub LineEndsAreSpelled : Type 0
LineEndsAreSpelled =
    (p : Point) → IsInContent p mode.Cdt → has_text p.state ≡ true
    → IsPieceAt p (spelling (Re true) (13 ∷ [])) × IsPieceAt p (spelling Rs (10 ∷ []))

-- A CHARACTER THAT MAY STAND AS IT IS: one of data, or a record end; no record start is one (7.6.1)
abbrev pub is_raw : ℕ → Bool
is_raw b = is_data b || (b == 13)

-- THE DATA OF EVENTS: each character of them in CDATA content stands before what makes no end-tag of it
abbrev pub RawStands : Doctype → Inside → Said → Text → Type 0
RawStands d inside.Characters (Byte b) text = (rest : Text) → begins_end_tag d.syntax (b ∷ (text ++ rest)) ≡ false
RawStands d inside.Lines (Byte b) text = (rest : Text) → begins_end_tag d.syntax (b ∷ (text ++ rest)) ≡ false
RawStands d i e text = Unit {0}

abbrev pub AllRawStand : Doctype → Inside → List Said → Type 0
AllRawStand d i [] = Unit {0}
AllRawStand d i (e ∷ es) =
    RawStands d i e (text_of (spellings d (after_said d i e) es)) × AllRawStand d (after_said d i e) es
