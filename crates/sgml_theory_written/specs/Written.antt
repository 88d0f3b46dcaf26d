-- Tags as they are written, where they were left out or spelled in a shorter way (7.4, 7.5).
use Rattle.std.specs.Prelude.{◌≡◌, Bool, false, List}
use Rattle.sgml_theory_worked.specs.dtd.Doctypes.{Doctype}
use Rattle.sgml_theory_worked.specs.theory_reading.Pieces.{Piece, Kind, Start, End, Tag, Specification}
use Rattle.sgml_theory_worked.specs.theory_reading.Facets.{is_slash}
use Rattle.sgml_theory_worked.specs.theory_reading.Characters.{ends_at_once}

-- a tag is written with its whole name, and enables no NET; other pieces are as they are
abbrev pub written_kind : Kind → Kind
written_kind (Start n specifications how proper at_once) = Start n specifications Tag proper at_once
written_kind (End n how) = End n Tag
written_kind kind = kind

abbrev pub written : Piece → Piece
written p = record { kind = written_kind p.kind; size = p.size; spent = p.spent }

-- y is x written so, where a start-tag may specify other attributes: with these it ends at once exactly where x does
abbrev pub IsWritten : Doctype → Kind → Kind → Type 0
IsWritten d (Start n specifications how proper at_once) y =
    (all : List Specification) × (ends_at_once d n all ≡ at_once) × (y ≡ Start n all Tag proper at_once)
IsWritten d (End n how) y = y ≡ End n Tag
IsWritten d x y = y ≡ x

-- it is a start-tag that enables NET (7.4.1.3)
abbrev pub enables_net : Kind → Bool
enables_net (Start n specifications how proper at_once) = is_slash how
enables_net x = false
