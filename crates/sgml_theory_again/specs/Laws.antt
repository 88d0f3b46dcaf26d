-- The laws of what was read, and may be written again.
use Rattle.std.specs.Prelude.{◌≡◌, ℕ, Bool, true, false, List, [], Some, Ok, IsTrue}
use Rattle.sgml_theory_full.specs.records.Facts.{takes_end}
use Rattle.sgml_theory_full.specs.entity.declared.kinds.Space.TheVariants.{General}
use Rattle.sgml_theory_full.specs.entity.declared.kinds.Body.{Body}
use Rattle.sgml_theory_full.specs.delim.declared.delim.Mode.TheVariants as mode
use Rattle.sgml_theory_full.specs.dtd.Doctypes.{Doctype}
use Rattle.sgml_theory_full.specs.theory_reading.Names.{Name}
use Rattle.sgml_theory_full.specs.theory_reading.Types.{entity_number, name_of_entity}
use Rattle.sgml_theory_full.specs.theory_reading.Pieces.{Piece, Ordinary, Re, ShortRef, History}
use Rattle.sgml_theory_full.specs.theory_reading.Facets.{Pcdata}
use Rattle.sgml_theory_full.specs.theory_reading.Nest.{types}
use Rattle.sgml_theory_full.specs.theory_reading.Context.{context}
use Rattle.sgml_theory_full.specs.theory_reading.Omission.{allowed}
use Rattle.sgml_theory_full.specs.theory_reading.Unread.{Outside, Input, Standing}
use Rattle.sgml_theory_full.specs.theory_reading.State.{State, state}
use Rattle.sgml_theory_full.specs.theory_reading.Characters.{has_text, facts_in, ordinary}
use Rattle.sgml_theory_full.specs.theory_reading.Reads.{Move, Reads, ReadOn, ReadsFromStart, moved_on, read_by, pieces}
use Rattle.sgml_theory_full.specs.theory_spelling.Spelled.{forms, spelled}
use Rattle.sgml_theory_again.specs.Moves.{IsPieceOf, state_at, Along, OfEach, StaysLive, ComesDirectly}
use Rattle.sgml_theory_again.specs.Strings.{is_string, StringEndStays, StringEndsStay}
use Rattle.sgml_theory_full.specs.Conforming.{mode_in}
use Rattle.sgml_theory_full.specs.Standing.{PieceStands}
use Rattle.sgml_theory_full.specs.Named.{IsEntity}
use Rattle.sgml_theory_again.specs.Names.{HasNames}
use Rattle.sgml_theory_again.specs.Content.{IsInInstance, HasCome, HasNoMap, IsReferred, IsOfInstance, StandsInInstance}

-- DATA is allowed only where #PCDATA is in the content of the innermost element, after whatever was read
abbrev pub AllowedDataHasText : Type 0
AllowedDataHasText = (h : History) → IsTrue (allowed (context h) Pcdata) → has_text (state h) ≡ true

-- TAGS ARE RECOGNISED where a start is allowed
abbrev pub StartsStandInContent : Type 0
StartsStandInContent = (s : State) (n : Name) → IsTrue (allowed s.context (Some n)) → mode_in s ≡ mode.Con

-- EACH PIECE of a move that reads stands where it is read: a start fits, an end ends the innermost element, which may
-- end there, and data is allowed
abbrev pub ReadPiecesStand : Type 0
ReadPiecesStand =
    (I : Input) (h : History) (m : Move) (before : List Piece) (p : Piece) → Reads forms I h m
    → IsPieceOf m before p → PieceStands (state_at h before) p.kind

-- A RECORD END is live where what stands before it says so (7.6.1), if one that is live where it comes stays so
abbrev pub RecordEndsAreNoted : Type 0
RecordEndsAreNoted =
    (I : Input) (h : History) (m : Move) (live : Bool) → Reads forms I h m → m.visible.kind ≡ Re live
    → StaysLive h m → live ≡ takes_end (facts_in (state_at h m.omitted).record_ends)

-- IT STAYS SO where no tag is left out before it, and where the last one is the end-tag of a proper subelement
abbrev pub RecordEndsStayLive : Type 0
RecordEndsStayLive =
    (I : Input) (h : History) (ns : List Move) → ReadOn forms I h ns → OfEach ComesDirectly h ns → OfEach StaysLive h ns

-- A STRING that stands for itself is what is noted of it, if a record end that it begins with stays what it is (9.4.6)
abbrev pub StringsAreNoted : Type 0
StringsAreNoted =
    (I : Input) (h : History) (m : Move) (string : List ℕ) (has_items content : Bool) → Reads forms I h m
    → m.visible.kind ≡ ShortRef string (Ordinary has_items content) → StringEndStays h m
    → ordinary (state_at h m.omitted) string ≡ Ordinary has_items content

-- WHAT IS SPELLED in the instance
abbrev pub SpelledIsOfInstance : Type 0
SpelledIsOfInstance =
    (outside : Outside) (s : State) (t : Standing) (p : Piece) → IsInInstance s t → spelled outside s t ≡ Ok p
    → IsOfInstance s p.kind

-- SHORT REFERENCES are recognised only where a map is in force (11.6)
abbrev pub StringsAreMapped : Type 0
StringsAreMapped =
    (outside : Outside) (s : State) (t : Standing) (p : Piece) → IsInInstance s t → HasNoMap s
    → spelled outside s t ≡ Ok p → is_string p.kind ≡ false

-- and each piece that is read there, in the state before it
abbrev pub ReadIsOfInstance : Type 0
ReadIsOfInstance =
    (I : Input) (ms : List Move) (m : Move) (before : List Piece) (p : Piece) → ReadsFromStart forms I ms →
    let h = read_by I ms in
    HasCome I h → Reads forms I h m → IsPieceOf m before p
    → IsOfInstance (state_at h before) p.kind

-- the instance goes on
abbrev pub InstanceGoesOn : Type 0
InstanceGoesOn =
    (I : Input) (ms : List Move) (m : Move) → ReadsFromStart forms I ms → let h = read_by I ms in
    HasCome I h → Reads forms I h m → HasCome I (moved_on h m)

-- ALL PIECES from there on stand in the instance
abbrev pub ReadStandsInInstance : Type 0
ReadStandsInInstance =
    (I : Input) (ms ns : List Move) → ReadsFromStart forms I ms →
    let h = read_by I ms in
    HasCome I h → ReadOn forms I h ns → OfEach StaysLive h ns → StringEndsStay h ns
    → Along StandsInInstance (state h) (pieces ns)

-- AN ENTITY that is referred to is found by its name (9.4.4)
abbrev pub ReferredIsFound : Type 0
ReferredIsFound =
    (d : Doctype) (number : ℕ) (b : Body) → IsReferred d number b
    → entity_number d General (name_of_entity d number) ≡ Some number

-- EACH DECLARED element type, each attribute and each entity has a name that is folded, of at most NAMELEN characters
abbrev pub ReadHasNames : Type 0
ReadHasNames = (I : Input) (ms : List Move) → ReadsFromStart forms I ms → HasNames (types (read_by I ms))

-- so that an entity that is referred to may be referred to again by its name
abbrev pub ReferredIsEntity : Type 0
ReferredIsEntity =
    (d : Doctype) (number : ℕ) (b : Body) → HasNames d → IsReferred d number b → IsEntity d number b
