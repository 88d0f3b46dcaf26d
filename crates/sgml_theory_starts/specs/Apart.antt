-- THE ATTRIBUTES OF A LIST have different names (11.3), in each document type whose declarations hold.
use Rattle.std.specs.Prelude.{◌≡◌, ℕ, Bool, false, List, None, Ok}
use Rattle.std.specs.List.{list_any}
use Rattle.sgml_starts.specs.syntax.declared.syntax.Syntax.{Syntax}
use Rattle.sgml_starts.specs.decl_lexemes.declared.lexeme.Lexeme.{Lexeme}
use Rattle.sgml_declared.specs.decl_forms.declared.declaration.Declaration.{Declaration}
use Rattle.sgml_starts.specs.dtd_attlists.Rows.{names_twice}
use Rattle.sgml_starts.specs.dtd.Doctypes.{Doctype, nothing, with_declared}
use Rattle.sgml_starts.specs.dtd.Rows.{declared_reason}
use Rattle.sgml_declared.specs.theory_reading.Names.{Name, Text}
use Rattle.sgml_declared.specs.theory_reading.Types.{attributes}
use Rattle.sgml_declared.specs.theory_reading.Pieces.{Piece, Kind, Declare, History}
use Rattle.sgml_declared.specs.theory_reading.Facets.{declares}
use Rattle.sgml_declared.specs.theory_reading.Unread.{Outside, Input, Standing}
use Rattle.sgml_declared.specs.theory_reading.State.{State}
use Rattle.sgml_declared.specs.theory_spelling.Declared.{reason_against}
use Rattle.sgml_declared.specs.theory_spelling.Named.{AreApart}
use Rattle.sgml_declared.specs.theory_spelling.Spelled.{spelled}
use Rattle.sgml_declared.specs.theory_standing.Kept.{Kept, Stands}
use Rattle.sgml_declared.specs.theory_standing.Next.{AreNext}

-- no list of the document type names one attribute twice
abbrev pub HasListsApart : Doctype → Type 0
HasListsApart d = list_any names_twice d.lists ≡ false

-- at its beginning, and after each declaration against which no reason holds
abbrev pub NothingIsApart : Type 0
NothingIsApart = (syntax : Syntax) → HasListsApart (nothing syntax)

abbrev pub DeclaredIsApart : Type 0
DeclaredIsApart =
    (base : Name) (lexemes : List Lexeme) (d : Doctype) (x : Declaration)
    → HasListsApart d → declared_reason d lexemes x ≡ None → HasListsApart (with_declared base d x)

-- so the attributes of an element type are
abbrev pub AttributesAreApart : Type 0
AttributesAreApart = (d : Doctype) (n : Name) → HasListsApart d → AreApart (attributes d n)

-- A DECLARATION HOLDS where there is no reason against it, as each does that is spelled
abbrev pub IsHeld : Doctype → Kind → Type 0
IsHeld d (Declare lexemes says base) = reason_against d lexemes says ≡ None
IsHeld d _ = Unit {0}

abbrev pub SpelledHolds : Type 0
SpelledHolds = (outside : Outside) (s : State) (t : Standing) (p : Piece) → spelled outside s t ≡ Ok p → IsHeld s.context.doctype p.kind

abbrev pub HeldIsApart : Type 0
HeldIsApart = (d : Doctype) (kind : Kind) → IsHeld d kind → HasListsApart d → HasListsApart (declares kind d)

-- after pieces of the prolog, and after all that was read
abbrev pub NextIsApart : Type 0
NextIsApart =
    (outside : Outside) (k new : Kept) (texts : List (ℕ × Text)) (ended : Bool) (ps : List Piece)
    → AreNext outside k texts ended ps new → HasListsApart k.doctype → HasListsApart new.doctype

abbrev pub ReadIsApart : Type 0
ReadIsApart =
    (k : Kept) (texts : List (ℕ × Text)) (I : Input) (more : Text) (h : History) → Stands k texts I more h → HasListsApart k.doctype
