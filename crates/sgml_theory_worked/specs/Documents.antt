-- Documents worked by hand, each with the lines that it has and how reading it ends.
use Rattle.std.specs.Prelude.{ℕ, Bool, true, false, None, List, [], ◌∷◌, ◌++◌, map, codes}
use Rattle.sgml_theory_reading.specs.syntax.Implied.{implied_syntax, implied_quantities}
use Rattle.sgml_theory_reading.specs.syntax.declared.syntax.Syntax.{Syntax}
use Rattle.sgml_theory_reading.specs.decl_forms.declared.declaration.Declaration.TheVariants as form
use Rattle.sgml_theory_reading.specs.dtd.Laws.{Placed}
use Rattle.sgml_theory_reading.specs.Names.{Name, Text}
use Rattle.sgml_theory_reading.specs.Pieces.{SubsetEnd, History}
use Rattle.sgml_theory_reading.specs.Context.{piece_of, prolog_of}
use Rattle.sgml_theory_reading.specs.Unread.{Outside, NotThere}
use Rattle.sgml_theory_reading.specs.Lines.{Line, CharsLine, Plain}
use Rattle.sgml_theory_worked.specs.Declared.{base, declared}

-- the syntax of a document without an SGML declaration, with this TAGLVL, and OMITTAG or not
abbrev pub syntax_with : ℕ → Bool → Syntax
syntax_with taglvl omittag = record implied_syntax { omittag = omittag; quantities = record implied_quantities { taglvl = taglvl } }

-- the document type of this name with these declarations
abbrev pub doctype : Name → List Placed → List Placed
doctype n ps = record { base = base; said = form.Doctype (record { name = n; external = None; subset = true }) } ∷ ps

-- what was read at the end of its internal subset
abbrev pub prolog : Syntax → List Placed → History
prolog syntax ps = piece_of (SubsetEnd false) ∷ prolog_of syntax ps

abbrev pub no_outside : Syntax → Outside
no_outside syntax = record { syntax = syntax; expand = 0; file = base; resolved = λ kind n x f. None; fetched = λ n. NotThere }

-- a record: its start, its characters and its end
abbrev pub whole_record : Text → Text
whole_record text = 10 ∷ (text ++ (13 ∷ []))

abbrev pub D : Name
D = codes "D"

abbrev pub P : Name
P = codes "P"

abbrev pub T' : Name
T' = codes "T"

abbrev pub A' : Name
A' = codes "A"

abbrev pub B' : Name
B' = codes "B"

abbrev pub N : Name
N = codes "N"

abbrev pub chars : Text → Line
chars text = CharsLine (map (λ b. Plain b) text)

-- DOCUMENT TYPES

abbrev pub paragraphs : List Placed
paragraphs = declared (codes "ELEMENT D - - (P+)" ∷ (codes "ELEMENT P - - (#PCDATA)" ∷ []))

abbrev pub text_alone : List Placed
text_alone = declared (codes "ELEMENT D - - (#PCDATA)" ∷ [])

abbrev pub titled : List Placed
titled = declared (codes "ELEMENT D O O (T?,P+)" ∷ (codes "ELEMENT (T|P) O O (#PCDATA)" ∷ []))

abbrev pub recursive : List Placed
recursive = declared (codes "ELEMENT A O O (A)" ∷ [])

abbrev pub optional_first : List Placed
optional_first = declared (codes "ELEMENT D - - (A?,B)" ∷ (codes "ELEMENT (A|B) - O EMPTY" ∷ []))

abbrev pub either_order : List Placed
either_order = declared (codes "ELEMENT D - - (A & B?)" ∷ (codes "ELEMENT (A|B) - O EMPTY" ∷ []))

-- one of two
abbrev pub one_or_other : List Placed
one_or_other = declared (codes "ELEMENT D - - (A|B)" ∷ (codes "ELEMENT (A|B) - O EMPTY" ∷ []))

abbrev pub notes : List Placed
notes = declared (codes "ELEMENT D - - (P+) +(N)" ∷ (codes "ELEMENT P - - (#PCDATA)" ∷ (codes "ELEMENT N - - (#PCDATA) -(N)" ∷ [])))
